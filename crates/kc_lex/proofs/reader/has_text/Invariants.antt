use Rattle.std.proofs.Common.{◌≡◌, false, drop}
use Rattle.kc_lex.specs.Lines.{is_text_to_comment}
use Rattle.kc_lex.proofs.reader.has_text.Given as goal

abbrev pub invariant-loop-b : goal.invariant-loop-b
invariant-loop-b l = is_text_to_comment l.quoted (drop l.b-index l.line) ≡ is_text_to_comment false l.line
