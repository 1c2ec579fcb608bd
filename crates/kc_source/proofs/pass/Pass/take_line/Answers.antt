use Rattle.std.proofs.Common.{sym, ap, ◌∙◌}
use Rattle.kc_source_statement.specs.Operands.{is_nil}
use Rattle.kc_source.proofs.PassLemmas.{blank_read, words_read}
use Rattle.kc_source.proofs.pass.Pass.take_line.Goals as goal

pub returns-then-is_empty : goal.returns-then-is_empty
returns-then-is_empty c = λ rest all r. blank_read c.args.self.now c.args.line.now rest all (ap is_nil (sym c.as_slice.ensures) ∙ sym c.if-is_empty.ensures) r

pub returns : goal.returns
returns c = λ rest all r.
    words_read c.args.self.now c.take_words.new.self c.args.line.now rest all (ap is_nil (sym c.as_slice.ensures) ∙ sym c.if-is_empty.ensures)
    c.in_ok-take_words.ensures.found c.in_ok-take_words.ensures.first c.in_ok-take_words.ensures.code c.in_ok-take_words.ensures.uses c.in_ok-take_words.ensures.stmts r
