use Rattle.std.proofs.Common.{List, sym, ap, subst, ◌∙◌}
use Rattle.kc_source.specs.declared.uses.Use.{Use}
use Rattle.kc_source.specs.Faults.{all_said, all_uses}
use Rattle.kc_source_statement.specs.Operands.{is_nil}
use Rattle.kc_asm_origin.specs.Seeking.{IsSeeking}
use Rattle.kc_asm_origin.proofs.Uses.{blank, words}
use Rattle.kc_asm_origin.proofs.names.Search.pass_line.Goals as goal

pub returns-then-is_empty : goal.returns-then-is_empty
returns-then-is_empty c = λ at code all rest whole r.
    subst (λ (us : List Use). IsSeeking c.args.self.now at code all us whole) (blank c.args.line.now rest (ap is_nil (sym c.as_slice.ensures) ∙ sym c.if-is_empty.ensures)) r

pub returns : goal.returns
returns c = λ at code all rest whole r.
    c.in_ok-pass_words.ensures at code all (all_uses (all_said rest)) whole
    (subst (λ (us : List Use). IsSeeking c.args.self.now at code all us whole) (words c.args.line.now rest (ap is_nil (sym c.as_slice.ensures) ∙ sym c.if-is_empty.ensures)) r)
