use Rattle.std.proofs.Common.{◌≡◌, ◌-◌, ◌∙◌, cond, false, length, None, ap, sym, arith}
use Rattle.std.specs.Prelude.{nat_eq, slice_get}
use Rattle.std.proofs.lemmas.Bool.Decides.{nat_tests}
use Rattle.kc_base.specs.TextLines.{text_lines}
use Rattle.kc_kit_messages.proofs.DiagnosticLemmas.{no-line}
use Rattle.kc_kit_messages.proofs.diagnostics.line_at.Goals as goal

pub returns : goal.returns
returns c =
    let none : length c.loop-rest.rest.now ≡ 0 = grind (arith, nat_tests) in
    let some : nat_eq c.args.number 0 ≡ false = grind (arith, nat_tests) in
    sym (ap (λ b. cond b None (slice_get (text_lines c.args.text.now) (c.args.number - 1))) some ∙ c.loop-rest.invariant ∙ no-line c.loop-rest.rest.now c.loop-rest.before none)
