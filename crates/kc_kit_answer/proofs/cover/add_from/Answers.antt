use Rattle.std.proofs.Common.{rules, sym, ◌∙◌, arith}
use Rattle.std.proofs.lemmas.Bool.Decides.{nat_tests}
use Rattle.kc_kit_answer.proofs.CoverLemmas.{goes_on}
use Rattle.kc_kit_answer.proofs.cover.add_from.Goals as goal

pub loop-left-preserved : goal.loop-left-preserved
loop-left-preserved c =
    goes_on c.loop-left.own.items c.push.new.self.items _ _ c.loop-left.left c.args.line c.args.image.now c.loop-left.at c.from-at.result c.args.end c.in-Insn.insn c.in-Insn.length c.in_ok-push.ensures.items
    (λ i. record { line = c.args.line; addr = c.loop-left.at; is_branch = c.is_branch.ensures i }) c.from-at.ensures (omega (arith, c.loop-left-test.true)) (grind (arith, nat_tests, c.if-at-end.false))
    (grind (rules, c.is_in_image.ensures, c.if-not-is_in_image.false)) (sym c.decoded_at.ensures ∙ c.in-Insn.is) c.loop-left.invariant
