use Rattle.std.proofs.Common.{◌∙◌, ap, sym}
use Rattle.kc_base.specs.Digits.{up_to}
use Rattle.kc_base.proofs.DigitLemmas.{digits-next, digits-past}
use Rattle.kc_base.proofs.digits.read_digits.Goals as goal

pub returns-then-so_far-limit-clause-value : goal.returns-then-so_far-limit-clause-value
returns-then-so_far-limit-clause-value c =
    let next = digits-next c.args.base c.loop-c.so_far c.args.text.now c.loop-c.c-index c.loop-c-test.true (rw c.digit-digit.ensures at c.if-digit-base.false) in
    sym (c.loop-c.invariant.same ∙ ap (up_to c.args.limit) next ∙ digits-past c.args.limit c.args.base _ _ c.requires.some (rw c.digit-digit.ensures at c.if-so_far-limit.true))
