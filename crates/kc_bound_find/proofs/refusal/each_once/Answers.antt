use Rattle.std.proofs.Common.{◌∙◌, ap, arith}
use Rattle.kc_bound_find.proofs.Refusing.{pushed, passed, none_so_far, all_found}
use Rattle.kc_bound_find.proofs.refusal.each_once.Goals as goal
use Rattle.kc_bound_find.proofs.refusal.each_once.Goals.{then-next-order+in_ok-push, else-next-order}

pub loop-refusal-init : goal.loop-refusal-init
loop-refusal-init c = rw c.new-found.ensures.items (none_so_far c.args.refused.now)

pub loop-refusal-preserved : goal.loop-refusal-preserved
loop-refusal-preserved c =
    elim c.if-next-order.branch [
      | then-next-order+in_ok-push w ↦
          pushed c.args.refused.now c.loop-refusal.refusal-index c.loop-refusal.next c.order_of-order.result c.if-next-order.next c.loop-refusal.found.items c.if-next-order.found.items _
          c.loop-refusal.invariant c.order_of-order.ensures.value w.if-next-order.true c.loop-refusal-test.true w.next-is (ap (λ v. v.items) w.found-is ∙ w.in_ok-push.ensures.items)
      | else-next-order w ↦
          passed c.args.refused.now c.loop-refusal.refusal-index c.loop-refusal.next c.order_of-order.result c.if-next-order.next c.loop-refusal.found.items c.if-next-order.found.items _
          c.requires c.loop-refusal.invariant c.order_of-order.ensures.value w.if-next-order.false c.loop-refusal-test.true w.next-is (ap (λ v. v.items) w.found-is)
    ]

pub returns : goal.returns
returns c = all_found c.args.refused.now c.loop-refusal.refusal-index c.loop-refusal.next c.loop-refusal.found.items c.loop-refusal.invariant (omega arith)
