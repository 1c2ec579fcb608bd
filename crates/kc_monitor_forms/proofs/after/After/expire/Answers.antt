use Rattle.std.proofs.Common.{◌∙◌}
use Rattle.kc_monitor_forms.proofs.after.After.expire.Goals as goal

pub late-preserved : goal.late-preserved
late-preserved c = record {
  waiting = λ w. c.expire_one.ensures.waiting (c.late.invariant.waiting w);
  total = λ w end points within order.
      c.late.invariant.total w end points within order ∙ c.expire_one.ensures.total (c.late.invariant.waiting w) end points within order;
}
