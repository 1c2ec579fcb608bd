use Rattle.std.proofs.Common.{◌≡◌, false, sym, ◌∙◌}
use Rattle.kc_bound_requests.specs.Closed.{is_open_at}
use Rattle.kc_bound_requests.proofs.CheckLemmas.{one-more}
use Rattle.kc_bound_requests.proofs.checking.least_open.Goals as goal

pub loop-at-preserved : goal.loop-at-preserved
loop-at-preserved c =
    one-more (λ a. is_open_at c.args.image.now c.args.notes.now c.args.from c.args.c.now a ≡ false) c.loop-at.at c.loop-at.invariant
    (sym c.is_open.ensures ∙ c.if-is_open.false)
