use Rattle.kc_link_place.specs.Gaps.{Counts}
use Rattle.kc_link_place.proofs.placing.free_addresses.Goals as goal

pub returns-in-None-clause-free : goal.returns-in-None-clause-free
returns-in-None-clause-free c =
    let counts : Counts c.deref-in-None.result.now c.args.fixed.now = rw c.deref-in-None.ensures.value c.in_ok-counts.ensures in
    c.in_ok-gaps_between-in-None.ensures c.args.fixed.now counts
