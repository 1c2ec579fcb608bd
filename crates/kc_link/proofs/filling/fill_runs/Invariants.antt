use Rattle.std.proofs.Common.{◌≡◌, length}
use Rattle.kc_link_place.specs.BaseLists.{bases_in}
use Rattle.kc_link.specs.Writes.{written, runs_of, RunsStand}
use Rattle.kc_link.proofs.filling.fill_runs.Given as goal

abbrev pub invariant-loop-left : goal.invariant-loop-left
invariant-loop-left l = record {
  goes_on : written l.image (runs_of (bases_in l.bases) l.object l.left) ≡ written l.initial.image (runs_of (bases_in l.bases) l.object l.fn.runs);
  stand : RunsStand (bases_in l.bases) l.object l.left;
}

abbrev pub decreases-loop-left : goal.decreases-loop-left
decreases-loop-left l = length l.left
