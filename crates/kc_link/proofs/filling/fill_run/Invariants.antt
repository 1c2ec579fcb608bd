use Rattle.std.proofs.Common.{◌≡◌, ◌+◌, ◌-◌, length}
use Rattle.kc_link_place.specs.BaseLists.{bases_in}
use Rattle.kc_link.specs.Writes.{written, bytes_of}
use Rattle.kc_link.proofs.filling.fill_run.Given as goal

abbrev pub invariant-loop-k : goal.invariant-loop-k
invariant-loop-k l =
    written l.image (bytes_of (bases_in l.bases) l.object l.run.piece (l.run.offset + l.k) (length l.run.bytes - l.k))
    ≡ written l.initial.image (bytes_of (bases_in l.bases) l.object l.run.piece l.run.offset (length l.run.bytes))
