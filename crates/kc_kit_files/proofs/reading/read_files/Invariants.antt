use Rattle.std.proofs.Common.{◌≡◌, ℕ, List, ◌++◌, length, map, string_bytes}
use Rattle.kc_kit_files.specs.Outside.{OnlyRead}
use Rattle.kc_kit_files.specs.Reads.{AreHeld}
use Rattle.kc_kit_files.proofs.reading.read_files.Given as goal

abbrev pub invariant-loop-left : goal.invariant-loop-left
invariant-loop-left g l = record {
  done : List (List ℕ);
  split : map string_bytes l.fn.names ≡ done ++ map string_bytes l.left;
  read : AreHeld (g.F.Files.held l.fn.files) done (map (λ t. t.items) l.texts.items);
  stays : OnlyRead g.F.Files.held g.F.Files.read_faults g.F.Files.write_faults l.fn.files l.files;
}

abbrev pub decreases-loop-left : goal.decreases-loop-left
decreases-loop-left g l = length l.left
