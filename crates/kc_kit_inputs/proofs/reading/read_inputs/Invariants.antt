use Rattle.std.proofs.Common.{◌≡◌, ℕ, List, ◌++◌, length, map}
use Rattle.kc_kit_files.specs.Outside.{OnlyRead}
use Rattle.kc_kit_files.specs.Reads.{AreHeld}
use Rattle.kc_kit_words.specs.Inputs.{inputs_in}
use Rattle.kc_kit_words.specs.Commands.{names_of}
use Rattle.kc_kit_inputs.proofs.reading.read_inputs.Given as goal

abbrev pub invariant-loop-input : goal.invariant-loop-input
invariant-loop-input g l = record {
  done : List (List ℕ);
  split : names_of (inputs_in l.fn.inputs) ≡ done ++ names_of (inputs_in l.left);
  read : AreHeld (g.F.Files.held l.fn.files) done (map (λ t. t.items) l.texts.items);
  stays : OnlyRead g.F.Files.held g.F.Files.read_faults g.F.Files.write_faults l.fn.files l.files;
}

abbrev pub decreases-loop-input : goal.decreases-loop-input
decreases-loop-input g l = length (inputs_in l.left)
