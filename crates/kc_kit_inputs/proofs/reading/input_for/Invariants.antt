use Rattle.std.proofs.Common.{◌≡◌, length}
use Rattle.kc_kit_files.specs.Reads.{AllShort}
use Rattle.kc_kit_words.specs.Inputs.{inputs_in}
use Rattle.kc_kit_inputs.specs.Inputs.{input_for}
use Rattle.kc_kit_messages.proofs.Words.{texts_in}
use Rattle.kc_kit_inputs.proofs.reading.input_for.Given as goal

abbrev pub invariant-loop-behind : goal.invariant-loop-behind
invariant-loop-behind l = record {
  same : input_for l.role (inputs_in l.fn.inputs) (texts_in l.fn.texts) ≡ input_for l.role (inputs_in l.left) (texts_in l.behind);
  short : AllShort (texts_in l.behind);
}

abbrev pub decreases-loop-behind : goal.decreases-loop-behind
decreases-loop-behind l = length l.behind
