use Rattle.std.proofs.Common.{◌≡◌, drop, length}
use Rattle.kc_kit_messages.proofs.Words.{names_in, texts_in}
use Rattle.kc_kit_inputs.proofs.SourceLemmas.{Onward}
use Rattle.kc_kit_inputs.proofs.sources.assemble_sources.Given as goal

abbrev pub invariant-loop-i : goal.invariant-loop-i
invariant-loop-i l = record {
  onward : Onward (names_in l.names) (texts_in l.texts) l.modules.items (drop l.i (names_in l.names)) (drop l.i (texts_in l.texts));
  count : length l.modules.items ≡ l.i;
}
