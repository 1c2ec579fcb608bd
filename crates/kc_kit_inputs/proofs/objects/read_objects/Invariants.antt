use Rattle.std.proofs.Common.{◌≡◌, ◌<◌, ◌^◌, drop, length}
use Rattle.std.specs.List.{All}
use Rattle.kc_obj_module.specs.Spelling.{spelling}
use Rattle.kc_kit_inputs.specs.Objects.{modules_of, object_of}
use Rattle.kc_kit_inputs.proofs.ObjectLemmas.{prepend}
use Rattle.kc_kit_messages.proofs.Words.{names_in, texts_in}
use Rattle.kc_kit_inputs.proofs.objects.read_objects.Given as goal

abbrev pub invariant-loop-i : goal.invariant-loop-i
invariant-loop-i l = record {
  same : modules_of object_of (names_in l.names) (texts_in l.texts) ≡ prepend l.modules.items (modules_of object_of (drop l.i (names_in l.names)) (drop l.i (texts_in l.texts)));
  count : length l.modules.items ≡ l.i;
  short : All (λ m. length (spelling m) < 2 ^ 32) l.modules.items;
}
