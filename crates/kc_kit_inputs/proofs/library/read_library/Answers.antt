use Rattle.kc_kit_inputs.proofs.LibraryLemmas.{not-duplicate, not-too_many}
use Rattle.kc_kit_inputs.proofs.library.read_library.Goals as goal

pub unreachable-requires : goal.unreachable-requires
unreachable-requires c = not-duplicate c.args.bytes.now c.in-Err-Duplicate.field-0 c.in-Err-Duplicate.field-0-0 c.in-Err-Duplicate.ensures.answer c.in-Err-Duplicate.field-0-is

pub unreachable-requires-in-Err-TooMany : goal.unreachable-requires-in-Err-TooMany
unreachable-requires-in-Err-TooMany c = not-too_many c.args.bytes.now c.in-Err-TooMany.field-0 c.in-Err-TooMany.ensures.answer c.in-Err-TooMany.field-0-is
