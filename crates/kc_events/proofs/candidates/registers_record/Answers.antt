use Rattle.hex.specs.Hex.{decode_sized}
use Rattle.kc_events.proofs.Numbers.{decoded_bytes, was_decoded}
use Rattle.kc_events.proofs.candidates.registers_record.Goals as goal

pub returns-in-Ok-clause-sound : goal.returns-in-Ok-clause-sound
returns-in-Ok-clause-sound c =
    let text = c.split_at_space.result.1.now in
    let out = c.decode_to_slice.new.out in
    let decoded = was_decoded tt (decode_sized text 32) out c.decode_to_slice.result c.in-Ok.field-0 c.decode_to_slice.ensures.value c.in-Ok.is in
    (c.in_ok-base.ensures.bounded, decoded_bytes text out decoded)
