use Rattle.kc_hex.proofs.RoundTrip.{image_again}
use Rattle.kc_hex.proofs.round_trip.written_is_read.Goals as goal

pub returns : goal.returns
returns c = λ image is. image_again image is.len is.bytes
