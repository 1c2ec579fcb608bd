use Rattle.std.proofs.Common.{refl}
use Rattle.kc_kit_words.proofs.words.placing.Goals as goal

pub returns : goal.returns
returns c = rw (c.given.ensures, c.given-2.ensures, c.given-3.ensures, c.new-ranges.ensures, c.range_in.ensures, c.range_in-2.ensures, c.range_in-3.ensures, c.length_in.ensures) refl
