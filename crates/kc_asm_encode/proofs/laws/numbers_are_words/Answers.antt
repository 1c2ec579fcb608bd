use Rattle.kc_asm_encode.proofs.Evens.{numbers_are_words}
use Rattle.kc_asm_encode.proofs.laws.numbers_are_words.Goals as goal

pub returns : goal.returns
returns c = numbers_are_words
