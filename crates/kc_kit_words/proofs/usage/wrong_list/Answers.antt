use Rattle.std.proofs.Common.{map, string_bytes, sym, arith}
use Rattle.std.proofs.lemmas.List.{length-map}
use Rattle.kc_kit_words.proofs.UsageLemmas.{list-few, list-many}
use Rattle.kc_kit_words.proofs.usage.wrong_list.Goals as goal

pub returns-in-empty : goal.returns-in-empty
returns-in-empty c = sym (list-few (map string_bytes c.args.words.now) (omega (arith, c.in-empty.len_below, length-map c.args.words.now string_bytes)))

pub returns-in_default : goal.returns-in_default
returns-in_default c = sym (list-many (map string_bytes c.args.words.now) (omega (arith, c.in_default.len_at_least, length-map c.args.words.now string_bytes)))
