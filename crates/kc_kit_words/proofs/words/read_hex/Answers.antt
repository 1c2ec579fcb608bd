use Rattle.std.proofs.Common.{map, string_bytes, arith, sym}
use Rattle.std.proofs.lemmas.List.{length-map}
use Rattle.kc_kit_words.proofs.OptionLemmas.{hex_by-other}
use Rattle.kc_kit_words.proofs.words.read_hex.Goals as goal

pub returns-then-files-ne1-clause-asked : goal.returns-then-files-ne1-clause-asked
returns-then-files-ne1-clause-asked c =
    sym (hex_by-other (map string_bytes c.args.files.now) c.args.verb.now (map string_bytes c.args.options.now) (λ one. omega (arith, one, length-map c.args.files.now string_bytes)))
