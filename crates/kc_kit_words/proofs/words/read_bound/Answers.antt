use Rattle.std.proofs.Common.{map, string_bytes, arith, sym}
use Rattle.std.proofs.lemmas.List.{length-map}
use Rattle.kc_kit_words.proofs.OptionLemmas.{bound_by-other}
use Rattle.kc_kit_words.proofs.words.read_bound.Goals as goal

pub returns-then-files-ne2-clause-asked : goal.returns-then-files-ne2-clause-asked
returns-then-files-ne2-clause-asked c = sym (bound_by-other (map string_bytes c.args.files.now) c.args.verb.now (map string_bytes c.args.options.now) (λ two. omega (arith, two, length-map c.args.files.now string_bytes)))
