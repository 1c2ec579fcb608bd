use Rattle.std.proofs.Common.{◌∙◌, sym}
use Rattle.std.specs.Str.{bytes_eq}
use Rattle.kc_rules.proofs.NameLemmas.{position-map}
use Rattle.kc_rules.proofs.parts.mark_named.Goals as goal

pub returns : goal.returns
returns c = c.place_named.ensures ∙ sym (position-map (λ m. m.name) (λ name. bytes_eq name c.args.word.now) 0 c.args.marks.now)
