use Rattle.std.proofs.Common.{sym, ap, ◌∙◌}
use Rattle.std.specs.FinMap.{get}
use Rattle.kc_base.proofs.NameLemmas.{get_named}
use Rattle.kc_macro_body.proofs.macros.Places.look.Goals as goal

pub returns : goal.returns
returns c = c.copied.ensures ∙ c.get.ensures.value ∙ sym (get_named c.self.inside.map.entries c.args.name.now) ∙ ap (λ m. get m c.args.name.now) c.self.view_is
