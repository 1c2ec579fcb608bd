use Rattle.std.proofs.Common.{ap, ◌∙◌}
use Rattle.std.specs.FinMap.{insert}
use Rattle.kc_base.proofs.NameLemmas.{one_set}
use Rattle.kc_macro_body.proofs.macros.Macros.define.Goals as goal

pub returns : goal.returns
returns c =
    one_set c.self.inside.map.entries c.insert.new.self.entries c.in_ok-key.key c.args.item c.in_ok-insert.ensures.updates.1 c.in_ok-insert.ensures.updates.3
    ∙ ap (λ m. insert m c.in_ok-key.key.items c.args.item) c.self.view_is ∙ ap (λ n. insert c.args.self.now n c.args.item) c.in_ok-key.ensures
