use Rattle.std.proofs.Common.{◌≤◌, length, sym, subst}
use Rattle.kc_base.proofs.PinLemmas.{name_at, names_are_short}
use Rattle.kc_base.proofs.types.Pin.name.Goals as goal

pub returns-clause-name : goal.returns-clause-name
returns-clause-name c = name_at c.rows.result.now c.args.self.0 _ c.rows.ensures.names c.rows.ensures.len c.requires

pub returns-clause-short : goal.returns-clause-short
returns-clause-short c =
    subst (λ name. length name ≤ 6) (sym (name_at c.rows.result.now c.args.self.0 _ c.rows.ensures.names c.rows.ensures.len c.requires))
    (names_are_short c.args.self.0 c.requires)
