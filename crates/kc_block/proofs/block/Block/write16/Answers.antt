use Rattle.std.proofs.Common.{◌≡◌, subst}
use Rattle.std.specs.Prelude.{IfErr, Err}
use Rattle.kc_block_spec.specs.Accesses.{word_written}
use Rattle.kc_block.specs.Accessed.{edges_past, units_past}
use Rattle.kc_block.proofs.Past.{there, leads_there}
use Rattle.kc_block.proofs.block.Block.write16.Goals as goal

pub returns-clause-kind : goal.returns-clause-kind
returns-clause-kind g c =
    subst (λ r. IfErr c.write16_here.result (λ kind. r ≡ Err kind))
    (there (λ t u. word_written g.X.Extra.further t c.args.window u c.args.sfr c.args.value)
    c.go_past.new.self.time c.args.at c.go_past.new.self.units (units_past g.X.Extra.further c.args.self.now c.args.at)
    c.go_past.ensures.time c.go_past.ensures.units)
    c.write16_here.ensures.kind

pub returns-clause-edges : goal.returns-clause-edges
returns-clause-edges g c =
    leads_there g.O.EdgeOut.led c.args.out.now c.go_past.new.out c.write16_here.new.out (edges_past g.X.Extra.further c.args.self.now c.args.at)
    c.go_past.new.self.time c.args.at c.go_past.new.self.units (units_past g.X.Extra.further c.args.self.now c.args.at) c.write16_here.new.self.units
    c.go_past.ensures.time c.go_past.ensures.units c.go_past.ensures.edges c.write16_here.ensures.edges
