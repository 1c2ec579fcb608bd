use Rattle.std.proofs.Common.{◌≡◌, ◌-◌, arith, ap, subst}
use Rattle.std.specs.Prelude.{IfErr, Err, OnOk, Ok}
use Rattle.kc_block_spec.specs.Accesses.{word_written}
use Rattle.kc_block_units.specs.Scheduler.{shown_units}
use Rattle.kc_block_units.specs.Standing.{standing}
use Rattle.kc_block.proofs.Calls.{word_write_few}
use Rattle.kc_block.proofs.Written.{kind_of, ok_of}
use Rattle.kc_block.proofs.block.Block.write16_here.Goals as goal

pub returns-clause-kind : goal.returns-clause-kind
returns-clause-kind g c =
    subst (λ s. IfErr c.write16-written.result (λ kind. word_written g.X.Extra.further (s.time - 1) c.args.window s.units c.args.sfr c.args.value ≡ Err kind))
    c.self.view_is (kind_of c.write16-written.result _ c.write16-written.ensures.answer)

pub returns-clause-steps : goal.returns-clause-steps
returns-clause-steps g c = let few = word_write_few c.args.sfr in omega (arith, c.write16-written.ensures.costs.spent)

pub returns-clause-moves : goal.returns-clause-moves
returns-clause-moves g c =
    let few = word_write_few c.args.sfr in
    let seen = ap (λ s. s.moves) c.self.view_is in
    omega (arith, c.write16-written.ensures.costs.moves)

pub returns-clause-ok : goal.returns-clause-ok
returns-clause-ok g c =
    subst (λ s. OnOk c.write16-written.result (word_written g.X.Extra.further (s.time - 1) c.args.window s.units c.args.sfr c.args.value ≡ Ok (shown_units g.X.Extra.further (standing g.X.Extra.plain c.write16-written.new.scheduler) c.self.inside.time)))
    c.self.view_is (ok_of c.write16-written.result _ (shown_units g.X.Extra.further (standing g.X.Extra.plain c.write16-written.new.scheduler) c.self.inside.time) c.write16-written.ensures.answer c.write16-written.ensures.units)
