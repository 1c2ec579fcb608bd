use Rattle.std.proofs.Common.{◌≡◌, ◌-◌, arith, ap, subst}
use Rattle.std.specs.Prelude.{OnOk}
use Rattle.kc_block_spec.specs.Accesses.{after_word_read}
use Rattle.kc_block_units.specs.Scheduler.{shown_units}
use Rattle.kc_block_units.specs.Standing.{standing}
use Rattle.kc_block.proofs.Calls.{word_read_few}
use Rattle.kc_block.proofs.block.Block.read16_here.Goals as goal

pub returns-clause-steps : goal.returns-clause-steps
returns-clause-steps g c = let few = word_read_few c.args.sfr in omega (arith, c.read16.ensures.costs.spent)

pub returns-clause-moves : goal.returns-clause-moves
returns-clause-moves g c =
    let few = word_read_few c.args.sfr in
    let seen = ap (λ s. s.moves) c.self.view_is in
    omega (arith, c.read16.ensures.costs.moves)

pub returns-clause-ok : goal.returns-clause-ok
returns-clause-ok g c =
    subst (λ s. OnOk c.read16.result (shown_units g.X.Extra.further (standing g.X.Extra.plain c.read16.new.scheduler) c.self.inside.time ≡ after_word_read g.X.Extra.further (s.time - 1) c.args.window s.units c.args.sfr))
    c.self.view_is c.read16.ensures.units
