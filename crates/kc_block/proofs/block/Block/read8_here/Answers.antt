use Rattle.std.proofs.Common.{arith, ap}
use Rattle.kc_block.proofs.Calls.{free_read}
use Rattle.kc_block.proofs.block.Block.read8_here.Goals as goal

pub returns-clause-free : goal.returns-clause-free
returns-clause-free g c = λ h. let none = free_read c.args.sfr h in omega (arith, c.read8.ensures.costs.spent)

pub returns-clause-free_moves : goal.returns-clause-free_moves
returns-clause-free_moves g c = λ h.
    let none = free_read c.args.sfr h in
    let seen = ap (λ s. s.moves) c.self.view_is in
    omega (arith, c.read8.ensures.costs.moves)
