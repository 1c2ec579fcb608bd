use Rattle.std.proofs.Common.{◌≡◌, ◌-◌, arith, ap, subst}
use Rattle.std.specs.Prelude.{IfErr, Err}
use Rattle.kc_block_spec.specs.Accesses.{byte_written}
use Rattle.kc_block.proofs.Calls.{free_write}
use Rattle.kc_block.proofs.Written.{kind_of}
use Rattle.kc_block.proofs.block.Block.write8_here.Goals as goal

pub returns-clause-kind : goal.returns-clause-kind
returns-clause-kind g c =
    subst (λ s. IfErr c.write8-written.result (λ kind. byte_written g.X.Extra.further (s.time - 1) c.args.window s.units c.args.sfr c.args.value ≡ Err kind))
    c.self.view_is (kind_of c.write8-written.result _ c.write8-written.ensures.answer)

pub returns-clause-free : goal.returns-clause-free
returns-clause-free g c = λ h. let none = free_write c.args.sfr h in omega (arith, c.write8-written.ensures.costs.spent)

pub returns-clause-free_moves : goal.returns-clause-free_moves
returns-clause-free_moves g c = λ h.
    let none = free_write c.args.sfr h in
    let seen = ap (λ s. s.moves) c.self.view_is in
    omega (arith, c.write8-written.ensures.costs.moves)
