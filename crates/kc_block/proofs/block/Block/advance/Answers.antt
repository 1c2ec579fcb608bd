use Rattle.std.proofs.Common.{◌-◌, sym, ◌∙◌, ap, subst}
use Rattle.std.specs.Prelude.{IsTrue}
use Rattle.kc_exec_spec.specs.Window.{is_wsr}
use Rattle.kc_block.proofs.Profile.{wsr_stays}
use Rattle.kc_block.proofs.block.Block.advance.Goals as goal

pub invariant_of-self : goal.invariant_of-self
invariant_of-self g c =
    let same = ap (λ u. u.board_registers.wsr) c.advance.ensures.units
    ∙ wsr_stays g.X.Extra.further c.self.inside.time (c.args.to - c.self.inside.time) _ in
    record {
      scheduled = c.advance.ensures.scheduled;
      window = subst (λ w. IsTrue (is_wsr w)) (sym same) c.self.invariant.window;
      bound = c.requires.bound;
    }
