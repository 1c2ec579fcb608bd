use Rattle.std.proofs.Common.{◌≡◌, ℕ, ◌-◌, ◌+◌, ap, ◌∙◌, arith}
use Rattle.std.specs.Prelude.{max, min}
use Rattle.kc_machine_spec.specs.Machine.{current}
use Rattle.kc_machine_spec.proofs.Calls.{on-fault}
use Rattle.kc_profile.proofs.Alone.{alone-one-of, raised-one}
use Rattle.kc_profile.proofs.Going.{fails-within, spots-within}
use Rattle.kc_profile.proofs.running.pass_one.Goals as goal

pub returns : goal.returns
returns g c =
    let f = g.X.Extra.further in
    let m = c.args.machine.now.machine in
    let n = c.step_state.new.self.machine in
    let went = c.step_state.ensures in
    let stop : c.min.result ≡ min c.args.until (m.time + max (current m).left 1) =
    c.min.ensures ∙ ap (λ (i : ℕ). min c.args.until (i + c.from.result)) c.now.ensures ∙ ap (λ (i : ℕ). min c.args.until (m.time + i)) (c.from.ensures ∙ c.max.ensures ∙ ap (λ (i : ℕ). max i 1) c.requires.left) in
    record {
      went = record {
        passed = record {
          forward = went.forward;
          within = omega (arith, went.within, stop);
          machine = went.machine;
          lines = went.lines;
          spots = spots-within f (n.time - m.time) m c.requires.lives (omega (arith, went.within, stop));
        };
        fails = on-fault c.step_state.result went.fails (fails-within f _ c.args.until m _ n _ c.requires.lives stop went.within);
        costs = record { spent = went.spent; moves = went.moves };
        written = went.written;
      };
      alone = alone-one-of f c.step_state.result m n.time c.requires.lives went.one;
      raised = raised-one f c.step_state.result m n.time went.one went.raised;
    }
