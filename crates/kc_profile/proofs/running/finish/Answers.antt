use Rattle.std.proofs.Common.{ℕ, ◌-◌, ◌+◌, ◌*◌, ◌≤◌, sym, subst, arith}
use Rattle.kc_block_spec.specs.Touch.{block_rule}
use Rattle.kc_machine_spec.specs.Run.{run_to}
use Rattle.kc_machine_spec.specs.Passing.{activity_end}
use Rattle.kc_trace.proofs.Printed.{printed, broken-off}
use Rattle.kc_profile.proofs.Alone.{alone-activity, none-raised-last, quiet-for}
use Rattle.kc_profile.proofs.Going.{activity-passed, fails-activity}
use Rattle.kc_profile.proofs.running.finish.Goals as goal

pub returns-in-Ok : goal.returns-in-Ok
returns-in-Ok g c =
    let f = g.X.Extra.further in
    let m = c.args.machine.now.machine in
    let n = c.step_activity.new.self.machine in
    let lives = c.requires.lives in
    let went = c.step_activity.ensures in
    let time = went.time lives in
    let brief = went.states lives in
    let alone = alone-activity f (n.time - m.time) m lives (omega (arith, time)) (quiet-for (block_rule f) m.time (activity_end m - m.time) (n.time - m.time - 1) m.board.units (omega (arith, time)) c.requires.quiet) in
    let none = none-raised-last f (n.time - m.time) m (omega (arith, time, brief.some)) alone (quiet-for (block_rule f) m.time (activity_end m - m.time) (n.time - m.time) m.board.units (omega (arith, time)) c.requires.quiet) in
    record {
      went = record {
        passed = activity-passed f c.args.until m _ n _ lives brief time c.requires.within went.machine
            (printed _ _ _ went.lines c.in-Ok.ensures.counts);
        fails = tt;
        costs = record {
          spent = subst (λ (i : ℕ). c.step_activity.new.steps ≤ c.args.steps.now + 4 * (run_to f i m).touch) (sym time) went.spent;
          moves = subst (λ (i : ℕ). c.step_activity.new.self.moves ≤ c.args.machine.now.moves + 4 * (run_to f i m).touch) (sym time) went.moves;
        };
        written = c.in-Ok.ensures.written;
      };
      alone = alone;
      raised = sym none;
    }

pub returns-in-Err : goal.returns-in-Err
returns-in-Err g c =
    let f = g.X.Extra.further in
    let m = c.args.machine.now.machine in
    let n = c.step_activity.new.self.machine in
    let lives = c.requires.lives in
    let went = c.step_activity.ensures in
    let time = went.time lives in
    let brief = went.states lives in
    record {
      went = record {
        passed = activity-passed f c.args.until m _ n _ lives brief time c.requires.within went.machine
            (broken-off _ _ _ went.lines c.in-Err.ensures.fails.failed);
        fails = fails-activity f c.args.until m _ n _ lives c.requires.within time c.in-Err.ensures.fails;
        costs = record {
          spent = subst (λ (i : ℕ). c.step_activity.new.steps ≤ c.args.steps.now + 4 * (run_to f i m).touch) (sym time) went.spent;
          moves = subst (λ (i : ℕ). c.step_activity.new.self.moves ≤ c.args.machine.now.moves + 4 * (run_to f i m).touch) (sym time) went.moves;
        };
        written = tt;
      };
      alone = alone-activity f (n.time - m.time) m lives (omega (arith, time)) (quiet-for (block_rule f) m.time (activity_end m - m.time) (n.time - m.time - 1) m.board.units (omega (arith, time)) c.requires.quiet);
      raised = tt;
    }
