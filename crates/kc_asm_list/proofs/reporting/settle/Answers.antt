use Rattle.std.proofs.Common.{◌≡◌, ◌∙◌, ℕ, List, Some, Ok, sym, ap, arith}
use Rattle.kc_macro.specs.Steps.{Quiet, Counted, Ended, Fault, step}
use Rattle.kc_macro.proofs.RunLemmas.{quiet_shorter, quiet_left, quiet_room, counted_left, counted_room, ended_room}
use Rattle.kc_asm_list.specs.Depths.{so_far}
use Rattle.kc_asm_list.proofs.Course.{reaches_quiet, reaches_active}
use Rattle.kc_asm_list.proofs.reporting.settle.Goals as goal

pub loop-led-smaller : goal.loop-led-smaller
loop-led-smaller c =
    let e : Quiet c.report.new.state ≡ step c.loop-led.state = rw c.in-Quiet.is at c.in_ok-led.ensures.step in
    quiet_shorter c.loop-led.state c.report.new.state e

pub loop-led-preserved : goal.loop-led-preserved
loop-led-preserved c =
    let e : Quiet c.report.new.state ≡ step c.loop-led.state = rw c.in-Quiet.is at c.in_ok-led.ensures.step in
    record {
      reached = reaches_quiet (so_far c.args.state.now c.args.depths.now.items) (so_far c.loop-led.state c.loop-led.depths.items) c.report.new.state c.report.new.depths.items c.loop-led.invariant.reached e c.in_ok-led.ensures.depths;
      left = quiet_left c.loop-led.state c.report.new.state e ∙ c.loop-led.invariant.left;
      few = omega (arith, quiet_room c.loop-led.state c.report.new.state e, c.loop-led.invariant.few);
    }

pub returns-in-Counted : goal.returns-in-Counted
returns-in-Counted c =
    let e : Counted c.report.new.state ≡ step c.loop-led.state = rw c.in-Counted.is at c.in_ok-led.ensures.step in
    record {
      read = λ next.
          reaches_active (so_far c.args.state.now c.args.depths.now.items) (so_far c.loop-led.state c.loop-led.depths.items) (Counted c.report.new.state) c.loop-led.invariant.reached e tt next
          ∙ ap (λ (ds : List ℕ). next (so_far c.report.new.state ds)) (sym c.in_ok-led.ensures.depths);
      left = (counted_left c.loop-led.state c.report.new.state e ∙ c.loop-led.invariant.left, omega (arith, counted_room c.loop-led.state c.report.new.state e, c.loop-led.invariant.few));
    }

pub returns-in-Ended : goal.returns-in-Ended
returns-in-Ended c =
    let e : Ended c.report.new.state.done ≡ step c.loop-led.state = rw c.in-Ended.is at c.in_ok-led.ensures.step in
    record {
      read = λ next.
          reaches_active (so_far c.args.state.now c.args.depths.now.items) (so_far c.loop-led.state c.loop-led.depths.items) (Ended c.report.new.state.done) c.loop-led.invariant.reached e tt next
          ∙ ap (λ (ds : List ℕ). Some (Ok ds)) (sym c.in_ok-led.ensures.depths);
      left = omega (arith, ended_room c.loop-led.state c.report.new.state.done e, c.loop-led.invariant.few);
    }

pub returns-in-Fault : goal.returns-in-Fault
returns-in-Fault c =
    let e : Fault c.in-Fault.line c.in-Fault.code ≡ step c.loop-led.state = rw c.in-Fault.is at c.in_ok-led.ensures.step in
    record {
      read = reaches_active (so_far c.args.state.now c.args.depths.now.items) (so_far c.loop-led.state c.loop-led.depths.items) (Fault c.in-Fault.line c.in-Fault.code) c.loop-led.invariant.reached e tt;
      left = tt;
    }
