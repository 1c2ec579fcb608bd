use Rattle.std.proofs.Common.{◌<◌, arith}
use Rattle.kc_timers.proofs.T2Laws.{due_fast, due_slow}
use Rattle.kc_timers.proofs.timer2.due_state.Goals as goal

pub returns-then-control : goal.returns-then-control
returns-then-control c = λ captured.
    let small : c.args.value < 65536 = omega arith in
    due_fast c.args.control c.args.now _ (record { value = c.args.value; captured = captured }) small c.requires.inner c.if-control.true c.counts_left-left.ensures

pub returns-else-control : goal.returns-else-control
returns-else-control c = λ captured.
    let small : c.args.value < 65536 = omega arith in
    due_slow c.args.control c.args.now _ (record { value = c.args.value; captured = captured }) small c.requires.inner c.if-control.false c.counts_left-left.ensures
