use Rattle.std.proofs.Common.{subst}
use Rattle.kc_extra.specs.contracts.pair_unit.PairExtra.TheImpl as pair
use Rattle.kc_trace.specs.Out.{Puts}
use Rattle.kc_trace.specs.Text.{text_of}
use Rattle.kc_trace.specs.Trace.{out_of}
use Rattle.kc_cycles.specs.contracts.watchdog.Watchdog as watchdog_type
use Rattle.kc_cycles.specs.contracts.watchdog.WatchdogExtra.TheImpl as watchdog
use Rattle.kc_cycles.specs.Life.{life_for}
use Rattle.kc_debug.specs.Debugging.{HasLived}
use Rattle.kc_debug.specs.Stops.{states_of_run}
use Rattle.kc_cycles.specs.Making.{deadline_of}
use Rattle.kc_debug.proofs.Passing.{kept-last, some_end, none_end}
use Rattle.kc_debug.proofs.Settled.{gone-over, gone-fails, gone-goes, gone-ready}
use Rattle.kc_debug.proofs.life.go.Goals as goal

pub settle-requires-clause-ready : goal.settle-requires-clause-ready
settle-requires-clause-ready g c =
    let f = (pair.ghosts g.row.M-X watchdog_type.the_row g.M.X.Extra pair.no_dict watchdog.ghosts pair.no_dict).further in
    let made = g.M.Maker.made c.args.lives.now.maker.now c.args.lives.now.stimuli.now in
    let most = c.args.lives.now.most in
    let m = c.args.life.now.machine.machine in
    let none = none_end c.args.life.now.over c.is_some.result c.if-is_some.false c.is_some.ensures in
    gone-ready f made c.args.lives.now.image.now c.args.lives.now.stimuli.now most _ c.args.life.now c.requires.ready none _ _ (subst (λ bs. Puts (out_of g.S.Sink.written g.S.Sink.faults c.args.out.now) (text_of (life_for f deadline_of (states_of_run f bs c.args.until m) m).ran.records) (out_of g.S.Sink.written g.S.Sink.faults c.go_in_life.new.out)) c.as_slice-addresses.ensures.value c.go_in_life.ensures.lines) c.in-Ok.by_watchdog c.go_in_life.new.machine c.go_in_life.new.begun (subst (λ bs. HasLived f deadline_of (states_of_run f bs c.args.until m) m c.args.life.now.begun c.in-Ok.by_watchdog c.go_in_life.new.machine.machine c.go_in_life.new.begun) c.as_slice-addresses.ensures.value c.in-Ok.ensures.lived)

pub settle-requires-clause-ran : goal.settle-requires-clause-ran
settle-requires-clause-ran g c = c.in-Ok.ensures.lived.has_run

pub returns-then-is_some-clause-goes : goal.returns-then-is_some-clause-goes
returns-then-is_some-clause-goes g c =
    let f = (pair.ghosts g.row.M-X watchdog_type.the_row g.M.X.Extra pair.no_dict watchdog.ghosts pair.no_dict).further in
    let made = g.M.Maker.made c.args.lives.now.maker.now c.args.lives.now.stimuli.now in
    let most = c.args.lives.now.most in
    let how = some_end c.args.life.now.over c.is_some.result c.if-is_some.true c.is_some.ensures in
    gone-over f made c.args.lives.now.image.now c.args.lives.now.stimuli.now most _ c.args.life.now how.0 _ _ c.report_stand.result c.requires.ready how.1 c.report_stand.ensures.text c.report_stand.ensures.written c.report_stand.ensures.fault c.report_stand.ensures.failed

pub returns-in-Ok-clause-goes : goal.returns-in-Ok-clause-goes
returns-in-Ok-clause-goes g c =
    let f = (pair.ghosts g.row.M-X watchdog_type.the_row g.M.X.Extra pair.no_dict watchdog.ghosts pair.no_dict).further in
    let made = g.M.Maker.made c.args.lives.now.maker.now c.args.lives.now.stimuli.now in
    let most = c.args.lives.now.most in
    let m = c.args.life.now.machine.machine in
    let none = none_end c.args.life.now.over c.is_some.result c.if-is_some.false c.is_some.ensures in
    gone-goes f made c.args.lives.now.image.now c.args.lives.now.stimuli.now most _ c.args.life.now c.requires.ready none _ _ (subst (λ bs. Puts (out_of g.S.Sink.written g.S.Sink.faults c.args.out.now) (text_of (life_for f deadline_of (states_of_run f bs c.args.until m) m).ran.records) (out_of g.S.Sink.written g.S.Sink.faults c.go_in_life.new.out)) c.as_slice-addresses.ensures.value c.go_in_life.ensures.lines) c.in-Ok.by_watchdog c.go_in_life.new.machine c.go_in_life.new.begun (subst (λ bs. HasLived f deadline_of (states_of_run f bs c.args.until m) m c.args.life.now.begun c.in-Ok.by_watchdog c.go_in_life.new.machine.machine c.go_in_life.new.begun) c.as_slice-addresses.ensures.value c.in-Ok.ensures.lived) c.settle.new.life _ c.settle.result c.settle.ensures.goes

pub returns-in-Err-clause-goes : goal.returns-in-Err-clause-goes
returns-in-Err-clause-goes g c =
    let f = (pair.ghosts g.row.M-X watchdog_type.the_row g.M.X.Extra pair.no_dict watchdog.ghosts pair.no_dict).further in
    let made = g.M.Maker.made c.args.lives.now.maker.now c.args.lives.now.stimuli.now in
    let most = c.args.lives.now.most in
    let m = c.args.life.now.machine.machine in
    let none = none_end c.args.life.now.over c.is_some.result c.if-is_some.false c.is_some.ensures in
    gone-fails f made c.args.lives.now.image.now c.args.lives.now.stimuli.now most _ c.args.life.now c.requires.ready none _ _ (subst (λ bs. Puts (out_of g.S.Sink.written g.S.Sink.faults c.args.out.now) (text_of (life_for f deadline_of (states_of_run f bs c.args.until m) m).ran.records) (out_of g.S.Sink.written g.S.Sink.faults c.go_in_life.new.out)) c.as_slice-addresses.ensures.value c.go_in_life.ensures.lines) _ c.in-Err.ensures.fault.failed

pub go_in_life-requires-clause-kept : goal.go_in_life-requires-clause-kept
go_in_life-requires-clause-kept g c = kept-last c.args.life.now.begun 33 c.args.life.now.begun.items c.requires.ready.held.present
