use Rattle.std.proofs.Common.{Ok, Err, sym, subst, ◌∙◌, arith}
use Rattle.kc_extra.specs.contracts.pair_unit.PairExtra.TheImpl as pair
use Rattle.kc_trace.specs.Trace.{out_of}
use Rattle.kc_cycles.specs.contracts.watchdog.Watchdog as watchdog_type
use Rattle.kc_cycles.specs.contracts.watchdog.WatchdogExtra.TheImpl as watchdog
use Rattle.kc_cycles.proofs.Fitted.{room-left, apart-none}
use Rattle.kc_debug_script.specs.Script.{AreBounded}
use Rattle.kc_debug.specs.Debugging.{HasAnswered}
use Rattle.kc_debug.proofs.Scripted.{way-none, way-first, way-room, way-next, way-cut, way-quit, way-done}
use Rattle.kc_debug.proofs.in_lives.debug_lives.Goals as goal

pub returns-in-Err : goal.returns-in-Err
returns-in-Err g c =
    way-none _ _ _ _ _ _ _ _ (room-left g.M.X.Extra.pins (g.met.M.X.Extra.few_pins (g.M.Maker.made c.args.lives.now.maker.now c.args.lives.now.stimuli.now 0))) (apart-none g.M.X.Extra.pins) c.requires.unbroken

pub loop-index-init : goal.loop-index-init
loop-index-init g c =
    way-first _ _ _ _ _ _ _ _ c.in-Ok.life (room-left g.M.X.Extra.pins (g.met.M.X.Extra.few_pins (g.M.Maker.made c.args.lives.now.maker.now c.args.lives.now.stimuli.now 0))) (apart-none g.M.X.Extra.pins) c.requires.unbroken
    (subst AreBounded (sym c.commands-commands.ensures.value) c.commands-commands.ensures.bounded) c.in-Ok.ensures.number c.in-Ok.ensures.from c.in-Ok.ensures.born c.in-Ok.ensures.over c.in-Ok.ensures.breaks c.in-Ok.ensures.past c.in-Ok.ensures.begun

pub command_at-command-requires-clause-bounded : goal.command_at-command-requires-clause-bounded
command_at-command-requires-clause-bounded g c = subst AreBounded (sym c.commands-commands.ensures.value) c.commands-commands.ensures.bounded

pub carry_out-requires-clause-ready : goal.carry_out-requires-clause-ready
carry_out-requires-clause-ready g c = c.loop-index.invariant.ready

pub carry_out-requires-clause-few : goal.carry_out-requires-clause-few
carry_out-requires-clause-few g c = way-room _ _ _ _ _ _ _ _ _ _ _ c.loop-index.invariant c.command_at-command.result c.command_at-command.ensures.here

pub carry_out-requires-clause-room : goal.carry_out-requires-clause-room
carry_out-requires-clause-room g c =
    let bounded = subst AreBounded (sym c.commands-commands.ensures.value) c.commands-commands.ensures.bounded in
    omega (arith, c.loop-index.invariant.time, bounded.limited.few, c.loop-index-test.true)

pub carry_out-requires-clause-unbroken : goal.carry_out-requires-clause-unbroken
carry_out-requires-clause-unbroken g c = c.loop-index.invariant.unbroken

pub returns-then-is_quit : goal.returns-then-is_quit
returns-then-is_quit g c =
    let f = (pair.ghosts g.row.M-X watchdog_type.the_row g.M.X.Extra pair.no_dict watchdog.ghosts pair.no_dict).further in
    subst
    (λ cs. HasAnswered f (g.M.Maker.made c.args.lives.now.maker.now c.args.lives.now.stimuli.now) c.args.lives.now.image.now c.args.lives.now.stimuli.now c.args.lives.now.most c.args.lines.now cs (out_of g.S.Sink.written g.S.Sink.faults c.args.out.now) (Ok c.unwrap_or.result) (out_of g.S.Sink.written g.S.Sink.faults c.loop-index.out))
    c.commands-commands.ensures.value
    (way-quit _ _ _ _ _ _ _ _ _ _ _ c.loop-index.invariant c.command_at-command.result c.unwrap_or.result c.command_at-command.ensures.here (sym c.is_quit.ensures ∙ c.if-is_quit.true) c.unwrap_or.ensures)

pub returns-in-Err-carry_out : goal.returns-in-Err-carry_out
returns-in-Err-carry_out g c =
    let f = (pair.ghosts g.row.M-X watchdog_type.the_row g.M.X.Extra pair.no_dict watchdog.ghosts pair.no_dict).further in
    subst
    (λ cs. HasAnswered f (g.M.Maker.made c.args.lives.now.maker.now c.args.lives.now.stimuli.now) c.args.lives.now.image.now c.args.lives.now.stimuli.now c.args.lives.now.most c.args.lines.now cs (out_of g.S.Sink.written g.S.Sink.faults c.args.out.now) (Err c.in-Err-carry_out.fault) (out_of g.S.Sink.written g.S.Sink.faults c.carry_out.new.out))
    c.commands-commands.ensures.value
    (way-cut _ _ _ _ _ _ _ _ _ _ _ c.loop-index.invariant c.command_at-command.result c.command_at-command.ensures.here (sym c.is_quit.ensures ∙ c.if-is_quit.false) _ _ c.in-Err-carry_out.fault c.in-Err-carry_out.ensures.goes)

pub loop-index-preserved : goal.loop-index-preserved
loop-index-preserved g c =
    way-next _ _ _ _ _ _ _ _ _ _ _ c.loop-index.invariant c.command_at-command.result c.command_at-command.ensures.here (sym c.is_quit.ensures ∙ c.if-is_quit.false) _ _ c.in-Ok-carry_out.ensures.goes
    (omega (arith, c.loop-index.invariant.time, c.in-Ok-carry_out.ensures.time))

pub returns : goal.returns
returns g c =
    let f = (pair.ghosts g.row.M-X watchdog_type.the_row g.M.X.Extra pair.no_dict watchdog.ghosts pair.no_dict).further in
    subst
    (λ cs. HasAnswered f (g.M.Maker.made c.args.lives.now.maker.now c.args.lives.now.stimuli.now) c.args.lives.now.image.now c.args.lives.now.stimuli.now c.args.lives.now.most c.args.lines.now cs (out_of g.S.Sink.written g.S.Sink.faults c.args.out.now) (Ok c.unwrap_or-2.result) (out_of g.S.Sink.written g.S.Sink.faults c.loop-index.out))
    c.commands-commands.ensures.value
    (way-done _ _ _ _ _ _ _ _ _ _ _ c.loop-index.invariant c.unwrap_or-2.result (omega (arith, c.loop-index-test.false)) c.unwrap_or-2.ensures)
