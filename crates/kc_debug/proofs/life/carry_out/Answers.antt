use Rattle.std.proofs.Common.{◌++◌, ◌∷◌, [], Ok, refl, sym, subst}
use Rattle.kc_extra.specs.contracts.pair_unit.PairExtra.TheImpl as pair
use Rattle.kc_trace.specs.Trace.{out_of}
use Rattle.kc_cycles.specs.contracts.watchdog.Watchdog as watchdog_type
use Rattle.kc_cycles.specs.contracts.watchdog.WatchdogExtra.TheImpl as watchdog
use Rattle.kc_cycles.specs.Making.{deadline_of}
use Rattle.kc_machine_spec.specs.Peeking.{poked}
use Rattle.kc_debug.specs.Debugging.{seen, Goes}
use Rattle.kc_debug.specs.InLives.{after_command}
use Rattle.kc_debug.proofs.Settled.{kept-same, goes-still, break-kept, ready-with, seen-with}
use Rattle.kc_debug.proofs.life.carry_out.Goals as goal

pub returns-in-Step-clause-goes : goal.returns-in-Step-clause-goes
returns-in-Step-clause-goes g c =
    let f = (pair.ghosts g.row.M-X watchdog_type.the_row g.M.X.Extra pair.no_dict watchdog.ghosts pair.no_dict).further in
    let made = g.M.Maker.made c.args.lives.now.maker.now c.args.lives.now.stimuli.now in
    let o = out_of g.S.Sink.written g.S.Sink.faults c.args.out.now in
    subst (λ k. Goes made (λ unit. after_command f deadline_of c.args.lives.now.image.now c.args.lives.now.stimuli.now unit c.args.lives.now.most c.args.lines.now k (seen c.args.life.now)) o c.step.result c.step.new.life (out_of g.S.Sink.written g.S.Sink.faults c.step.new.out)) (sym c.in-Step.is) c.step.ensures.goes

pub returns-in-Go-clause-goes : goal.returns-in-Go-clause-goes
returns-in-Go-clause-goes g c =
    let f = (pair.ghosts g.row.M-X watchdog_type.the_row g.M.X.Extra pair.no_dict watchdog.ghosts pair.no_dict).further in
    let made = g.M.Maker.made c.args.lives.now.maker.now c.args.lives.now.stimuli.now in
    let o = out_of g.S.Sink.written g.S.Sink.faults c.args.out.now in
    subst (λ k. Goes made (λ unit. after_command f deadline_of c.args.lives.now.image.now c.args.lives.now.stimuli.now unit c.args.lives.now.most c.args.lines.now k (seen c.args.life.now)) o c.go.result c.go.new.life (out_of g.S.Sink.written g.S.Sink.faults c.go.new.out)) (sym c.in-Go.is) c.go.ensures.goes

pub returns-in-Break-clause-goes : goal.returns-in-Break-clause-goes
returns-in-Break-clause-goes g c =
    let f = (pair.ghosts g.row.M-X watchdog_type.the_row g.M.X.Extra pair.no_dict watchdog.ghosts pair.no_dict).further in
    let made = g.M.Maker.made c.args.lives.now.maker.now c.args.lives.now.stimuli.now in
    let o = out_of g.S.Sink.written g.S.Sink.faults c.args.out.now in
    let s = c.args.life.now in
    let r = c.requires.ready in
    subst (λ k. Goes made (λ unit. after_command f deadline_of c.args.lives.now.image.now c.args.lives.now.stimuli.now unit c.args.lives.now.most c.args.lines.now k (seen s)) o (Ok tt) (record s { breaks = c.push.new.self }) o) (sym c.in-Break.is)
    (goes-still f made c.args.lives.now.image.now c.args.lives.now.stimuli.now c.args.lives.now.most s (record s { breaks = c.push.new.self }) (record (seen s) { breaks = s.breaks.items ++ c.in-Break.addr ∷ [] }) o tt refl (break-kept f made c.args.lives.now.image.now c.args.lives.now.stimuli.now c.args.lives.now.most s (s.breaks.items ++ c.in-Break.addr ∷ []) r.held c.push.new.self.items c.push.ensures.items) (record { held = r.held; from = r.from; in_time = r.in_time; ran = r.ran }) c.requires.unbroken)

pub returns-in-Write-clause-goes : goal.returns-in-Write-clause-goes
returns-in-Write-clause-goes g c =
    let f = (pair.ghosts g.row.M-X watchdog_type.the_row g.M.X.Extra pair.no_dict watchdog.ghosts pair.no_dict).further in
    let made = g.M.Maker.made c.args.lives.now.maker.now c.args.lives.now.stimuli.now in
    let o = out_of g.S.Sink.written g.S.Sink.faults c.args.out.now in
    let s = c.args.life.now in
    let r = c.requires.ready in
    subst (λ k. Goes made (λ unit. after_command f deadline_of c.args.lives.now.image.now c.args.lives.now.stimuli.now unit c.args.lives.now.most c.args.lines.now k (seen s)) o (Ok tt) (record s { machine = c.poke.new.self }) o) (sym c.in-Write.is)
    (goes-still f made c.args.lives.now.image.now c.args.lives.now.stimuli.now c.args.lives.now.most s (record s { machine = c.poke.new.self }) (record (seen s) { machine = poked s.machine.machine c.in-Write.addr c.in-Write.value }) o tt refl (seen-with f made c.args.lives.now.image.now c.args.lives.now.stimuli.now c.args.lives.now.most s c.poke.new.self (poked s.machine.machine c.in-Write.addr c.in-Write.value) r.held c.poke.ensures.machine) (ready-with f made c.args.lives.now.image.now c.args.lives.now.stimuli.now c.args.lives.now.most s c.poke.new.self (poked s.machine.machine c.in-Write.addr c.in-Write.value) c.poke.ensures.machine r.in_time r.ran r) c.requires.unbroken)

pub returns-in-Quit-clause-goes : goal.returns-in-Quit-clause-goes
returns-in-Quit-clause-goes g c =
    let f = (pair.ghosts g.row.M-X watchdog_type.the_row g.M.X.Extra pair.no_dict watchdog.ghosts pair.no_dict).further in
    let made = g.M.Maker.made c.args.lives.now.maker.now c.args.lives.now.stimuli.now in
    let o = out_of g.S.Sink.written g.S.Sink.faults c.args.out.now in
    let s = c.args.life.now in
    let r = c.requires.ready in
    subst (λ k. Goes made (λ unit. after_command f deadline_of c.args.lives.now.image.now c.args.lives.now.stimuli.now unit c.args.lives.now.most c.args.lines.now k (seen s)) o (Ok tt) (s) o) (sym c.in-Quit.is)
    (goes-still f made c.args.lives.now.image.now c.args.lives.now.stimuli.now c.args.lives.now.most s (s) (seen s) o tt refl (kept-same s r.held) r c.requires.unbroken)
