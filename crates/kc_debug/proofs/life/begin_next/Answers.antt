use Rattle.std.proofs.Common.{◌+◌, ◌-◌, ◌++◌, [], map, sym, ap, subst, ◌∙◌}
use Rattle.circular_buffer.specs.Buffer.{Buffer, buffer, keep_last}
use Rattle.kc_trace.specs.Out.{Puts}
use Rattle.kc_trace.specs.Trace.{out_of}
use Rattle.kc_cycles.specs.Lives.{restart_line}
use Rattle.kc_debug.specs.declared.activities.Begun.{Begun}
use Rattle.kc_debug.specs.Debugging.{past_in, IsBorn}
use Rattle.kc_debug.proofs.Kept.{done-finished}
use Rattle.kc_debug.proofs.life.begin_next.Goals as goal

pub keep_finished-requires : goal.keep_finished-requires
keep_finished-requires g c = c.requires.held.earlier

pub returns-then-failed-clause-line : goal.returns-then-failed-clause-line
returns-then-failed-clause-line g c =
    let o = out_of g.S.Sink.written g.S.Sink.faults c.args.out.now in
    let p = out_of g.S.Sink.written g.S.Sink.faults c.put_restart.new.out in
    subst (λ t. Puts o (restart_line (t - 1) c.args.by_watchdog) p) c.now-time.ensures c.put_restart.ensures

pub returns-in-Ok-clause-line : goal.returns-in-Ok-clause-line
returns-in-Ok-clause-line g c =
    let o = out_of g.S.Sink.written g.S.Sink.faults c.args.out.now in
    let p = out_of g.S.Sink.written g.S.Sink.faults c.put_restart.new.out in
    subst (λ t. Puts o (restart_line (t - 1) c.args.by_watchdog) p) c.now-time.ensures c.put_restart.ensures

pub returns-in-Err-clause-line : goal.returns-in-Err-clause-line
returns-in-Err-clause-line g c =
    let o = out_of g.S.Sink.written g.S.Sink.faults c.args.out.now in
    let p = out_of g.S.Sink.written g.S.Sink.faults c.put_restart.new.out in
    subst (λ t. Puts o (restart_line (t - 1) c.args.by_watchdog) p) c.now-time.ensures c.put_restart.ensures

pub returns-in-Ok-clause-next : goal.returns-in-Ok-clause-next
returns-in-Ok-clause-next g c =
    let s = c.args.life.now in
    let done = done-finished s.machine.machine.under_way s.begun.items c.between.result c.count_finished-present.result c.len.result c.between.ensures c.len.ensures.len c.count_finished-present.ensures.count in
    let past = c.keep_finished.ensures ∙ ap (λ xs. buffer (keep_last 32 (s.past.items ++ map (past_in s.number) xs)) 32) (sym done.0) in
    let begun = c.clear.ensures ∙ ap (λ (b : Buffer Begun). buffer [] b.capacity) c.requires.held.present in
    λ i. record s { number = s.number + 1; from = s.from + c.now-time.ensures i; machine = c.in-Ok.machine; past = past i; begun = begun i }

pub returns-in-Ok-clause-born : goal.returns-in-Ok-clause-born
returns-in-Ok-clause-born g c =
    subst (λ t. IsBorn (g.M.Maker.made c.args.lives.now.maker.now c.args.lives.now.stimuli.now) c.args.lives.now.image.now c.args.lives.now.stimuli.now (c.args.life.now.from + t) c.in-Ok.machine.machine) c.now-time.ensures
    (record { unit = c.in-Ok.ensures.unit; machine = c.in-Ok.ensures.machine })
