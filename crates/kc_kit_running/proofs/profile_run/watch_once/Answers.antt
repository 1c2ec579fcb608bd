use Rattle.std.proofs.Common.{◌∙◌, ◌-◌, ◌^◌, sym, ap, subst, arith}
use Rattle.kc_trace.specs.Trace.{out_of}
use Rattle.kc_machine_spec.specs.Machine.{Machine, Stepped}
use Rattle.kc_machine_spec.specs.Run.{run_to, end_of}
use Rattle.kc_cycles.specs.declared.lives.LivesFault.TheVariants as fault
use Rattle.kc_kit_running.specs.Fitted.{FittedUnit, fitted_further}
use Rattle.kc_kit_running.specs.Passing.{HasFailed, HasPassed}
use Rattle.kc_kit_running.specs.Profiled.{Run, known, once}
use Rattle.kc_profile.proofs.Few.{few-more}
use Rattle.kc_kit_running.proofs.ProfileLemmas.{machine-begins, never-begun, once-broken, once-cut, once-passed, once-shown, once-start, once-statistics, once-texts, once-wanting}
use Rattle.kc_kit_running.proofs.RunLemmas.{HasRun-start, Puts-trace}
use Rattle.kc_kit_running.proofs.profile_run.watch_once.Goals as goal

pub run_profiled-requires-clause-room : goal.run_profiled-requires-clause-room
run_profiled-requires-clause-room g c = omega (arith, c.in-Ok.ensures.tally.sum, c.requires.states)

pub run_profiled-requires-clause-few : goal.run_profiled-requires-clause-few
run_profiled-requires-clause-few g c = few-more 0 (2 ^ 64 - 1 - c.args.states) c.in-Ok.account.statistics (omega arith) c.in-Ok.ensures.few

pub write_finals-requires-clause-ran : goal.write_finals-requires-clause-ran
write_finals-requires-clause-ran g c =
    HasRun-start c.args.states c.args.board.driving c.args.board.image c.run_profiled.new.machine.machine c.in-Ok-run_profiled.how
    (c.in-Ok-run_profiled.ensures.machine ∙ ap (λ (m : Machine FittedUnit). (run_to fitted_further c.args.states m).machine) c.in-Ok-fitted_machine.ensures)
    (c.in-Ok-run_profiled.ensures.end ∙ ap end_of (sym c.in-Ok-run_profiled.ensures.machine))

pub returns-in_default-clause-failed : goal.returns-in_default-clause-failed
returns-in_default-clause-failed g c =
    never-begun (once c.args.states (known c.args.lines.now) c.args.board.driving c.args.board.image) (out_of g.S.Sink.written g.S.Sink.faults c.args.out.now) c.requires.ready

pub returns-in_default-fitted_machine-clause-failed : goal.returns-in_default-fitted_machine-clause-failed
returns-in_default-fitted_machine-clause-failed g c =
    never-begun (once c.args.states (known c.args.lines.now) c.args.board.driving c.args.board.image) (out_of g.S.Sink.written g.S.Sink.faults c.args.out.now) c.requires.ready

pub returns-in_default-run_profiled-clause-failed : goal.returns-in_default-run_profiled-clause-failed
returns-in_default-run_profiled-clause-failed g c =
    let k = known c.args.lines.now in
    let m = c.in-Ok-fitted_machine.machine.machine in
    let ran : Stepped FittedUnit = run_to fitted_further c.args.states m in
    let old = out_of g.S.Sink.written g.S.Sink.faults c.args.out.now in
    let new = out_of g.S.Sink.written g.S.Sink.faults c.run_profiled.new.out in
    subst (λ (run : Run). HasFailed run old fault.WriteFault new) (once-start c.args.states k c.args.board.driving c.args.board.image m c.in-Ok-fitted_machine.ensures)
    (once-broken c.args.states k m old new c.in_default-run_profiled.ensures.fails.failed c.run_profiled.ensures.lines, c.in_default-run_profiled.ensures.fails.failed)

pub returns-in-Ok-accounts_of_run-clause-passed : goal.returns-in-Ok-accounts_of_run-clause-passed
returns-in-Ok-accounts_of_run-clause-passed g c =
    let k = known c.args.lines.now in
    let m = c.in-Ok-fitted_machine.machine.machine in
    let n = c.run_profiled.new.machine.machine in
    let ran : Stepped FittedUnit = run_to fitted_further c.args.states m in
    let old = out_of g.S.Sink.written g.S.Sink.faults c.args.out.now in
    let new = out_of g.S.Sink.written g.S.Sink.faults c.write_finals.new.out in
    let start = ap (λ (k : Machine FittedUnit). k.time) c.in-Ok-fitted_machine.ensures in
    let begins = machine-begins c.args.board.driving c.args.board.image m c.in-Ok-fitted_machine.ensures in
    let count = c.in-Ok.ensures in
    let put = Puts-trace ran old _ new c.in-Ok-run_profiled.how n c.in-Ok-run_profiled.ensures.end c.in-Ok-run_profiled.ensures.machine c.run_profiled.ensures.lines c.write_finals.ensures.lines in
    let texts = once-texts c.args.states (n.time - m.time) k m c.in-Ok.account.profile c.run_profiled.new.profile c.in-Ok.account.statistics c.run_profiled.new.statistics _ _ start count
    (c.run_profiled.ensures.profile _ count.tally) c.in-Ok-run_profiled.ensures.all (c.run_profiled.ensures.life ∙ count.life)
    (once-statistics m n c.in-Ok.account.statistics c.run_profiled.new.statistics start begins count.life count.statistics c.in-Ok-run_profiled.ensures.statistics)
    (once-shown c.args.states m n start c.in-Ok-run_profiled.ensures.machine c.run_profiled.ensures.stands c.run_profiled.ensures.within)
    c.in-Ok-accounts_of_run.ensures.profile c.in-Ok-accounts_of_run.ensures.cover in
    subst (λ (run : Run). HasPassed run old c.in-Ok-run_profiled.how (record { profile = c.in-Ok-accounts_of_run.accounts.profile.items; cover = c.in-Ok-accounts_of_run.accounts.cover.items }) new)
    (once-start c.args.states k c.args.board.driving c.args.board.image m c.in-Ok-fitted_machine.ensures)
    (once-passed c.args.states k m old new c.in-Ok-run_profiled.how _ c.in-Ok-run_profiled.ensures.end put c.in-Ok-write_finals.ensures.written texts)

pub returns-in-Ok-write_finals-clause-failed : goal.returns-in-Ok-write_finals-clause-failed
returns-in-Ok-write_finals-clause-failed g c =
    let k = known c.args.lines.now in
    let m = c.in-Ok-fitted_machine.machine.machine in
    let n = c.run_profiled.new.machine.machine in
    let ran : Stepped FittedUnit = run_to fitted_further c.args.states m in
    let old = out_of g.S.Sink.written g.S.Sink.faults c.args.out.now in
    let new = out_of g.S.Sink.written g.S.Sink.faults c.write_finals.new.out in
    let put = Puts-trace ran old _ new c.in-Ok-run_profiled.how n c.in-Ok-run_profiled.ensures.end c.in-Ok-run_profiled.ensures.machine c.run_profiled.ensures.lines c.write_finals.ensures.lines in
    subst (λ (run : Run). HasFailed run old fault.NoMemory new) (once-start c.args.states k c.args.board.driving c.args.board.image m c.in-Ok-fitted_machine.ensures)
    (once-wanting c.args.states k m old new put c.in-Ok-write_finals.ensures.written)

pub returns-clause-failed : goal.returns-clause-failed
returns-clause-failed g c =
    let k = known c.args.lines.now in
    let m = c.in-Ok-fitted_machine.machine.machine in
    let n = c.run_profiled.new.machine.machine in
    let ran : Stepped FittedUnit = run_to fitted_further c.args.states m in
    let old = out_of g.S.Sink.written g.S.Sink.faults c.args.out.now in
    let new = out_of g.S.Sink.written g.S.Sink.faults c.write_finals.new.out in
    let put = Puts-trace ran old _ new c.in-Ok-run_profiled.how n c.in-Ok-run_profiled.ensures.end c.in-Ok-run_profiled.ensures.machine c.run_profiled.ensures.lines c.write_finals.ensures.lines in
    subst (λ (run : Run). HasFailed run old fault.WriteFault new) (once-start c.args.states k c.args.board.driving c.args.board.image m c.in-Ok-fitted_machine.ensures)
    (once-cut c.args.states k m old new put c.in-Err.ensures.failed)
