use Rattle.std.proofs.Common.{◌≡◌, ◌-◌, ◌∙◌, ap, sym}
use Rattle.kc_intc.specs.declared.requests.Choice.TheVariants.{Go}
use Rattle.kc_machine_spec.specs.Machine.{Machine, asked}
use Rattle.kc_machine_spec.specs.Passing.{IsIdle}
use Rattle.kc_machine_spec.specs.Run.{run_to}
use Rattle.kc_machine_spec.proofs.Idle.{run_to-rests}
use Rattle.kc_machine.specs.Passing.{ticks_to}
use Rattle.kc_machine.specs.Seen.{machine_of}
use Rattle.kc_machine.proofs.Failing.{passes-idle}
use Rattle.kc_machine.proofs.Going.{goes-same}
use Rattle.kc_machine.proofs.parts.Core.pass_slowly.Goals as goal

pub returns-then-rests : goal.returns-then-rests
returns-then-rests g c =
    let m = machine_of c.args.self.now in
    let end = c.rest_end-end.result in
    let idle : IsIdle m = rw c.if-rests.true at c.rests.ensures.idle in
    let none : asked m ≡ Go = rw c.if-rests.true at c.rests.ensures.asked in
    let time : c.rest.new.self.time ≡ end = ap (λ (n : Machine _). n.time) c.rest.ensures.goes.machine in
    let all = run_to-rests g.X.Extra.further end m idle none c.rest_end-end.ensures.further c.rest_end-end.ensures.quiet in
    record {
      passed = record {
        passes = passes-idle g.X.Extra.further c.args.until end m (machine_of c.rest.new.self) idle none c.rest_end-end.ensures.further c.rest_end-end.ensures.within c.rest_end-end.ensures.quiet time;
        goes = goes-same (ap (ticks_to g.X.Extra.further m end (end - m.time)) idle.between ∙ sym (ap (λ i. run_to g.X.Extra.further i m) time ∙ all)) c.rest.ensures.goes;
        predecoded = c.rest.ensures.predecoded;
      };
    }
