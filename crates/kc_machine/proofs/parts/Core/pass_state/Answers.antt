use Rattle.std.proofs.Common.{◌≡◌, ℕ, ◌+◌, ◌-◌, ◌∙◌, ap, sym, arith}
use Rattle.kc_machine_spec.specs.declared.doing.UnderWay.{UnderWay}
use Rattle.kc_machine_spec.specs.Machine.{Machine}
use Rattle.kc_machine_spec.specs.Passing.{left_at}
use Rattle.kc_machine_spec.specs.Run.{run_to}
use Rattle.kc_machine_spec.proofs.Runs.{run_to-cut, run_to-whole}
use Rattle.kc_machine.specs.Passing.{ticks_to}
use Rattle.kc_machine.specs.Seen.{machine_of}
use Rattle.kc_machine.proofs.Failing.{passes-now}
use Rattle.kc_machine.proofs.Going.{goes-same}
use Rattle.kc_machine.proofs.parts.Core.pass_state.Goals as goal

pub returns-then-activity-gt1-clause-passed : goal.returns-then-activity-gt1-clause-passed
returns-then-activity-gt1-clause-passed g c =
    let f = g.X.Extra.further in
    let m = machine_of c.args.self.now in
    let a : UnderWay = c.args.activity in
    let left = ap (λ (b : UnderWay). b.left) c.requires.value in
    let went = c.wait_state.ensures.goes in
    let time : c.wait_state.new.self.time ≡ m.time + 1 = ap (λ (n : Machine _). n.time) went.machine in
    let one : m.time + 1 - m.time ≡ 1 = omega arith in
    let cut = run_to-cut f (m.time + 1) m a c.requires.may.lives c.requires.value (omega arith) (omega arith) in
    record {
      passes = passes-now f (m.time + 1) m (machine_of c.wait_state.new.self) (omega arith) (omega arith);
      goes = goes-same (sym (ap (λ i. run_to f i m) time ∙ cut ∙ ap (λ n. ticks_to f m (m.time + 1) n (left_at a (a.left - n))) one)) went;
      predecoded = c.wait_state.ensures.predecoded;
    }

pub returns-else-activity-gt1-clause-passed : goal.returns-else-activity-gt1-clause-passed
returns-else-activity-gt1-clause-passed g c =
    let f = g.X.Extra.further in
    let m = machine_of c.args.self.now in
    let left = ap (λ (b : UnderWay). b.left) c.requires.value in
    let all = run_to-whole f c.end_state.new.self.time m c.args.activity c.requires.may.lives c.requires.value c.requires.going.some (omega (arith, c.end_state.ensures.time, c.requires.going.some)) in
    record {
      passes = passes-now f (m.time + 1) m (machine_of c.end_state.new.self) (omega (arith, c.end_state.ensures.time)) (omega (arith, c.end_state.ensures.time, c.requires.going.some));
      goes = goes-same (sym all) c.end_state.ensures.goes;
      predecoded = c.end_state.ensures.predecoded;
    }
