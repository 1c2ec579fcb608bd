use Rattle.std.proofs.Common.{◌≡◌, ◌∙◌, ap, sym, arith}
use Rattle.kc_machine_spec.specs.declared.doing.UnderWay.{UnderWay}
use Rattle.kc_machine_spec.specs.Machine.{Machine}
use Rattle.kc_machine_spec.specs.Run.{run_to}
use Rattle.kc_machine_spec.proofs.Runs.{run_to-cut, run_to-whole}
use Rattle.kc_machine.specs.Seen.{machine_of}
use Rattle.kc_machine.proofs.Failing.{passes-now}
use Rattle.kc_machine.proofs.Going.{goes-same}
use Rattle.kc_machine.proofs.parts.Core.go_through.Goals as goal

pub returns-then-ahead-from : goal.returns-then-ahead-from
returns-then-ahead-from g c =
    let m = machine_of c.args.self.now in
    let left = ap (λ (a : UnderWay). a.left) c.requires.value in
    let time : c.wait.new.self.time ≡ c.args.until = ap (λ (n : Machine _). n.time) c.wait.ensures.goes.machine in
    let cut = run_to-cut g.X.Extra.further c.args.until m c.args.activity c.requires.may.lives c.requires.value c.requires.may.ahead (omega arith) in
    record {
      passed = record {
        passes = passes-now g.X.Extra.further c.args.until m (machine_of c.wait.new.self) (omega arith) (omega arith);
        goes = goes-same (sym (ap (λ i. run_to g.X.Extra.further i m) time ∙ cut)) c.wait.ensures.goes;
        predecoded = c.wait.ensures.predecoded;
      };
      over = omega arith;
    }

pub returns-else-ahead-from : goal.returns-else-ahead-from
returns-else-ahead-from g c =
    let m = machine_of c.args.self.now in
    let left = ap (λ (a : UnderWay). a.left) c.requires.value in
    let all = run_to-whole g.X.Extra.further c.complete.new.self.time m c.args.activity c.requires.may.lives c.requires.value c.requires.going.some c.complete.ensures.time in
    record {
      passed = record {
        passes = passes-now g.X.Extra.further c.args.until m (machine_of c.complete.new.self) (omega arith) (omega arith);
        goes = goes-same (sym all) c.complete.ensures.goes;
        predecoded = c.complete.ensures.predecoded;
      };
      over = omega arith;
    }
