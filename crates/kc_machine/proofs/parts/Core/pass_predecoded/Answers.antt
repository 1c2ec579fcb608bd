use Rattle.std.proofs.Common.{ap, sym, arith}
use Rattle.kc_machine_spec.specs.declared.doing.UnderWay.{UnderWay}
use Rattle.kc_machine_spec.proofs.Runs.{run_to-whole}
use Rattle.kc_machine.specs.Prepared.{executing}
use Rattle.kc_machine.specs.Seen.{machine_of}
use Rattle.kc_machine.proofs.Failing.{passes-now}
use Rattle.kc_machine.proofs.Going.{goes-same}
use Rattle.kc_machine.proofs.parts.Core.pass_predecoded.Goals as goal

pub returns-clause-passed : goal.returns-clause-passed
returns-clause-passed g c =
    let m = machine_of c.args.self.now in
    let left = ap (λ (a : UnderWay). a.left) c.requires.value in
    let all = run_to-whole g.X.Extra.further c.complete_predecoded.new.self.time m (executing c.args.predecoded.now c.args.states) c.requires.may.lives c.requires.value c.requires.some c.complete_predecoded.ensures.time in
    record {
      passes = passes-now g.X.Extra.further c.args.until m (machine_of c.complete_predecoded.new.self) (omega arith) (omega arith);
      goes = goes-same (sym all) c.complete_predecoded.ensures.goes;
      predecoded = c.complete_predecoded.ensures.predecoded;
    }
