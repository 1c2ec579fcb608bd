use Rattle.std.proofs.Common.{◌≡◌, ◌<◌, ◌≤◌, ◌∙◌, None, ap, sym, subst, arith}
use Rattle.kc_extra.specs.Further.{Further}
use Rattle.kc_extra.specs.declared.extra.Extra as extra
use Rattle.kc_machine_spec.specs.declared.doing.UnderWay.{UnderWay}
use Rattle.kc_machine_spec.specs.Machine.{current}
use Rattle.kc_machine_spec.specs.Passing.{activity_end, whole}
use Rattle.kc_machine_spec.specs.Run.{run_to}
use Rattle.kc_machine_spec.proofs.Runs.{run_to-activity}
use Rattle.kc_machine.specs.declared.parts.Core.{Core}
use Rattle.kc_machine.specs.Seen.{machine_of}
use Rattle.kc_machine.proofs.Failing.{passes-now}
use Rattle.kc_machine.proofs.Going.{goes-same}
use Rattle.kc_machine.proofs.parts.Core.pass_current.Goals as goal

led : {X : Type 0} {d : extra.Ghosts X} (f : Further X) (old mid : Core X d) (a : UnderWay) → mid ≡ old → a ≡ current (machine_of old) → old.ended ≡ None → 0 < a.left → whole f (machine_of mid) a ≡ run_to f (activity_end (machine_of old)) (machine_of old)
led f old mid a same e lives some =
    ap (λ core. whole f (machine_of core) a) same
    ∙ ap (whole f (machine_of old)) e
    ∙ sym (run_to-activity f (machine_of old) lives (subst (λ (x : UnderWay). 0 < x.left) e some))

pub returns-clause-passed : goal.returns-clause-passed
returns-clause-passed g c =
    let m = machine_of c.args.self.now in
    let left = ap (λ (a : UnderWay). a.left) c.current-activity.ensures.knows.value in
    let same = ap (λ (core : Core _ _). core.time) c.current-activity.ensures.knows.same in
    let time : c.complete.new.self.time ≡ activity_end m = omega arith in
    let all = led g.X.Extra.further c.args.self.now c.current-activity.new.self c.current-activity.result c.current-activity.ensures.knows.same c.current-activity.ensures.knows.value c.requires.lives c.current-activity.ensures.knows.going.some in
    let went = goes-same (all ∙ sym (ap (λ i. run_to g.X.Extra.further i m) time)) c.complete.ensures.goes in
    let moves = ap (λ (core : Core _ _). core.bus.block.moves) c.current-activity.ensures.knows.same in
    record {
      passes = passes-now g.X.Extra.further _ m (machine_of c.complete.new.self) (omega (arith, c.current-activity.ensures.knows.going.some)) (omega arith);
      goes = record {
        machine = went.machine;
        lines = went.lines;
        costs = record { spent = omega (arith, went.costs.spent, c.current-activity.ensures.knows.steps); moves = omega (arith, went.costs.moves, moves) };
      };
      predecoded = c.complete.ensures.predecoded;
    }

pub returns-clause-time : goal.returns-clause-time
returns-clause-time g c =
    let left = ap (λ (a : UnderWay). a.left) c.current-activity.ensures.knows.value in
    let time = ap (λ (core : Core _ _). core.time) c.current-activity.ensures.knows.same in
    omega arith

pub returns-clause-states : goal.returns-clause-states
returns-clause-states g c = record {
  some = subst (λ (a : UnderWay). 0 < a.left) c.current-activity.ensures.knows.value c.current-activity.ensures.knows.going.some;
  few = subst (λ (a : UnderWay). a.left ≤ 255) c.current-activity.ensures.knows.value (omega arith);
}
