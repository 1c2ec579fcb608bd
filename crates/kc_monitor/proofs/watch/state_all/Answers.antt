use Rattle.std.proofs.Common.{length, ap, ◌∙◌, refl, arith}
use Rattle.kc_trace.specs.Tables.{level_in}
use Rattle.kc_monitor.specs.Watching.{IsStep}
use Rattle.kc_monitor.proofs.StepLemmas.{three_none, three_more, three_rest, drop_next}
use Rattle.kc_monitor.proofs.watch.state_all.Goals as goal
use Rattle.kc_monitor.proofs.watch.state_all.Goals.{then-i-rules+in_ok-state, else-i-rules}

pub loop-i-init : goal.loop-i-init
loop-i-init c = record { many = refl; past = λ same. three_none (IsStep c.args.at (level_in c.args.levels.now) c.args.seens.now); rest = refl }

pub loop-i-preserved : goal.loop-i-preserved
loop-i-preserved c =
    let before = c.loop-i.invariant in
    let i = c.loop-i.i in
    let rules = c.args.rules.now in
    let old = c.args.monitors.now in
    elim c.if-i-rules.branch [
      | then-i-rules+in_ok-state w ↦ record {
        many = c.if-i-rules.auto.monitors ∙ before.many;
        past = λ same. rw w.monitors-is (three_more (IsStep c.args.at (level_in c.args.levels.now) c.args.seens.now) rules old c.loop-i.monitors i w.index-rules-i.result w.index-monitors-i.result w.state.new.self
            (omega arith) (omega (arith, before.many)) (omega arith) before.rest w.index-rules-i.is (record { life = w.in_ok-state.ensures.life; going = w.in_ok-state.ensures.going; flags = w.in_ok-state.ensures.levels; total = w.in_ok-state.ensures.total }) (before.past same));
        rest = rw w.monitors-is (three_rest old c.loop-i.monitors i w.state.new.self before.rest);
      }
      | else-i-rules w ↦ record {
        many = ap length w.monitors-is ∙ before.many;
        past = λ same. absurd (omega (arith, same, before.many));
        rest = rw w.monitors-is (drop_next c.loop-i.monitors old i before.rest);
      }
    ]
