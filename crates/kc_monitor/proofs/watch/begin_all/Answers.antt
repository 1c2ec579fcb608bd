use Rattle.std.proofs.Common.{length, ap, ◌∙◌, refl, arith}
use Rattle.kc_trace.specs.Tables.{level_in}
use Rattle.kc_monitor.specs.Watching.{IsStart}
use Rattle.kc_monitor.proofs.StepLemmas.{three_none, three_more, three_rest, drop_next}
use Rattle.kc_monitor.proofs.watch.begin_all.Goals as goal
use Rattle.kc_monitor.proofs.watch.begin_all.Goals.{then-i-rules, else-i-rules}

pub loop-i-init : goal.loop-i-init
loop-i-init c = record { many = refl; past = λ same. three_none (IsStart (level_in c.args.levels.now)); rest = refl }

pub loop-i-preserved : goal.loop-i-preserved
loop-i-preserved c =
    let before = c.loop-i.invariant in
    let i = c.loop-i.i in
    let rules = c.args.rules.now in
    let old = c.args.monitors.now in
    elim c.if-i-rules.branch [
      | then-i-rules w ↦ record {
        many = c.if-i-rules.auto.monitors ∙ before.many;
        past = λ same. rw w.monitors-is (three_more (IsStart (level_in c.args.levels.now)) rules old c.loop-i.monitors i w.index-rules-i.result w.index-monitors-i.result w.begin.new.self
            (omega arith) (omega (arith, before.many)) (omega arith) before.rest w.index-rules-i.is (record {
              life = ap (λ m. m.life) w.begin.ensures.same;
              from = ap (λ m. m.from) w.begin.ensures.same;
              begun = ap (λ m. m.begun) w.begin.ensures.same;
              closed = ap (λ m. m.closed) w.begin.ensures.same;
              one = ap (λ m. m.one) w.begin.ensures.same;
              other = ap (λ m. m.other) w.begin.ensures.same;
              tally = ap (λ m. m.tally) w.begin.ensures.same;
              machine = w.begin.ensures.begun;
            }) (before.past same));
        rest = rw w.monitors-is (three_rest old c.loop-i.monitors i w.begin.new.self before.rest);
      }
      | else-i-rules w ↦ record {
        many = ap length w.monitors-is ∙ before.many;
        past = λ same. absurd (omega (arith, same, before.many));
        rest = rw w.monitors-is (drop_next c.loop-i.monitors old i before.rest);
      }
    ]
