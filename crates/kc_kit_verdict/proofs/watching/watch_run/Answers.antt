use Rattle.std.proofs.Common.{◌≡◌, Ok, None, [], ◌∷◌, subst, rules}
use Rattle.kc_events.specs.Reporting.{Reporting, IsAnswer, IsBehind}
use Rattle.kc_events.specs.Underway.{seen_by}
use Rattle.kc_monitor.specs.declared.watch.Watch.{Watch}
use Rattle.kc_kit_verdict.specs.Watched.{IsWatched}
use Rattle.kc_kit_verdict.proofs.WatchLemmas.{started, one_step}
use Rattle.kc_kit_verdict.proofs.watching.watch_run.Goals as goal

pub loop-init : goal.loop-init
loop-init g c = started c.args.lives.now c.args.watch.now c.requires

pub loop-preserved : goal.loop-preserved
loop-preserved g c =
    let mid : Reporting = c.loop.lives in
    let new : Reporting = c.next_step.new.self in
    let w : Watch = c.loop.watch in
    let x : Watch = c.watch_step.new.watch in
    let step = seen_by c.in-Ok-Some.step new.course in
    let going : mid.stopped ≡ None = c.loop.invariant.going in
    let gave : IsBehind mid (step ∷ []) new =
    subst (λ next. IsAnswer mid (Ok next) new) c.in-Ok-Some.field-0-is (c.in-Ok-Some.ensures.answer going) in
    let goes : new.stopped ≡ None = c.in-Ok-Some.ensures.stops going in
    let calm : new.trace.faults ≡ mid.trace.faults = search rules in
    let seen : IsWatched w step x = search rules in
    one_step c.args.lives.now c.args.watch.now mid w new x step c.loop.invariant gave seen goes calm
