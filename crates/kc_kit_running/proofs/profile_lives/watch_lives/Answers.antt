use Rattle.std.proofs.Common.{ℕ, ◌+◌, ◌-◌, ◌≤◌, refl, sym, ◌∙◌, subst, arith}
use Rattle.kc_base.specs.Limits.{max_states}
use Rattle.kc_trace.specs.Out.{Puts}
use Rattle.kc_trace.specs.Trace.{out_of}
use Rattle.kc_cycles.specs.Lives.{restart_line}
use Rattle.kc_cycles.proofs.Fitted.{followed-by}
use Rattle.kc_kit_running.specs.Counting.{IsCount}
use Rattle.kc_kit_running.specs.Lives.{board_lives}
use Rattle.kc_kit_running.specs.Profiled.{Counted, counted_for, known, over_lives}
use Rattle.kc_kit_running.specs.Watched.{watched_further}
use Rattle.kc_kit_running.proofs.ProfileLemmas.{never-begun}
use Rattle.kc_kit_running.proofs.SumLemmas.{cover-next, no-sum, profile-next}
use Rattle.kc_kit_running.proofs.WatchLemmas.{born-is, both-fit, count-few, sums-few, watching-cut, watching-cut_last, watching-cut_line, watching-first, watching-last, watching-none, watching-on, watching-wanting, watching-wanting_next}
use Rattle.kc_kit_running.proofs.profile_lives.watch_lives.Goals as goal

pub returns-in_default-clause-failed : goal.returns-in_default-clause-failed
returns-in_default-clause-failed g c =
    never-begun (over_lives (board_lives c.args.most c.args.states c.args.board.driving c.args.board.image) (known c.args.lines.now) c.args.board.driving c.args.board.image) (out_of g.S.Sink.written g.S.Sink.faults c.args.out.now) c.requires.ready

pub lives-init : goal.lives-init
lives-init g c =
    watching-first c.args.states c.args.most (known c.args.lines.now) c.args.board.driving c.args.board.image (out_of g.S.Sink.written g.S.Sink.faults c.args.out.now) _ _ _ _ c.new-accounts.ensures.profile c.new-accounts.ensures.cover
    (no-sum c.in-Ok.sums.profile c.in-Ok.sums.statistics c.in-Ok.ensures) c.requires.some c.requires.ready

pub returns-in_default-new-clause-failed : goal.returns-in_default-new-clause-failed
returns-in_default-new-clause-failed g c =
    let way = c.lives.invariant in
    watching-none _ _ _ _ _ _ _ _ _ _ _ _ _ _ way _ refl

pub born-requires : goal.born-requires
born-requires g c =
    omega (arith, c.lives.invariant.within, c.requires.states)

pub returns-in_default-born-clause-failed : goal.returns-in_default-born-clause-failed
returns-in_default-born-clause-failed g c =
    let way = c.lives.invariant in
    watching-none _ _ _ _ _ _ _ _ _ _ _ _ _ _ way _ refl

pub overflow_sub-states : goal.overflow_sub-states
overflow_sub-states g c =
    c.lives.invariant.within

pub live-requires-clause-unbroken : goal.live-requires-clause-unbroken
live-requires-clause-unbroken g c =
    c.lives.invariant.unbroken

pub returns-in_default-live-clause-failed : goal.returns-in_default-live-clause-failed
returns-in_default-live-clause-failed g c =
    let way = c.lives.invariant in
    let m = c.in-Ok-born.machine.machine in
    let is = born-is c.args.board.driving c.args.board.image c.lives.from m c.in-Ok-born.ensures.unit c.in-Ok-born.ensures.machine in
    let mid = out_of g.S.Sink.written g.S.Sink.faults c.live.new.out in
    watching-cut _ _ _ _ _ _ _ _ _ _ _ _ _ _ way m is mid c.in_default-live.ensures.broken

pub returns-in_default-write_finals-clause-failed : goal.returns-in_default-write_finals-clause-failed
returns-in_default-write_finals-clause-failed g c =
    let way = c.lives.invariant in
    let m = c.in-Ok-born.machine.machine in
    let n = c.live.new.machine.machine in
    let is = born-is c.args.board.driving c.args.board.image c.lives.from m c.in-Ok-born.ensures.unit c.in-Ok-born.ensures.machine in
    let mid = out_of g.S.Sink.written g.S.Sink.faults c.live.new.out in
    let ending = c.in-Ok-live.ending in
    let lived = c.in-Ok-live.ensures.lived in
    let none = sym c.is_followed.ensures ∙ c.if-not-is_followed.true in
    let new = out_of g.S.Sink.written g.S.Sink.faults c.write_finals.new.out in
    watching-cut_last _ _ _ _ _ _ _ _ _ _ _ _ _ _ way m is ending.how ending.by_watchdog n mid lived none new c.write_finals.ensures.lines c.in_default-write_finals.ensures.failed

pub last_accounts-requires-clause-room : goal.last_accounts-requires-clause-room
last_accounts-requires-clause-room g c =
    let way = c.lives.invariant in
    let m = c.in-Ok-born.machine.machine in
    let n = c.live.new.machine.machine in
    let lived = c.in-Ok-live.ensures.lived in
    let one : Counted = counted_for watched_further n.time m in
    let count : IsCount c.lives.life one.spots one.sights c.live.new.account.profile c.live.new.account.statistics =
    subst (λ (l : ℕ). IsCount l one.spots one.sights c.live.new.account.profile c.live.new.account.statistics) c.in-Ok-new.ensures.life c.in-Ok-live.ensures.counted in
    let within : c.lives.from + n.time ≤ max_states = omega (arith, way.within, lived.within, c.requires.states) in
    both-fit c.lives.from c.lives.life n.time way.lives m _ _ _ _ way.sum way.passed count within

pub last_accounts-requires-clause-few : goal.last_accounts-requires-clause-few
last_accounts-requires-clause-few g c =
    let way = c.lives.invariant in
    sums-few c.lives.from way.lives _ _ way.sum way.passed (omega (arith, way.within, c.requires.states))

pub last_accounts-requires-clause-later : goal.last_accounts-requires-clause-later
last_accounts-requires-clause-later g c =
    let way = c.lives.invariant in
    let m = c.in-Ok-born.machine.machine in
    let n = c.live.new.machine.machine in
    let lived = c.in-Ok-live.ensures.lived in
    let one : Counted = counted_for watched_further n.time m in
    let count : IsCount c.lives.life one.spots one.sights c.live.new.account.profile c.live.new.account.statistics =
    subst (λ (l : ℕ). IsCount l one.spots one.sights c.live.new.account.profile c.live.new.account.statistics) c.in-Ok-new.ensures.life c.in-Ok-live.ensures.counted in
    let within : c.lives.from + n.time ≤ max_states = omega (arith, way.within, lived.within, c.requires.states) in
    count-few c.lives.life n.time m _ _ count (omega (arith, within))

pub account_for-requires-clause-room : goal.account_for-requires-clause-room
account_for-requires-clause-room g c =
    let way = c.lives.invariant in
    let m = c.in-Ok-born.machine.machine in
    let n = c.live.new.machine.machine in
    let lived = c.in-Ok-live.ensures.lived in
    let one : Counted = counted_for watched_further n.time m in
    let count : IsCount c.lives.life one.spots one.sights c.live.new.account.profile c.live.new.account.statistics =
    subst (λ (l : ℕ). IsCount l one.spots one.sights c.live.new.account.profile c.live.new.account.statistics) c.in-Ok-new.ensures.life c.in-Ok-live.ensures.counted in
    let within : c.lives.from + n.time ≤ max_states = omega (arith, way.within, lived.within, c.requires.states) in
    both-fit c.lives.from c.lives.life n.time way.lives m _ _ _ _ way.sum way.passed count within

pub account_for-requires-clause-few : goal.account_for-requires-clause-few
account_for-requires-clause-few g c =
    let way = c.lives.invariant in
    sums-few c.lives.from way.lives _ _ way.sum way.passed (omega (arith, way.within, c.requires.states))

pub account_for-requires-clause-later : goal.account_for-requires-clause-later
account_for-requires-clause-later g c =
    let way = c.lives.invariant in
    let m = c.in-Ok-born.machine.machine in
    let n = c.live.new.machine.machine in
    let lived = c.in-Ok-live.ensures.lived in
    let one : Counted = counted_for watched_further n.time m in
    let count : IsCount c.lives.life one.spots one.sights c.live.new.account.profile c.live.new.account.statistics =
    subst (λ (l : ℕ). IsCount l one.spots one.sights c.live.new.account.profile c.live.new.account.statistics) c.in-Ok-new.ensures.life c.in-Ok-live.ensures.counted in
    let within : c.lives.from + n.time ≤ max_states = omega (arith, way.within, lived.within, c.requires.states) in
    count-few c.lives.life n.time m _ _ count (omega (arith, within))

pub returns-in_default-last_accounts-clause-failed : goal.returns-in_default-last_accounts-clause-failed
returns-in_default-last_accounts-clause-failed g c =
    let way = c.lives.invariant in
    let m = c.in-Ok-born.machine.machine in
    let n = c.live.new.machine.machine in
    let is = born-is c.args.board.driving c.args.board.image c.lives.from m c.in-Ok-born.ensures.unit c.in-Ok-born.ensures.machine in
    let mid = out_of g.S.Sink.written g.S.Sink.faults c.live.new.out in
    let ending = c.in-Ok-live.ending in
    let lived = c.in-Ok-live.ensures.lived in
    let none = sym c.is_followed.ensures ∙ c.if-not-is_followed.true in
    let new = out_of g.S.Sink.written g.S.Sink.faults c.write_finals.new.out in
    watching-wanting _ _ _ _ _ _ _ _ _ _ _ _ _ _ way m is ending.how ending.by_watchdog n mid lived none new c.write_finals.ensures.lines c.in-Ok-write_finals.ensures.written

pub returns-then-not-is_followed-clause-passed : goal.returns-then-not-is_followed-clause-passed
returns-then-not-is_followed-clause-passed g c =
    let way = c.lives.invariant in
    let m = c.in-Ok-born.machine.machine in
    let n = c.live.new.machine.machine in
    let is = born-is c.args.board.driving c.args.board.image c.lives.from m c.in-Ok-born.ensures.unit c.in-Ok-born.ensures.machine in
    let mid = out_of g.S.Sink.written g.S.Sink.faults c.live.new.out in
    let ending = c.in-Ok-live.ending in
    let lived = c.in-Ok-live.ensures.lived in
    let one : Counted = counted_for watched_further n.time m in
    let count : IsCount c.lives.life one.spots one.sights c.live.new.account.profile c.live.new.account.statistics =
    subst (λ (l : ℕ). IsCount l one.spots one.sights c.live.new.account.profile c.live.new.account.statistics) c.in-Ok-new.ensures.life c.in-Ok-live.ensures.counted in
    let none = sym c.is_followed.ensures ∙ c.if-not-is_followed.true in
    let new = out_of g.S.Sink.written g.S.Sink.faults c.write_finals.new.out in
    watching-last _ _ _ _ _ _ _ _ _ _ _ _ _ _ way m is ending.how ending.by_watchdog n mid lived none new _ c.write_finals.ensures.lines c.in-Ok-write_finals.ensures.written
    (c.in-Ok-last_accounts.ensures way.lives one way.number way.sum count way.profiles way.covers)

pub returns-then-failed-clause-failed : goal.returns-then-failed-clause-failed
returns-then-failed-clause-failed g c =
    let way = c.lives.invariant in
    let m = c.in-Ok-born.machine.machine in
    let n = c.live.new.machine.machine in
    let is = born-is c.args.board.driving c.args.board.image c.lives.from m c.in-Ok-born.ensures.unit c.in-Ok-born.ensures.machine in
    let mid = out_of g.S.Sink.written g.S.Sink.faults c.live.new.out in
    let ending = c.in-Ok-live.ending in
    let lived = c.in-Ok-live.ensures.lived in
    let on = followed-by ending.how c.lives.left (sym c.is_followed.ensures ∙ c.if-not-is_followed.false) in
    let new = out_of g.S.Sink.written g.S.Sink.faults c.put_restart.new.out in
    let line : Puts mid (restart_line (n.time - 1) ending.by_watchdog) new = subst (λ t. Puts mid (restart_line (t - 1) ending.by_watchdog) new) c.now.ensures c.put_restart.ensures in
    watching-cut_line _ _ _ _ _ _ _ _ _ _ _ _ _ _ way m is ending.how ending.by_watchdog n mid lived on.0 on.1 new line (sym c.failed.ensures ∙ c.if-failed.true)

pub returns-in_default-account_for-clause-failed : goal.returns-in_default-account_for-clause-failed
returns-in_default-account_for-clause-failed g c =
    let way = c.lives.invariant in
    let m = c.in-Ok-born.machine.machine in
    let n = c.live.new.machine.machine in
    let is = born-is c.args.board.driving c.args.board.image c.lives.from m c.in-Ok-born.ensures.unit c.in-Ok-born.ensures.machine in
    let mid = out_of g.S.Sink.written g.S.Sink.faults c.live.new.out in
    let ending = c.in-Ok-live.ending in
    let lived = c.in-Ok-live.ensures.lived in
    let on = followed-by ending.how c.lives.left (sym c.is_followed.ensures ∙ c.if-not-is_followed.false) in
    let new = out_of g.S.Sink.written g.S.Sink.faults c.put_restart.new.out in
    let line : Puts mid (restart_line (n.time - 1) ending.by_watchdog) new = subst (λ t. Puts mid (restart_line (t - 1) ending.by_watchdog) new) c.now.ensures c.put_restart.ensures in
    watching-wanting_next _ _ _ _ _ _ _ _ _ _ _ _ _ _ way m is ending.how ending.by_watchdog n mid lived on.0 on.1 new line (sym c.failed.ensures ∙ c.if-failed.false)

pub overflow_add-life : goal.overflow_add-life
overflow_add-life g c =
    let way = c.lives.invariant in
    omega (arith, way.all, way.some, c.requires.few)

pub lives-preserved : goal.lives-preserved
lives-preserved g c =
    let way = c.lives.invariant in
    let m = c.in-Ok-born.machine.machine in
    let n = c.live.new.machine.machine in
    let is = born-is c.args.board.driving c.args.board.image c.lives.from m c.in-Ok-born.ensures.unit c.in-Ok-born.ensures.machine in
    let mid = out_of g.S.Sink.written g.S.Sink.faults c.live.new.out in
    let ending = c.in-Ok-live.ending in
    let lived = c.in-Ok-live.ensures.lived in
    let one : Counted = counted_for watched_further n.time m in
    let count : IsCount c.lives.life one.spots one.sights c.live.new.account.profile c.live.new.account.statistics =
    subst (λ (l : ℕ). IsCount l one.spots one.sights c.live.new.account.profile c.live.new.account.statistics) c.in-Ok-new.ensures.life c.in-Ok-live.ensures.counted in
    let on = followed-by ending.how c.lives.left (sym c.is_followed.ensures ∙ c.if-not-is_followed.false) in
    let new = out_of g.S.Sink.written g.S.Sink.faults c.put_restart.new.out in
    let line : Puts mid (restart_line (n.time - 1) ending.by_watchdog) new = subst (λ t. Puts mid (restart_line (t - 1) ending.by_watchdog) new) c.now.ensures c.put_restart.ensures in
    watching-on _ _ _ _ _ _ _ _ _ _ _ _ _ _ way m is ending.how ending.by_watchdog n mid lived on.0 on.1 new line c.now-from.result _ _ _ _ c.now-from.ensures (sym c.failed.ensures ∙ c.if-failed.false)
    (profile-next (known c.args.lines.now) c.lives.life way.lives one _ _ _ _ way.number count way.profiles c.in-Ok-account_for.ensures.profile)
    (cover-next (known c.args.lines.now) c.lives.life way.lives one _ _ _ _ way.number count way.covers c.in-Ok-account_for.ensures.cover)
    (c.in-Ok-account_for.ensures.sums way.lives one way.number way.sum count)
