use Rattle.std.proofs.Common.{◌≡◌, ◌+◌, ◌≤◌, sym, ◌∙◌, ap, subst, arith}
use Rattle.kc_stim.specs.Proper.{AreProper}
use Rattle.kc_block_spec.specs.Touch.{one_if, timer2_touched, touched}
use Rattle.kc_block_units.specs.Scheduler.{Scheduler, shown_units, AreHeld}
use Rattle.kc_block_units.specs.Rows.{ticked}
use Rattle.kc_block_units.specs.Events.{IsJoined, ticked_scheduler}
use Rattle.kc_block_units.proofs.Joins.{held, events_join}
use Rattle.kc_block_units.specs.declared.scheduler.Scheduler.{Scheduler as Held}
use Rattle.kc_block_units.specs.Standing.{standing, moves_of}
use Rattle.kc_block_tick.proofs.Past.{not_after, asked_count, past}
use Rattle.kc_block_tick.proofs.passing.pass.Given.{Over}
use Rattle.kc_block_tick.proofs.passing.pass.Goals as goal

pub ask_touched-requires-clause-timer2 : goal.ask_touched-requires-clause-timer2
ask_touched-requires-clause-timer2 g c =
    let f = g.X.Extra.further in
    let h = (standing g.X.Extra.plain c.args.scheduler.now) in
    subst (λ (l : Scheduler g.row.X.Denot). l.timer2.at ≤ c.args.now + 1) (sym c.tick_all-touched.ensures.scheduler)
    (not_after (timer2_touched c.args.now (shown_units f h c.args.now)) c.args.now (ticked f h c.args.now).timer2 h.timer2 c.requires.present.scheduled.timer2.first)

pub ask_touched-requires-clause-proper : goal.ask_touched-requires-clause-proper
ask_touched-requires-clause-proper g c = subst (λ (l : Scheduler g.row.X.Denot). AreProper l.drives) (sym c.tick_all-touched.ensures.scheduler) c.requires.present.scheduled.proper

pub ask_touched-requires-clause-held : goal.ask_touched-requires-clause-held
ask_touched-requires-clause-held g c =
    subst (λ (l : Scheduler g.row.X.Denot). AreHeld l.drives l.board_registers.levels (c.args.now + 1)) (sym c.tick_all-touched.ensures.scheduler) (held g.X.Extra.further g.X.Extra.agrees (record { rests = g.met.X.Extra.rests; rests_out = g.met.X.Extra.rests_out; rest_keeps = g.met.X.Extra.rest_keeps; keeps = g.met.X.Extra.keeps; start_keeps = g.met.X.Extra.start_keeps }) (standing g.X.Extra.plain c.args.scheduler.now) c.args.now c.requires.present.scheduled)

joined : (g : Over) (c : goal.After-ask_touched g) → IsJoined g.X.Extra.further g.X.Extra.agrees (standing g.X.Extra.plain c.args.scheduler.now) c.args.now (standing g.X.Extra.plain c.ask_touched.new.scheduler)
joined g c =
    let f = g.X.Extra.further in
    let agrees = g.X.Extra.agrees in
    let plain = g.X.Extra.plain in
    let h = (standing g.X.Extra.plain c.args.scheduler.now) in
    let now = c.args.now in
    let new : Held g.row.X.Denot = c.ask_touched.new.scheduler in
    let e = c.tick_all-touched.ensures.scheduler in
    let scheduler : standing plain new ≡ record (ticked_scheduler f h now) { due = new.due } =
    ap (standing plain) c.ask_touched.ensures.rest ∙ ap (λ (l : Scheduler g.row.X.Denot). record l { due = new.due }) e in
    events_join f agrees (record { rests = g.met.X.Extra.rests; rests_out = g.met.X.Extra.rests_out; rest_keeps = g.met.X.Extra.rest_keeps; keeps = g.met.X.Extra.keeps; start_keeps = g.met.X.Extra.start_keeps }) h (standing plain new) now c.requires.present.scheduled
    (past f agrees h now c.requires.present.scheduled (standing plain new) c.tick_all-touched.result c.tick_all-touched.new.scheduler.due c.tick_all-touched.ensures.touched
    (ap (λ (l : Scheduler g.row.X.Denot). l.due) e) scheduler c.ask_touched.ensures.asked)

pub returns-clause-scheduled : goal.returns-clause-scheduled
returns-clause-scheduled g c = (joined g c).scheduled

pub returns-clause-units : goal.returns-clause-units
returns-clause-units g c = (joined g c).shows

pub returns-clause-costs : goal.returns-clause-costs
returns-clause-costs g c =
    let t = c.tick_all-touched.result in
    let count : one_if t.timer2 + one_if t.hso + one_if t.hsi + one_if t.further ≡ touched g.X.Extra.further c.args.now (shown_units g.X.Extra.further (standing g.X.Extra.plain c.args.scheduler.now) c.args.now) =
    asked_count g.X.Extra.further g.X.Extra.agrees (standing g.X.Extra.plain c.args.scheduler.now) c.args.now c.requires.present.scheduled t c.tick_all-touched.ensures.touched in
    let same : moves_of g.X.Extra.moved c.ask_touched.new.scheduler ≡ moves_of g.X.Extra.moved c.tick_all-touched.new.scheduler = ap (moves_of g.X.Extra.moved) c.ask_touched.ensures.rest in
    record {
      spent = omega (arith, count, c.tick_all-touched.ensures.costs.spent, c.ask_touched.ensures.steps);
      moves = omega (arith, same, c.tick_all-touched.ensures.costs.moves);
    }
