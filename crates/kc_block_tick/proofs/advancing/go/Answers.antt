use Rattle.std.proofs.Common.{◌+◌, ◌*◌, ◌≤◌, refl, sym, ◌∙◌, subst, arith}
use Rattle.kc_block_spec.specs.Touch.{block_rule}
use Rattle.kc_block_spec.specs.Leading.{Leads}
use Rattle.kc_block_units.specs.Scheduler.{shown_units}
use Rattle.kc_block_units.specs.Laws.{IsUpTo}
use Rattle.kc_block_units.specs.Standing.{standing, moves_of}
use Rattle.kc_block_tick.proofs.Going.{due_not_before, still_scheduled, still_units, no_edges, units_past, edges_past, touch_past}
use Rattle.kc_block_tick.proofs.advancing.go.Given.{Over}
use Rattle.kc_block_tick.proofs.advancing.go.Goals as goal

up_to_end : (g : Over) (c : goal.Then-at-to g) → IsUpTo (standing g.X.Extra.plain c.args.scheduler.now) c.args.to
up_to_end g c slot u lt e =
    let le : c.next-at.result ≤ u = c.next-at.ensures.up_to c.args.now c.requires.scheduled slot u lt e in
    omega arith

pub returns-then-at-to-clause-scheduled : goal.returns-then-at-to-clause-scheduled
returns-then-at-to-clause-scheduled g c = still_scheduled g.X.Extra.further g.X.Extra.agrees (record { rests = g.met.X.Extra.rests; rests_out = g.met.X.Extra.rests_out; rest_keeps = g.met.X.Extra.rest_keeps; keeps = g.met.X.Extra.keeps; start_keeps = g.met.X.Extra.start_keeps }) (standing g.X.Extra.plain c.args.scheduler.now) c.args.now c.args.to c.requires.scheduled (omega arith) (up_to_end g c)

pub returns-then-at-to-clause-units : goal.returns-then-at-to-clause-units
returns-then-at-to-clause-units g c = still_units g.X.Extra.further g.X.Extra.agrees (record { rests = g.met.X.Extra.rests; rests_out = g.met.X.Extra.rests_out; rest_keeps = g.met.X.Extra.rest_keeps; keeps = g.met.X.Extra.keeps; start_keeps = g.met.X.Extra.start_keeps }) (standing g.X.Extra.plain c.args.scheduler.now) c.args.now c.args.to c.requires.scheduled (omega arith) (up_to_end g c)

pub returns-then-at-to-clause-edges : goal.returns-then-at-to-clause-edges
returns-then-at-to-clause-edges g c = subst (λ es. Leads g.O.EdgeOut.led c.args.out.now es c.args.out.now) (sym (no_edges g.X.Extra.further g.X.Extra.agrees (record { rests = g.met.X.Extra.rests; rests_out = g.met.X.Extra.rests_out; rest_keeps = g.met.X.Extra.rest_keeps; keeps = g.met.X.Extra.keeps; start_keeps = g.met.X.Extra.start_keeps }) (standing g.X.Extra.plain c.args.scheduler.now) c.args.now c.args.to c.requires.scheduled (omega arith) (up_to_end g c))) refl

pub pass-requires : goal.pass-requires
pass-requires g c = record {
  present = record {
    bound = omega (arith, c.requires.bound);
    scheduled =
        still_scheduled g.X.Extra.further g.X.Extra.agrees (record { rests = g.met.X.Extra.rests; rests_out = g.met.X.Extra.rests_out; rest_keeps = g.met.X.Extra.rest_keeps; keeps = g.met.X.Extra.keeps; start_keeps = g.met.X.Extra.start_keeps }) (standing g.X.Extra.plain c.args.scheduler.now) c.args.now c.next-at.result c.requires.scheduled
        (due_not_before (block_rule g.X.Extra.further) c.args.now (shown_units g.X.Extra.further (standing g.X.Extra.plain c.args.scheduler.now) c.args.now) c.next-at.result (c.next-at.ensures.due c.args.now c.requires.scheduled) (omega arith))
        (c.next-at.ensures.up_to c.args.now c.requires.scheduled);
  };
}

not_before : (g : Over) (c : goal.After-pass g) → c.args.now ≤ c.next-at.result
not_before g c =
    due_not_before (block_rule g.X.Extra.further) c.args.now (shown_units g.X.Extra.further (standing g.X.Extra.plain c.args.scheduler.now) c.args.now) c.next-at.result (c.next-at.ensures.due c.args.now c.requires.scheduled) (omega arith)

pub returns-clause-units : goal.returns-clause-units
returns-clause-units g c = c.pass.ensures.units ∙ units_past g.X.Extra.further g.X.Extra.agrees (record { rests = g.met.X.Extra.rests; rests_out = g.met.X.Extra.rests_out; rest_keeps = g.met.X.Extra.rest_keeps; keeps = g.met.X.Extra.keeps; start_keeps = g.met.X.Extra.start_keeps }) (standing g.X.Extra.plain c.args.scheduler.now) c.args.now c.next-at.result c.requires.scheduled (not_before g c) (c.next-at.ensures.up_to c.args.now c.requires.scheduled)

pub returns-clause-edges : goal.returns-clause-edges
returns-clause-edges g c = subst (λ es. Leads g.O.EdgeOut.led c.args.out.now es c.pass.new.out) (edges_past g.X.Extra.further g.X.Extra.agrees (record { rests = g.met.X.Extra.rests; rests_out = g.met.X.Extra.rests_out; rest_keeps = g.met.X.Extra.rest_keeps; keeps = g.met.X.Extra.keeps; start_keeps = g.met.X.Extra.start_keeps }) (standing g.X.Extra.plain c.args.scheduler.now) c.args.now c.next-at.result c.requires.scheduled (not_before g c) (c.next-at.ensures.up_to c.args.now c.requires.scheduled)) c.pass.ensures.edges

pub returns-clause-costs : goal.returns-clause-costs
returns-clause-costs g c = record {
  spent = subst (λ n. c.pass.new.steps ≤ c.args.steps.now + 4 * n) (touch_past g.X.Extra.further g.X.Extra.agrees (record { rests = g.met.X.Extra.rests; rests_out = g.met.X.Extra.rests_out; rest_keeps = g.met.X.Extra.rest_keeps; keeps = g.met.X.Extra.keeps; start_keeps = g.met.X.Extra.start_keeps }) (standing g.X.Extra.plain c.args.scheduler.now) c.args.now c.next-at.result c.requires.scheduled (not_before g c) (c.next-at.ensures.up_to c.args.now c.requires.scheduled)) c.pass.ensures.costs.spent;
  moves = subst (λ n. moves_of g.X.Extra.moved c.pass.new.scheduler ≤ moves_of g.X.Extra.moved c.args.scheduler.now + 4 * n) (touch_past g.X.Extra.further g.X.Extra.agrees (record { rests = g.met.X.Extra.rests; rests_out = g.met.X.Extra.rests_out; rest_keeps = g.met.X.Extra.rest_keeps; keeps = g.met.X.Extra.keeps; start_keeps = g.met.X.Extra.start_keeps }) (standing g.X.Extra.plain c.args.scheduler.now) c.args.now c.next-at.result c.requires.scheduled (not_before g c) (c.next-at.ensures.up_to c.args.now c.requires.scheduled)) c.pass.ensures.costs.moves;
}
