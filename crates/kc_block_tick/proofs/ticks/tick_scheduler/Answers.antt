use Rattle.std.proofs.Common.{◌≡◌, ◌||◌, not, ◌==◌, ◌+◌, ◌*◌, sym, ◌∙◌, ap, subst, arith}
use Rattle.std.specs.Prelude.{if◌then◌else◌}
use Rattle.kc_block_spec.specs.Levels.{levels_at}
use Rattle.kc_block_spec.specs.Fired.{resets, starts}
use Rattle.kc_block_spec.specs.Control.{control_of, timer2_inputs, hsi_edges}
use Rattle.kc_block_spec.specs.Tick.{edges_at, fired_at, control_at, timer2_inputs_at, hsi_edges_at}
use Rattle.kc_block_spec.specs.Touch.{timer2_touched, hso_touched, hsi_touched, further_touched, touched}
use Rattle.kc_block_spec.specs.Leading.{Leads}
use Rattle.kc_block_units.proofs.Leads.{leads_on}
use Rattle.kc_block_units.specs.Scheduler.{shown_units}
use Rattle.kc_block_units.specs.Events.{has_timer2_edge, has_hsi_edge, flag_touched}
use Rattle.kc_block_units.proofs.CatchingUp.{hso_quiet}
use Rattle.kc_block_units.proofs.Known.{further_agrees}
use Rattle.kc_block_units.specs.Standing.{standing}
use Rattle.kc_block_tick.specs.declared.pins.Inputs.{Inputs}
use Rattle.kc_block_tick.proofs.Ticked as ticked
use Rattle.kc_block_tick.proofs.ticks.tick_scheduler.Given.{Over}
use Rattle.kc_block_tick.proofs.ticks.tick_scheduler.Goals as goal

pub tick_hso-fired-requires-clause-quiet : goal.tick_hso-fired-requires-clause-quiet
tick_hso-fired-requires-clause-quiet g c = hso_quiet g.X.Extra.further g.X.Extra.agrees (record { rests = g.met.X.Extra.rests; rests_out = g.met.X.Extra.rests_out; rest_keeps = g.met.X.Extra.rest_keeps; keeps = g.met.X.Extra.keeps; start_keeps = g.met.X.Extra.start_keeps }) (standing g.X.Extra.plain c.args.scheduler.now) c.args.now c.requires.present.scheduled c.view-seen.result c.view-seen.ensures.view

pub tick_further-others-requires-clause-agrees : goal.tick_further-others-requires-clause-agrees
tick_further-others-requires-clause-agrees g c =
    let f = g.X.Extra.further in
    let h = standing g.X.Extra.plain c.args.scheduler.now in
    subst (λ (i : Inputs). g.X.Extra.agrees i.levels i.edges (shown_units f h c.args.now).further) (sym c.requires.inputs)
    (further_agrees g.X.Extra.further g.X.Extra.agrees (record { rests = g.met.X.Extra.rests; rests_out = g.met.X.Extra.rests_out; rest_keeps = g.met.X.Extra.rest_keeps; keeps = g.met.X.Extra.keeps; start_keeps = g.met.X.Extra.start_keeps }) h c.args.now c.requires.present.scheduled)

module _ (g : Over) (c : goal.After-is_due-stimuli g) where
  edge : c.args.inputs.edges ≡ edges_at c.args.now (shown_units g.X.Extra.further (standing g.X.Extra.plain c.args.scheduler.now) c.args.now)
  edge = ap (λ (i : Inputs). i.edges) c.requires.inputs

  level : c.args.inputs.levels ≡ levels_at c.args.now (shown_units g.X.Extra.further (standing g.X.Extra.plain c.args.scheduler.now) c.args.now)
  level = ap (λ (i : Inputs). i.levels) c.requires.inputs

  reached : c.has_timer2_edge-reached.result ≡ has_timer2_edge (edges_at c.args.now (shown_units g.X.Extra.further (standing g.X.Extra.plain c.args.scheduler.now) c.args.now))
  reached = c.has_timer2_edge-reached.ensures ∙ ap has_timer2_edge edge

  hso_on : (c.is_due.result || (c.has_timer2_edge-reached.result || c.is_due-overflows.result)) ≡ hso_touched c.args.now (shown_units g.X.Extra.further (standing g.X.Extra.plain c.args.scheduler.now) c.args.now)
  hso_on = ticked.hso_known g.X.Extra.further g.X.Extra.agrees (record { rests = g.met.X.Extra.rests; rests_out = g.met.X.Extra.rests_out; rest_keeps = g.met.X.Extra.rest_keeps; keeps = g.met.X.Extra.keeps; start_keeps = g.met.X.Extra.start_keeps }) (standing g.X.Extra.plain c.args.scheduler.now) c.args.now c.requires.present.scheduled c.has_timer2_edge-reached.result c.is_due.result c.is_due-overflows.result reached c.is_due.ensures c.is_due-overflows.ensures

  valued : c.view-value.result.value ≡ (shown_units g.X.Extra.further (standing g.X.Extra.plain c.args.scheduler.now) c.args.now).timer2.value
  valued = ap (λ v. v.value) c.view-value.ensures.view

  fired : c.tick_hso-fired.result ≡ fired_at c.args.now (shown_units g.X.Extra.further (standing g.X.Extra.plain c.args.scheduler.now) c.args.now)
  fired =
      c.tick_hso-fired.ensures.fired
      ∙ ticked.hso_fired g.X.Extra.further g.X.Extra.agrees (record { rests = g.met.X.Extra.rests; rests_out = g.met.X.Extra.rests_out; rest_keeps = g.met.X.Extra.rest_keeps; keeps = g.met.X.Extra.keeps; start_keeps = g.met.X.Extra.start_keeps }) (standing g.X.Extra.plain c.args.scheduler.now) c.args.now c.requires.present.scheduled (c.is_due.result || (c.has_timer2_edge-reached.result || c.is_due-overflows.result)) c.view-seen.result c.view-value.result.value hso_on c.view-seen.ensures.view valued

  reset : c.resets.result ≡ resets (fired_at c.args.now (shown_units g.X.Extra.further (standing g.X.Extra.plain c.args.scheduler.now) c.args.now))
  reset = c.resets.ensures ∙ ap resets fired

  timer2_on : (c.has_timer2_edge-reached.result || (c.is_due-overflows.result || c.resets.result)) ≡ timer2_touched c.args.now (shown_units g.X.Extra.further (standing g.X.Extra.plain c.args.scheduler.now) c.args.now)
  timer2_on = ticked.timer2_known g.X.Extra.further g.X.Extra.agrees (record { rests = g.met.X.Extra.rests; rests_out = g.met.X.Extra.rests_out; rest_keeps = g.met.X.Extra.rest_keeps; keeps = g.met.X.Extra.keeps; start_keeps = g.met.X.Extra.start_keeps }) (standing g.X.Extra.plain c.args.scheduler.now) c.args.now c.requires.present.scheduled c.has_timer2_edge-reached.result c.is_due-overflows.result c.resets.result reached c.is_due-overflows.ensures reset

  controlled : c.control-after.result ≡ control_at c.args.now (shown_units g.X.Extra.further (standing g.X.Extra.plain c.args.scheduler.now) c.args.now)
  controlled = c.control-after.ensures ∙ ap (control_of c.args.scheduler.now.board_registers) level

  given : c.timer2_inputs-given.result ≡ timer2_inputs_at c.args.now (shown_units g.X.Extra.further (standing g.X.Extra.plain c.args.scheduler.now) c.args.now)
  given =
      c.timer2_inputs-given.ensures
      ∙ (λ i. timer2_inputs (controlled i) (c.requires.inputs i).edges (c.requires.inputs i).rise (fired i))

  hsi_on : (c.has_hsi_edge.result || c.is_due-2.result) ≡ hsi_touched c.args.now (shown_units g.X.Extra.further (standing g.X.Extra.plain c.args.scheduler.now) c.args.now)
  hsi_on = ticked.hsi_known g.X.Extra.further g.X.Extra.agrees (record { rests = g.met.X.Extra.rests; rests_out = g.met.X.Extra.rests_out; rest_keeps = g.met.X.Extra.rest_keeps; keeps = g.met.X.Extra.keeps; start_keeps = g.met.X.Extra.start_keeps }) (standing g.X.Extra.plain c.args.scheduler.now) c.args.now c.requires.present.scheduled c.has_hsi_edge.result c.is_due-2.result (c.has_hsi_edge.ensures ∙ ap has_hsi_edge edge) c.is_due-2.ensures

  pins : c.hsi_edges.result ≡ hsi_edges_at c.args.now (shown_units g.X.Extra.further (standing g.X.Extra.plain c.args.scheduler.now) c.args.now)
  pins = c.hsi_edges.ensures ∙ (λ i. hsi_edges c.args.scheduler.now.board_registers (c.requires.inputs i).rise (c.requires.inputs i).fall)

  started : c.starts-starts.result ≡ starts (fired_at c.args.now (shown_units g.X.Extra.further (standing g.X.Extra.plain c.args.scheduler.now) c.args.now))
  started = c.starts-starts.ensures ∙ ap starts fired

  further_on : (not (c.args.inputs.edges == 0) || (c.is_due-3.result || c.starts-starts.result)) ≡ further_touched g.X.Extra.further c.args.now (shown_units g.X.Extra.further (standing g.X.Extra.plain c.args.scheduler.now) c.args.now)
  further_on = ticked.further_known g.X.Extra.further g.X.Extra.agrees (record { rests = g.met.X.Extra.rests; rests_out = g.met.X.Extra.rests_out; rest_keeps = g.met.X.Extra.rest_keeps; keeps = g.met.X.Extra.keeps; start_keeps = g.met.X.Extra.start_keeps }) (standing g.X.Extra.plain c.args.scheduler.now) c.args.now c.requires.present.scheduled c.args.inputs.edges c.is_due-3.result c.starts-starts.result edge c.is_due-3.ensures started

  flag_on : c.is_due-flag.result ≡ flag_touched (standing g.X.Extra.plain c.args.scheduler.now) c.args.now
  flag_on = ticked.flag_known g.X.Extra.further g.X.Extra.agrees (record { rests = g.met.X.Extra.rests; rests_out = g.met.X.Extra.rests_out; rest_keeps = g.met.X.Extra.rest_keeps; keeps = g.met.X.Extra.keeps; start_keeps = g.met.X.Extra.start_keeps }) (standing g.X.Extra.plain c.args.scheduler.now) c.args.now c.requires.present.scheduled c.is_due-flag.result c.is_due-flag.ensures

pub returns-clause-scheduler : goal.returns-clause-scheduler
returns-clause-scheduler g c =
    let hso =
    c.tick_hso-fired.ensures.deferred
    ∙ ticked.hso_deferred g.X.Extra.further g.X.Extra.agrees (record { rests = g.met.X.Extra.rests; rests_out = g.met.X.Extra.rests_out; rest_keeps = g.met.X.Extra.rest_keeps; keeps = g.met.X.Extra.keeps; start_keeps = g.met.X.Extra.start_keeps }) (standing g.X.Extra.plain c.args.scheduler.now) c.args.now c.requires.present.scheduled (c.is_due.result || (c.has_timer2_edge-reached.result || c.is_due-overflows.result)) c.view-seen.result c.view-value.result.value (hso_on g c) c.view-seen.ensures.view (valued g c) in
    let timer2 =
    c.tick_timer2-counted.ensures.deferred
    ∙ ticked.timer2_deferred g.X.Extra.further g.X.Extra.agrees (record { rests = g.met.X.Extra.rests; rests_out = g.met.X.Extra.rests_out; rest_keeps = g.met.X.Extra.rest_keeps; keeps = g.met.X.Extra.keeps; start_keeps = g.met.X.Extra.start_keeps }) (standing g.X.Extra.plain c.args.scheduler.now) c.args.now c.requires.present.scheduled (c.has_timer2_edge-reached.result || (c.is_due-overflows.result || c.resets.result)) c.control-before.result c.control-after.result c.timer2_inputs-given.result
    (timer2_on g c) c.control-before.ensures (controlled g c) (given g c) in
    let hsi = c.tick_hsi-queued.ensures.deferred ∙ ticked.hsi_deferred g.X.Extra.further g.X.Extra.agrees (record { rests = g.met.X.Extra.rests; rests_out = g.met.X.Extra.rests_out; rest_keeps = g.met.X.Extra.rest_keeps; keeps = g.met.X.Extra.keeps; start_keeps = g.met.X.Extra.start_keeps }) (standing g.X.Extra.plain c.args.scheduler.now) c.args.now c.requires.present.scheduled (c.has_hsi_edge.result || c.is_due-2.result) c.hsi_edges.result (hsi_on g c) (pins g c) in
    let further =
    c.tick_further-others.ensures.deferred
    ∙ ticked.further_deferred g.X.Extra.further g.X.Extra.agrees (record { rests = g.met.X.Extra.rests; rests_out = g.met.X.Extra.rests_out; rest_keeps = g.met.X.Extra.rest_keeps; keeps = g.met.X.Extra.keeps; start_keeps = g.met.X.Extra.start_keeps }) (standing g.X.Extra.plain c.args.scheduler.now) c.args.now c.requires.present.scheduled (not (c.args.inputs.edges == 0) || (c.is_due-3.result || c.starts-starts.result)) c.starts-starts.result c.args.inputs.levels c.args.inputs.edges
    (further_on g c) (started g c) (level g c) (edge g c) in
    let flag = c.tick_flag.ensures ∙ ticked.flag_deferred g.X.Extra.further g.X.Extra.agrees (record { rests = g.met.X.Extra.rests; rests_out = g.met.X.Extra.rests_out; rest_keeps = g.met.X.Extra.rest_keeps; keeps = g.met.X.Extra.keeps; start_keeps = g.met.X.Extra.start_keeps }) (standing g.X.Extra.plain c.args.scheduler.now) c.args.now c.requires.present.scheduled c.is_due-flag.result (flag_on g c) in
    λ i. record {
      drives = c.args.scheduler.now.stimuli;
      board_registers = c.args.scheduler.now.board_registers;
      due = c.args.scheduler.now.due;
      flag = flag i;
      timer2 = timer2 i;
      hso = hso i;
      hsi = hsi i;
      further = further i;
    }

pub returns-clause-given : goal.returns-clause-given
returns-clause-given g c =
    let counted =
    c.tick_timer2-counted.ensures.out
    ∙ ticked.timer2_out g.X.Extra.further g.X.Extra.agrees (record { rests = g.met.X.Extra.rests; rests_out = g.met.X.Extra.rests_out; rest_keeps = g.met.X.Extra.rest_keeps; keeps = g.met.X.Extra.keeps; start_keeps = g.met.X.Extra.start_keeps }) (standing g.X.Extra.plain c.args.scheduler.now) c.args.now c.requires.present.scheduled (c.has_timer2_edge-reached.result || (c.is_due-overflows.result || c.resets.result)) c.control-before.result c.control-after.result c.timer2_inputs-given.result
    (timer2_on g c) c.control-before.ensures (controlled g c) (given g c) in
    let queued = c.tick_hsi-queued.ensures.out ∙ ticked.hsi_out g.X.Extra.further g.X.Extra.agrees (record { rests = g.met.X.Extra.rests; rests_out = g.met.X.Extra.rests_out; rest_keeps = g.met.X.Extra.rest_keeps; keeps = g.met.X.Extra.keeps; start_keeps = g.met.X.Extra.start_keeps }) (standing g.X.Extra.plain c.args.scheduler.now) c.args.now c.requires.present.scheduled (c.has_hsi_edge.result || c.is_due-2.result) c.hsi_edges.result (hsi_on g c) (pins g c) in
    let others =
    c.tick_further-others.ensures.raised
    ∙ ticked.further_raised g.X.Extra.further g.X.Extra.agrees (record { rests = g.met.X.Extra.rests; rests_out = g.met.X.Extra.rests_out; rest_keeps = g.met.X.Extra.rest_keeps; keeps = g.met.X.Extra.keeps; start_keeps = g.met.X.Extra.start_keeps }) (standing g.X.Extra.plain c.args.scheduler.now) c.args.now c.requires.present.scheduled (not (c.args.inputs.edges == 0) || (c.is_due-3.result || c.starts-starts.result)) c.starts-starts.result c.args.inputs.levels c.args.inputs.edges
    (further_on g c) (started g c) (level g c) (edge g c) in
    λ i. record {
      touched = record {
        flag = flag_on g c i;
        timer2 = timer2_on g c i;
        hso = hso_on g c i;
        hsi = hsi_on g c i;
        further = further_on g c i;
        stimuli = c.is_due-stimuli.ensures i;
      };
      fired = fired g c i;
      counted = counted i;
      queued = queued i;
      others = others i;
    }

pub returns-clause-edges : goal.returns-clause-edges
returns-clause-edges g c =
    let first =
    ticked.hso_edges g.X.Extra.further g.X.Extra.agrees (record { rests = g.met.X.Extra.rests; rests_out = g.met.X.Extra.rests_out; rest_keeps = g.met.X.Extra.rest_keeps; keeps = g.met.X.Extra.keeps; start_keeps = g.met.X.Extra.start_keeps }) (standing g.X.Extra.plain c.args.scheduler.now) c.args.now c.requires.present.scheduled (c.is_due.result || (c.has_timer2_edge-reached.result || c.is_due-overflows.result)) c.view-seen.result c.view-value.result.value (hso_on g c) c.view-seen.ensures.view (valued g c) in
    let second =
    ticked.further_edges g.X.Extra.further g.X.Extra.agrees (record { rests = g.met.X.Extra.rests; rests_out = g.met.X.Extra.rests_out; rest_keeps = g.met.X.Extra.rest_keeps; keeps = g.met.X.Extra.keeps; start_keeps = g.met.X.Extra.start_keeps }) (standing g.X.Extra.plain c.args.scheduler.now) c.args.now c.requires.present.scheduled (not (c.args.inputs.edges == 0) || (c.is_due-3.result || c.starts-starts.result)) c.starts-starts.result c.args.inputs.levels c.args.inputs.edges
    (further_on g c) (started g c) (level g c) (edge g c) in
    let led = g.O.EdgeOut.led in
    subst (λ es. Leads led c.args.out.now es c.tick_further-others.new.out) (ticked.all_edges g.X.Extra.further g.X.Extra.agrees (record { rests = g.met.X.Extra.rests; rests_out = g.met.X.Extra.rests_out; rest_keeps = g.met.X.Extra.rest_keeps; keeps = g.met.X.Extra.keeps; start_keeps = g.met.X.Extra.start_keeps }) (standing g.X.Extra.plain c.args.scheduler.now) c.args.now c.requires.present.scheduled)
    (leads_on led _ _ _ _ _
    (subst (λ es. Leads led c.args.out.now es c.tick_hso-fired.new.out) first c.tick_hso-fired.ensures.edges)
    (subst (λ es. Leads led c.tick_hso-fired.new.out es c.tick_further-others.new.out) second c.tick_further-others.ensures.edges))

pub returns-clause-costs : goal.returns-clause-costs
returns-clause-costs g c =
    let a = c.is_due.result || (c.has_timer2_edge-reached.result || c.is_due-overflows.result) in
    let b = c.has_timer2_edge-reached.result || (c.is_due-overflows.result || c.resets.result) in
    let d = c.has_hsi_edge.result || c.is_due-2.result in
    let x = not (c.args.inputs.edges == 0) || (c.is_due-3.result || c.starts-starts.result) in
    let all : (if a then 2 else 0) + (if b then 2 else 0) + (if d then 2 else 0) + (if x then 2 else 0) ≡ 2 * touched g.X.Extra.further c.args.now (shown_units g.X.Extra.further (standing g.X.Extra.plain c.args.scheduler.now) c.args.now) =
    ticked.all_calls g.X.Extra.further g.X.Extra.agrees (record { rests = g.met.X.Extra.rests; rests_out = g.met.X.Extra.rests_out; rest_keeps = g.met.X.Extra.rest_keeps; keeps = g.met.X.Extra.keeps; start_keeps = g.met.X.Extra.start_keeps }) (standing g.X.Extra.plain c.args.scheduler.now) c.args.now c.requires.present.scheduled a b d x (hso_on g c) (timer2_on g c) (hsi_on g c) (further_on g c) in
    record {
      spent = omega (arith, all, c.tick_hso-fired.ensures.costs.spent, c.tick_timer2-counted.ensures.costs.spent, c.tick_hsi-queued.ensures.costs.spent, c.tick_further-others.ensures.costs.spent);
      moves = omega (arith, all, c.tick_hso-fired.ensures.costs.moves, c.tick_timer2-counted.ensures.costs.moves, c.tick_hsi-queued.ensures.costs.moves, c.tick_further-others.ensures.costs.moves);
    }
