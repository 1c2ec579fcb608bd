-- A Tick in which nothing is worked lets each unit go on by itself.
use Rattle.std.proofs.Common.{◌≡◌, ℕ, ◌+◌, ◌==◌, Bool, true, false, not, ◌&&◌, ◌||◌, refl, sym, ◌∙◌, ap, Option, Some, None, List, [], ◌∷◌, ◌++◌, bit_and, bit_or}
use Rattle.std.specs.Prelude.{if◌then◌else◌}
use Rattle.std.proofs.lemmas.Bool.{false≢true, or_from, or_parts, and_parts, and_from, and_left, eqb-true, not-true, not_from_false, not_from_true}
use lib.Bits.{and_zero_l, or_zero_r}
use Rattle.kc_base.specs.Pins.{hsi0, hsi1, hsi2, hsi3, t2clk, t2rst, t2ud, t2cap}
use Rattle.kc_base.specs.Bits.{bit}
use Rattle.kc_base.specs.declared.types.Edge.{Edge}
use Rattle.kc_stim.specs.Drives.{Drives}
use Rattle.kc_timers.specs.declared.T2Control.{T2Control}
use Rattle.kc_timers.specs.declared.T2Inputs.{T2Inputs}
use Rattle.kc_timers.specs.T2 as t2
use Rattle.kc_hso.specs.declared.cam.Entry.{Entry}
use Rattle.kc_hso.specs.Cam as cam
use Rattle.kc_hso.proofs.Rest.{keep_unseen}
use Rattle.kc_hsi.specs.Input as hsi
use Rattle.kc_hsi.specs.Still.{no_edges_with}
use Rattle.kc_hsi.proofs.Still.{enabled_matter_at_edges_alone, events_none}
use Rattle.kc_extra.specs.Further.{Further, is_silent, is_empty}
use Rattle.kc_block_spec.specs.declared.board_registers.BoardRegisters.{BoardRegisters}
use Rattle.kc_block_spec.specs.Units.{Units, Ticked}
use Rattle.kc_block_spec.specs.Levels.{printed, levels_at, edges_between}
use Rattle.kc_block_spec.specs.Fired.{fired_ios1, fired_ios2, fired_request, resets, starts}
use Rattle.kc_block_spec.specs.Control.{control_of, timer2_inputs, hsi_enabled, hsi_edges}
use Rattle.kc_block_spec.specs.Tick.{passes, edges_at, rises_at, falls_at, fired_at, control_at, timer2_inputs_at, timer2_out_at, hsi_edges_at, hsi_out_at, request, raised_at, further_out_at, board_registers_at, hso_at, tick}
use Rattle.kc_block_spec.specs.Touch.{timer2_touched, hso_touched, hsi_touched, further_touched, touched, one_if}
use Rattle.kc_block_spec.specs.Laws.{rested, QuietTicksAreRests, QuietTicksKeepBoardRegisters, CalmTicksAreNotWorked, UnworkedTicksAreCalm}
use Rattle.kc_block_spec.proofs.Quiet.{same_masks, zeros, either_off, pins_still, timers_still, hsi_still, board_registers_still, edges_none, bit_none, IsStill, still, worked_from}

no_command : (o : Option Entry) (t v : ℕ) → cam.fires o t v ≡ false → cam.fired_command o t v ≡ None
no_command None t v quiet = refl
no_command (Some entry) t v quiet = rw quiet refl

pub latches_stay : (o : Option Entry) (t v : ℕ) (latches : List Bool) → cam.fires o t v ≡ false → cam.latches_after o t v latches ≡ latches
latches_stay None t v latches quiet = refl
latches_stay (Some entry) t v latches quiet = rw quiet refl

inputs_none : (control : T2Control) (edges rise : ℕ) (fired : Option ℕ) → edges ≡ 0 → rise ≡ 0 → fired ≡ None → timer2_inputs control edges rise fired ≡ t2.no_inputs
inputs_none control edges rise fired p q r = rw (p, q, r, either_off control.hsi1, either_off control.reset_hsi0) (by control.reset_on)
  where
    by : (on : Bool) → ◌≡◌ {A = T2Inputs} (record { clock = false; reset = (on && false) || false; capture = false }) t2.no_inputs
    by true = refl
    by false = refl

hsi_none : (s : BoardRegisters) (rise fall : ℕ) → rise ≡ 0 → fall ≡ 0 → hsi_edges s rise fall ≡ no_edges_with (hsi_enabled s.ioc0)
hsi_none s rise fall p q = rw (p, q) refl

-- the edges of the pins that touch Timer 2
no_pin : (edges : ℕ) → edges ≡ 0 → ((bit edges hsi0 || bit edges hsi1) || ((bit edges t2clk || bit edges t2rst) || (bit edges t2ud || bit edges t2cap))) ≡ false
no_pin edges none = rw none refl

no_hsi_pin : (edges : ℕ) → edges ≡ 0 → ((bit edges hsi0 || bit edges hsi1) || (bit edges hsi2 || bit edges hsi3)) ≡ false
no_hsi_pin edges none = rw none refl

none_touched : (a b c d : Bool) → a ≡ false → b ≡ false → c ≡ false → d ≡ false → one_if a + one_if b + one_if c + one_if d ≡ 0
none_touched a b c d p q r s = rw (p, q, r, s) refl

abbrev ticked_of : {X : Type 0} → Drives → BoardRegisters → Bool → t2.T2 → cam.Cam → hsi.Input → X → List Edge → Ticked X
ticked_of drives board_registers overflowed timer2 hso input further edges = record {
  units = record { drives = drives; board_registers = board_registers; overflowed = overflowed; timer2 = timer2; hso = hso; hsi = input; further = further };
  edges = edges;
}

same_ticked : {X : Type 0} (drives : Drives) (overflowed : Bool) {s s' : BoardRegisters} {a a' : t2.T2} {h h' : cam.Cam} {i i' : hsi.Input} {x x' : X} {e e' : List Edge} →
    s ≡ s' → a ≡ a' → h ≡ h' → i ≡ i' → x ≡ x' → e ≡ e' → ticked_of drives s overflowed a h i x e ≡ ticked_of drives s' overflowed a' h' i' x' e'
same_ticked drives overflowed p q r v w z = λ j. ticked_of drives (p j) overflowed (q j) (r j) (v j) (w j) (z j)

empty-is : (edges : List Edge) → is_empty edges ≡ true → edges ≡ []
empty-is [] e = refl
empty-is (edge ∷ edges) e = absurd (false≢true e)

-- no input has an edge, and no entry fires
module _ {X : Type 0} (t : ℕ) (u : Units X) (inputs : edges_at t u ≡ 0) (no_fire : cam.fires (cam.slot_at u.hso t) t u.timer2.value ≡ false) where
  pub level : levels_at t u ≡ u.board_registers.levels
  level = same_masks (levels_at t u) u.board_registers.levels inputs

  pub rise : rises_at t u ≡ 0
  rise = ap (λ e. bit_and e (levels_at t u)) inputs ∙ and_zero_l (levels_at t u)

  pub fall : falls_at t u ≡ 0
  fall = ap (λ e. bit_and e u.board_registers.levels) inputs ∙ and_zero_l u.board_registers.levels

  pub none_fired : fired_at t u ≡ None
  none_fired = no_command (cam.slot_at u.hso t) t u.timer2.value no_fire

  pub none_captured : (timer2_out_at t u).captured ≡ false
  none_captured = ap (λ r. bit r t2cap) rise ∙ bit_none t2cap

  pub timer2_alone : timer2_inputs_at t u ≡ t2.no_inputs
  timer2_alone = inputs_none (control_at t u) (edges_at t u) (rises_at t u) (fired_at t u) inputs rise none_fired

  pub same_overflow : (timer2_out_at t u).overflow ≡ t2.overflows (control_of u.board_registers u.board_registers.levels) t2.no_inputs t u.timer2
  same_overflow =
      ap (λ i. t2.overflows (control_at t u) i t u.timer2) timer2_alone
      ∙ ap (λ l. t2.overflows (control_of u.board_registers l) t2.no_inputs t u.timer2) level

  pub hsi_alone : hsi_edges_at t u ≡ no_edges_with (hsi_enabled u.board_registers.ioc0)
  hsi_alone = hsi_none u.board_registers (rises_at t u) (falls_at t u) rise fall

  pub same_push : hsi.is_push t (hsi.gathered_with (hsi_edges_at t u) u.hsi) ≡ hsi.is_push t u.hsi.gathered
  same_push =
      ap (λ e. hsi.is_push t (hsi.gathered_with e u.hsi)) hsi_alone
      ∙ ap (λ n. hsi.is_push t (bit_or u.hsi.gathered n)) (events_none (hsi_enabled u.board_registers.ioc0) u.hsi.mode u.hsi.counts)
      ∙ ap (hsi.is_push t) (or_zero_r u.hsi.gathered)

  pub same_out : (f : Further X) → further_out_at f t u ≡ f.out t u.board_registers.levels 0 u.further
  same_out f = ap (λ e. f.out t (levels_at t u) e u.further) inputs ∙ ap (λ l. f.out t l 0 u.further) level

module _ {X : Type 0} (f : Further X) (t : ℕ) (u : Units X) (is : IsStill f t u) where
  none_raised : raised_at t u ≡ 0
  none_raised =
      zeros _ _ (zeros _ _ (zeros _ _
      (pins_still u.board_registers (rises_at t u) (rise t u is.inputs is.no_fire))
      (timers_still u.board_registers (passes t) (timer2_out_at t u) is.no_flag is.no_pass (none_captured t u is.inputs is.no_fire)))
      (hsi_still u.board_registers (hsi_out_at t u) is.no_move (and_left _ _ is.no_push) (and_left _ _ is.no_push)))
      (ap fired_request (none_fired t u is.inputs is.no_fire))

  further_parts : ((further_out_at f t u).raised.0 == 0 ≡ true) × (is_empty (further_out_at f t u).moved ≡ true)
  further_parts = and_parts _ _ is.silent

  pub board_registers : board_registers_at f t u ≡ u.board_registers
  board_registers =
      board_registers_still u.board_registers (levels_at t u) _ _ _ (level t u is.inputs is.no_fire)
      (zeros (fired_ios1 (fired_at t u)) (request 4 (timer2_out_at t u).overflow) (ap fired_ios1 (none_fired t u is.inputs is.no_fire)) (ap (request 4) is.no_pass))
      (ap fired_ios2 (none_fired t u is.inputs is.no_fire))
      (zeros (raised_at t u) (further_out_at f t u).raised.0 none_raised (eqb-true _ _ further_parts.0))

  same_printed : printed (board_registers_at f t u) (hso_at f t u) ≡ printed u.board_registers u.hso
  same_printed =
      ap (λ s. printed s (hso_at f t u)) board_registers
      ∙ ap (λ latches. printed u.board_registers (record u.hso { latches = latches })) (latches_stay (cam.slot_at u.hso t) t u.timer2.value u.hso.latches is.no_fire)

  no_edge : edges_between (printed u.board_registers u.hso) (printed (board_registers_at f t u) (hso_at f t u)) ++ (further_out_at f t u).moved ≡ []
  no_edge =
      ap (λ m. edges_between (printed u.board_registers u.hso) m ++ (further_out_at f t u).moved) same_printed
      ∙ ap (λ es. es ++ (further_out_at f t u).moved) (edges_none (printed u.board_registers u.hso) 18)
      ∙ empty-is (further_out_at f t u).moved further_parts.1

  timer2 : t2.tick_of (control_at t u) (timer2_inputs_at t u) t u.timer2 ≡ t2.tick_of (control_of u.board_registers u.board_registers.levels) t2.no_inputs t u.timer2
  timer2 =
      ap (λ i. t2.tick_of (control_at t u) i t u.timer2) (timer2_alone t u is.inputs is.no_fire)
      ∙ ap (λ l. t2.tick_of (control_of u.board_registers l) t2.no_inputs t u.timer2) (level t u is.inputs is.no_fire)

  input : hsi.tick_of (hsi_edges_at t u) t u.hsi ≡ hsi.tick_of hsi.no_edges t u.hsi
  input =
      ap (λ e. hsi.tick_of e t u.hsi) (hsi_alone t u is.inputs is.no_fire)
      ∙ (enabled_matter_at_edges_alone (hsi_enabled u.board_registers.ioc0) t u.hsi).tick

  further : (if starts (fired_at t u) then f.started t (f.step t (levels_at t u) (edges_at t u) u.further) else f.step t (levels_at t u) (edges_at t u) u.further)
      ≡ f.step t u.board_registers.levels 0 u.further
  further =
      ap (λ c. if starts c then f.started t (f.step t (levels_at t u) (edges_at t u) u.further) else f.step t (levels_at t u) (edges_at t u) u.further)
      (none_fired t u is.inputs is.no_fire)
      ∙ ap (λ e. f.step t (levels_at t u) e u.further) is.inputs
      ∙ ap (λ l. f.step t l 0 u.further) (level t u is.inputs is.no_fire)

  pub all_rest : tick f t u ≡ record { units = rested f t u; edges = [] }
  unfolding tick
  all_rest =
      same_ticked u.drives (u.overflowed || passes t) board_registers timer2 (keep_unseen (bit u.board_registers.ioc2 6) t u.timer2.value u.hso is.no_fire) input further no_edge

  pub untouched : touched f t u ≡ 0
  unfolding touched
  untouched =
      let timer : timer2_touched t u ≡ false = or_from _ _ (no_pin (edges_at t u) is.inputs) (or_from _ _ is.no_pass (ap resets (none_fired t u is.inputs is.no_fire))) in
      let hso : hso_touched t u ≡ false = or_from _ _ (or_from _ _ is.no_fire is.no_load) timer in
      let input : hsi_touched t u ≡ false = or_from _ _ (no_hsi_pin (edges_at t u) is.inputs) (or_from _ _ is.no_push is.no_move) in
      let extra : further_touched f t u ≡ false =
      or_from _ _ (ap (λ e. not (e == 0)) is.inputs) (or_from _ _ (not_from_true _ is.silent) (ap starts (none_fired t u is.inputs is.no_fire))) in
      none_touched _ _ _ _ timer hso input extra

pub quiet_ticks_are_rests : {X : Type 0} → QuietTicksAreRests X
quiet_ticks_are_rests f t u none = record { same = all_rest f t u (still f t u none); untouched = untouched f t u (still f t u none) }

pub quiet_ticks_keep_board_registers : {X : Type 0} → QuietTicksKeepBoardRegisters X
quiet_ticks_keep_board_registers f t u none = ap (λ ticked. ticked.units.board_registers) (all_rest f t u (still f t u none))

pub calm_ticks_are_not_worked : {X : Type 0} → CalmTicksAreNotWorked X
calm_ticks_are_not_worked f t u calm =
    let hso = or_parts (cam.fires (cam.slot_at u.hso t) t u.timer2.value) (cam.loads u.hso t) (not-true _ calm.hso) in
    let hsi = and_parts (not (hsi.is_push t u.hsi.gathered)) (not (hsi.is_move t u.hsi)) calm.hsi in
    worked_from f t u (record {
      inputs = calm.inputs;
      no_fire = hso.0;
      no_load = hso.1;
      no_pass = same_overflow t u calm.inputs hso.0 ∙ not-true _ calm.timer2;
      no_push = same_push t u calm.inputs hso.0 ∙ not-true _ hsi.0;
      no_move = not-true _ hsi.1;
      silent = ap is_silent (same_out t u calm.inputs hso.0 f) ∙ calm.further;
      no_flag = not-true _ calm.flag;
    })

pub unworked_ticks_are_calm : {X : Type 0} → UnworkedTicksAreCalm X
unworked_ticks_are_calm f t u none =
    let is = still f t u none in
    record {
      inputs = is.inputs;
      flag = not_from_false _ is.no_flag;
      timer2 = not_from_false _ (sym (same_overflow t u is.inputs is.no_fire) ∙ is.no_pass);
      hso = not_from_false _ (or_from _ _ is.no_fire is.no_load);
      hsi = and_from _ _ (not_from_false _ (sym (same_push t u is.inputs is.no_fire) ∙ is.no_push)) (not_from_false _ is.no_move);
      further = ap is_silent (sym (same_out t u is.inputs is.no_fire f)) ∙ is.silent;
    }
