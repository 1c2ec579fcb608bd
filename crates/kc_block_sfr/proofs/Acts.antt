-- A unit is caught up to the present state, changed, and rescheduled.
use Rattle.std.proofs.Common.{◌≡◌, ℕ, ◌<◌, false, refl, sym, ◌∙◌, ap, subst, arith}
use Rattle.kc_base.specs.Bits.{bit}
use Rattle.kc_span.specs.Span.{IsDue, Counted}
use Rattle.kc_due.specs.Due.{at_slot}
use Rattle.kc_timers.specs.T2.{T2}
use Rattle.kc_hso.specs.Cam.{Cam}
use Rattle.kc_hsi.specs.Input.{Input, hsi_rule}
use Rattle.kc_extra.specs.Further.{Further}
use Rattle.kc_span.specs.DeferredUnit.{shown, deferred_at, caught_up_to}
use Rattle.kc_block_spec.specs.declared.board_registers.BoardRegisters.{BoardRegisters}
use Rattle.kc_block_spec.specs.Units.{Units}
use Rattle.kc_block_spec.specs.Laws.{flag_rule}
use Rattle.kc_block_units.specs.Scheduler as scheduled
use Rattle.kc_block_units.specs.Scheduler.{flag_goes, timer2_goes, hso_goes, further_goes, shown_units, levels_ahead, wire_slot, IsFurther, IsScheduled, IsLeft}
use Rattle.kc_block_units.specs.declared.scheduler.Scheduler.{Scheduler}
use Rattle.kc_block_units.specs.Standing.{standing}
use Rattle.kc_block_sfr.specs.Left.{AreSameBut, AreSameButTwo, AreGatedAlike}
use Rattle.kc_block_sfr.proofs.Left.{unread_left, flag_left, hsi_left, further_left, hso_left, timers_left, gate_left}

module _ {X : Type 0} (f : Further X) (agrees : ℕ → ℕ → X → Type 0) (plain : X → X) where
  -- the deferred units as they stand, and what they show
  abbrev h : Scheduler X → scheduled.Scheduler X
  h a = standing plain a

  abbrev units : Scheduler X → ℕ → Units X
  units a now = shown_units f (standing plain a) now

  -- deferred units of the present state that show the same as others
  pub record IsCaughtUp (a b : Scheduler X) (now : ℕ) : Type 0 where
    pub scheduled : IsScheduled f agrees (standing plain b) now
    pub shows : shown_units f (standing plain b) now ≡ shown_units f (standing plain a) now

  pub hsi_act : (a b c : Scheduler X) (now : ℕ) (g : Input → Input) (unit : Counted Input) → IsCaughtUp a b now →
      h b ≡ record (h a) { hsi = caught_up_to hsi_rule now (h a).hsi } → unit.inner ≡ g b.hsi.unit.inner →
      c ≡ record b { hsi = record b.hsi { unit = unit }; due = c.due } → AreSameBut 2 b.due c.due →
      IsDue hsi_rule now (h c).hsi.kept (at_slot c.due 2) →
      IsLeft f agrees now (h c) (record (units a now) { hsi = g (units a now).hsi })
  hsi_act a b c now g unit is caught_up set rest others due =
      let there : b.hsi.at ≡ now = ap (λ l. l.hsi.at) caught_up in
      let kept : b.hsi.unit.inner ≡ (units a now).hsi = ap (λ l. l.hsi.kept) caught_up in
      let d : Input = g b.hsi.unit.inner in
      let asked : IsDue hsi_rule now d (at_slot c.due 2) = subst (λ i. IsDue hsi_rule now i (at_slot c.due 2)) (ap (λ l. l.hsi.unit.inner) rest ∙ set) due in
      let left = hsi_left f agrees (h b) now d c.due is.scheduled others asked in
      let stands : h c ≡ record (h b) { hsi = deferred_at now d; due = c.due } =
      ap h rest ∙ (λ j. record (h b) { hsi = deferred_at (there j) (set j); due = c.due }) in
      subst (λ l. IsLeft f agrees now l (record (units a now) { hsi = g (units a now).hsi })) (sym stands)
      (subst (IsLeft f agrees now (record (h b) { hsi = deferred_at now d; due = c.due })) (λ j. record (is.shows j) { hsi = g (kept j) }) left)

  pub further_act : IsFurther f agrees → (a b c : Scheduler X) (now : ℕ) (g : X → X) (unit : X) → IsCaughtUp a b now →
      h b ≡ record (h a) { further = caught_up_to (further_goes f) now (h a).further } → plain unit ≡ g (plain b.further.unit) →
      c ≡ record b { further = record b.further { unit = unit }; due = c.due } → AreSameBut 3 b.due c.due →
      IsDue (further_goes f) now (h c).further.kept (at_slot c.due 3) →
      ((l e : ℕ) (d : X) → agrees l e d → agrees l e (g d)) →
      IsLeft f agrees now (h c) (record (units a now) { further = g (units a now).further })
  further_act keeps a b c now g unit is caught_up set rest others due kept_levels =
      let there : b.further.at ≡ now = ap (λ l. l.further.at) caught_up in
      let kept : plain b.further.unit ≡ (units a now).further = ap (λ l. l.further.kept) caught_up in
      let d : X = g (plain b.further.unit) in
      let asked : IsDue (further_goes f) now d (at_slot c.due 3) =
      subst (λ i. IsDue (further_goes f) now i (at_slot c.due 3)) (ap (λ l. plain l.further.unit) rest ∙ set) due in
      let still : (units b now).further ≡ plain b.further.unit = ap (λ u. u.further) is.shows ∙ sym kept in
      let left = further_left f agrees keeps (h b) now d c.due is.scheduled others asked
      (λ l e agreed. kept_levels l e (plain b.further.unit) (subst (agrees l e) still agreed)) in
      let stands : h c ≡ record (h b) { further = deferred_at now d; due = c.due } =
      ap h rest ∙ (λ j. record (h b) { further = deferred_at (there j) (set j); due = c.due }) in
      subst (λ l. IsLeft f agrees now l (record (units a now) { further = g (units a now).further })) (sym stands)
      (subst (IsLeft f agrees now (record (h b) { further = deferred_at now d; due = c.due })) (λ j. record (is.shows j) { further = g (kept j) }) left)

  pub hso_act : (a b c : Scheduler X) (now : ℕ) (g : Cam → Cam) (unit : Counted Cam) → IsCaughtUp a b now →
      h b ≡ record (h a) { hso = caught_up_to (hso_goes (h a)) now (h a).hso } → unit.inner ≡ g b.hso.unit.inner → ((d : Cam) → (g d).latches ≡ d.latches) →
      c ≡ record b { hso = record b.hso { unit = unit }; due = c.due } → AreSameBut 1 b.due c.due →
      IsDue (hso_goes (h c)) now (h c).hso.kept (at_slot c.due 1) →
      IsLeft f agrees now (h c) (record (units a now) { hso = g (units a now).hso })
  hso_act a b c now g unit is caught_up set same_latches rest others due =
      let there : b.hso.at ≡ now = ap (λ l. l.hso.at) caught_up in
      let kept : b.hso.unit.inner ≡ (units a now).hso = ap (λ l. l.hso.kept) caught_up in
      let d : Cam = g b.hso.unit.inner in
      let stands : h c ≡ record (h b) { hso = deferred_at now d; due = c.due } =
      ap h rest ∙ (λ j. record (h b) { hso = deferred_at (there j) (set j); due = c.due }) in
      let asked : IsDue (hso_goes (h b)) now d (at_slot c.due 1) = subst (λ l. IsDue (hso_goes l) now l.hso.kept (at_slot c.due 1)) stands due in
      let still : (units b now).hso ≡ b.hso.unit.inner = ap (λ u. u.hso) is.shows ∙ sym kept in
      let left = hso_left f agrees (h b) now d c.due is.scheduled others asked (same_latches b.hso.unit.inner ∙ ap (λ e. e.latches) (sym still)) in
      subst (λ l. IsLeft f agrees now l (record (units a now) { hso = g (units a now).hso })) (sym stands)
      (subst (IsLeft f agrees now (record (h b) { hso = deferred_at now d; due = c.due })) (λ j. record (is.shows j) { hso = g (kept j) }) left)

  pub timers_act : (a b c : Scheduler X) (now : ℕ) (z : BoardRegisters → BoardRegisters) (g : T2 → T2) (k : Cam → Cam) (s : BoardRegisters) (timer : Counted T2) (unit : Counted Cam) → IsCaughtUp a b now →
      h b ≡ record (h a) {
        timer2 = caught_up_to (timer2_goes (h a)) now (h a).timer2;
        hso = caught_up_to (hso_goes (h a)) now (h a).hso;
      } →
      ((s : BoardRegisters) → AreGatedAlike s (z s)) → s ≡ z b.board_registers → timer.inner ≡ g b.timer2.unit.inner → (g b.timer2.unit.inner).value < 65536 →
      unit.inner ≡ k b.hso.unit.inner → ((d : Cam) → (k d).latches ≡ d.latches) →
      c ≡ record b { board_registers = s; timer2 = record b.timer2 { unit = timer }; hso = record b.hso { unit = unit }; due = c.due } →
      AreSameButTwo 0 1 b.due c.due →
      IsDue (timer2_goes (h c)) now (h c).timer2.kept (at_slot c.due 0) → IsDue (hso_goes (h c)) now (h c).hso.kept (at_slot c.due 1) →
      IsLeft f agrees now (h c) (record (units a now) { board_registers = z (units a now).board_registers; timer2 = g (units a now).timer2; hso = k (units a now).hso })
  timers_act a b c now z g k s timer unit is caught_up gated set_board_registers set_timer fits set same_latches rest others due_timer2 due_hso =
      let timer2_there : b.timer2.at ≡ now = ap (λ l. l.timer2.at) caught_up in
      let hso_there : b.hso.at ≡ now = ap (λ l. l.hso.at) caught_up in
      let timer2_kept : b.timer2.unit.inner ≡ (units a now).timer2 = ap (λ l. l.timer2.kept) caught_up in
      let hso_kept : b.hso.unit.inner ≡ (units a now).hso = ap (λ l. l.hso.kept) caught_up in
      let d : T2 = g b.timer2.unit.inner in
      let e : Cam = k b.hso.unit.inner in
      let new : scheduled.Scheduler X = record (h b) { board_registers = z b.board_registers; timer2 = deferred_at now d; hso = deferred_at now e; due = c.due } in
      let stands : h c ≡ new =
      ap h rest ∙ (λ j. record (h b) { board_registers = set_board_registers j; timer2 = deferred_at (timer2_there j) (set_timer j); hso = deferred_at (hso_there j) (set j); due = c.due }) in
      let asked_timer2 : IsDue (timer2_goes new) now d (at_slot c.due 0) = subst (λ l. IsDue (timer2_goes l) now l.timer2.kept (at_slot c.due 0)) stands due_timer2 in
      let asked_hso : IsDue (hso_goes new) now e (at_slot c.due 1) = subst (λ l. IsDue (hso_goes l) now l.hso.kept (at_slot c.due 1)) stands due_hso in
      let still : (units b now).hso ≡ b.hso.unit.inner = ap (λ u. u.hso) is.shows ∙ sym hso_kept in
      let left = timers_left f agrees (h b) now (z b.board_registers) d e c.due is.scheduled others (gated b.board_registers) fits
      (same_latches b.hso.unit.inner ∙ ap (λ i. i.latches) (sym still)) asked_timer2 asked_hso in
      subst (λ l. IsLeft f agrees now l (record (units a now) { board_registers = z (units a now).board_registers; timer2 = g (units a now).timer2; hso = k (units a now).hso })) (sym stands)
      (subst (IsLeft f agrees now new)
      (λ j. record (is.shows j) { board_registers = z ((is.shows j).board_registers); timer2 = g (timer2_kept j); hso = k (hso_kept j) }) left)

  pub flag_act : (a b c : Scheduler X) (now : ℕ) → IsCaughtUp a b now →
      h b ≡ record (h a) { flag = caught_up_to (flag_goes (h a)) now (h a).flag } →
      c ≡ record b { board_registers = record b.board_registers { ios1 = 0 }; flag = record b.flag { unit = false }; due = c.due } → AreSameBut 4 b.due c.due →
      IsDue (flag_goes (h c)) now (h c).flag.kept (at_slot c.due 4) →
      IsLeft f agrees now (h c) (record (units a now) { board_registers = record (units a now).board_registers { ios1 = 0 }; overflowed = false })
  flag_act a b c now is caught_up rest others due =
      let there : b.flag.at ≡ now = ap (λ l. l.flag.at) caught_up in
      let new : scheduled.Scheduler X = record (h b) { board_registers = record b.board_registers { ios1 = 0 }; flag = deferred_at now false; due = c.due } in
      let stands : h c ≡ new = ap h rest ∙ (λ j. record (h b) { board_registers = record b.board_registers { ios1 = 0 }; flag = deferred_at (there j) false; due = c.due }) in
      let asked : IsDue (flag_goes (h b)) now false (at_slot c.due 4) = subst (λ l. IsDue (flag_goes l) now l.flag.kept (at_slot c.due 4)) stands due in
      let flag = flag_left f agrees (h b) now false c.due is.scheduled others asked in
      let left = unread_left f agrees (record (h b) { flag = deferred_at now false; due = c.due }) now (record b.board_registers { ios1 = 0 }) flag.scheduled refl in
      subst (λ l. IsLeft f agrees now l (record (units a now) { board_registers = record (units a now).board_registers { ios1 = 0 }; overflowed = false })) (sym stands)
      (subst (IsLeft f agrees now new)
      (ap (λ (u : Units X). record u { board_registers = record b.board_registers { ios1 = 0 } }) flag.shows
      ∙ (λ j. record (is.shows j) { board_registers = record (is.shows j).board_registers { ios1 = 0 }; overflowed = false })) left)

  pub gate_act : (a b c d : Scheduler X) (now ioc1 : ℕ) (s : BoardRegisters) → IsCaughtUp a b now →
      h b ≡ record (h a) { flag = caught_up_to (flag_goes (h a)) now (h a).flag } →
      s ≡ record b.board_registers { ioc1 = ioc1 } → c ≡ record b { board_registers = s; due = c.due } → AreSameBut 4 b.due c.due →
      IsDue (flag_goes (h c)) now (h c).flag.kept (at_slot c.due 4) →
      d ≡ record c { due = d.due } → AreSameBut 6 c.due d.due →
      at_slot d.due 6 ≡ wire_slot now (levels_ahead (h d) now) d.board_registers.levels →
      IsLeft f agrees now (h d) (record (units a now) { board_registers = record (units a now).board_registers { ioc1 = ioc1 } })
  gate_act a b c d now ioc1 s is caught_up set_board_registers rest others due rest_wires others_wires wires =
      let there : b.flag.at ≡ now = ap (λ l. l.flag.at) caught_up in
      let kept : b.flag.unit ≡ shown (flag_goes (h b)) (h b).flag now =
      ap (λ l. l.flag.kept) caught_up ∙ sym (ap (λ u. u.overflowed) is.shows) in
      let gated : BoardRegisters = record b.board_registers { ioc1 = ioc1 } in
      let stands_c : h c ≡ record (h b) { board_registers = gated; flag = deferred_at now (shown (flag_goes (h b)) (h b).flag now); due = c.due } =
      ap h rest ∙ (λ j. record (h b) { board_registers = set_board_registers j; flag = deferred_at (there j) (kept j); due = c.due }) in
      let new : scheduled.Scheduler X = record (h b) { board_registers = gated; flag = deferred_at now (shown (flag_goes (h b)) (h b).flag now); due = d.due } in
      let stands : h d ≡ new = ap h rest_wires ∙ ap (λ (l : scheduled.Scheduler X). record l { due = d.due }) stands_c in
      let asked_c : IsDue (flag_rule (bit ioc1 2)) now (shown (flag_goes (h b)) (h b).flag now) (at_slot c.due 4) =
      subst (λ l. IsDue (flag_goes l) now l.flag.kept (at_slot c.due 4)) stands_c due in
      let asked : IsDue (flag_rule (bit ioc1 2)) now (shown (flag_goes (h b)) (h b).flag now) (at_slot d.due 4) =
      subst (IsDue (flag_rule (bit ioc1 2)) now (shown (flag_goes (h b)) (h b).flag now)) (sym (others_wires 4 (λ e. omega arith))) asked_c in
      let wired : at_slot d.due 6 ≡ wire_slot now (levels_ahead new now) b.board_registers.levels =
      wires ∙ ap (λ l. wire_slot now (levels_ahead l now) l.board_registers.levels) stands in
      let left = gate_left f agrees (h b) now ioc1 d.due is.scheduled (λ k first second. others_wires k second ∙ others k first) asked wired in
      subst (λ l. IsLeft f agrees now l (record (units a now) { board_registers = record (units a now).board_registers { ioc1 = ioc1 } })) (sym stands)
      (subst (IsLeft f agrees now new) (λ j. record (is.shows j) { board_registers = record (is.shows j).board_registers { ioc1 = ioc1 } }) left)
