-- The deferred units after an event, from what was asked.
use Rattle.std.proofs.Common.{◌≡◌, ℕ, ◌+◌, ◌<◌, ◌≤◌, Bool, true, false, sym, ◌∙◌, ap, subst, arith, inl, inr}
use Rattle.std.proofs.lemmas.Bool.{cases_Bool}
use Rattle.kc_due.specs.Due.{Times, at_slot}
use Rattle.kc_stim.specs.Drives.{IsNextEdge}
use Rattle.kc_extra.specs.Further.{Further}
use Rattle.kc_span.specs.DeferredUnit.{DeferredUnit, is_due_in}
use Rattle.kc_block_spec.specs.Touch.{one_if, touched}
use Rattle.kc_block_units.specs.Scheduler.{Scheduler, shown_units, IsScheduled}
use Rattle.kc_block_units.specs.Events.{moved_deferred, ticked_scheduler, ArePast}
use Rattle.kc_block_units.proofs.Levels.{next_stays}
use Rattle.kc_block_units.proofs.Due.{slot_ahead}
use Rattle.kc_block_tick.specs.declared.asks.Touched.{Touched}
use Rattle.kc_block_tick.specs.Asking.{AreAskedWhere}
use Rattle.kc_block_tick.specs.Ticking.{touched_by}

-- a deferred unit after the Tick of a state does not stand after the next
pub not_after : {D : Type 0} (on : Bool) (now : ℕ) (d : D) (deferred : DeferredUnit D) → deferred.at ≤ now → (moved_deferred on now d deferred).at ≤ now + 1
not_after true now d deferred le = omega arith
not_after false now d deferred le = omega arith

module _ {X : Type 0} (f : Further X) (agrees : ℕ → ℕ → X → Type 0) (h : Scheduler X) (now : ℕ) (is : IsScheduled f agrees h now) where
  pub asked_count : (t : Touched) → t ≡ touched_by f h now → one_if t.timer2 + one_if t.hso + one_if t.hsi + one_if t.further ≡ touched f now (shown_units f h now)
  unfolding touched
  asked_count t same = ap (λ (x : Touched). one_if x.timer2 + one_if x.hso + one_if x.hsi + one_if x.further) same

  from_asked : (k : Scheduler X) → k ≡ record (ticked_scheduler f h now) { due = k.due } → AreAskedWhere f (touched_by f h now) (now + 1) h.due k → ArePast f h now k
  from_asked k scheduler asked = record {
    scheduler = scheduler;
    timer2 = asked.timer2;
    hso = asked.hso;
    hsi = asked.hsi;
    further = asked.further;
    flag = asked.flag;
    stimuli = elim (cases_Bool (is_due_in now (at_slot h.due 5))) [
      | inl on ↦ asked.next_edge on
      | inr off ↦
          let drives : k.drives ≡ h.drives = ap (λ l. l.drives) scheduler in
          subst (λ slot. IsNextEdge k.drives.stimuli (now + 1) slot) (sym (asked.same_edge off))
          (subst (λ d. IsNextEdge d.stimuli (now + 1) (at_slot h.due 5)) (sym drives)
          (next_stays h.drives.stimuli now (now + 1) (at_slot h.due 5) is.stimuli (omega arith) (λ u e.
          let lt : now < u = slot_ahead f agrees h now 5 is (omega arith) off u e in omega arith)))
    ];
    wires = asked.wires;
    spare = λ slot le lt. asked.spare slot le ∙ is.spare slot le lt;
  }

  pub past : (k : Scheduler X) (t : Touched) (old : Times) → t ≡ touched_by f h now → old ≡ h.due → k ≡ record (ticked_scheduler f h now) { due = k.due } →
      AreAskedWhere f t (now + 1) old k → ArePast f h now k
  past k t old same kept scheduler asked =
      from_asked k scheduler (subst (λ x. AreAskedWhere f x (now + 1) h.due k) same (subst (λ o. AreAskedWhere f t (now + 1) o k) kept asked))
