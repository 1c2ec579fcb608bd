-- The due state of an entry of HSO, by a view of Timer 2 and slots that are those of the units.
use Rattle.std.specs.Prelude.{slice_index_or}
use Rattle.std.proofs.Common.{◌≡◌, ℕ, false, Option, None, ◌∙◌, ap, subst}
use Rattle.kc_timers.specs.declared.T2View.{T2View}
use Rattle.kc_hso.specs.Cam.{Cam}
use Rattle.kc_hso.specs.Visits.{IsSlotDue, due_of_slot}
use Rattle.kc_block_spec.specs.Units.{Units}
use Rattle.kc_block_sfr.specs.Holding.{IsEntryDue, entry_due, timer2_view}

module _ {X : Type 0} (u : Units X) (now slot : ℕ) (view : T2View) (d : Cam) (due : Option ℕ) (seen : view ≡ timer2_view u) (there : d ≡ u.hso) where
  pub due_in : IsSlotDue view now slot (slice_index_or d.slots slot None) false due → IsEntryDue u now slot due
  due_in is =
      subst (λ (c : Cam). IsSlotDue (timer2_view u) now slot (slice_index_or c.slots slot None) false due) there
      (subst (λ v. IsSlotDue v now slot (slice_index_or d.slots slot None) false due) seen is)

  pub found_in : due ≡ due_of_slot view now slot (slice_index_or d.slots slot None) → due ≡ entry_due u now slot
  found_in is =
      is ∙ ap (λ v. due_of_slot v now slot (slice_index_or d.slots slot None)) seen
      ∙ ap (λ (c : Cam). due_of_slot (timer2_view u) now slot (slice_index_or c.slots slot None)) there
