-- A load leaves all but the holding register, and so HSO does the same up to where an empty slot takes it.
use Rattle.std.proofs.Common.{◌≡◌, ℕ, zero, suc, ◌+◌, ◌-◌, ◌%◌, ◌<◌, ◌≤◌, true, false, refl, sym, ◌∙◌, ap, subst, arith, Option, Some, None, List, [], ◌∷◌, map, length}
use Rattle.std.specs.Prelude.{slice_index_or, is_none, is_some}
use Rattle.kc_span.specs.Span.{after, QuietFor, IsDue, least_of}
use Rattle.kc_span.proofs.SpanLaws.{after-zero, after-suc, least_holds}
use Rattle.kc_timers.specs.declared.T2View.{T2View}
use Rattle.kc_timers.specs.T2.{value_at}
use Rattle.kc_hso.specs.declared.cam.Entry.{Entry}
use Rattle.kc_hso.specs.declared.cam.Held.{Held}
use Rattle.kc_hso.specs.Cam.{Cam, cam_rule, hso_rule, slot_at}
use Rattle.kc_hso.specs.Kept.{command_of}
use Rattle.kc_hso.specs.Loading.{IsFirstEmpty, LoadsAreDue}
use Rattle.kc_hso.specs.Visits.{IsDueOutside}
use Rattle.kc_hso.proofs.DueTimes.{hso_due}
use Rattle.kc_hso.proofs.Kept.{quiet_keeps}

-- a slot is empty where it has no command
empty_command : (slots : List (Option Entry)) (i : ℕ) → is_none (slice_index_or slots i None) ≡ is_none (slice_index_or (map command_of slots) i None)
empty_command [] i = refl
empty_command (None ∷ slots) zero = refl
empty_command (Some entry ∷ slots) zero = refl
empty_command (o ∷ slots) (suc i) = empty_command slots i

module _ (line : ℕ → ℕ) (held : Held) where
  -- with the holding register loaded
  abbrev with_held : Cam → Cam
  with_held d = record d { holding = Some held }

  -- a state that looks at an entry does the same
  step-held : (t : ℕ) (d : Cam) (o : Option Entry) → slot_at d t ≡ o → is_none o ≡ false → (cam_rule line).step t (with_held d) ≡ with_held ((cam_rule line).step t d)
  step-held t d None e full = absurd (cc full)
  step-held t d (Some entry) e full = rw e refl

  quiet-held : (t : ℕ) (d : Cam) (o : Option Entry) → slot_at d t ≡ o → is_none o ≡ false → (cam_rule line).quiet t (with_held d) ≡ (cam_rule line).quiet t d
  quiet-held t d None e full = absurd (cc full)
  quiet-held t d (Some entry) e full = rw e refl

  -- and one that looks at an empty slot loads it
  active-held : (t : ℕ) (d : Cam) (o : Option Entry) → slot_at d t ≡ o → is_none o ≡ true → (cam_rule line).quiet t (with_held d) ≡ false
  active-held t d None e empty = rw e refl
  active-held t d (Some entry) e empty = absurd (cc empty)

  module _ (from : ℕ) (d : Cam) where
    -- quiet states leave slots empty or not
    empty-stays : (n t : ℕ) → QuietFor (cam_rule line) from n d → is_none (slot_at (after (cam_rule line) from n d) t) ≡ is_none (slot_at d t)
    empty-stays n t quiet =
        empty_command (after (cam_rule line) from n d).slots (t % 8)
        ∙ ap (λ commands. is_none (slice_index_or commands (t % 8) None)) (quiet_keeps line from n d quiet).commands
        ∙ sym (empty_command d.slots (t % 8))

    after-held : (n : ℕ) → QuietFor (cam_rule line) from n d → ((k : ℕ) → k < n → is_none (slot_at d (from + k)) ≡ false) →
        after (cam_rule line) from n (with_held d) ≡ with_held (after (cam_rule line) from n d)
    after-held zero quiet full = rw (after-zero (cam_rule line) from (with_held d), after-zero (cam_rule line) from d) refl
    after-held (suc n) quiet full =
        let before : QuietFor (cam_rule line) from n d = λ k lt. quiet k (omega arith) in
        after-suc (cam_rule line) from n (with_held d)
        ∙ ap ((cam_rule line).step (from + n)) (after-held n before (λ k lt. full k (omega arith)))
        ∙ step-held (from + n) (after (cam_rule line) from n d) (slot_at (after (cam_rule line) from n d) (from + n)) refl
        (empty-stays n (from + n) before ∙ full n (omega arith))
        ∙ ap with_held (sym (after-suc (cam_rule line) from n d))

    quiet-there : (n : ℕ) → QuietFor (cam_rule line) from n d → ((k : ℕ) → k < n + 1 → is_none (slot_at d (from + k)) ≡ false) →
        (cam_rule line).quiet (from + n) (after (cam_rule line) from n (with_held d)) ≡ (cam_rule line).quiet (from + n) (after (cam_rule line) from n d)
    quiet-there n quiet full =
        ap ((cam_rule line).quiet (from + n)) (after-held n quiet (λ k lt. full k (omega arith)))
        ∙ quiet-held (from + n) (after (cam_rule line) from n d) (slot_at (after (cam_rule line) from n d) (from + n)) refl
        (empty-stays n (from + n) quiet ∙ full n (omega arith))

    quiet-for : (n : ℕ) → QuietFor (cam_rule line) from n d → ((k : ℕ) → k < n → is_none (slot_at d (from + k)) ≡ false) →
        QuietFor (cam_rule line) from n (with_held d)
    quiet-for n quiet full = λ k lt.
        quiet-there k (λ j below. quiet j (omega arith)) (λ j below. full j (omega arith)) ∙ quiet k lt

    -- due as before where no slot is empty up to there
    still-due : (u : ℕ) → IsDue (cam_rule line) from d (Some u) → ((t : ℕ) → from ≤ t → t < u + 1 → is_none (slot_at d t) ≡ false) →
        IsDue (cam_rule line) from (with_held d) (Some u)
    still-due u due full =
        let e : from + (u - from) ≡ u = omega (arith, due.later) in
        record {
          later = due.later;
          before = quiet-for (u - from) due.before (λ k lt. full (from + k) (omega arith) (omega arith));
          active =
              subst (λ t. (cam_rule line).quiet t (after (cam_rule line) from (u - from) (with_held d)) ≡ (cam_rule line).quiet t (after (cam_rule line) from (u - from) d)) e
              (quiet-there (u - from) due.before (λ k lt. full (from + k) (omega arith) (omega (arith, due.later))))
              ∙ due.active;
        }

    -- due where an empty slot takes what is held
    takes-due : (v : ℕ) → QuietFor (cam_rule line) from (v - from) d → IsFirstEmpty from d.slots (Some v) → IsDue (cam_rule line) from (with_held d) (Some v)
    takes-due v quiet first =
        let full : (k : ℕ) → k < v - from → is_none (slot_at d (from + k)) ≡ false = λ k lt. first.2 (from + k) (omega arith) (omega arith) in
        record {
          later = first.0;
          before = quiet-for (v - from) quiet full;
          active =
              ap ((cam_rule line).quiet v) (after-held (v - from) quiet full)
              ∙ active-held v (after (cam_rule line) from (v - from) d) (slot_at (after (cam_rule line) from (v - from) d) v) refl (empty-stays (v - from) v quiet ∙ first.1);
        }

    held_due : (due visit : Option ℕ) → IsDue (cam_rule line) from d due → IsFirstEmpty from d.slots visit → IsDue (cam_rule line) from (with_held d) (least_of due visit)
    held_due None None due first = λ n. quiet-for n (due n) (λ k lt. first (from + k) (omega arith))
    held_due None (Some v) due first = takes-due v (due (v - from)) first
    held_due (Some u) None due first = still-due u due (λ t le lt. first t le)
    held_due (Some u) (Some v) due first =
        least_holds (λ at. IsDue (cam_rule line) from (with_held d) at) u v
        (λ lt. still-due u due (λ t le below. first.2 t le (omega arith)))
        (λ le. takes-due v (λ k below. due.before k (omega arith)) first)

pub loads_due : LoadsAreDue
loads_due line from time d due visit is first = held_due line (record { command = d.command; time = time }) from d due visit is first

-- when the memory is due, by its entries alone where nothing is held, and else by the first empty slot too
module _ (view : T2View) (from : ℕ) (d : Cam) (due : Option ℕ) (eight : length d.slots ≡ 8) (entries : IsDueOutside view from (record d { holding = None }) 0 due) where
  abbrev entries_due : IsDue (hso_rule view from) from (record d { holding = None }) due
  entries_due = hso_due view from (record d { holding = None }) due eight entries

  pub idle_due : is_some d.holding ≡ false → IsDue (hso_rule view from) from d due
  idle_due none = by d.holding refl
    where
      by : (o : Option Held) → d.holding ≡ o → IsDue (hso_rule view from) from d due
      by None e = subst (λ h. IsDue (hso_rule view from) from (record d { holding = h }) due) (sym e) entries_due
      by (Some held) e = absurd (cc)

  pub loaded_due : (visit : Option ℕ) → is_some d.holding ≡ true → IsFirstEmpty from d.slots visit → IsDue (hso_rule view from) from d (least_of due visit)
  loaded_due visit some first = by d.holding refl
    where
      by : (o : Option Held) → d.holding ≡ o → IsDue (hso_rule view from) from d (least_of due visit)
      by None e = absurd (cc)
      by (Some held) e =
          subst (λ h. IsDue (hso_rule view from) from (record d { holding = h }) (least_of due visit)) (sym e)
          (held_due (value_at view from) held from (record d { holding = None }) due visit entries_due first)
