-- When HSO is due after a load (80C196KC User's Manual, "High Speed Output Unit"; which slot is looked at in which state is this
-- kit's own).
use Rattle.std.specs.Prelude.{◌≡◌, ℕ, ◌%◌, ◌<◌, ◌≤◌, true, false, List, Option, Some, None, slice_index_or, is_none}
use Rattle.kc_span.specs.Span.{IsDue, least_of}
use Rattle.kc_hso.specs.declared.cam.Entry.{Entry}
use Rattle.kc_hso.specs.Cam.{Cam, cam_rule, with_load}

-- the first state from a state on that looks at an empty slot, or none
abbrev pub IsFirstEmpty : ℕ → List (Option Entry) → Option ℕ → Type 0
IsFirstEmpty from slots None = (t : ℕ) → from ≤ t → is_none (slice_index_or slots (t % 8) None) ≡ false
IsFirstEmpty from slots (Some u) =
    (from ≤ u) × (is_none (slice_index_or slots (u % 8) None) ≡ true)
    × ((t : ℕ) → from ≤ t → t < u → is_none (slice_index_or slots (t % 8) None) ≡ false)

-- after a load HSO is due where it was, or where an empty slot takes what was loaded, if that is earlier
abbrev pub LoadsAreDue : Type 0
LoadsAreDue = (line : ℕ → ℕ) (from time : ℕ) (d : Cam) (due visit : Option ℕ) →
    IsDue (cam_rule line) from d due → IsFirstEmpty from d.slots visit →
    IsDue (cam_rule line) from (with_load time d) (least_of due visit)
