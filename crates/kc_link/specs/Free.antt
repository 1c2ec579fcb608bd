-- Which addresses are left free by modules that are linked (this kit's own).
use Rattle.std.specs.Prelude.{ℕ, zero, suc, Bool, false, ◌+◌, ◌-◌, ◌&&◌, ◌||◌, not, nat_le, nat_lt, if◌then◌else◌, List, [], ◌∷◌, ◌++◌}
use Rattle.kc_obj_module.specs.declared.parts.SegKind.TheVariants.{Stack}
use Rattle.kc_obj_module.specs.declared.parts.Segment.{Segment}
use Rattle.kc_obj_module.specs.Object.{Object}
use Rattle.kc_link_place.specs.Stands.{same_kind}
use Rattle.kc_link_place.specs.Placing.{Places, base_at}

-- so many addresses from one on
abbrev pub covers : ℕ → ℕ → ℕ → Bool
covers first length address = nat_le first address && nat_lt address (first + length)

-- a piece that is no stack piece has an address
abbrev pub piece_covers : Segment → ℕ → ℕ → Bool
piece_covers s first address = not (same_kind s.kind Stack) && covers first s.length address

unfoldable pub pieces_cover : Places → ℕ → ℕ → List Segment → ℕ → Bool
pieces_cover places index number [] address = false
pieces_cover places index number (s ∷ ss) address = piece_covers s (base_at places.pieces index number) address || pieces_cover places index (number + 1) ss address

unfoldable pub modules_cover : Places → ℕ → List Object → ℕ → Bool
modules_cover places index [] address = false
modules_cover places index (m ∷ ms) address = pieces_cover places index 0 m.segments address || modules_cover places (index + 1) ms address

-- neither the stack nor a piece has it
abbrev pub is_free : List Object → Places → ℕ → ℕ → ℕ → Bool
is_free ms places stack size address = not (covers stack size address) && not (modules_cover places 0 ms address)

-- ---- runs of addresses that pass, each as long as it can be

-- addresses one after the other
pub record Run : Type 0 where
  pub first : ℕ
  pub length : ℕ

-- the run of so many addresses that ends before one; none where it is empty
abbrev pub run : ℕ → ℕ → List Run
run end zero = []
run end (suc n) = record { first = end - suc n; length = suc n } ∷ []

-- the runs among so many addresses from one on, behind a run of so many before it
unfoldable pub free_runs : (ℕ → Bool) → ℕ → ℕ → ℕ → List Run
free_runs free zero at length = run at length
free_runs free (suc more) at length = if free at then free_runs free more (at + 1) (length + 1) else run at length ++ free_runs free more (at + 1) 0
