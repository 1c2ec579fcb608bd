-- Addresses that are refused, each with its reason (this kit's own).
use Rattle.std.specs.Prelude.{◌≡◌, ℕ, ◌+◌, ◌*◌, ◌<◌, ◌==◌, ◌||◌, Bool, true, false, if◌then◌else◌, None, List, length, Contains}
use Rattle.std.specs.List.{All, AllPairs}
use Rattle.kc_code.specs.declared.reader.Decoded.{Decoded}
use Rattle.kc_code.specs.declared.reader.Decoded.TheVariants.{Insn}
use Rattle.kc_bound.specs.declared.notes.Notes.{Notes}
use Rattle.kc_bound.specs.Ways.{found_at, ways_at}
use Rattle.kc_bound_find.specs.declared.refusal.Why.{Why}
use Rattle.kc_bound_find.specs.declared.refusal.Why.TheVariants.{Block, Computed, Early, Endless, Outside, Recursive, Unbounded}
use Rattle.kc_bound_find.specs.declared.refusal.Refusal.{Refusal}

-- ---- why an instruction is refused

-- the reasons that say so of the instruction itself
abbrev pub is_of_instruction : Why → Bool
is_of_instruction Block = true
is_of_instruction Computed = true
is_of_instruction Outside = true
is_of_instruction Early = false
is_of_instruction Endless = false
is_of_instruction Recursive = false
is_of_instruction Unbounded = false

-- BMOV and BMOVI
abbrev pub is_block : ℕ → Bool
is_block opcode = opcode == 0xC1 || opcode == 0xCD

-- why nothing can be said of what stands at an address
abbrev pub reason_of : Decoded → Why
reason_of (Insn i n) = if is_block i.opcode then Block else Computed
reason_of _ = Outside

-- an instruction is refused only where it has no ways, and for the reason why it has none
abbrev pub IsRefusal : List ℕ → Notes → Refusal → Type 0
IsRefusal image notes r = is_of_instruction r.why ≡ true → (ways_at image notes r.at ≡ None) × (r.why ≡ reason_of (found_at image r.at))

-- ---- their order

-- the reasons by the alphabet
abbrev pub number_of : Why → ℕ
number_of Block = 0
number_of Computed = 1
number_of Early = 2
number_of Endless = 3
number_of Outside = 4
number_of Recursive = 5
number_of Unbounded = 6

-- by the address, and for the same address by the reason
abbrev pub order_of : Refusal → ℕ
order_of r = 8 * r.at + number_of r.why

abbrev pub IsBefore : Refusal → Refusal → Type 0
IsBefore r s = order_of r < order_of s

abbrev pub refusal_for : Why → ℕ → Refusal
refusal_for why a = record { at = a; why = why }

-- the refusals that are given, by rising address, each once
pub record StandRising (given refusals : List Refusal) : Type 0 where
  pub rising : AllPairs IsBefore refusals
  pub among : All (Contains given) refusals
  pub whole : All (Contains refusals) given

-- one refusal or more, by rising address, each once
pub record AreRefusals (image : List ℕ) (notes : Notes) (refusals : List Refusal) : Type 0 where
  pub some : 0 < length refusals
  pub rising : AllPairs IsBefore refusals
  pub sound : All (IsRefusal image notes) refusals
