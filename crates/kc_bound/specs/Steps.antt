-- Steps of the proof that a certificate bounds each pass (this kit's own).
use Rattle.std.specs.Prelude.{◌≡◌, ◌≢◌, ℕ, ◌+◌, ◌≤◌, ◌<◌, true, Some, Result, Ok, List, length, slice_index}
use Rattle.kc_base.specs.Limits.{image_start, rom_end}
use Rattle.kc_isa.specs.declared.insn.Insn.{Insn}
use Rattle.kc_isa.specs.declared.insn.Place.{Place}
use Rattle.kc_isa.specs.declared.table.Mnemonic.{Mnemonic}
use Rattle.kc_isa.specs.Names.{mnemonic_at}
use Rattle.kc_isa.specs.Formed.{states_of}
use Rattle.kc_code.specs.declared.reader.Decoded.TheVariants.{Short}
use Rattle.kc_code.specs.Reading.{decode_of}
use Rattle.kc_exec_spec.specs.declared.plan.Plan.{Plan}
use Rattle.kc_exec_spec.specs.Places.{planned_place, jump_taken}
use Rattle.kc_machine_spec.specs.Machine.{Machine, fetched}
use Rattle.kc_bound.specs.declared.notes.Loop.{Loop}
use Rattle.kc_bound.specs.Notes.{turns_at}
use Rattle.kc_bound.specs.Ways.{found_at, most_states}
use Rattle.kc_bound.specs.Premises.{turns_after}
use Rattle.kc_bound.specs.Certified.{priced, begins_at}
use Rattle.kc_bound.specs.Bounded.{IsImage, HoldsImage}

-- an instruction takes at most the states of its way, by whether its jump is taken
abbrev pub StatesAreMost : Type 0
StatesAreMost =
    (plan : Plan) (insn : Insn) (psw wsr : ℕ) (byte : ℕ → ℕ) (place : Place) → planned_place plan insn psw wsr byte ≡ Ok place
    → (states_of insn place ≤ most_states plan insn place.taken) × (place.taken ≡ jump_taken plan psw)

-- an instruction takes a state at least
abbrev pub StatesAreSome : Type 0
StatesAreSome = (insn : Insn) (place : Place) (mnemonic : Mnemonic) → mnemonic_at insn.opcode insn.signed ≡ Some mnemonic → 0 < states_of insn place

-- what a machine decodes in the ROM is what stands there in its image
abbrev pub FoundIsDecoded : Type 0 → Type 0
FoundIsDecoded X =
    (image : List ℕ) (m : Machine X) (a : ℕ) → IsImage image → HoldsImage image m → image_start ≤ a → a < rom_end
    → found_at image a ≢ Short → decode_of (fetched 7 m.board.memory a) ≡ found_at image a

-- a begin takes from the turns of a loop at most what its address has, and gives at most what it spends
abbrev pub TurnIsPaid : Type 0
TurnIsPaid =
    (l : Loop) (a turns : ℕ) → (l.head ≡ a → 0 < turns) → turns_after l (Some a) turns + begins_at a l ≤ turns + turns_at a l
