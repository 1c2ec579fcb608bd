-- The ways on from each instruction, with the most states of each (80C196KC User's Manual, "Instruction Set" and "Interrupts"; the
-- numbers of states are this kit's own).
use Rattle.std.specs.Prelude.{ℕ, Bool, true, false, not, ◌+◌, ◌-◌, ◌*◌, ◌%◌, ◌==◌, ◌||◌, nat_lt, min, max, if◌then◌else◌, Option, Some, None, List, [], ◌∷◌, map, take, slice_index}
use Rattle.std.specs.Int.{w16, cast_unsigned}
use Rattle.std.specs.Option.{option_map}
use Rattle.kc_base.specs.Limits.{image_start, rom_end}
use Rattle.kc_isa.specs.declared.insn.Insn.{Insn}
use Rattle.kc_isa.specs.declared.insn.Place.{Place}
use Rattle.kc_isa.specs.declared.insn.Operand.{Operand}
use Rattle.kc_isa.specs.declared.insn.Operand.TheVariants.{Indirect, Increment, Short, Long, Count}
use Rattle.kc_isa.specs.declared.table.Mnemonic.{Mnemonic}
use Rattle.kc_isa.specs.Names.{mnemonic_at}
use Rattle.kc_isa.specs.Formed.{states_of}
use Rattle.kc_code.specs.declared.reader.Decoded.{Decoded}
use Rattle.kc_code.specs.declared.reader.Decoded.TheVariants as says
use Rattle.kc_code.specs.Reading.{decode_of}
use Rattle.kc_code.specs.Listing.{bytes_from}
use Rattle.kc_exec_spec.specs.declared.plan.Plan.{Plan}
use Rattle.kc_exec_spec.specs.declared.plan.Plan.TheVariants.{Compute, Jump, BlockMove, Trap, Idle, Reset}
use Rattle.kc_exec_spec.specs.declared.plan.Computation.TheVariants.{Normalize}
use Rattle.kc_exec_spec.specs.declared.plan.Route.TheVariants.{Always, Call as Calls, Return, When, Bit, CountDown, Table, Register}
use Rattle.kc_exec_spec.specs.Plans.{plan_of}
use Rattle.kc_exec_spec.specs.Jumping.{next_pc, jump_pc}
use Rattle.kc_exec_spec.specs.Places.{is_outside}
use Rattle.kc_bound.specs.declared.notes.Notes.{Notes}
use Rattle.kc_bound.specs.declared.way.Way.{Way}
use Rattle.kc_bound.specs.declared.way.Way.TheVariants.{To, Call, Back, Out}
use Rattle.kc_bound.specs.Notes.{is_end, targets_at, words_at}

-- the bytes of the ROM from an address on, seven at most, as no instruction has more
abbrev pub rom_bytes : List ℕ → ℕ → List ℕ
rom_bytes image a = take (min 7 (rom_end - a)) (bytes_from image a)

-- what stands at an address, with all its bytes in the ROM
unfoldable pub found_at : List ℕ → ℕ → Decoded
found_at image a = if nat_lt a image_start then says.Short else decode_of (rom_bytes image a)

-- a word of an image, low byte first
abbrev pub image_word : List ℕ → ℕ → ℕ
image_word image a = slice_index image (a - image_start) + 256 * slice_index image (a + 1 - image_start)

-- ---- the most states of an instruction

-- Whether S may be outside the register file. Base register 00H reads 0, so there S stands at its offset.
abbrev pub may_be_outside : Operand → Bool
may_be_outside (Indirect r) = not (r == 0)
may_be_outside (Increment r) = not (r == 0)
may_be_outside (Short base offset) = not (base == 0) || is_outside (cast_unsigned w16 offset)
may_be_outside (Long base offset) = not (base == 0) || is_outside offset
may_be_outside _ = false

-- a count below 10H is the number of shifts, a higher one a register
abbrev pub most_counted : Operand → ℕ
most_counted (Count n) = if nat_lt n 0x10 then n else 31
most_counted _ = 0

-- the most places by which an instruction shifts, by the kind of its work
abbrev pub most_shifts : Plan → Operand → ℕ
most_shifts (Compute Normalize) operand = 31
most_shifts _ operand = most_counted operand

-- the place at which an instruction takes most states, where its jump is taken or not
abbrev pub most_place : Plan → Insn → Bool → Place
most_place plan insn taken = record { operand_memory = may_be_outside insn.operand; stack_memory = true; shifts = most_shifts plan insn.operand; taken = taken }

-- the states there; an undefined use that is found at the start takes two
abbrev pub most_states : Plan → Insn → Bool → ℕ
most_states plan insn taken = max 2 (states_of insn (most_place plan insn taken))

-- the most states of a word of a block move, and of the trap of an opcode that no instruction has
abbrev pub word_states : ℕ
word_states = 14

abbrev pub trap_states : ℕ
trap_states = 14

-- ---- where it goes on

-- to each of some addresses
abbrev pub ways_to : ℕ → List ℕ → List Way
ways_to states targets = map (λ target. To states target) targets

-- an instruction by the kind of its work, where it takes so many states if its jump is not taken, and if it is; none where a
-- computed jump or a block move has no note
abbrev pub ways_by : List ℕ → Notes → Plan → Insn → ℕ → ℕ → ℕ → Option (List Way)
ways_by image notes (Jump Always) i a s taken = Some (To s (jump_pc i a) ∷ [])
ways_by image notes (Jump Calls) i a s taken = Some (Call s (jump_pc i a) (next_pc i a) ∷ [])
ways_by image notes (Jump Return) i a s taken = Some (Back s ∷ [])
ways_by image notes (Jump (When test wanted)) i a s taken = Some (To s (next_pc i a) ∷ To taken (jump_pc i a) ∷ [])
ways_by image notes (Jump (Bit set)) i a s taken = Some (To s (next_pc i a) ∷ To s (jump_pc i a) ∷ [])
ways_by image notes (Jump (CountDown byte)) i a s taken = Some (To s (next_pc i a) ∷ To s (jump_pc i a) ∷ [])
ways_by image notes (Jump Table) i a s taken = option_map (ways_to s) (targets_at notes a)
ways_by image notes (Jump Register) i a s taken = option_map (ways_to s) (targets_at notes a)
ways_by image notes (BlockMove interruptible) i a s taken = option_map (λ most. To (s + word_states * most) (next_pc i a) ∷ []) (words_at notes a)
ways_by image notes Trap i a s taken = Some (Call s (image_word image 0x2010) (next_pc i a) ∷ [])
ways_by image notes Idle i a s taken = Some (Out s ∷ [])
ways_by image notes Reset i a s taken = Some (Out s ∷ [])
ways_by image notes _ i a s taken = Some (To s (next_pc i a) ∷ [])

abbrev pub ways_planned : List ℕ → Notes → Plan → Insn → ℕ → Option (List Way)
ways_planned image notes plan i a = ways_by image notes plan i a (most_states plan i false) (most_states plan i true)

abbrev pub ways_named : List ℕ → Notes → Option Mnemonic → Insn → ℕ → Option (List Way)
ways_named image notes None i a = None
ways_named image notes (Some mnemonic) i a = ways_planned image notes (plan_of mnemonic) i a

-- what stands at an address; none where an instruction does not stand wholly in the image
abbrev pub ways_of : List ℕ → Notes → Decoded → ℕ → Option (List Way)
ways_of image notes (says.Insn i n) a = ways_named image notes (mnemonic_at i.opcode i.signed) i a
ways_of image notes says.Unimplemented a = Some (Call trap_states (image_word image 0x2012) ((a + 1) % 0x10000) ∷ [])
ways_of image notes says.Undefined a = Some (Out 2 ∷ [])
ways_of image notes says.Short a = None

-- a way to where a pass is over leads out of it
abbrev pub unless_end : Notes → Way → Way
unless_end notes (To states target) = if is_end notes target then Out states else To states target
unless_end notes (Call states target back) = if is_end notes target then Out states else Call states target back
unless_end notes way = way

-- the ways on from an address of an image; none where nothing can be said of them
unfoldable pub ways_at : List ℕ → Notes → ℕ → Option (List Way)
ways_at image notes a = option_map (map (unless_end notes)) (ways_of image notes (found_at image a) a)
