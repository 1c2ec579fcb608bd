-- Block moves: what BMOV and BMOVI do before the first word, and with each word (80C196KC User's Manual, "Instruction Set"; the
-- moments at which pointers and count are written are this kit's own).
use Rattle.std.specs.Prelude.{◌≡◌, ℕ, Bool, false, ◌+◌, ◌-◌, ◌*◌, ◌/◌, ◌%◌, ◌<◌, ◌≤◌, ◌==◌, nat_le, ◌||◌, if◌then◌else◌, Some}
use Rattle.kc_base.specs.Limits.{register_file_end}
use Rattle.kc_isa.specs.declared.insn.Insn.{Insn}
use Rattle.kc_isa.specs.declared.table.Mnemonic.TheVariants.{Bmov, Bmovi}
use Rattle.kc_isa.specs.Names.{mnemonic_at}
use Rattle.kc_exec_spec.specs.declared.cpu.Cpu.{Cpu}
use Rattle.kc_exec_spec.specs.declared.cpu.Words.{Words}
use Rattle.kc_exec_spec.specs.declared.cpu.After.{After}
use Rattle.kc_exec_spec.specs.declared.cpu.After.TheVariants.{Next, MoreWords}
use Rattle.kc_exec_spec.specs.declared.plan.Plan.{Plan}
use Rattle.kc_exec_spec.specs.declared.plan.Plan.TheVariants.{BlockMove}
use Rattle.kc_exec_spec.specs.Effect.{Effect, End, Look, ◌>>=◌}
use Rattle.kc_exec_spec.specs.Parts.{read_at, write_at, read_register, write_register, read_long, write_long}
use Rattle.kc_exec_spec.specs.Operands.{at_offset}
use Rattle.kc_exec_spec.specs.Computing.{register}
use Rattle.kc_exec_spec.specs.Jumping.{next_pc}

-- D, whose low word points to the source and whose high word to the target; then the count
unfoldable pub set_up : Bool → ℕ → Insn → Effect Words
set_up interruptible wsr i = do
  pointers ← read_long wsr (register i 1)
  count ← read_register false wsr (register i 0)
  End (record { source = pointers % 0x10000; target = pointers / 0x10000; count = count; left = count; interruptible = interruptible })

-- with no word left the program goes on behind the instruction, else it stays there
abbrev pub after_words : Words → After
after_words w = if w.left == 0 then Next else MoreWords w

abbrev pub cpu_after_words : Insn → Words → Cpu → Cpu
cpu_after_words i w cpu = record { pc = (if w.left == 0 then next_pc i cpu.pc else cpu.pc); psw_high = cpu.psw_high }

-- the rest of a block move after one word
abbrev pub less_one : Words → Words
less_one w = record { source = at_offset w.source 2; target = at_offset w.target 2; count = w.count; left = w.left - 1; interruptible = w.interruptible }

-- BMOVI writes its pointers after each word, BMOV after the last
unfoldable pub write_pointers : ℕ → Insn → Words → Effect (Unit {0})
write_pointers wsr i w = if w.interruptible || w.left == 0 then write_long wsr (register i 1) (w.source + 0x10000 * w.target) else End tt

-- BMOVI writes its count after each word: how many are left, and after the last the first count again
unfoldable pub write_count : ℕ → Insn → Words → Effect (Unit {0})
write_count wsr i w = if w.interruptible then write_register false wsr (register i 0) (if w.left == 0 then w.count else w.left) else End tt

-- one word, in the window that stands before it
unfoldable pub move_one : ℕ → Insn → Words → Effect (Unit {0})
move_one wsr i w = do
  n ← read_at false w.source
  stored ← write_at false w.target n
  pointed ← write_pointers wsr i (less_one w)
  write_count wsr i (less_one w)

unfoldable pub moved_word : Insn → Words → Cpu → Effect (After × Cpu)
moved_word i w cpu = Look (λ m. move_one m.wsr i w >>= λ u. End (after_words (less_one w), cpu_after_words i (less_one w) cpu))

-- the states of one word, by how many of its two places are outside the register file
abbrev pub word_states_of : Words → ℕ
word_states_of w = 8 + (if nat_le register_file_end w.source then 3 else 0) + (if nat_le register_file_end w.target then 3 else 0)

-- these words are of this block move, and some are left
abbrev pub IsUnderWay : Insn → Words → Type 0
IsUnderWay i w = (mnemonic_at i.opcode i.signed ≡ Some (if w.interruptible then Bmovi else Bmov)) × (0 < w.left) × (w.left ≤ w.count)

-- what follows an instruction are words of its own block move, or no words
abbrev pub IsOfMove : Insn → After → Type 0
IsOfMove i (MoreWords w) = IsUnderWay i w
IsOfMove i _ = Unit {0}

-- the same by the kind of work
abbrev pub IsOfPlan : Plan → After → Type 0
IsOfPlan plan (MoreWords w) = (plan ≡ BlockMove w.interruptible) × (0 < w.left) × (w.left ≤ w.count)
IsOfPlan plan _ = Unit {0}
