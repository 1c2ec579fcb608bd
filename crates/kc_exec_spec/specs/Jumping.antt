-- Where jumps, calls and returns lead, and what they do on the way (80C196KC User's Manual, "Instruction Set"; the byte order of
-- TIJMP and that JVT and JNVT clear VT are this kit's own).
use Rattle.std.specs.Prelude.{ℕ, Bool, true, false, ◌+◌, ◌-◌, ◌*◌, ◌%◌, ◌^◌, ◌==◌, ◌&&◌, ◌||◌, not, bit_and, if◌then◌else◌}
use Rattle.std.specs.Int.{w16, cast_unsigned}
use Rattle.kc_isa.specs.declared.insn.Insn.{Insn}
use Rattle.kc_isa.specs.declared.insn.Operand.{Operand}
use Rattle.kc_isa.specs.declared.insn.Operand.TheVariants.{Disp}
use Rattle.kc_isa.specs.Formed.{length_of}
use Rattle.kc_alu.specs.declared.flags.Flags.{Flags}
use Rattle.kc_exec_spec.specs.declared.plan.Test.{Test}
use Rattle.kc_exec_spec.specs.declared.plan.Test.TheVariants.{Sticky, Higher, LessOrEqual, Carry, OverflowTrap, Overflow, Less, Equal}
use Rattle.kc_exec_spec.specs.declared.plan.Route.{Route}
use Rattle.kc_exec_spec.specs.declared.plan.Route.TheVariants.{Always, Call, Return, When, Bit, CountDown, Table, Register}
use Rattle.kc_exec_spec.specs.declared.cpu.Cpu.{Cpu}
use Rattle.kc_exec_spec.specs.Effect.{Effect, End, ◌>>=◌}
use Rattle.kc_exec_spec.specs.Status.{has, flags_of, with_bit}
use Rattle.kc_exec_spec.specs.Parts.{limit, read_at, read_register, write_register, push, pop}
use Rattle.kc_exec_spec.specs.Operands.{at_offset}
use Rattle.kc_exec_spec.specs.Computing.{register}

-- the address after the instruction, and that of a jump from there
abbrev pub next_pc : Insn → ℕ → ℕ
next_pc i pc = (pc + length_of i) % 0x10000

abbrev pub distance : Operand → ℕ
distance (Disp d) = cast_unsigned w16 d
distance _ = 0

abbrev pub jump_pc : Insn → ℕ → ℕ
jump_pc i pc = at_offset (next_pc i pc) (distance i.operand)

abbrev pub branch_pc : Bool → Insn → ℕ → ℕ
branch_pc taken i pc = if taken then jump_pc i pc else next_pc i pc

abbrev pub holds : Test → Flags → Bool
holds Sticky f = f.st
holds Higher f = f.c && not f.z
holds LessOrEqual f = f.n || f.z
holds Carry f = f.c
holds OverflowTrap f = f.vt
holds Overflow f = f.v
holds Less f = f.n
holds Equal f = f.z

abbrev pub is_taken : Test → Bool → ℕ → Bool
is_taken test wanted psw = if wanted then holds test (flags_of psw) else not (holds test (flags_of psw))

-- whether a bit of a register is as it has to be
unfoldable pub bit_jump : Bool → ℕ → ℕ → ℕ → Effect Bool
bit_jump set number wsr r = read_register true wsr r >>= λ n. End (if set then has (2 ^ number) n else not (has (2 ^ number) n))

-- counts a register down; whether it is not yet 0
unfoldable pub count_down : Bool → ℕ → ℕ → Effect Bool
count_down byte wsr r = do
  n ← read_register byte wsr r
  written ← write_register byte wsr r ((n + limit byte - 1) % limit byte)
  End (not ((n + limit byte - 1) % limit byte == 0))

-- TIJMP: the index register points to a byte, whose bits under the mask number a word of the table
unfoldable pub table_target : ℕ → Insn → Effect ℕ
table_target wsr i = do
  p ← read_register false wsr (register i 0)
  index ← read_at true p
  table ← read_register false wsr (register i 2)
  read_at false (at_offset table (2 * bit_and index (register i 1)))

-- the address at which the program goes on
unfoldable pub goes : Route → ℕ → Insn → Cpu → Effect ℕ
goes Always wsr i cpu = End (jump_pc i cpu.pc)
goes Call wsr i cpu = push (next_pc i cpu.pc) >>= λ u. End (jump_pc i cpu.pc)
goes Return wsr i cpu = pop
goes (When test wanted) wsr i cpu = End (branch_pc (is_taken test wanted cpu.psw_high) i cpu.pc)
goes (Bit set) wsr i cpu = bit_jump set (i.opcode % 8) wsr (register i 0) >>= λ taken. End (branch_pc taken i cpu.pc)
goes (CountDown byte) wsr i cpu = count_down byte wsr (register i 0) >>= λ taken. End (branch_pc taken i cpu.pc)
goes Table wsr i cpu = table_target wsr i
goes Register wsr i cpu = read_register false wsr (register i 0)

-- a jump that asks VT clears it, whether it is taken or not
abbrev pub psw_after : Route → ℕ → ℕ
psw_after (When OverflowTrap wanted) psw = with_bit 16 false psw
psw_after _ psw = psw
