-- How many accesses an effect makes (this kit's own).
use Rattle.std.specs.Prelude.{ℕ, ◌-◌, ◌<◌}
use Rattle.kc_isa.specs.declared.insn.Insn.{Insn}
use Rattle.kc_exec_spec.specs.declared.access.Masks.{Masks}
use Rattle.kc_exec_spec.specs.declared.cpu.Cpu.{Cpu}
use Rattle.kc_exec_spec.specs.declared.cpu.Words.{Words}
use Rattle.kc_exec_spec.specs.Effect.{Effect, End, Undefined, Look, Ask}
use Rattle.kc_exec_spec.specs.Effects.{effect_of}
use Rattle.kc_exec_spec.specs.BlockMoves.{moved_word}
use Rattle.kc_exec_spec.specs.Entering.{entry, trap}

abbrev pub AtMost : {A : Type 0} → ℕ → Effect A → Type 0
AtMost n (End a) = Unit {0}
AtMost n (Undefined k) = Unit {0}
AtMost n (Look next) = (m : Masks) → AtMost n (next m)
AtMost n (Ask r next) = (0 < n) × ((k : ℕ) → AtMost (n - 1) (next k))

-- no instruction, no word of a block move, no entry and no trap makes more than eight accesses
abbrev pub EightAccesses : Type 0
EightAccesses = (i : Insn) (cpu : Cpu) → AtMost 8 (effect_of i cpu)

abbrev pub WordAccesses : Type 0
WordAccesses = (i : Insn) (w : Words) (cpu : Cpu) → AtMost 8 (moved_word i w cpu)

abbrev pub EntryAccesses : Type 0
EntryAccesses = (vector back : ℕ) → AtMost 8 (entry vector back)

abbrev pub TrapAccesses : Type 0
TrapAccesses = (vector back : ℕ) → AtMost 8 (trap vector back)
