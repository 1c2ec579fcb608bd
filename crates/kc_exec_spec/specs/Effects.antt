-- The effect of each instruction: its accesses in order, and then the new registers and what follows (80C196KC User's Manual,
-- "Instruction Set").
use Rattle.std.specs.Prelude.{◌≡◌, ℕ, Some, None, Result, Ok, Err}
use Rattle.kc_base.specs.declared.types.Kind.{Kind}
use Rattle.kc_base.specs.declared.types.Kind.TheVariants.{Opcode}
use Rattle.kc_isa.specs.declared.insn.Insn.{Insn}
use Rattle.kc_isa.specs.Names.{mnemonic_at}
use Rattle.kc_exec_spec.specs.declared.cpu.Cpu.{Cpu}
use Rattle.kc_exec_spec.specs.declared.cpu.After.{After}
use Rattle.kc_exec_spec.specs.declared.cpu.After.TheVariants.{Next, Held, Reset as Ended}
use Rattle.kc_exec_spec.specs.declared.plan.Plan.{Plan}
use Rattle.kc_exec_spec.specs.declared.plan.Plan.TheVariants.{Compute, Move, Jump, Save, Set, BlockMove, Trap, Idle, Reset}
use Rattle.kc_exec_spec.specs.Effect.{Effect, End, Undefined, Look, ◌>>=◌, Outcome, Done, Refused}
use Rattle.kc_exec_spec.specs.Parts.{or_undefined}
use Rattle.kc_exec_spec.specs.Plans.{plan_of}
use Rattle.kc_exec_spec.specs.Computing.{compute}
use Rattle.kc_exec_spec.specs.Moving.{move_data}
use Rattle.kc_exec_spec.specs.Jumping.{next_pc, goes, psw_after}
use Rattle.kc_exec_spec.specs.Saving.{save}
use Rattle.kc_exec_spec.specs.Settings.{setting_psw, setting_after, idle_after}
use Rattle.kc_exec_spec.specs.BlockMoves.{set_up, after_words, cpu_after_words}
use Rattle.kc_exec_spec.specs.Entering.{trap}

abbrev pub ended : After → ℕ → ℕ → Effect (After × Cpu)
ended after pc psw = End (after, record { pc = pc; psw_high = psw })

unfoldable pub planned : Plan → Insn → ℕ → Cpu → Effect (After × Cpu)
planned (Compute how) i wsr cpu = compute how wsr i cpu.psw_high >>= λ psw. ended Next (next_pc i cpu.pc) psw
planned (Move how) i wsr cpu = move_data how wsr i >>= λ u. ended Next (next_pc i cpu.pc) cpu.psw_high
planned (Jump route) i wsr cpu = goes route wsr i cpu >>= λ pc. ended Next pc (psw_after route cpu.psw_high)
planned (Save how) i wsr cpu = save how cpu.psw_high >>= λ psw. ended Held (next_pc i cpu.pc) psw
planned (Set bit) i wsr cpu = ended (setting_after bit) (next_pc i cpu.pc) (setting_psw bit cpu.psw_high)
planned (BlockMove interruptible) i wsr cpu = set_up interruptible wsr i >>= λ w. End (after_words w, cpu_after_words i w cpu)
planned Trap i wsr cpu = trap 0x2010 (next_pc i cpu.pc) >>= λ pc. ended Held pc cpu.psw_high
planned Idle i wsr cpu = or_undefined (idle_after i.operand) >>= λ after. ended after (next_pc i cpu.pc) cpu.psw_high
planned Reset i wsr cpu = ended Ended (next_pc i cpu.pc) cpu.psw_high

-- The effect of an instruction; its registers are seen in the window that stands before it.
unfoldable pub effect_of : Insn → Cpu → Effect (After × Cpu)
effect_of i cpu = elim (mnemonic_at i.opcode i.signed) [ None ↦ Undefined Opcode | Some mnemonic ↦ Look (λ m. planned (plan_of mnemonic) i m.wsr cpu) ]

-- a call ended so, and left these registers, where the outcome is described; a refusal leaves them as they were
abbrev pub Performs : {H : Type 0} → Result After Kind → Cpu → Cpu → H → Outcome (After × Cpu) H → Type 0
Performs (Ok after) old new h outcome = outcome ≡ Done (after, new) h
Performs (Err k) old new h outcome = (outcome ≡ Refused k h) × (new ≡ old)
