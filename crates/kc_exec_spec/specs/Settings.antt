-- The instructions that set one bit of the PSW, and IDLPD (80C196KC User's Manual, "Program Status Word", "Interrupts" and "Idle
-- and Powerdown").
use Rattle.std.specs.Prelude.{ℕ, false}
use Rattle.kc_base.specs.declared.types.Kind.{Kind}
use Rattle.kc_base.specs.declared.types.Kind.TheVariants.{IdleKey}
use Rattle.kc_isa.specs.declared.insn.Operand.{Operand}
use Rattle.kc_isa.specs.declared.insn.Operand.TheVariants.{Imm}
use Rattle.kc_exec_spec.specs.declared.cpu.After.{After}
use Rattle.kc_exec_spec.specs.declared.cpu.After.TheVariants.{Next, Held, Idle, Powerdown}
use Rattle.kc_exec_spec.specs.declared.plan.Setting.{Setting}
use Rattle.kc_exec_spec.specs.declared.plan.Setting.TheVariants.{Carry, Interrupts, Transfers, NoOverflowTrap, Nothing}
use Rattle.std.specs.Prelude.{◌==◌, if◌then◌else◌, Result, Ok, Err}
use Rattle.kc_exec_spec.specs.Status.{with_bit}

abbrev pub setting_psw : Setting → ℕ → ℕ
setting_psw (Carry set) psw = with_bit 8 set psw
setting_psw (Interrupts set) psw = with_bit 2 set psw
setting_psw (Transfers set) psw = with_bit 4 set psw
setting_psw NoOverflowTrap psw = with_bit 16 false psw
setting_psw Nothing psw = psw

-- after EI, DI, EPTS and DPTS an instruction comes before any request
abbrev pub setting_after : Setting → After
setting_after (Interrupts set) = Held
setting_after (Transfers set) = Held
setting_after _ = Next

-- what the key of IDLPD chooses
abbrev pub idle_after : Operand → Result After Kind
idle_after (Imm key) = if key == 1 then Ok Idle else if key == 2 then Ok Powerdown else Err IdleKey
idle_after _ = Err IdleKey
