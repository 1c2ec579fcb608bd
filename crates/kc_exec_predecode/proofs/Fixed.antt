-- Where the states of an instruction depend on nothing but itself, they are its base.
use Rattle.std.proofs.Common.{◌≡◌, ℕ, Ok, ap, ◌∙◌}
use Rattle.kc_exec_spec.specs.declared.access.Masks.{Masks}
use Rattle.kc_exec_spec.specs.declared.cpu.Cpu.{Cpu}
use Rattle.kc_exec_spec.specs.Plans.{plan_of}
use Rattle.kc_exec_predecode.specs.declared.cost.Cost.TheVariants.{Fixed}
use Rattle.kc_exec_predecode.specs.declared.predecoded.Predecoded.{Predecoded}
use Rattle.kc_exec_predecode.specs.Predecoding.{holds_at, is_simple, known_at, time_at, IsPredecoded}
use Rattle.kc_exec_predecode.proofs.Known.{time_known}

pub fixed_known : (r : Predecoded) (cpu : Cpu) (masks : Masks) (byte : ℕ → ℕ) → IsPredecoded r → r.cost ≡ Fixed → time_at r.insn cpu masks byte ≡ Ok r.base
fixed_known r cpu masks byte predecoded fixed =
    time_known r cpu masks byte predecoded (ap is_simple fixed)
    ∙ ap (λ k. known_at r (holds_at k (plan_of r.mnemonic) r.insn.operand cpu.psw_high masks.wsr byte)) fixed
