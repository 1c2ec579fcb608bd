-- Where a pass may end without a return (80C196KC User's Manual, "Instruction Set").
use Rattle.std.specs.Prelude.{ℕ, zero, suc, Bool, true, false, not, is_some, ◌+◌, ◌-◌, ◌==◌, ◌&&◌, if◌then◌else◌, Option, Some, None, List}
use Rattle.std.specs.Option.{option_map_or}
use Rattle.kc_base.specs.Limits.{image_start, rom_end}
use Rattle.kc_isa.specs.Names.{mnemonic_at}
use Rattle.kc_code.specs.declared.reader.Decoded.{Decoded}
use Rattle.kc_code.specs.declared.reader.Decoded.TheVariants as found
use Rattle.kc_exec_spec.specs.declared.plan.Plan.{Plan}
use Rattle.kc_exec_spec.specs.declared.plan.Plan.TheVariants.{Idle, Reset}
use Rattle.kc_exec_spec.specs.Plans.{plan_of}
use Rattle.kc_bound.specs.declared.notes.Notes.{Notes}
use Rattle.kc_bound.specs.declared.certificate.Certificate.{Certificate}
use Rattle.kc_bound.specs.Notes.{is_end}
use Rattle.kc_bound.specs.Ways.{found_at}
use Rattle.kc_bound.specs.Certified.{standing_at}

-- IDLPD and RST
abbrev pub is_stop : Plan → Bool
is_stop Idle = true
is_stop Reset = true
is_stop _ = false

-- one of these, or an undefined opcode
abbrev pub is_stop_found : Decoded → Bool
is_stop_found (found.Insn i n) = option_map_or (λ m. is_stop (plan_of m)) (mnemonic_at i.opcode i.signed) false
is_stop_found found.Undefined = true
is_stop_found _ = false

-- no instruction of a pass stands where the notes end it, but at its begin
abbrev pub is_over_at : Notes → ℕ → ℕ → Bool
is_over_at notes from a = is_end notes a && not (a == from)

-- a pass from an address may come to such an instruction, by a certificate: that has a standing for each address of a pass
abbrev pub may_stop : List ℕ → Notes → ℕ → Certificate → ℕ → Bool
may_stop image notes from c a = is_some (standing_at c a) && not (is_over_at notes from a) && is_stop_found (found_at image a)

-- the first of so many addresses that passes a test
unfoldable pub first_among : (ℕ → Bool) → ℕ → ℕ → Option ℕ
first_among test a zero = None
first_among test a (suc count) = if test a then Some a else first_among test (a + 1) count

-- the least address where a pass may end so
abbrev pub first_stop : List ℕ → Notes → ℕ → Certificate → Option ℕ
first_stop image notes from c = first_among (may_stop image notes from c) image_start (rom_end - image_start)
