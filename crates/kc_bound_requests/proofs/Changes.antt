-- What an instruction leaves of what is allowed, by the kind of its work.
use Rattle.std.proofs.Common.{◌≡◌, ℕ, Bool, true, false, ◌^◌, ◌==◌, if◌then◌else◌, Option, Some, None, Ok, Err, refl, sym, ◌∙◌, ap, subst}
use Rattle.kc_base.specs.declared.types.Kind.TheVariants.{IdleKey}
use Rattle.kc_isa.specs.declared.insn.Insn.{Insn}
use Rattle.kc_isa.specs.declared.insn.Operand.{Operand}
use Rattle.kc_isa.specs.declared.insn.Operand.TheVariants.{Imm}
use Rattle.kc_isa.specs.declared.table.Mnemonic.{Mnemonic}
use Rattle.kc_isa.specs.Names.{mnemonic_at}
use Rattle.kc_exec_spec.specs.declared.cpu.Cpu.{Cpu}
use Rattle.kc_exec_spec.specs.declared.cpu.Words.{Words}
use Rattle.kc_exec_spec.specs.declared.cpu.After.{After}
use Rattle.kc_exec_spec.specs.declared.cpu.After.TheVariants.{Next, Idle as Idles, Powerdown, MoreWords}
use Rattle.kc_exec_spec.specs.declared.plan.Plan.{Plan}
use Rattle.kc_exec_spec.specs.declared.plan.Plan.TheVariants.{Compute, Move, Jump, Save, Set, BlockMove, Trap, Idle, Reset}
use Rattle.kc_exec_spec.specs.declared.plan.Computation.{Computation}
use Rattle.kc_exec_spec.specs.declared.plan.Computation.TheVariants.{Operate, Alter, Extend, Shift, Normalize, Multiply, Divide, CompareLong}
use Rattle.kc_exec_spec.specs.declared.plan.Route.{Route}
use Rattle.kc_exec_spec.specs.declared.plan.Route.TheVariants.{Always, Call, Return, When, Bit, CountDown, Table, Register}
use Rattle.kc_exec_spec.specs.declared.plan.Test.TheVariants.{Sticky, Higher, LessOrEqual, Carry as CarryTest, OverflowTrap, Overflow, Less, Equal}
use Rattle.kc_exec_spec.specs.declared.plan.Saving.{Saving}
use Rattle.kc_exec_spec.specs.declared.plan.Saving.TheVariants.{PushStatus, PopStatus, PushAll, PopAll}
use Rattle.kc_exec_spec.specs.declared.plan.Setting.{Setting}
use Rattle.kc_exec_spec.specs.declared.plan.Setting.TheVariants.{Carry, Interrupts, Transfers, NoOverflowTrap, Nothing}
use Rattle.kc_exec_spec.specs.Effect.{End}
use Rattle.kc_exec_spec.specs.Status.{has, flags_of, with_bit}
use Rattle.kc_exec_spec.specs.Computing.{register, destination, compute, operate, read_altered, alter, extend, shift_count, shift, normalize, multiply, divide, compare_long}
use Rattle.kc_exec_spec.specs.Operands.{source}
use Rattle.kc_exec_spec.specs.Operations.{width, computed, writes_result, altered}
use Rattle.kc_alu.specs.Width.{half_of}
use Rattle.kc_alu.specs.Products.{spread, divided}
use Rattle.kc_alu.specs.Shifts.{shifted, normal_result, normal_shifts}
use Rattle.kc_exec_spec.specs.Moving.{move_data}
use Rattle.kc_exec_spec.specs.Jumping.{next_pc, goes, psw_after}
use Rattle.kc_exec_spec.specs.Saving.{save, push_status, push_all}
use Rattle.kc_exec_spec.specs.Settings.{setting_psw, setting_after, idle_after}
use Rattle.kc_exec_spec.specs.BlockMoves.{set_up, less_one, move_one, moved_word}
use Rattle.kc_exec_spec.specs.Entering.{trap}
use Rattle.kc_exec_spec.specs.Parts.{or_undefined, read_register, write_register, read_long, write_long, bits, read_sized, write_sized, doubled, read_low_half}
use Rattle.kc_exec_spec.specs.Plans.{plan_of}
use Rattle.kc_exec_spec.specs.Effects.{effect_of, planned}
use Rattle.kc_machine_spec.specs.Machine.{next_after}
use Rattle.kc_bound.specs.Passes.{plan_in}
use Rattle.kc_bound_requests.specs.declared.enabled.Enabled.{Enabled}
use Rattle.kc_bound_requests.specs.Enabled.{is_both, is_same, may_leave}
use Rattle.kc_bound_requests.proofs.Ends.{Ends, ends-then, ends-on}
use Rattle.kc_bound_requests.proofs.Status.{Keeps, as-it-was, flags-keep, carry-keeps, overflow-keeps, Sets, interrupts-set, server-set}

-- ---- what arithmetic keeps

computed-keeps : (how : Computation) (wsr : ℕ) (i : Insn) (psw : ℕ) → Ends (Keeps psw) (compute how wsr i psw)
unfolding compute operate alter extend shift normalize divide compare_long
computed-keeps (Operate op byte) wsr i psw =
    ends-on (Keeps psw) (source byte wsr i.operand) _ (λ s.
    ends-on (Keeps psw) (read_register byte wsr (register i 0)) _ (λ n.
    ends-on (Keeps psw) (if writes_result op then write_register byte wsr (destination i) (computed op (half_of (width byte)) n s (flags_of psw)) else End tt) _ (λ written. flags-keep psw _)))
computed-keeps (Alter how byte) wsr i psw =
    ends-on (Keeps psw) (read_altered how byte wsr (register i 0)) _ (λ n.
    ends-on (Keeps psw) (write_register byte wsr (register i 0) (altered how (half_of (width byte)) n (flags_of psw))) _ (λ written. flags-keep psw _))
computed-keeps (Extend byte) wsr i psw =
    ends-on (Keeps psw) (read_low_half byte wsr (register i 0)) _ (λ n.
    ends-on (Keeps psw) (write_sized (doubled byte) wsr (register i 0) (spread (half_of (width byte)) n)) _ (λ written. flags-keep psw _))
computed-keeps (Shift how size) wsr i psw =
    ends-on (Keeps psw) (shift_count wsr i.operand) _ (λ count.
    ends-on (Keeps psw) (read_sized size wsr (register i 0)) _ (λ n.
    ends-on (Keeps psw) (write_sized size wsr (register i 0) (shifted how (half_of (bits size)) n (2 ^ count))) _ (λ written. flags-keep psw _)))
computed-keeps Normalize wsr i psw =
    ends-on (Keeps psw) (read_long wsr (register i 1)) _ (λ n.
    ends-on (Keeps psw) (write_long wsr (register i 1) (normal_result n)) _ (λ written.
    ends-on (Keeps psw) (write_register true wsr (register i 0) (normal_shifts n)) _ (λ counted. flags-keep psw _)))
computed-keeps (Multiply with_sign byte) wsr i psw = ends-on (Keeps psw) (multiply with_sign byte wsr i) _ (λ u. as-it-was psw)
computed-keeps (Divide with_sign byte) wsr i psw =
    ends-on (Keeps psw) (source byte wsr i.operand) _ (λ s.
    ends-on (Keeps psw) (read_sized (doubled byte) wsr (register i 0)) _ (λ n.
    ends-on (Keeps psw) (or_undefined (divided (half_of (width byte)) with_sign n s (flags_of psw))) _ (λ r.
    ends-on (Keeps psw) (write_sized (doubled byte) wsr (register i 0) r.0) _ (λ written. flags-keep psw _))))
computed-keeps CompareLong wsr i psw =
    ends-on (Keeps psw) (read_long wsr (register i 0)) _ (λ s.
    ends-on (Keeps psw) (read_long wsr (register i 1)) _ (λ n. flags-keep psw _))

-- a jump that asks VT clears it
route-keeps : (route : Route) (psw : ℕ) → Keeps psw (psw_after route psw)
route-keeps (When Sticky wanted) psw = as-it-was psw
route-keeps (When Higher wanted) psw = as-it-was psw
route-keeps (When LessOrEqual wanted) psw = as-it-was psw
route-keeps (When CarryTest wanted) psw = as-it-was psw
route-keeps (When OverflowTrap wanted) psw = overflow-keeps psw
route-keeps (When Overflow wanted) psw = as-it-was psw
route-keeps (When Less wanted) psw = as-it-was psw
route-keeps (When Equal wanted) psw = as-it-was psw
route-keeps Always psw = as-it-was psw
route-keeps Call psw = as-it-was psw
route-keeps Return psw = as-it-was psw
route-keeps (Bit set) psw = as-it-was psw
route-keeps (CountDown byte) psw = as-it-was psw
route-keeps Table psw = as-it-was psw
route-keeps Register psw = as-it-was psw

-- ---- what an instruction leaves

-- what is allowed after an instruction that has ended so
abbrev pub left : Insn → After × Cpu → Enabled
left i done = record { interrupts = has 2 done.1.psw_high; server = has 4 done.1.psw_high; held = (next_after i done.0).held }

-- before it, with this byte of the PSW
abbrev pub allowed : ℕ → Bool → Enabled
allowed psw held = record { interrupts = has 2 psw; server = has 4 psw; held = held }

same-bit : (b : Bool) → is_both b b ≡ true
same-bit true = refl
same-bit false = refl

pub same-bits : (a b : Enabled) → b.interrupts ≡ a.interrupts → b.server ≡ a.server → b.held ≡ a.held → is_same a b ≡ true
same-bits a b i p h = rw (i, p, h, same-bit a.interrupts, same-bit a.server, same-bit a.held) refl

-- the same I and PSE
kept-as : (held : Bool) (old new : ℕ) (now : Bool) → now ≡ held → Keeps old new → is_same (record { interrupts = has 2 old; server = has 4 old; held = held }) (allowed new now) ≡ true
kept-as held old new now e k = same-bits (record { interrupts = has 2 old; server = has 4 old; held = held }) (allowed new now) k.interrupts k.server e

-- words follow a block move, or the next instruction
words-free : (i : Insn) (w : Words) (none : Bool) → (next_after i (if none then Next else MoreWords w)).held ≡ false
words-free i w true = refl
words-free i w false = refl

idle-free : (i : Insn) (o : Operand) → Ends (λ after. (next_after i after).held ≡ false) (or_undefined (idle_after o))
idle-free i (Imm key) = by (key == 1) (key == 2)
  where
    by : (one two : Bool) → Ends (λ after. (next_after i after).held ≡ false) (or_undefined (if one then Ok Idles else if two then Ok Powerdown else Err IdleKey))
    by true two = refl
    by false true = refl
    by false false = tt
idle-free i _ = tt

setting-leaves : (set : Setting) (i : Insn) (psw : ℕ) (held : Bool) (pc : ℕ) → may_leave (Some (Set set)) (allowed psw held) (left i (setting_after set, record { pc = pc; psw_high = setting_psw set psw })) ≡ true
setting-leaves (Carry set) i psw held pc = kept-as false psw (with_bit 8 set psw) false refl (carry-keeps psw set)
setting-leaves (Interrupts set) i psw held pc =
    let s : Sets 2 4 set psw (with_bit 2 set psw) = interrupts-set psw set in
    same-bits (record { interrupts = set; server = has 4 psw; held = true }) (allowed (with_bit 2 set psw) true) s.is s.kept refl
setting-leaves (Transfers set) i psw held pc =
    let s : Sets 4 2 set psw (with_bit 4 set psw) = server-set psw set in
    same-bits (record { interrupts = has 2 psw; server = set; held = true }) (allowed (with_bit 4 set psw) true) s.kept s.is refl
setting-leaves NoOverflowTrap i psw held pc = kept-as false psw (with_bit 16 false psw) false refl (overflow-keeps psw)
setting-leaves Nothing i psw held pc = kept-as false psw psw false refl (as-it-was psw)

-- what an instruction of a kind leaves
abbrev pub Leaves : Option Plan → Insn → Cpu → Bool → After × Cpu → Type 0
Leaves plan i cpu held done = may_leave plan (allowed cpu.psw_high held) (left i done) ≡ true

saving-leaves : (how : Saving) (i : Insn) (cpu : Cpu) (held : Bool) (wsr : ℕ) → Ends (Leaves (Some (Save how)) i cpu held) (planned (Save how) i wsr cpu)
unfolding planned save
saving-leaves PushStatus i cpu held wsr = ends-then (λ psw. psw ≡ 0) (Leaves (Some (Save PushStatus)) i cpu held) (save PushStatus cpu.psw_high) _ (ends-on (λ psw. psw ≡ 0) (push_status cpu.psw_high) _ (λ u. refl)) (λ psw none. rw none refl)
saving-leaves PushAll i cpu held wsr = ends-then (λ psw. psw ≡ 0) (Leaves (Some (Save PushAll)) i cpu held) (save PushAll cpu.psw_high) _ (ends-on (λ psw. psw ≡ 0) (push_all cpu.psw_high) _ (λ u. refl)) (λ psw none. rw none refl)
saving-leaves PopStatus i cpu held wsr = ends-on (Leaves (Some (Save PopStatus)) i cpu held) (save PopStatus cpu.psw_high) _ (λ psw. refl)
saving-leaves PopAll i cpu held wsr = ends-on (Leaves (Some (Save PopAll)) i cpu held) (save PopAll cpu.psw_high) _ (λ psw. refl)

plan-leaves : (plan : Plan) (i : Insn) (wsr : ℕ) (cpu : Cpu) (held : Bool) → Ends (Leaves (Some plan) i cpu held) (planned plan i wsr cpu)
unfolding planned
plan-leaves (Compute how) i wsr cpu held = ends-then (Keeps cpu.psw_high) (Leaves (Some (Compute how)) i cpu held) (compute how wsr i cpu.psw_high) _ (computed-keeps how wsr i cpu.psw_high) (λ psw k. kept-as false cpu.psw_high psw false refl k)
plan-leaves (Move how) i wsr cpu held = ends-on (Leaves (Some (Move how)) i cpu held) (move_data how wsr i) _ (λ u. kept-as false cpu.psw_high cpu.psw_high false refl (as-it-was cpu.psw_high))
plan-leaves (Jump route) i wsr cpu held = ends-on (Leaves (Some (Jump route)) i cpu held) (goes route wsr i cpu) _ (λ pc. kept-as false cpu.psw_high (psw_after route cpu.psw_high) false refl (route-keeps route cpu.psw_high))
plan-leaves (Save how) i wsr cpu held = saving-leaves how i cpu held wsr
plan-leaves (Set set) i wsr cpu held = setting-leaves set i cpu.psw_high held (next_pc i cpu.pc)
plan-leaves (BlockMove interruptible) i wsr cpu held = ends-on (Leaves (Some (BlockMove interruptible)) i cpu held) (set_up interruptible wsr i) _ (λ w. kept-as false cpu.psw_high cpu.psw_high _ (words-free i w (w.left == 0)) (as-it-was cpu.psw_high))
plan-leaves Trap i wsr cpu held = ends-on (Leaves (Some Trap) i cpu held) (trap 0x2010 (next_pc i cpu.pc)) _ (λ pc. kept-as true cpu.psw_high cpu.psw_high true refl (as-it-was cpu.psw_high))
plan-leaves Idle i wsr cpu held = ends-then (λ after. (next_after i after).held ≡ false) (Leaves (Some Idle) i cpu held) (or_undefined (idle_after i.operand)) _ (idle-free i i.operand) (λ after free. kept-as false cpu.psw_high cpu.psw_high _ free (as-it-was cpu.psw_high))
plan-leaves Reset i wsr cpu held = kept-as false cpu.psw_high cpu.psw_high false refl (as-it-was cpu.psw_high)

-- any instruction
effect-by : (mnemonic : Option Mnemonic) (i : Insn) (cpu : Cpu) (held : Bool) → mnemonic_at i.opcode i.signed ≡ mnemonic → Ends (Leaves (plan_in i) i cpu held) (effect_of i cpu)
unfolding effect_of
effect-by None i cpu held e = rw (e, effect_of) tt
effect-by (Some mnemonic) i cpu held e = rw (e, effect_of) (λ m. plan-leaves (plan_of mnemonic) i m.wsr cpu held)

pub effect-leaves : (i : Insn) (cpu : Cpu) (held : Bool) → Ends (Leaves (plan_in i) i cpu held) (effect_of i cpu)
effect-leaves i cpu held = effect-by (mnemonic_at i.opcode i.signed) i cpu held refl

-- a word of a block move
pub word-leaves : (i : Insn) (w : Words) (cpu : Cpu) → Ends (λ done. is_same (allowed cpu.psw_high false) (left i done) ≡ true) (moved_word i w cpu)
unfolding moved_word
word-leaves i w cpu = λ m. ends-on (λ done. is_same (allowed cpu.psw_high false) (left i done) ≡ true) (move_one m.wsr i w) _ (λ u. kept-as false cpu.psw_high cpu.psw_high _ (words-free i (less_one w) ((less_one w).left == 0)) (as-it-was cpu.psw_high))

-- ---- the words of a block move

-- they can be interrupted as it can
abbrev pub AreOf : Bool → After × Cpu → Type 0
AreOf interruptible done = (w : Words) → done.0 ≡ MoreWords w → w.interruptible ≡ interruptible

words-of : (interruptible : Bool) (v : Words) (none : Bool) → v.interruptible ≡ interruptible → (w : Words) → ◌≡◌ {A = After} (if none then Next else MoreWords v) (MoreWords w) → w.interruptible ≡ interruptible
words-of interruptible v true e w is = absurd (cc is)
words-of interruptible v false e w is = let same : v ≡ w = cc in sym (ap (λ (x : Words). x.interruptible) same) ∙ e

set-up-of : (interruptible : Bool) (wsr : ℕ) (i : Insn) → Ends (λ (w : Words). w.interruptible ≡ interruptible) (set_up interruptible wsr i)
unfolding set_up
set-up-of interruptible wsr i =
    ends-on (λ (w : Words). w.interruptible ≡ interruptible) (read_long wsr (register i 1)) _ (λ pointers.
    ends-on (λ (w : Words). w.interruptible ≡ interruptible) (read_register false wsr (register i 0)) _ (λ count. refl))

block-of : (interruptible : Bool) (i : Insn) (wsr : ℕ) (cpu : Cpu) → Ends (AreOf interruptible) (planned (BlockMove interruptible) i wsr cpu)
unfolding planned
block-of interruptible i wsr cpu = ends-then (λ (w : Words). w.interruptible ≡ interruptible) (AreOf interruptible) (set_up interruptible wsr i) _ (set-up-of interruptible wsr i) (λ v e w is. words-of interruptible v (v.left == 0) e w is)

pub move-of : (interruptible : Bool) (mnemonic : Mnemonic) (i : Insn) (cpu : Cpu) → mnemonic_at i.opcode i.signed ≡ Some mnemonic → plan_of mnemonic ≡ BlockMove interruptible → Ends (AreOf interruptible) (effect_of i cpu)
unfolding effect_of
move-of interruptible mnemonic i cpu e is = rw (e, effect_of) (λ m. subst (λ (p : Plan). Ends (AreOf interruptible) (planned p i m.wsr cpu)) (sym is) (block-of interruptible i m.wsr cpu))
