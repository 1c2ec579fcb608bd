-- Where the program goes on after an instruction, by the kind of its work.
use Rattle.std.proofs.Common.{◌≡◌, ℕ, Bool, true, false, ◌+◌, ◌-◌, ◌*◌, ◌%◌, ◌<◌, ◌≤◌, ◌==◌, nat_lt, ◌⊎◌, inl, inr, if◌then◌else◌, Option, Some, None, Result, Ok, Err, refl, sym, ◌∙◌, ap, subst, arith}
use Rattle.std.proofs.lemmas.Grind.{common_steps}
use Rattle.kc_base.specs.declared.types.Kind.{Kind}
use Rattle.kc_base.specs.declared.types.Kind.TheVariants.{IdleKey}
use Rattle.kc_isa.specs.declared.insn.Insn.{Insn}
use Rattle.kc_isa.specs.declared.insn.Operand.{Operand}
use Rattle.kc_isa.specs.declared.insn.Operand.TheVariants.{Absent, Reg, Imm, Indirect, Increment, Short, Long, Count, Disp}
use Rattle.kc_exec_spec.specs.declared.cpu.Cpu.{Cpu}
use Rattle.kc_exec_spec.specs.declared.cpu.Words.{Words}
use Rattle.kc_exec_spec.specs.declared.cpu.After.{After}
use Rattle.kc_exec_spec.specs.declared.cpu.After.TheVariants.{Next, Held, Idle as Idles, Powerdown, Reset as Resets, MoreWords}
use Rattle.kc_exec_spec.specs.declared.plan.Plan.{Plan}
use Rattle.kc_exec_spec.specs.declared.plan.Plan.TheVariants.{Compute, Move, Jump, Save, Set, BlockMove, Trap, Idle, Reset}
use Rattle.kc_exec_spec.specs.declared.plan.Route.TheVariants.{Always, Call, Return, When, Bit, CountDown, Table, Register}
use Rattle.kc_exec_spec.specs.declared.plan.Setting.{Setting}
use Rattle.kc_exec_spec.specs.declared.plan.Setting.TheVariants.{Carry, Interrupts, Transfers, NoOverflowTrap, Nothing}
use Rattle.kc_exec_spec.specs.Effect.{Effect, End, Undefined, Meaning, Outcome, Done, Refused, run, ◌>>=◌}
use Rattle.kc_exec_spec.specs.Parts.{push, or_undefined}
use Rattle.kc_exec_spec.specs.Computing.{compute, register}
use Rattle.kc_exec_spec.specs.Moving.{move_data}
use Rattle.kc_exec_spec.specs.Jumping.{next_pc, jump_pc, branch_pc, is_taken, goes, bit_jump, count_down}
use Rattle.kc_exec_spec.specs.Saving.{save}
use Rattle.kc_exec_spec.specs.Settings.{setting_after, idle_after}
use Rattle.kc_exec_spec.specs.BlockMoves.{set_up, after_words, cpu_after_words}
use Rattle.kc_exec_spec.specs.Entering.{trap}
use Rattle.kc_exec_spec.specs.Effects.{planned}
use Rattle.kc_exec_spec.proofs.Running.{followed, run_bind}

-- the first of two effects that are done, and what it leaves for the second
pub record IsDoneBy {A B H : Type 0} (bus : Meaning H) (e : Effect A) (k : A → Effect B) (h : H) (b : B) (u : H) : Type 0 where
  pub first : A
  pub between : H
  pub one : run bus e h ≡ Done first between
  pub two : run bus (k first) between ≡ Done b u

done_by : {A B H : Type 0} (bus : Meaning H) (e : Effect A) (k : A → Effect B) (h : H) (b : B) (u : H) (o : Outcome A H) → run bus e h ≡ o → followed o (λ a m. run bus (k a) m) ≡ Done b u → IsDoneBy bus e k h b u
done_by bus e k h b u (Done a m) one two = record { first = a; between = m; one = one; two = two }
done_by bus e k h b u (Refused x m) one two = absurd (cc two)

pub done-bind : {A B H : Type 0} (bus : Meaning H) (e : Effect A) (k : A → Effect B) (h : H) (b : B) (u : H) → run bus (e >>= k) h ≡ Done b u → IsDoneBy bus e k h b u
done-bind bus e k h b u d = done_by bus e k h b u (run bus e h) refl (sym (run_bind bus e k h) ∙ d)

-- nothing but an instruction follows
abbrev pub IsPlain : After → Type 0
IsPlain Next = Unit {0}
IsPlain Held = Unit {0}
IsPlain _ = ⊥

-- where each kind of work goes on, if it is not refused
abbrev pub GoesOn : Plan → Insn → Cpu → After → ℕ → Type 0
GoesOn (Jump Always) i cpu after pc = IsPlain after × (pc ≡ jump_pc i cpu.pc)
GoesOn (Jump Call) i cpu after pc = IsPlain after × (pc ≡ jump_pc i cpu.pc)
GoesOn (Jump Return) i cpu after pc = IsPlain after
GoesOn (Jump (When test wanted)) i cpu after pc = IsPlain after × (pc ≡ branch_pc (is_taken test wanted cpu.psw_high) i cpu.pc)
GoesOn (Jump (Bit set)) i cpu after pc = IsPlain after × ((taken : Bool) × (pc ≡ branch_pc taken i cpu.pc))
GoesOn (Jump (CountDown byte)) i cpu after pc = IsPlain after × ((taken : Bool) × (pc ≡ branch_pc taken i cpu.pc))
GoesOn (Jump Table) i cpu after pc = IsPlain after
GoesOn (Jump Register) i cpu after pc = IsPlain after
GoesOn (BlockMove interruptible) i cpu after pc = (IsPlain after × (pc ≡ next_pc i cpu.pc)) ⊎ ((w : Words) × (after ≡ MoreWords w) × (pc ≡ cpu.pc) × (0 < w.left))
GoesOn Trap i cpu after pc = IsPlain after
GoesOn Idle i cpu after pc = (after ≡ Idles) ⊎ (after ≡ Powerdown)
GoesOn Reset i cpu after pc = after ≡ Resets
GoesOn _ i cpu after pc = IsPlain after × (pc ≡ next_pc i cpu.pc)

-- two ends of one outcome are one
pub same-done : {H : Type 0} (a b : After) (x y : Cpu) (h u : H) → ◌≡◌ {A = Outcome (After × Cpu) H} (Done (a, x) h) (Done (b, y) u) → (a ≡ b) × (x.pc ≡ y.pc)
same-done a b x y h u e =
    let p : ◌≡◌ {A = After × Cpu} (a, x) (b, y) = cc in
    (ap (λ (q : After × Cpu). q.0) p, ap (λ (q : After × Cpu). q.1.pc) p)

pub plain-next : (a : After) → Next ≡ a → IsPlain a
plain-next a e = subst IsPlain e tt

plain-held : (a : After) → Held ≡ a → IsPlain a
plain-held a e = subst IsPlain e tt

plain-setting : (bit : Setting) → IsPlain (setting_after bit)
plain-setting (Carry set) = tt
plain-setting (Interrupts set) = tt
plain-setting (Transfers set) = tt
plain-setting NoOverflowTrap = tt
plain-setting Nothing = tt

-- work that ends with a number, and goes on at one address
steps : {A H : Type 0} (bus : Meaning H) (e : Effect A) (after : After) (pc : ℕ) (psw : A → ℕ) (h : H) (a : After) (c : Cpu) (u : H)
    → run {A = After × Cpu} bus (e >>= λ x. End (after, record { pc = pc; psw_high = psw x })) h ≡ Done (a, c) u → (after ≡ a) × (pc ≡ c.pc)
steps bus e after pc psw h a c u d =
    let by = done-bind bus e (λ x. End (after, record { pc = pc; psw_high = psw x })) h (a, c) u d in
    same-done after a (record { pc = pc; psw_high = psw by.first }) c by.between u by.two

-- a jump, with what its target is known to be
jumps : {H : Type 0} (bus : Meaning H) (e : Effect ℕ) (psw : ℕ) (h : H) (a : After) (c : Cpu) (u : H) → run {A = After × Cpu} bus (e >>= λ pc. End (Next, record { pc = pc; psw_high = psw })) h ≡ Done (a, c) u
    → IsPlain a × ((m : H) × (run bus e h ≡ Done c.pc m))
jumps bus e psw h a c u d =
    let by = done-bind bus e (λ pc. End (Next, record { pc = pc; psw_high = psw })) h (a, c) u d in
    let same : (Next ≡ a) × (by.first ≡ c.pc) = same-done Next a (record { pc = by.first; psw_high = psw }) c by.between u by.two in
    (plain-next a same.0, (by.between, by.one ∙ ap (λ n. Done n by.between) same.1))

pub same-number : {H : Type 0} (n k : ℕ) (h m : H) → Done n h ≡ Done k m → n ≡ k
same-number n k h m e = cc

-- a jump to one of two addresses, by an effect
branches : {H : Type 0} (bus : Meaning H) (e : Effect Bool) (i : Insn) (pc n : ℕ) (h m : H) → run bus (e >>= λ taken. End (branch_pc taken i pc)) h ≡ Done n m → (taken : Bool) × (n ≡ branch_pc taken i pc)
branches bus e i pc n h m d =
    let by = done-bind bus e (λ taken. End (branch_pc taken i pc)) h n m d in
    (by.first, sym (same-number (branch_pc by.first i pc) n by.between m by.two))

calls : {H : Type 0} (bus : Meaning H) (e : Effect (Unit {0})) (target n : ℕ) (h m : H) → run bus (e >>= λ x. End target) h ≡ Done n m → n ≡ target
calls bus e target n h m d =
    let by = done-bind bus e (λ x. End target) h n m d in
    sym (same-number target n by.between m by.two)

words-by : (i : Insn) (cpu : Cpu) (w : Words) (none : Bool) → (w.left == 0) ≡ none → (a : After) (c : Cpu) → after_words w ≡ a → (cpu_after_words i w cpu).pc ≡ c.pc
    → (IsPlain a × (c.pc ≡ next_pc i cpu.pc)) ⊎ ((v : Words) × (a ≡ MoreWords v) × (c.pc ≡ cpu.pc) × (0 < v.left))
words-by i cpu w true e a c is_after is_pc =
    let next : after_words w ≡ Next = rw e refl in
    let pc : (cpu_after_words i w cpu).pc ≡ next_pc i cpu.pc = rw e refl in
    inl (plain-next a (sym next ∙ is_after), sym is_pc ∙ pc)
words-by i cpu w false e a c is_after is_pc =
    let next : after_words w ≡ MoreWords w = rw e refl in
    let pc : (cpu_after_words i w cpu).pc ≡ cpu.pc = rw e refl in
    inr (w, sym is_after ∙ next, sym is_pc ∙ pc, grind (arith, common_steps))

idles-by : {H : Type 0} (bus : Meaning H) (one two : Bool) (kind : Kind) (pc psw : ℕ) (h : H) (a : After) (c : Cpu) (u : H)
    → run {A = After × Cpu} bus (or_undefined (if one then Ok Idles else if two then Ok Powerdown else Err kind) >>= λ after. End (after, record { pc = pc; psw_high = psw })) h ≡ Done (a, c) u → (a ≡ Idles) ⊎ (a ≡ Powerdown)
idles-by bus true two kind pc psw h a c u d = inl (sym (same-done Idles a _ c h u d).0)
idles-by bus false true kind pc psw h a c u d = inr (sym (same-done Powerdown a _ c h u d).0)
idles-by bus false false kind pc psw h a c u d = absurd (cc d)

idles-by-operand : {H : Type 0} (bus : Meaning H) (o : Operand) (pc psw : ℕ) (h : H) (a : After) (c : Cpu) (u : H)
    → run {A = After × Cpu} bus (or_undefined (idle_after o) >>= λ after. End (after, record { pc = pc; psw_high = psw })) h ≡ Done (a, c) u → (a ≡ Idles) ⊎ (a ≡ Powerdown)
idles-by-operand bus (Imm key) pc psw h a c u d = idles-by bus (key == 1) (key == 2) IdleKey pc psw h a c u d
idles-by-operand bus _ pc psw h a c u d = absurd (cc d)

-- work that ends with an address
steps-to : {H : Type 0} (bus : Meaning H) (e : Effect ℕ) (after : After) (psw : ℕ) (h : H) (a : After) (c : Cpu) (u : H)
    → run {A = After × Cpu} bus (e >>= λ pc. End (after, record { pc = pc; psw_high = psw })) h ≡ Done (a, c) u → after ≡ a
steps-to bus e after psw h a c u d =
    let by = done-bind bus e (λ pc. End (after, record { pc = pc; psw_high = psw })) h (a, c) u d in
    (same-done after a (record { pc = by.first; psw_high = psw }) c by.between u by.two).0

-- an instruction that is not refused goes on as its plan says
pub goes-on : {H : Type 0} (bus : Meaning H) (plan : Plan) (i : Insn) (wsr : ℕ) (cpu : Cpu) (h : H) (a : After) (c : Cpu) (u : H) → run {A = After × Cpu} bus (planned plan i wsr cpu) h ≡ Done (a, c) u → GoesOn plan i cpu a c.pc
unfolding planned goes
goes-on bus (Compute how) i wsr cpu h a c u d =
    let s = steps bus (compute how wsr i cpu.psw_high) Next (next_pc i cpu.pc) (λ psw. psw) h a c u d in
    (plain-next a s.0, sym s.1)
goes-on bus (Move how) i wsr cpu h a c u d =
    let s = steps bus (move_data how wsr i) Next (next_pc i cpu.pc) (λ x. cpu.psw_high) h a c u d in
    (plain-next a s.0, sym s.1)
goes-on bus (Save how) i wsr cpu h a c u d =
    let s = steps bus (save how cpu.psw_high) Held (next_pc i cpu.pc) (λ psw. psw) h a c u d in
    (plain-held a s.0, sym s.1)
goes-on bus (Set bit) i wsr cpu h a c u d =
    let s = same-done (setting_after bit) a _ c h u d in
    (subst IsPlain s.0 (plain-setting bit), sym s.1)
goes-on bus (Jump Always) i wsr cpu h a c u d =
    let s = same-done Next a _ c h u d in
    (plain-next a s.0, sym s.1)
goes-on bus (Jump Call) i wsr cpu h a c u d =
    let s = jumps bus (push (next_pc i cpu.pc) >>= λ x. End (jump_pc i cpu.pc)) _ h a c u d in
    (s.0, calls bus (push (next_pc i cpu.pc)) (jump_pc i cpu.pc) c.pc h s.1.0 s.1.1)
goes-on bus (Jump Return) i wsr cpu h a c u d = (jumps bus (goes Return wsr i cpu) cpu.psw_high h a c u d).0
goes-on bus (Jump (When test wanted)) i wsr cpu h a c u d =
    let s = same-done Next a _ c h u d in
    (plain-next a s.0, sym s.1)
goes-on bus (Jump (Bit set)) i wsr cpu h a c u d =
    let e : Effect Bool = bit_jump set (i.opcode % 8) wsr (register i 0) in
    let s = jumps bus (e >>= λ taken. End (branch_pc taken i cpu.pc)) _ h a c u d in
    (s.0, branches bus e i cpu.pc c.pc h s.1.0 s.1.1)
goes-on bus (Jump (CountDown byte)) i wsr cpu h a c u d =
    let e : Effect Bool = count_down byte wsr (register i 0) in
    let s = jumps bus (e >>= λ taken. End (branch_pc taken i cpu.pc)) _ h a c u d in
    (s.0, branches bus e i cpu.pc c.pc h s.1.0 s.1.1)
goes-on bus (Jump Table) i wsr cpu h a c u d = (jumps bus (goes Table wsr i cpu) cpu.psw_high h a c u d).0
goes-on bus (Jump Register) i wsr cpu h a c u d = (jumps bus (goes Register wsr i cpu) cpu.psw_high h a c u d).0
goes-on bus (BlockMove interruptible) i wsr cpu h a c u d =
    let by = done-bind bus (set_up interruptible wsr i) (λ w. End (after_words w, cpu_after_words i w cpu)) h (a, c) u d in
    let s = same-done (after_words by.first) a (cpu_after_words i by.first cpu) c by.between u by.two in
    words-by i cpu by.first (by.first.left == 0) refl a c s.0 s.1
goes-on bus Trap i wsr cpu h a c u d =
    let s = steps-to bus (trap 0x2010 (next_pc i cpu.pc)) Held cpu.psw_high h a c u d in
    plain-held a s
goes-on bus Idle i wsr cpu h a c u d = idles-by-operand bus i.operand (next_pc i cpu.pc) cpu.psw_high h a c u d
goes-on bus Reset i wsr cpu h a c u d = sym (same-done Resets a _ c h u d).0
