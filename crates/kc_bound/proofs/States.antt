-- An instruction takes at most the states of the place at which it takes most.
use Rattle.std.proofs.Common.{◌≡◌, ℕ, Bool, true, false, not, ◌+◌, ◌-◌, ◌*◌, ◌%◌, ◌<◌, ◌≤◌, ◌==◌, ◌&&◌, ◌||◌, nat_lt, nat_le, if◌then◌else◌, Option, Some, None, Result, Ok, Err, refl, sym, ◌∙◌, ap, subst, arith}
use Rattle.std.proofs.lemmas.Grind.{common_steps}
use Rattle.std.specs.Prelude.{IfOk, min, max}
use Rattle.std.specs.Int.{w16, w32, leading_zeros, cast_unsigned}
use Rattle.kc_base.specs.declared.types.Kind.{Kind}
use Rattle.kc_base.specs.declared.types.Kind.TheVariants.{NoRegister, BadWindow}
use Rattle.kc_isa.specs.declared.table.Shape.{Shape}
use Rattle.kc_isa.specs.declared.table.Shape.TheVariants.{Conditional}
use Rattle.kc_isa.specs.declared.insn.Insn.{Insn}
use Rattle.kc_isa.specs.declared.insn.Place.{Place}
use Rattle.kc_isa.specs.declared.insn.Operand.{Operand}
use Rattle.kc_isa.specs.declared.insn.Operand.TheVariants.{Absent, Reg, Imm, Indirect, Increment, Short, Long, Count, Disp}
use Rattle.kc_isa.specs.Table.{entry_at}
use Rattle.kc_isa.specs.Formed.{is_shift, mode_states, memory_states, shift_states, jump_states, entry_states, states_of}
use Rattle.kc_alu.specs.Shifts.{normal_shifts}
use Rattle.kc_exec_spec.specs.declared.plan.Plan.{Plan}
use Rattle.kc_exec_spec.specs.declared.plan.Plan.TheVariants.{Compute}
use Rattle.kc_exec_spec.specs.declared.plan.Computation.TheVariants.{Normalize}
use Rattle.kc_exec_spec.specs.Window.{window_of, is_horizontal, is_among, mapped}
use Rattle.kc_exec_spec.specs.Operands.{at_offset}
use Rattle.kc_exec_spec.specs.Computing.{register}
use Rattle.kc_exec_spec.specs.Places.{◌>>=◌, word_seen, long_seen, or_register, is_outside, is_outside_at, operand_outside, is_pop_target, stack_outside, count_seen, normal_seen, shifts_seen, jump_taken, planned_place}
use Rattle.kc_bound.specs.Ways.{may_be_outside, most_counted, most_shifts, most_place, most_states}

-- ---- shifts

counted-by : (b : Bool) (n k : ℕ) (r : Result ℕ Kind) → IfOk r (λ j. j ≤ 31) → (if b then Ok n else r) ≡ Ok k → k ≤ (if b then n else 31)
counted-by true n k r few h = let e : n ≡ k = cc in omega arith
counted-by false n k (Ok j) few h = let e : j ≡ k = cc in omega (arith, few)
counted-by false n k (Err e) few h = absurd (cc)

few-bits : (r : Result ℕ Kind) → IfOk (r >>= λ k. Ok (k % 32)) (λ j. j ≤ 31)
few-bits (Ok k) = omega arith
few-bits (Err e) = tt

few-counted : (r : Result ℕ Kind) (byte : ℕ → ℕ) → IfOk (r >>= λ addr. or_register addr (byte addr) >>= λ k. Ok (k % 32)) (λ j. j ≤ 31)
few-counted (Ok addr) byte = few-bits (or_register addr (byte addr))
few-counted (Err e) byte = tt

zero-counted : (k : ℕ) (r : Result ℕ Kind) → r ≡ Ok 0 → r ≡ Ok k → k ≤ 0
zero-counted k r z h = let e : 0 ≡ k = cc in omega arith

counted-most : (wsr : ℕ) (byte : ℕ → ℕ) (o : Operand) (k : ℕ) → count_seen wsr byte o ≡ Ok k → k ≤ most_counted o
unfolding count_seen
counted-most wsr byte (Count n) k h = counted-by (nat_lt n 0x10) n k _ (few-counted (window_of wsr n) byte) h
counted-most wsr byte Absent k h = zero-counted k (Ok 0) refl h
counted-most wsr byte (Reg r) k h = zero-counted k (Ok 0) refl h
counted-most wsr byte (Imm n) k h = zero-counted k (Ok 0) refl h
counted-most wsr byte (Indirect r) k h = zero-counted k (Ok 0) refl h
counted-most wsr byte (Increment r) k h = zero-counted k (Ok 0) refl h
counted-most wsr byte (Short base offset) k h = zero-counted k (Ok 0) refl h
counted-most wsr byte (Long base offset) k h = zero-counted k (Ok 0) refl h
counted-most wsr byte (Disp d) k h = zero-counted k (Ok 0) refl h

few-normal : (n : ℕ) → normal_shifts n ≤ 31
few-normal n = omega arith

normal-by : (low even : Bool) (n k : ℕ) → (if low then Err NoRegister else Ok (if even then normal_shifts n else 0)) ≡ Ok k → k ≤ 31
normal-by true even n k h = absurd (cc)
normal-by false true n k h = let e : normal_shifts n ≡ k = cc in subst (λ j. j ≤ 31) e (few-normal n)
normal-by false false n k h = let e : 0 ≡ k = cc in omega arith

normal-in : (r : Result ℕ Kind) (byte : ℕ → ℕ) (k : ℕ) → (r >>= λ addr. if nat_lt addr 24 then Err NoRegister else Ok (if addr % 4 == 0 then normal_shifts (long_seen byte addr) else 0)) ≡ Ok k → k ≤ 31
normal-in (Ok addr) byte k h = normal-by (nat_lt addr 24) (addr % 4 == 0) (long_seen byte addr) k h
normal-in (Err e) byte k h = absurd (cc)

normal-most : (wsr : ℕ) (byte : ℕ → ℕ) (r k : ℕ) → normal_seen wsr byte r ≡ Ok k → k ≤ 31
unfolding normal_seen
normal-most wsr byte r k h = normal-in (window_of wsr r) byte k h

shifts-most : (plan : Plan) (i : Insn) (wsr : ℕ) (byte : ℕ → ℕ) (k : ℕ) → shifts_seen plan i wsr byte ≡ Ok k → k ≤ most_shifts plan i.operand
shifts-most (Compute Normalize) i wsr byte k h = normal-most wsr byte (register i 1) k h
shifts-most _ i wsr byte k h = counted-most wsr byte i.operand k h

-- ---- where S is

-- register 00H is at address 0 in each window
zero-by : (a b c d : Bool) (x y z : ℕ) → IfOk (if a then Ok 0 else if b then Ok (mapped 32 x 0) else if c then Ok (mapped 64 y 0) else if d then Ok (mapped 128 z 0) else Err BadWindow) (λ n. n ≡ 0)
zero-by true b c d x y z = refl
zero-by false true c d x y z = refl
zero-by false false true d x y z = refl
zero-by false false false true x y z = refl
zero-by false false false false x y z = tt

zero-window : (wsr : ℕ) → IfOk (window_of wsr 0) (λ n. n ≡ 0)
zero-window wsr = zero-by (is_horizontal wsr) (is_among 64 16 wsr) (is_among 32 8 wsr) (is_among 16 4 wsr) (wsr - 64) (wsr - 32) (wsr - 16)

rest-outside : (n m : ℕ) → n ≤ m → is_outside n ≡ true → is_outside m ≡ true
rest-outside n m less h = grind (arith, common_steps)

-- at base 00H it is the offset that is outside
outside-of-zero : (pops : Bool) (byte : ℕ → ℕ) (offset : ℕ) (r : Result ℕ Kind) → IfOk r (λ n. n ≡ 0)
    → (r >>= λ addr. or_register addr (word_seen byte addr) >>= λ p. Ok (is_outside (at_offset p (offset + (if pops && addr == 24 then 2 else 0))))) ≡ Ok true → is_outside offset ≡ true
outside-of-zero pops byte offset (Err e) zero h = absurd (cc)
outside-of-zero pops byte offset (Ok addr) zero h = outside pops (subst (λ (x : ℕ). (or_register x (word_seen byte x) >>= λ p. Ok (is_outside (at_offset p (offset + (if pops && x == 24 then 2 else 0))))) ≡ Ok true) zero h)
  where
    same : (b : Bool) → ◌≡◌ {A = Result Bool Kind} (Ok b) (Ok true) → b ≡ true
    same b e = cc

    outside : (p : Bool) → ◌≡◌ {A = Result Bool Kind} (Ok (is_outside (at_offset 0 (offset + (if p && false then 2 else 0))))) (Ok true) → is_outside offset ≡ true
    outside true e = rest-outside ((0 + (offset + 0)) % 0x10000) offset (omega arith) (same _ e)
    outside false e = rest-outside ((0 + (offset + 0)) % 0x10000) offset (omega arith) (same _ e)

zero-outside : (pops : Bool) (wsr : ℕ) (byte : ℕ → ℕ) (offset : ℕ) → is_outside_at pops wsr byte 0 offset ≡ Ok true → is_outside offset ≡ true
unfolding is_outside_at
zero-outside pops wsr byte offset h = outside-of-zero pops byte offset (window_of wsr 0) (zero-window wsr) h

based-outside : (zero : Bool) (pops : Bool) (wsr : ℕ) (byte : ℕ → ℕ) (base offset : ℕ) → (base == 0) ≡ zero → is_outside_at pops wsr byte base offset ≡ Ok true → (not (base == 0) || is_outside offset) ≡ true
based-outside true pops wsr byte base offset e h =
    let none : base ≡ 0 = grind (arith, common_steps) in
    let out : is_outside offset ≡ true = zero-outside pops wsr byte offset (subst (λ b. is_outside_at pops wsr byte b offset ≡ Ok true) none h) in
    rw (e, out) refl
based-outside false pops wsr byte base offset e h = rw e refl

plain-outside : (zero : Bool) (pops : Bool) (wsr : ℕ) (byte : ℕ → ℕ) (base : ℕ) → (base == 0) ≡ zero → is_outside_at pops wsr byte base 0 ≡ Ok true → not (base == 0) ≡ true
plain-outside true pops wsr byte base e h =
    let none : base ≡ 0 = grind (arith, common_steps) in
    let out : is_outside 0 ≡ true = zero-outside pops wsr byte 0 (subst (λ b. is_outside_at pops wsr byte b 0 ≡ Ok true) none h) in
    absurd (cc out)
plain-outside false pops wsr byte base e h = rw e refl

operand-most : (pops : Bool) (wsr : ℕ) (byte : ℕ → ℕ) (o : Operand) → operand_outside pops wsr byte o ≡ Ok true → may_be_outside o ≡ true
unfolding operand_outside
operand-most pops wsr byte (Indirect r) h = plain-outside (r == 0) pops wsr byte r refl h
operand-most pops wsr byte (Increment r) h = plain-outside (r == 0) pops wsr byte r refl h
operand-most pops wsr byte (Short base offset) h = based-outside (base == 0) pops wsr byte base (cast_unsigned w16 offset) refl h
operand-most pops wsr byte (Long base offset) h = based-outside (base == 0) pops wsr byte base offset refl h
operand-most pops wsr byte Absent h = absurd (cc)
operand-most pops wsr byte (Reg r) h = absurd (cc)
operand-most pops wsr byte (Imm n) h = absurd (cc)
operand-most pops wsr byte (Count n) h = absurd (cc)
operand-most pops wsr byte (Disp d) h = absurd (cc)

-- ---- states

-- a place at which nothing takes more
pub record IsMost (p q : Place) : Type 0 where
  pub operand : p.operand_memory ≡ true → q.operand_memory ≡ true
  pub stack : p.stack_memory ≡ true → q.stack_memory ≡ true
  pub shifts : p.shifts ≤ q.shifts
  pub taken : p.taken ≡ q.taken

if-more : (b c : Bool) (n : ℕ) → (b ≡ true → c ≡ true) → (if b then n else 0) ≤ (if c then n else 0)
if-more true true n h = omega arith
if-more true false n h = absurd (let e : false ≡ true = h refl in cc)
if-more false true n h = omega arith
if-more false false n h = omega arith

both-more : (s b c : Bool) → (b ≡ true → c ≡ true) → (s && b) ≡ true → (s && c) ≡ true
both-more true b c h = h
both-more false b c h = λ e. e

shift-more : (b : Bool) (m n : ℕ) → m ≤ n → (if b then m else 0) ≤ (if b then n else 0)
shift-more true m n h = h
shift-more false m n h = omega arith

jump-same : (s : Shape) (p q : Place) → p.taken ≡ q.taken → jump_states s p ≡ jump_states s q
jump-same Conditional p q e = ap (λ b. if b then 4 else 0) e
jump-same _ p q e = refl

four-more : (m a b c d s t j k : ℕ) → a ≤ b → c ≤ d → s ≤ t → j ≡ k → m + (a + c) + s + j ≤ m + (b + d) + t + k
four-more m a b c d s t j k x y z w = omega arith

pub states-more : (i : Insn) (p q : Place) → IsMost p q → states_of i p ≤ states_of i q
states-more i p q h =
    elim (entry_at i.opcode i.signed) as (λ r. (elim r [ None ↦ 0 | Some e ↦ entry_states i p e ]) ≤ (elim r [ None ↦ 0 | Some e ↦ entry_states i q e ])) [
      | None ↦ omega arith
      | Some e ↦ four-more (mode_states e i.operand) _ _ _ _ _ _ _ _
          (if-more p.operand_memory q.operand_memory e.memory h.operand)
          (if-more (e.stack && p.stack_memory) (e.stack && q.stack_memory) 2 (both-more e.stack p.stack_memory q.stack_memory h.stack))
          (shift-more (is_shift e.shape e.group) p.shifts q.shifts h.shifts)
          (jump-same e.shape p q h.taken)
    ]

-- what a place is made of
record IsMadeOf (a : Result Bool Kind) (b : Result ℕ Kind) (stack taken : Bool) (p : Place) : Type 0 where
  pub operand : a ≡ Ok p.operand_memory
  pub shifts : b ≡ Ok p.shifts
  pub stack_is : p.stack_memory ≡ stack
  pub taken_is : p.taken ≡ taken

made-of : (a : Result Bool Kind) (b : Result ℕ Kind) (stack taken : Bool) (p : Place)
    → (a >>= λ operand. b >>= λ shifts. Ok (record { operand_memory = operand; stack_memory = stack; shifts = shifts; taken = taken })) ≡ Ok p → IsMadeOf a b stack taken p
made-of (Ok x) (Ok n) stack taken p h =
    let made : Place = record { operand_memory = x; stack_memory = stack; shifts = n; taken = taken } in
    let e : made ≡ p = cc in
    record {
      operand = ap (λ (q : Place). Ok q.operand_memory) e;
      shifts = ap (λ (q : Place). Ok q.shifts) e;
      stack_is = sym (ap (λ (q : Place). q.stack_memory) e);
      taken_is = sym (ap (λ (q : Place). q.taken) e);
    }
made-of (Ok x) (Err k) stack taken p h = absurd (cc)
made-of (Err k) b stack taken p h = absurd (cc)

above-two : (a b : ℕ) → a ≤ b → a ≤ max 2 b
above-two a b h = omega arith

-- the place of an instruction takes at most the states of the one that takes most
pub place-most : (plan : Plan) (i : Insn) (psw wsr : ℕ) (byte : ℕ → ℕ) (p : Place) → planned_place plan i psw wsr byte ≡ Ok p → (states_of i p ≤ most_states plan i p.taken) × (p.taken ≡ jump_taken plan psw)
unfolding planned_place
place-most plan i psw wsr byte p h =
    let parts : IsMadeOf (operand_outside (is_pop_target plan) wsr byte i.operand) (shifts_seen plan i wsr byte) (stack_outside plan (word_seen byte 0x18)) (jump_taken plan psw) p =
    made-of (operand_outside (is_pop_target plan) wsr byte i.operand) (shifts_seen plan i wsr byte) (stack_outside plan (word_seen byte 0x18)) (jump_taken plan psw) p h in (
      above-two _ _ (states-more i p (most_place plan i p.taken) (record {
        operand = λ yes. operand-most (is_pop_target plan) wsr byte i.operand (parts.operand ∙ ap (λ b. Ok b) yes);
        stack = λ yes. refl;
        shifts = shifts-most plan i wsr byte p.shifts parts.shifts;
        taken = refl;
      })),
      parts.taken_is,
    )
