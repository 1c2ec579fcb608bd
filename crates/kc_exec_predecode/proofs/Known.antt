-- Where the states of an instruction depend on one condition at most, they depend on nothing else of its place.
use Rattle.std.proofs.Common.{◌≡◌, ℕ, ◌+◌, ◌%◌, ◌<◌, Bool, true, false, not, nat_lt, ◌&&◌, ◌||◌, if◌then◌else◌, IsTrue, Option, Some, None, Result, Ok, Err, refl, sym, ap, subst, ◌∙◌}
use Rattle.kc_base.specs.declared.types.Kind.{Kind}
use Rattle.kc_isa.specs.declared.insn.Insn.{Insn}
use Rattle.kc_isa.specs.declared.insn.Place.{Place}
use Rattle.kc_isa.specs.declared.insn.Operand.{Operand}
use Rattle.kc_isa.specs.declared.insn.Operand.TheVariants.{Absent, Reg, Imm, Indirect, Increment, Short, Long, Count, Disp}
use Rattle.kc_isa.specs.declared.table.Mnemonic.{Mnemonic}
use Rattle.kc_isa.specs.Names.{mnemonic_at}
use Rattle.kc_isa.specs.Formed.{states_of, is_formed}
use Rattle.kc_exec_spec.specs.declared.access.Masks.{Masks}
use Rattle.kc_exec_spec.specs.declared.cpu.Cpu.{Cpu}
use Rattle.kc_exec_spec.specs.declared.plan.Plan.{Plan}
use Rattle.kc_exec_spec.specs.declared.plan.Plan.TheVariants.{Compute, Move, Jump, Save, Set, BlockMove, Trap, Idle, Reset}
use Rattle.kc_exec_spec.specs.declared.plan.Computation.TheVariants.{Operate, Alter, Extend, Shift, Normalize, Multiply, Divide, CompareLong}
use Rattle.kc_exec_spec.specs.declared.plan.Movement.TheVariants.{Load, ZeroExtend, SignExtend, Store, Exchange, Push, Pop}
use Rattle.kc_exec_spec.specs.declared.plan.Route.TheVariants.{Always, Call, Return, When, Bit, CountDown, Table, Register}
use Rattle.kc_exec_spec.specs.Jumping.{is_taken}
use Rattle.kc_exec_spec.specs.Plans.{plan_of}
use Rattle.kc_exec_spec.specs.Places.{is_outside, word_seen, operand_outside, is_push, is_pop, is_pop_target, stack_outside, count_seen, shifts_seen, jump_taken, planned_place, place_of, ◌>>=◌}
use Rattle.kc_exec_predecode.specs.declared.cost.Cost.TheVariants as cost
use Rattle.kc_exec_predecode.specs.declared.predecoded.Predecoded.{Predecoded}
use Rattle.kc_exec_predecode.specs.Predecoding.{is_pointing, is_counting, known_count, is_normalize, is_conditional, is_free, cost_among, cost_of, place_when, test_of, holds_at, is_simple, predecoded_of, known_at, time_at, IsPredecoded}

shifts-plain : (plan : Plan) (i : Insn) (wsr : ℕ) (byte : ℕ → ℕ) → is_normalize plan ≡ false → shifts_seen plan i wsr byte ≡ count_seen wsr byte i.operand
shifts-plain (Compute (Operate op byte)) i wsr bytes h = refl
shifts-plain (Compute (Alter how byte)) i wsr bytes h = refl
shifts-plain (Compute (Extend byte)) i wsr bytes h = refl
shifts-plain (Compute (Shift how size)) i wsr bytes h = refl
shifts-plain (Compute Normalize) i wsr bytes h = absurd (cc h)
shifts-plain (Compute (Multiply with_sign byte)) i wsr bytes h = refl
shifts-plain (Compute (Divide with_sign byte)) i wsr bytes h = refl
shifts-plain (Compute CompareLong) i wsr bytes h = refl
shifts-plain (Move how) i wsr bytes h = refl
shifts-plain (Jump route) i wsr bytes h = refl
shifts-plain (Save how) i wsr bytes h = refl
shifts-plain (Set bit) i wsr bytes h = refl
shifts-plain (BlockMove interruptible) i wsr bytes h = refl
shifts-plain Trap i wsr bytes h = refl
shifts-plain Idle i wsr bytes h = refl
shifts-plain Reset i wsr bytes h = refl

known-below : (wsr : ℕ) (byte : ℕ → ℕ) (n : ℕ) (below : Bool) → nat_lt n 0x10 ≡ below → not below ≡ false → count_seen wsr byte (Count n) ≡ Ok (known_count (Count n))
unfolding count_seen
known-below wsr byte n true e h = rw e refl
known-below wsr byte n false e h = absurd (cc h)

count-known : (o : Operand) (wsr : ℕ) (byte : ℕ → ℕ) → is_counting o ≡ false → count_seen wsr byte o ≡ Ok (known_count o)
unfolding count_seen
count-known (Count n) wsr byte h = known-below wsr byte n (nat_lt n 0x10) refl h
count-known Absent wsr byte h = refl
count-known (Reg r) wsr byte h = refl
count-known (Imm n) wsr byte h = refl
count-known (Indirect r) wsr byte h = refl
count-known (Increment r) wsr byte h = refl
count-known (Short base offset) wsr byte h = refl
count-known (Long base offset) wsr byte h = refl
count-known (Disp d) wsr byte h = refl

never-outside : (o : Operand) (pops : Bool) (wsr : ℕ) (byte : ℕ → ℕ) → is_pointing o ≡ false → operand_outside pops wsr byte o ≡ Ok false
unfolding operand_outside
never-outside Absent pops wsr byte h = refl
never-outside (Reg r) pops wsr byte h = refl
never-outside (Imm n) pops wsr byte h = refl
never-outside (Indirect r) pops wsr byte h = absurd (cc h)
never-outside (Increment r) pops wsr byte h = absurd (cc h)
never-outside (Short base offset) pops wsr byte h = absurd (cc h)
never-outside (Long base offset) pops wsr byte h = absurd (cc h)
never-outside (Count n) pops wsr byte h = refl
never-outside (Disp d) pops wsr byte h = refl

no-target : (plan : Plan) → is_pop plan ≡ false → is_pop_target plan ≡ false
no-target (Compute how) h = refl
no-target (Move (Load byte)) h = refl
no-target (Move ZeroExtend) h = refl
no-target (Move SignExtend) h = refl
no-target (Move (Store byte)) h = refl
no-target (Move (Exchange byte)) h = refl
no-target (Move Push) h = refl
no-target (Move Pop) h = absurd (cc h)
no-target (Jump route) h = refl
no-target (Save how) h = refl
no-target (Set bit) h = refl
no-target (BlockMove interruptible) h = refl
no-target Trap h = refl
no-target Idle h = refl
no-target Reset h = refl

never-taken : (plan : Plan) (psw : ℕ) → is_conditional plan ≡ false → jump_taken plan psw ≡ false
never-taken (Compute how) psw h = refl
never-taken (Move how) psw h = refl
never-taken (Jump Always) psw h = refl
never-taken (Jump Call) psw h = refl
never-taken (Jump Return) psw h = refl
never-taken (Jump (When test wanted)) psw h = absurd (cc h)
never-taken (Jump (Bit set)) psw h = refl
never-taken (Jump (CountDown byte)) psw h = refl
never-taken (Jump Table) psw h = refl
never-taken (Jump Register) psw h = refl
never-taken (Save how) psw h = refl
never-taken (Set bit) psw h = refl
never-taken (BlockMove interruptible) psw h = refl
never-taken Trap psw h = refl
never-taken Idle psw h = refl
never-taken Reset psw h = refl

-- the parts of a place, where each is known
place-of-parts : (plan : Plan) (i : Insn) (psw wsr : ℕ) (byte : ℕ → ℕ) (operand : Result Bool Kind) → operand_outside (is_pop_target plan) wsr byte i.operand ≡ operand → shifts_seen plan i wsr byte ≡ Ok (known_count i.operand) →
    planned_place plan i psw wsr byte ≡ (operand >>= λ holds. Ok (record { operand_memory = holds; stack_memory = stack_outside plan (word_seen byte 0x18); shifts = known_count i.operand; taken = jump_taken plan psw }))
unfolding planned_place
place-of-parts plan i psw wsr byte operand o s = rw (o, s) refl

-- what is given by one condition at most
known-by : (points pushes pops when : Bool) (plan : Plan) (i : Insn) (psw wsr : ℕ) (byte : ℕ → ℕ) →
    is_pointing i.operand ≡ points → is_push plan ≡ pushes → is_pop plan ≡ pops → is_conditional plan ≡ when →
    shifts_seen plan i wsr byte ≡ Ok (known_count i.operand) →
    is_simple (cost_among points pushes pops when) ≡ true →
    planned_place plan i psw wsr byte ≡ (holds_at (cost_among points pushes pops when) plan i.operand psw wsr byte >>= λ holds. Ok (place_when (cost_among points pushes pops when) (known_count i.operand) holds))
known-by false false false false plan i psw wsr byte a b c d s h =
    place-of-parts plan i psw wsr byte (Ok false) (never-outside i.operand (is_pop_target plan) wsr byte a) s
    ∙ rw (b, c, never-taken plan psw d) refl
known-by true false false false plan i psw wsr byte a b c d s h =
    place-of-parts plan i psw wsr byte (operand_outside false wsr byte i.operand) (ap (λ t. operand_outside t wsr byte i.operand) (no-target plan c)) s
    ∙ rw (b, c, never-taken plan psw d) refl
known-by false true false false plan i psw wsr byte a b c d s h =
    place-of-parts plan i psw wsr byte (Ok false) (never-outside i.operand (is_pop_target plan) wsr byte a) s
    ∙ rw (b, c, never-taken plan psw d) (pushed (is_outside ((word_seen byte 0x18 + 0xFFFE) % 0x10000)))
  where
    pushed : (out : Bool) → ◌≡◌ {A = Result Place Kind} (Ok (record { operand_memory = false; stack_memory = (true && out) || false; shifts = known_count i.operand; taken = false })) (Ok (record { operand_memory = false; stack_memory = out; shifts = known_count i.operand; taken = false }))
    pushed true = refl
    pushed false = refl
known-by false false true false plan i psw wsr byte a b c d s h =
    place-of-parts plan i psw wsr byte (Ok false) (never-outside i.operand (is_pop_target plan) wsr byte a) s
    ∙ rw (b, c, never-taken plan psw d) refl
known-by false false false true plan i psw wsr byte a b c d s h =
    place-of-parts plan i psw wsr byte (Ok false) (never-outside i.operand (is_pop_target plan) wsr byte a) s
    ∙ rw (b, c) refl
known-by true true pops when plan i psw wsr byte a b c d s h = absurd (cc h)
known-by true false true when plan i psw wsr byte a b c d s h = absurd (cc h)
known-by true false false true plan i psw wsr byte a b c d s h = absurd (cc h)
known-by false true true when plan i psw wsr byte a b c d s h = absurd (cc h)
known-by false true false true plan i psw wsr byte a b c d s h = absurd (cc h)
known-by false false true true plan i psw wsr byte a b c d s h = absurd (cc h)

-- the same by the cost of a kind of work with an operand
known-at : (normal counting : Bool) (plan : Plan) (i : Insn) (psw wsr : ℕ) (byte : ℕ → ℕ) →
    is_normalize plan ≡ normal → is_counting i.operand ≡ counting →
    is_simple (cost_of plan i.operand) ≡ true →
    planned_place plan i psw wsr byte ≡ (holds_at (cost_of plan i.operand) plan i.operand psw wsr byte >>= λ holds. Ok (place_when (cost_of plan i.operand) (known_count i.operand) holds))
known-at true counting plan i psw wsr byte n c h = absurd (cc (rw n at h))
known-at false true plan i psw wsr byte n c h = absurd (cc (rw (n, c) at h))
known-at false false plan i psw wsr byte n c h =
    let cost-is : cost_of plan i.operand ≡ cost_among (is_pointing i.operand) (is_push plan) (is_pop plan) (is_conditional plan) = rw (n, c) refl in
    let simple : is_simple (cost_among (is_pointing i.operand) (is_push plan) (is_pop plan) (is_conditional plan)) ≡ true = ap is_simple (sym cost-is) ∙ h in
    known-by (is_pointing i.operand) (is_push plan) (is_pop plan) (is_conditional plan) plan i psw wsr byte refl refl refl refl (shifts-plain plan i wsr byte n ∙ count-known i.operand wsr byte c) simple
    ∙ ap (λ k. holds_at k plan i.operand psw wsr byte >>= λ holds. Ok (place_when k (known_count i.operand) holds)) (sym cost-is)

place-known : (plan : Plan) (i : Insn) (psw wsr : ℕ) (byte : ℕ → ℕ) → is_simple (cost_of plan i.operand) ≡ true →
    planned_place plan i psw wsr byte ≡ (holds_at (cost_of plan i.operand) plan i.operand psw wsr byte >>= λ holds. Ok (place_when (cost_of plan i.operand) (known_count i.operand) holds))
place-known plan i psw wsr byte h = known-at (is_normalize plan) (is_counting i.operand) plan i psw wsr byte refl refl h

place-planned : (i : Insn) (m : Mnemonic) (cpu : Cpu) (masks : Masks) (byte : ℕ → ℕ) → mnemonic_at i.opcode i.signed ≡ Some m → place_of i cpu masks byte ≡ planned_place (plan_of m) i cpu.psw_high masks.wsr byte
unfolding place_of
place-planned i m cpu masks byte e =
    ap (λ (found : Option Mnemonic). elim found [ None ↦ Ok (record { operand_memory = false; stack_memory = false; shifts = 0; taken = false }) | Some mnemonic ↦ planned_place (plan_of mnemonic) i cpu.psw_high masks.wsr byte ]) e

timed : (r : Predecoded) (found : Result Bool Kind) (place : Bool → Place) → r.base ≡ states_of r.insn (place false) → r.other ≡ states_of r.insn (place true) →
    ((found >>= λ holds. Ok (place holds)) >>= λ p. Ok (states_of r.insn p)) ≡ (found >>= λ holds. Ok (if holds then r.other else r.base))
timed r (Ok true) place base other = ap Ok (sym other)
timed r (Ok false) place base other = ap Ok (sym base)
timed r (Err k) place base other = refl

-- the states of a predecoded instruction, where they depend on one condition at most
pub time_known : (r : Predecoded) (cpu : Cpu) (masks : Masks) (byte : ℕ → ℕ) → IsPredecoded r → is_simple r.cost ≡ true →
    time_at r.insn cpu masks byte ≡ known_at r (holds_at r.cost (plan_of r.mnemonic) r.insn.operand cpu.psw_high masks.wsr byte)
unfolding predecoded_of
time_known r cpu masks byte predecoded h =
    let plan = plan_of r.mnemonic in
    let cost-is : r.cost ≡ cost_of plan r.insn.operand = ap (λ (x : Predecoded). x.cost) predecoded.known in
    let base-is : r.base ≡ states_of r.insn (place_when (cost_of plan r.insn.operand) (known_count r.insn.operand) false) = ap (λ (x : Predecoded). x.base) predecoded.known in
    let other-is : r.other ≡ states_of r.insn (place_when (cost_of plan r.insn.operand) (known_count r.insn.operand) true) = ap (λ (x : Predecoded). x.other) predecoded.known in
    ap (λ place. place >>= λ p. Ok (states_of r.insn p)) (place-planned r.insn r.mnemonic cpu masks byte predecoded.named ∙ place-known plan r.insn cpu.psw_high masks.wsr byte (ap is_simple (sym cost-is) ∙ h))
    ∙ timed r (holds_at (cost_of plan r.insn.operand) plan r.insn.operand cpu.psw_high masks.wsr byte) (place_when (cost_of plan r.insn.operand) (known_count r.insn.operand)) base-is other-is
    ∙ ap (λ k. holds_at k plan r.insn.operand cpu.psw_high masks.wsr byte >>= λ holds. Ok (if holds then r.other else r.base)) (sym cost-is)

-- whether any activity may follow an instruction that was prepared
pub free_known : (r : Predecoded) → IsPredecoded r → r.free ≡ is_free (plan_of r.mnemonic)
unfolding predecoded_of
free_known r predecoded = ap (λ (x : Predecoded). x.free) predecoded.known

-- what is known of a well-formed instruction under its own mnemonic
pub known_so : (m : Mnemonic) (i : Insn) (r : Predecoded) → IsTrue (is_formed i) → mnemonic_at i.opcode i.signed ≡ Some m → r ≡ predecoded_of m i → 0 < r.base → 0 < r.other → IsPredecoded r
unfolding predecoded_of
known_so m i r formed named known some other =
    let mnemonic : r.mnemonic ≡ m = ap (λ (x : Predecoded). x.mnemonic) known in
    let insn : r.insn ≡ i = ap (λ (x : Predecoded). x.insn) known in
    record {
      formed = subst (λ x. IsTrue (is_formed x)) (sym insn) formed;
      named = rw (insn, mnemonic) named;
      known = known ∙ ap (λ x. predecoded_of x i) (sym mnemonic) ∙ ap (predecoded_of r.mnemonic) (sym insn);
      some = some;
      some_other = other;
    }

conditional-of : (points pushes pops when : Bool) → cost_among points pushes pops when ≡ cost.When → when ≡ true
conditional-of points pushes pops true h = refl
conditional-of false false false false h = absurd (cc h)
conditional-of true false false false h = absurd (cc h)
conditional-of false true false false h = absurd (cc h)
conditional-of false false true false h = absurd (cc h)
conditional-of true true pops false h = absurd (cc h)
conditional-of true false true false h = absurd (cc h)
conditional-of false true true false h = absurd (cc h)

when-at : (held : Bool) (plan : Plan) (o : Operand) → (is_normalize plan || is_counting o) ≡ held → cost_of plan o ≡ cost.When → is_conditional plan ≡ true
when-at true plan o e h = absurd (cc (rw e at h))
when-at false plan o e h = conditional-of (is_pointing o) (is_push plan) (is_pop plan) (is_conditional plan) (rw e at h)

taken-so : (plan : Plan) (psw : ℕ) → is_conditional plan ≡ true → is_taken (test_of plan).0 (test_of plan).1 psw ≡ jump_taken plan psw
taken-so (Compute how) psw h = absurd (cc h)
taken-so (Move how) psw h = absurd (cc h)
taken-so (Jump Always) psw h = absurd (cc h)
taken-so (Jump Call) psw h = absurd (cc h)
taken-so (Jump Return) psw h = absurd (cc h)
taken-so (Jump (When test wanted)) psw h = refl
taken-so (Jump (Bit set)) psw h = absurd (cc h)
taken-so (Jump (CountDown byte)) psw h = absurd (cc h)
taken-so (Jump Table) psw h = absurd (cc h)
taken-so (Jump Register) psw h = absurd (cc h)
taken-so (Save how) psw h = absurd (cc h)
taken-so (Set bit) psw h = absurd (cc h)
taken-so (BlockMove interruptible) psw h = absurd (cc h)
taken-so Trap psw h = absurd (cc h)
taken-so Idle psw h = absurd (cc h)
taken-so Reset psw h = absurd (cc h)

-- whether a conditional jump that was prepared is taken
pub when_known : (r : Predecoded) (psw : ℕ) → IsPredecoded r → r.cost ≡ cost.When → is_taken r.test r.wanted psw ≡ jump_taken (plan_of r.mnemonic) psw
unfolding predecoded_of
when_known r psw predecoded h =
    let plan = plan_of r.mnemonic in
    let cost-is : r.cost ≡ cost_of plan r.insn.operand = ap (λ (x : Predecoded). x.cost) predecoded.known in
    let test-is : r.test ≡ (test_of plan).0 = ap (λ (x : Predecoded). x.test) predecoded.known in
    let wanted-is : r.wanted ≡ (test_of plan).1 = ap (λ (x : Predecoded). x.wanted) predecoded.known in
    ap (λ t. is_taken t r.wanted psw) test-is
    ∙ ap (λ w. is_taken (test_of plan).0 w psw) wanted-is
    ∙ taken-so plan psw (when-at (is_normalize plan || is_counting r.insn.operand) plan r.insn.operand refl (sym cost-is ∙ h))
