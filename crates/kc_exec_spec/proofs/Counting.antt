-- No instruction, word of a block move, entry or trap makes more than eight accesses.
use Rattle.std.proofs.Common.{◌≡◌, ℕ, Bool, true, false, ◌+◌, ◌-◌, ◌/◌, ◌%◌, ◌<◌, ◌≤◌, ◌==◌, nat_lt, ◌||◌, if◌then◌else◌, Option, Some, None, Result, Ok, Err, subst, arith}
use Rattle.kc_base.specs.declared.types.Kind.{Kind}
use Rattle.kc_base.specs.declared.types.Kind.TheVariants.{Opcode}
use Rattle.kc_isa.specs.declared.insn.Insn.{Insn}
use Rattle.kc_isa.specs.declared.insn.Operand.{Operand}
use Rattle.kc_isa.specs.declared.insn.Operand.TheVariants.{Absent, Reg, Imm, Indirect, Increment, Short, Long, Count, Disp}
use Rattle.kc_isa.specs.declared.table.Mnemonic.{Mnemonic}
use Rattle.kc_isa.specs.Names.{mnemonic_at}
use Rattle.kc_alu.specs.declared.flags.Shift.{Shift as ShiftKind}
use Rattle.kc_exec_spec.specs.declared.cpu.After.{After}
use Rattle.kc_exec_spec.specs.declared.cpu.Cpu.{Cpu}
use Rattle.kc_exec_spec.specs.declared.cpu.Words.{Words}
use Rattle.kc_exec_spec.specs.declared.plan.Operation.{Operation}
use Rattle.kc_exec_spec.specs.declared.plan.Alteration.{Alteration}
use Rattle.kc_exec_spec.specs.declared.plan.Size.{Size}
use Rattle.kc_exec_spec.specs.declared.plan.Size.TheVariants.{Byte, Word, Long as LongSize}
use Rattle.kc_exec_spec.specs.declared.plan.Computation.{Computation}
use Rattle.kc_exec_spec.specs.declared.plan.Computation.TheVariants.{Operate, Alter, Extend, Shift, Normalize, Multiply, Divide, CompareLong}
use Rattle.kc_exec_spec.specs.declared.plan.Movement.{Movement}
use Rattle.kc_exec_spec.specs.declared.plan.Movement.TheVariants.{Load, ZeroExtend, SignExtend, Store, Exchange, Push, Pop}
use Rattle.kc_exec_spec.specs.declared.plan.Route.{Route}
use Rattle.kc_exec_spec.specs.declared.plan.Route.TheVariants.{Always, Call, Return, When, Bit, CountDown, Table, Register}
use Rattle.kc_exec_spec.specs.declared.plan.Saving.{Saving}
use Rattle.kc_exec_spec.specs.declared.plan.Saving.TheVariants.{PushStatus, PopStatus, PushAll, PopAll}
use Rattle.kc_exec_spec.specs.declared.plan.Plan.{Plan}
use Rattle.kc_exec_spec.specs.declared.plan.Plan.TheVariants.{Compute, Move, Jump, Save, Set, BlockMove, Trap, Idle, Reset}
use Rattle.kc_exec_spec.specs.Effect.{Effect, End, Undefined, Look, Ask, ◌>>=◌}
use Rattle.kc_exec_spec.specs.Window.{window_of}
use Rattle.kc_exec_spec.specs.Accesses.{AtMost}
use Rattle.kc_exec_spec.specs.Parts.{or_undefined, read_at, write_at, read_register, write_register, long_place, read_long, write_long, read_sized, write_sized, doubled, read_low_half, push, pop}
use Rattle.kc_exec_spec.specs.Operands.{source, target}
use Rattle.kc_exec_spec.specs.Operations.{writes_result, reads_register}
use Rattle.kc_exec_spec.specs.Plans.{plan_of}
use Rattle.kc_exec_spec.specs.Computing.{register, has_a, operate, read_altered, alter, extend, shift_count, shift, normalize, factor, multiply, divide, compare_long, compute}
use Rattle.kc_exec_spec.specs.Moving.{load, load_extended, store, exchange, push_source, pop_target, move_data}
use Rattle.kc_exec_spec.specs.Jumping.{bit_jump, count_down, table_target, goes}
use Rattle.kc_exec_spec.specs.Saving.{push_status, pop_status, push_masks, pop_masks, push_all, pop_all, save}
use Rattle.kc_exec_spec.specs.Settings.{idle_after}
use Rattle.kc_exec_spec.specs.BlockMoves.{set_up, less_one, write_pointers, write_count, move_one, moved_word}
use Rattle.kc_exec_spec.specs.Entering.{entry, trap}
use Rattle.kc_exec_spec.specs.Effects.{planned, effect_of}

-- more are allowed
pub AtMost-more : {A : Type 0} (n k : ℕ) (t : Effect A) → n ≤ k → AtMost n t → AtMost k t
AtMost-more n k (End a) le h = tt
AtMost-more n k (Undefined kind) le h = tt
AtMost-more n k (Look next) le h = λ m. AtMost-more n k (next m) le (h m)
AtMost-more n k (Ask r next) le h =
    let some : 0 < n = h.0 in
    (omega arith, λ x. AtMost-more (n - 1) (k - 1) (next x) (omega arith) (h.1 x))

-- one effect after another
pub AtMost-bind : {A B : Type 0} (n k : ℕ) (t : Effect A) (f : A → Effect B) → AtMost n t → ((a : A) → AtMost k (f a)) → AtMost (n + k) (t >>= f)
AtMost-bind n k (End a) f h g = AtMost-more k (n + k) (f a) (omega arith) (g a)
AtMost-bind n k (Undefined kind) f h g = tt
AtMost-bind n k (Look next) f h g = λ m. AtMost-bind n k (next m) f (h m) g
AtMost-bind n k (Ask r next) f h g =
    let some : 0 < n = h.0 in
    (omega arith, λ x. subst (λ i. AtMost i (next x >>= f)) (let e : (n - 1) + k ≡ (n + k) - 1 = omega arith in e) (AtMost-bind (n - 1) k (next x) f (h.1 x) g))

or_undefined-most : {A : Type 0} (r : Result A Kind) → AtMost 0 (or_undefined r)
or_undefined-most (Ok a) = tt
or_undefined-most (Err k) = tt

read_at-most : (byte : Bool) (addr : ℕ) → AtMost 1 (read_at byte addr)
unfolding read_at
read_at-most true addr = (omega arith, λ k. tt)
read_at-most false addr = (omega arith, λ k. tt)

write_at-most : (byte : Bool) (addr n : ℕ) → AtMost 1 (write_at byte addr n)
unfolding write_at
write_at-most true addr n = (omega arith, λ k. tt)
write_at-most false addr n = (omega arith, λ k. tt)

read_register-most : (byte : Bool) (wsr r : ℕ) → AtMost 1 (read_register byte wsr r)
unfolding read_register
read_register-most byte wsr r = AtMost-bind 0 1 (or_undefined (window_of wsr r)) _ (or_undefined-most (window_of wsr r)) (λ addr. read_at-most byte addr)

write_register-most : (byte : Bool) (wsr r n : ℕ) → AtMost 1 (write_register byte wsr r n)
unfolding write_register
write_register-most byte wsr r n = AtMost-bind 0 1 (or_undefined (window_of wsr r)) _ (or_undefined-most (window_of wsr r)) (λ addr. write_at-most byte addr n)

pub if-most : {A : Type 0} (n : ℕ) (b : Bool) (t u : Effect A) → AtMost n t → AtMost n u → AtMost n (if b then t else u)
if-most n true t u h k = h
if-most n false t u h k = k

long_place-most : (wsr r : ℕ) → AtMost 0 (long_place wsr r)
unfolding long_place
long_place-most wsr r = AtMost-bind 0 0 (or_undefined (window_of wsr r)) _ (or_undefined-most (window_of wsr r)) (λ addr. if-most 0 (addr % 4 == 0) _ _ tt tt)

read_long-most : (wsr r : ℕ) → AtMost 2 (read_long wsr r)
unfolding read_long
read_long-most wsr r =
    AtMost-bind 0 2 (long_place wsr r) _ (long_place-most wsr r) (λ addr.
    AtMost-bind 1 1 (read_at false addr) _ (read_at-most false addr) (λ low.
    AtMost-bind 1 0 (read_at false (addr + 2)) _ (read_at-most false (addr + 2)) (λ high. tt)))

write_long-most : (wsr r n : ℕ) → AtMost 2 (write_long wsr r n)
unfolding write_long
write_long-most wsr r n =
    AtMost-bind 0 2 (long_place wsr r) _ (long_place-most wsr r) (λ addr.
    AtMost-bind 1 1 (write_at false addr (n % 0x10000)) _ (write_at-most false addr _) (λ low. write_at-most false (addr + 2) (n / 0x10000)))

read_sized-most : (size : Size) (wsr r : ℕ) → AtMost 2 (read_sized size wsr r)
unfolding read_sized
read_sized-most Byte wsr r = AtMost-more 1 2 _ (omega arith) (read_register-most true wsr r)
read_sized-most Word wsr r = AtMost-more 1 2 _ (omega arith) (read_register-most false wsr r)
read_sized-most LongSize wsr r = read_long-most wsr r

write_sized-most : (size : Size) (wsr r n : ℕ) → AtMost 2 (write_sized size wsr r n)
unfolding write_sized
write_sized-most Byte wsr r n = AtMost-more 1 2 _ (omega arith) (write_register-most true wsr r n)
write_sized-most Word wsr r n = AtMost-more 1 2 _ (omega arith) (write_register-most false wsr r n)
write_sized-most LongSize wsr r n = write_long-most wsr r n

read_low_half-most : (byte : Bool) (wsr r : ℕ) → AtMost 1 (read_low_half byte wsr r)
unfolding read_low_half
read_low_half-most byte wsr r =
    if-most 1 byte _ _ (read_register-most true wsr r) (AtMost-bind 0 1 (long_place wsr r) _ (long_place-most wsr r) (λ addr. read_at-most false addr))

push-most : (n : ℕ) → AtMost 3 (push n)
unfolding push
push-most n =
    AtMost-bind 1 2 (read_at false 0x18) _ (read_at-most false 0x18) (λ sp.
    AtMost-bind 1 1 (write_at false 0x18 ((sp + 0xFFFE) % 0x10000)) _ (write_at-most false 0x18 _) (λ moved. write_at-most false _ n))

pop-most : AtMost 3 pop
unfolding pop
pop-most =
    AtMost-bind 1 2 (read_at false 0x18) _ (read_at-most false 0x18) (λ sp.
    AtMost-bind 1 1 (read_at false sp) _ (read_at-most false sp) (λ n.
    AtMost-bind 1 0 (write_at false 0x18 ((sp + 2) % 0x10000)) _ (write_at-most false 0x18 _) (λ moved. tt)))

source-most : (byte : Bool) (wsr : ℕ) (operand : Operand) → AtMost 3 (source byte wsr operand)
unfolding source
source-most byte wsr (Reg r) = AtMost-more 1 3 _ (omega arith) (read_register-most byte wsr r)
source-most byte wsr (Imm n) = tt
source-most byte wsr (Indirect r) = AtMost-bind 1 2 (read_register false wsr r) _ (read_register-most false wsr r) (λ p. AtMost-more 1 2 _ (omega arith) (read_at-most byte p))
source-most byte wsr (Increment r) =
    AtMost-bind 1 2 (read_register false wsr r) _ (read_register-most false wsr r) (λ p.
    AtMost-bind 1 1 (read_at byte p) _ (read_at-most byte p) (λ n.
    AtMost-bind 1 0 (write_register false wsr r _) _ (write_register-most false wsr r _) (λ written. tt)))
source-most byte wsr (Short base offset) = AtMost-bind 1 2 (read_register false wsr base) _ (read_register-most false wsr base) (λ p. AtMost-more 1 2 _ (omega arith) (read_at-most byte _))
source-most byte wsr (Long base offset) = AtMost-bind 1 2 (read_register false wsr base) _ (read_register-most false wsr base) (λ p. AtMost-more 1 2 _ (omega arith) (read_at-most byte _))
source-most byte wsr Absent = tt
source-most byte wsr (Count n) = tt
source-most byte wsr (Disp d) = tt

target-most : (byte : Bool) (wsr : ℕ) (operand : Operand) → AtMost 2 (target byte wsr operand)
unfolding target
target-most byte wsr (Reg r) = AtMost-more 0 2 _ (omega arith) (or_undefined-most (window_of wsr r))
target-most byte wsr (Indirect r) = AtMost-more 1 2 _ (omega arith) (read_register-most false wsr r)
target-most byte wsr (Increment r) =
    AtMost-bind 1 1 (read_register false wsr r) _ (read_register-most false wsr r) (λ p.
    AtMost-bind 1 0 (write_register false wsr r _) _ (write_register-most false wsr r _) (λ written. tt))
target-most byte wsr (Short base offset) = AtMost-bind 1 1 (read_register false wsr base) _ (read_register-most false wsr base) (λ p. tt)
target-most byte wsr (Long base offset) = AtMost-bind 1 1 (read_register false wsr base) _ (read_register-most false wsr base) (λ p. tt)
target-most byte wsr Absent = tt
target-most byte wsr (Imm n) = tt
target-most byte wsr (Count n) = tt
target-most byte wsr (Disp d) = tt

operate-most : (op : Operation) (byte : Bool) (wsr : ℕ) (i : Insn) (psw : ℕ) → AtMost 8 (operate op byte wsr i psw)
unfolding operate
operate-most op byte wsr i psw =
    AtMost-bind 3 5 (source byte wsr i.operand) _ (source-most byte wsr i.operand) (λ s.
    AtMost-bind 1 4 (read_register byte wsr (register i 0)) _ (read_register-most byte wsr _) (λ n.
    AtMost-bind 1 3 _ _ (if-most 1 (writes_result op) _ _ (write_register-most byte wsr _ _) tt) (λ written. tt)))

read_altered-most : (how : Alteration) (byte : Bool) (wsr d : ℕ) → AtMost 1 (read_altered how byte wsr d)
unfolding read_altered
read_altered-most how byte wsr d = if-most 1 (reads_register how) _ _ (read_register-most byte wsr d) tt

alter-most : (how : Alteration) (byte : Bool) (wsr d psw : ℕ) → AtMost 8 (alter how byte wsr d psw)
unfolding alter
alter-most how byte wsr d psw =
    AtMost-bind 1 7 (read_altered how byte wsr d) _ (read_altered-most how byte wsr d) (λ n.
    AtMost-bind 1 6 (write_register byte wsr d _) _ (write_register-most byte wsr d _) (λ written. tt))

extend-most : (byte : Bool) (wsr d psw : ℕ) → AtMost 8 (extend byte wsr d psw)
unfolding extend
extend-most byte wsr d psw =
    AtMost-bind 1 7 (read_low_half byte wsr d) _ (read_low_half-most byte wsr d) (λ n.
    AtMost-bind 2 5 (write_sized (doubled byte) wsr d _) _ (write_sized-most (doubled byte) wsr d _) (λ written. tt))

shift_count-most : (wsr : ℕ) (operand : Operand) → AtMost 1 (shift_count wsr operand)
unfolding shift_count
shift_count-most wsr (Count n) = if-most 1 (nat_lt n 0x10) _ _ tt (AtMost-bind 1 0 (read_register true wsr n) _ (read_register-most true wsr n) (λ k. tt))
shift_count-most wsr Absent = tt
shift_count-most wsr (Reg r) = tt
shift_count-most wsr (Imm n) = tt
shift_count-most wsr (Indirect r) = tt
shift_count-most wsr (Increment r) = tt
shift_count-most wsr (Short base offset) = tt
shift_count-most wsr (Long base offset) = tt
shift_count-most wsr (Disp d) = tt

shift-most : (how : ShiftKind) (size : Size) (wsr : ℕ) (i : Insn) (psw : ℕ) → AtMost 8 (shift how size wsr i psw)
unfolding shift
shift-most how size wsr i psw =
    AtMost-bind 1 7 (shift_count wsr i.operand) _ (shift_count-most wsr i.operand) (λ count.
    AtMost-bind 2 5 (read_sized size wsr (register i 0)) _ (read_sized-most size wsr _) (λ n.
    AtMost-bind 2 3 (write_sized size wsr (register i 0) _) _ (write_sized-most size wsr _ _) (λ written. tt)))

normalize-most : (wsr : ℕ) (i : Insn) (psw : ℕ) → AtMost 8 (normalize wsr i psw)
unfolding normalize
normalize-most wsr i psw =
    AtMost-bind 2 6 (read_long wsr (register i 1)) _ (read_long-most wsr _) (λ n.
    AtMost-bind 2 4 (write_long wsr (register i 1) _) _ (write_long-most wsr _ _) (λ written.
    AtMost-bind 1 3 (write_register true wsr (register i 0) _) _ (write_register-most true wsr _ _) (λ counted. tt)))

factor-most : (byte : Bool) (wsr : ℕ) (i : Insn) → AtMost 1 (factor byte wsr i)
unfolding factor
factor-most byte wsr i = if-most 1 (has_a i) _ _ (read_register-most byte wsr _) (read_low_half-most byte wsr _)

multiply-most : (with_sign byte : Bool) (wsr : ℕ) (i : Insn) → AtMost 6 (multiply with_sign byte wsr i)
unfolding multiply
multiply-most with_sign byte wsr i =
    AtMost-bind 3 3 (source byte wsr i.operand) _ (source-most byte wsr i.operand) (λ s.
    AtMost-bind 1 2 (factor byte wsr i) _ (factor-most byte wsr i) (λ n. write_sized-most (doubled byte) wsr _ _))

divide-most : (with_sign byte : Bool) (wsr : ℕ) (i : Insn) (psw : ℕ) → AtMost 8 (divide with_sign byte wsr i psw)
unfolding divide
divide-most with_sign byte wsr i psw =
    AtMost-bind 3 5 (source byte wsr i.operand) _ (source-most byte wsr i.operand) (λ s.
    AtMost-bind 2 3 (read_sized (doubled byte) wsr (register i 0)) _ (read_sized-most (doubled byte) wsr _) (λ n.
    AtMost-bind 0 3 (or_undefined _) _ (or_undefined-most _) (λ r.
    AtMost-bind 2 1 (write_sized (doubled byte) wsr (register i 0) r.0) _ (write_sized-most (doubled byte) wsr _ r.0) (λ written. tt))))

compare_long-most : (wsr : ℕ) (i : Insn) (psw : ℕ) → AtMost 8 (compare_long wsr i psw)
unfolding compare_long
compare_long-most wsr i psw =
    AtMost-bind 2 6 (read_long wsr (register i 0)) _ (read_long-most wsr _) (λ s.
    AtMost-bind 2 4 (read_long wsr (register i 1)) _ (read_long-most wsr _) (λ n. tt))

compute-most : (how : Computation) (wsr : ℕ) (i : Insn) (psw : ℕ) → AtMost 8 (compute how wsr i psw)
unfolding compute
compute-most (Operate op byte) wsr i psw = operate-most op byte wsr i psw
compute-most (Alter how byte) wsr i psw = alter-most how byte wsr (register i 0) psw
compute-most (Extend byte) wsr i psw = extend-most byte wsr (register i 0) psw
compute-most (Shift how size) wsr i psw = shift-most how size wsr i psw
compute-most Normalize wsr i psw = normalize-most wsr i psw
compute-most (Multiply with_sign byte) wsr i psw = AtMost-bind 6 2 (multiply with_sign byte wsr i) _ (multiply-most with_sign byte wsr i) (λ u. tt)
compute-most (Divide with_sign byte) wsr i psw = divide-most with_sign byte wsr i psw
compute-most CompareLong wsr i psw = compare_long-most wsr i psw

load-most : (byte : Bool) (wsr : ℕ) (i : Insn) → AtMost 4 (load byte wsr i)
unfolding load
load-most byte wsr i = AtMost-bind 3 1 (source byte wsr i.operand) _ (source-most byte wsr i.operand) (λ s. write_register-most byte wsr _ s)

load_extended-most : (with_sign : Bool) (wsr : ℕ) (i : Insn) → AtMost 4 (load_extended with_sign wsr i)
unfolding load_extended
load_extended-most with_sign wsr i = AtMost-bind 3 1 (source true wsr i.operand) _ (source-most true wsr i.operand) (λ s. write_register-most false wsr _ _)

store-most : (byte : Bool) (wsr : ℕ) (i : Insn) → AtMost 4 (store byte wsr i)
unfolding store
store-most byte wsr i =
    AtMost-bind 1 3 (read_register byte wsr (register i 0)) _ (read_register-most byte wsr _) (λ n.
    AtMost-bind 2 1 (target byte wsr i.operand) _ (target-most byte wsr i.operand) (λ addr. write_at-most byte addr n))

exchange-most : (byte : Bool) (wsr : ℕ) (i : Insn) → AtMost 6 (exchange byte wsr i)
unfolding exchange
exchange-most byte wsr i =
    AtMost-bind 2 4 (target byte wsr i.operand) _ (target-most byte wsr i.operand) (λ addr.
    AtMost-bind 1 3 (read_at byte addr) _ (read_at-most byte addr) (λ s.
    AtMost-bind 1 2 (read_register byte wsr (register i 0)) _ (read_register-most byte wsr _) (λ n.
    AtMost-bind 1 1 (write_register byte wsr (register i 0) s) _ (write_register-most byte wsr _ s) (λ first. write_at-most byte addr n))))

push_source-most : (wsr : ℕ) (i : Insn) → AtMost 6 (push_source wsr i)
unfolding push_source
push_source-most wsr i = AtMost-bind 3 3 (source false wsr i.operand) _ (source-most false wsr i.operand) (λ s. push-most s)

pop_target-most : (wsr : ℕ) (i : Insn) → AtMost 6 (pop_target wsr i)
unfolding pop_target
pop_target-most wsr i =
    AtMost-bind 3 3 pop _ pop-most (λ n.
    AtMost-bind 2 1 (target false wsr i.operand) _ (target-most false wsr i.operand) (λ addr. write_at-most false addr n))

move-most : (how : Movement) (wsr : ℕ) (i : Insn) → AtMost 6 (move_data how wsr i)
unfolding move_data
move-most (Load byte) wsr i = AtMost-more 4 6 _ (omega arith) (load-most byte wsr i)
move-most ZeroExtend wsr i = AtMost-more 4 6 _ (omega arith) (load_extended-most false wsr i)
move-most SignExtend wsr i = AtMost-more 4 6 _ (omega arith) (load_extended-most true wsr i)
move-most (Store byte) wsr i = AtMost-more 4 6 _ (omega arith) (store-most byte wsr i)
move-most (Exchange byte) wsr i = exchange-most byte wsr i
move-most Push wsr i = push_source-most wsr i
move-most Pop wsr i = pop_target-most wsr i

bit_jump-most : (set : Bool) (number wsr r : ℕ) → AtMost 1 (bit_jump set number wsr r)
unfolding bit_jump
bit_jump-most set number wsr r = AtMost-bind 1 0 (read_register true wsr r) _ (read_register-most true wsr r) (λ n. tt)

count_down-most : (byte : Bool) (wsr r : ℕ) → AtMost 2 (count_down byte wsr r)
unfolding count_down
count_down-most byte wsr r =
    AtMost-bind 1 1 (read_register byte wsr r) _ (read_register-most byte wsr r) (λ n.
    AtMost-bind 1 0 (write_register byte wsr r _) _ (write_register-most byte wsr r _) (λ written. tt))

table_target-most : (wsr : ℕ) (i : Insn) → AtMost 4 (table_target wsr i)
unfolding table_target
table_target-most wsr i =
    AtMost-bind 1 3 (read_register false wsr (register i 0)) _ (read_register-most false wsr _) (λ p.
    AtMost-bind 1 2 (read_at true p) _ (read_at-most true p) (λ index.
    AtMost-bind 1 1 (read_register false wsr (register i 2)) _ (read_register-most false wsr _) (λ table. read_at-most false _)))

goes-most : (route : Route) (wsr : ℕ) (i : Insn) (cpu : Cpu) → AtMost 4 (goes route wsr i cpu)
unfolding goes
goes-most Always wsr i cpu = tt
goes-most Call wsr i cpu = AtMost-bind 3 1 (push _) _ (push-most _) (λ u. tt)
goes-most Return wsr i cpu = AtMost-more 3 4 _ (omega arith) pop-most
goes-most (When test wanted) wsr i cpu = tt
goes-most (Bit set) wsr i cpu = AtMost-bind 1 3 (bit_jump set _ wsr _) _ (bit_jump-most set _ wsr _) (λ taken. tt)
goes-most (CountDown byte) wsr i cpu = AtMost-bind 2 2 (count_down byte wsr _) _ (count_down-most byte wsr _) (λ taken. tt)
goes-most Table wsr i cpu = table_target-most wsr i
goes-most Register wsr i cpu = AtMost-more 1 4 _ (omega arith) (read_register-most false wsr _)

push_status-most : (psw : ℕ) → AtMost 4 (push_status psw)
unfolding push_status
push_status-most psw = AtMost-bind 3 1 (Look _) _ (λ m. push-most _) (λ pushed. (λ m. (omega arith, λ k. tt)))

pop_status-most : AtMost 4 pop_status
unfolding pop_status
pop_status-most = AtMost-bind 3 1 pop _ pop-most (λ n. λ m. (omega arith, λ k. tt))

push_masks-most : AtMost 4 push_masks
unfolding push_masks
push_masks-most = AtMost-bind 3 1 (Look _) _ (λ m. push-most _) (λ pushed. (λ m. (omega arith, λ k. tt)))

pop_masks-most : AtMost 4 pop_masks
unfolding pop_masks
pop_masks-most = AtMost-bind 3 1 pop _ pop-most (λ n. λ m. (omega arith, λ k. tt))

push_all-most : (psw : ℕ) → AtMost 8 (push_all psw)
unfolding push_all
push_all-most psw = AtMost-bind 4 4 (push_status psw) _ (push_status-most psw) (λ u. push_masks-most)

pop_all-most : AtMost 8 pop_all
unfolding pop_all
pop_all-most = AtMost-bind 4 4 pop_masks _ pop_masks-most (λ u. pop_status-most)

save-most : (how : Saving) (psw : ℕ) → AtMost 8 (save how psw)
unfolding save
save-most PushStatus psw = AtMost-bind 4 4 (push_status psw) _ (push_status-most psw) (λ u. tt)
save-most PopStatus psw = AtMost-more 4 8 _ (omega arith) pop_status-most
save-most PushAll psw = AtMost-bind 8 0 (push_all psw) _ (push_all-most psw) (λ u. tt)
save-most PopAll psw = pop_all-most

set_up-most : (interruptible : Bool) (wsr : ℕ) (i : Insn) → AtMost 3 (set_up interruptible wsr i)
unfolding set_up
set_up-most interruptible wsr i =
    AtMost-bind 2 1 (read_long wsr (register i 1)) _ (read_long-most wsr _) (λ pointers.
    AtMost-bind 1 0 (read_register false wsr (register i 0)) _ (read_register-most false wsr _) (λ count. tt))

pub trap-most : (vector back : ℕ) → AtMost 4 (trap vector back)
unfolding trap
trap-most vector back = AtMost-bind 3 1 (push back) _ (push-most back) (λ pushed. read_at-most false vector)

-- an effect within the bound, and an end
ends : {A B : Type 0} (n : ℕ) (t : Effect A) (f : A → B) → n ≤ 8 → AtMost n t → AtMost 8 (t >>= λ a. End (f a))
ends n t f le h = AtMost-more (n + 0) 8 (t >>= λ a. End (f a)) (omega arith) (AtMost-bind n 0 t (λ a. End (f a)) h (λ a. tt))

planned-most : (plan : Plan) (i : Insn) (wsr : ℕ) (cpu : Cpu) → AtMost 8 (planned plan i wsr cpu)
unfolding planned
planned-most (Compute how) i wsr cpu = ends 8 _ _ (omega arith) (compute-most how wsr i cpu.psw_high)
planned-most (Move how) i wsr cpu = ends 6 _ _ (omega arith) (move-most how wsr i)
planned-most (Jump route) i wsr cpu = ends 4 _ _ (omega arith) (goes-most route wsr i cpu)
planned-most (Save how) i wsr cpu = ends 8 _ _ (omega arith) (save-most how cpu.psw_high)
planned-most (Set bit) i wsr cpu = tt
planned-most (BlockMove interruptible) i wsr cpu = ends 3 _ _ (omega arith) (set_up-most interruptible wsr i)
planned-most Trap i wsr cpu = ends 4 _ _ (omega arith) (trap-most _ _)
planned-most Idle i wsr cpu = ends 0 _ _ (omega arith) (or_undefined-most (idle_after i.operand))
planned-most Reset i wsr cpu = tt

pub effect-most : (i : Insn) (cpu : Cpu) → AtMost 8 (effect_of i cpu)
unfolding effect_of
effect-most i cpu = by_mnemonic (mnemonic_at i.opcode i.signed)
  where
    by_mnemonic : (found : Option Mnemonic) → AtMost {A = After × Cpu} 8 (elim found [ None ↦ Undefined Opcode | Some mnemonic ↦ Look (λ m. planned (plan_of mnemonic) i m.wsr cpu) ])
    by_mnemonic None = tt
    by_mnemonic (Some mnemonic) = λ m. planned-most (plan_of mnemonic) i m.wsr cpu

write_pointers-most : (wsr : ℕ) (i : Insn) (w : Words) → AtMost 2 (write_pointers wsr i w)
unfolding write_pointers
write_pointers-most wsr i w = if-most 2 (w.interruptible || w.left == 0) _ _ (write_long-most wsr _ _) tt

write_count-most : (wsr : ℕ) (i : Insn) (w : Words) → AtMost 1 (write_count wsr i w)
unfolding write_count
write_count-most wsr i w = if-most 1 w.interruptible _ _ (write_register-most false wsr _ _) tt

move_one-most : (wsr : ℕ) (i : Insn) (w : Words) → AtMost 5 (move_one wsr i w)
unfolding move_one
move_one-most wsr i w =
    AtMost-bind 1 4 (read_at false w.source) _ (read_at-most false w.source) (λ n.
    AtMost-bind 1 3 (write_at false w.target n) _ (write_at-most false w.target n) (λ stored.
    AtMost-bind 2 1 (write_pointers wsr i (less_one w)) _ (write_pointers-most wsr i (less_one w)) (λ pointed. write_count-most wsr i (less_one w))))

pub word-most : (i : Insn) (w : Words) (cpu : Cpu) → AtMost 8 (moved_word i w cpu)
unfolding moved_word
word-most i w cpu = λ m. ends 5 _ _ (omega arith) (move_one-most m.wsr i w)

pub entry-most : (vector back : ℕ) → AtMost 8 (entry vector back)
unfolding entry
entry-most vector back = AtMost-more 4 8 _ (omega arith) (AtMost-bind 1 3 (read_at false vector) _ (read_at-most false vector) (λ pc. AtMost-bind 3 0 (push back) _ (push-most back) (λ pushed. tt)))

pub any_trap-most : (vector back : ℕ) → AtMost 8 (trap vector back)
any_trap-most vector back = AtMost-more 4 8 _ (omega arith) (trap-most vector back)
