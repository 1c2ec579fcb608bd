-- Prepared instructions: the table of them, and the activity that such an instruction is.
use Rattle.std.proofs.Common.{◌≡◌, ◌≢◌, ℕ, zero, suc, ◌+◌, ◌*◌, ◌%◌, ◌<◌, ◌≤◌, ◌==◌, Bool, true, false, if◌then◌else◌, List, [], length, Some, None, Result, Ok, Err, refl, sym, subst, ap, ◌∙◌, append-nil, arith}
use Rattle.std.specs.Prelude.{slice_index, slice_index_or, slice_set, replicate, All, bit_or}
use Rattle.std.specs.Int.Bits.{and_zero_l}
use Rattle.std.proofs.lemmas.Grind.{common_steps}
use Rattle.kc_base.specs.declared.types.Kind.{Kind}
use Rattle.kc_isa.specs.declared.insn.Insn.{Insn}
use Rattle.kc_isa.specs.declared.insn.Place.{Place}
use Rattle.kc_isa.specs.declared.table.Mnemonic.{Mnemonic}
use Rattle.kc_isa.specs.declared.table.Mnemonic.TheVariants as named
use Rattle.kc_isa.specs.Formed.{states_of}
use Rattle.kc_code.specs.declared.reader.Decoded.{Decoded}
use Rattle.kc_code.specs.declared.reader.Decoded.TheVariants as says
use Rattle.kc_code.specs.Reading.{decode_of}
use Rattle.kc_exec_spec.specs.Memory.{is_rom}
use Rattle.kc_exec_spec.specs.Places.{place_of, ◌>>=◌}
use Rattle.kc_exec_spec.specs.Plans.{plan_of}
use Rattle.kc_exec_predecode.specs.declared.predecoded.Predecoded.{Predecoded}
use Rattle.kc_intc.specs.declared.requests.Choice.TheVariants.{Go}
use Rattle.kc_intc.specs.declared.requests.Requests.{Requests}
use Rattle.kc_intc.specs.Choosing.{choice_of}
use Rattle.kc_intc.proofs.Greatest.{nothing_masked_in}
use Rattle.kc_exec_predecode.specs.Predecoding.{is_free, is_blank, time_at, IsPredecoded}
use Rattle.kc_machine_spec.specs.declared.doing.Activity.TheVariants.{Executes}
use Rattle.kc_exec_spec.specs.declared.cpu.Cpu.{Cpu}
use Rattle.kc_exec_spec.specs.declared.cpu.After.TheVariants.{Next, Held}
use Rattle.kc_machine_spec.specs.Board.{masks_of, pins}
use Rattle.kc_machine_spec.specs.Passing.{stepped_of}
use Rattle.kc_machine_spec.specs.Scene.{Scene, byte}
use Rattle.kc_machine_spec.specs.Machine.{Machine, closed, next_after, fetched, begins, breaks, placed, fetches, serves, chosen, current, asked, scene_of, own_records, is_trap}
use Rattle.kc_extra.specs.declared.extra.Extra as extra
use Rattle.kc_machine.specs.declared.common.Common.{Common}
use Rattle.kc_machine.specs.declared.parts.Core.{Core}
use Rattle.kc_machine.specs.Bus.{held_of}
use Rattle.kc_machine.specs.Seen.{machine_of}
use Rattle.kc_machine.specs.Prepared.{insn_of, IsRead, IsSlot, IsTable, IsFree, IsBetween, executing}

other-byte : (bytes : List ℕ) (addr n x : ℕ) → x ≢ addr → slice_index (slice_set bytes addr n) x ≡ slice_index bytes x
other-byte bytes addr n x other = grind (arith, common_steps)

in-rom : (addr : ℕ) → is_rom addr ≡ false → 0x2000 ≤ addr → 0x6000 ≤ addr
in-rom addr out low = grind (arith, common_steps)

-- bytes that are all fetched from ROM stay as they are where another byte is written
fetched-put : (n : ℕ) (memory : List ℕ) (addr value at : ℕ) → is_rom addr ≡ false → 0x2000 ≤ at → at + n ≤ 0x6000 → fetched n (slice_set memory addr value) at ≡ fetched n memory at
unfolding fetched
fetched-put zero memory addr value at out low high = refl
fetched-put (suc n) memory addr value at out low high =
    let other : at ≢ addr = λ same. absurd (let above : 0x6000 ≤ addr = in-rom addr out (subst (λ x. 0x2000 ≤ x) same low) in omega (arith, same)) in
    let here : slice_index (slice_set memory addr value) at ≡ slice_index memory at = other-byte memory addr value at other in
    let next : (at + 1) % 0x10000 ≡ at + 1 = omega arith in
    let rest : fetched n (slice_set memory addr value) (at + 1) ≡ fetched n memory (at + 1) = fetched-put n memory addr value (at + 1) out (omega arith) (omega arith) in
    rw (here, next, rest) refl

slot-stays : (memory other : List ℕ) (at : ℕ) (r : Predecoded) → fetched 7 other at ≡ fetched 7 memory at → IsSlot memory at r → IsSlot other at r
slot-stays memory other at r same h = λ some. record { predecoded = (h some).predecoded; read = ap (λ bytes. insn_of (decode_of bytes)) same ∙ (h some).read }

-- a byte written outside ROM leaves the table true
pub table_put : (table : List Predecoded) (memory : List ℕ) (addr value : ℕ) → is_rom addr ≡ false → IsTable table memory → IsTable table (slice_set memory addr value)
table_put table memory addr value out known = λ k d few inside.
    slot-stays memory (slice_set memory addr value) (0x2000 + k) (slice_index_or table k d) (fetched-put 7 memory addr value (0x2000 + k) out (omega arith) (omega arith)) (known k d few inside)

slot-at : (table : List Predecoded) (slot k : ℕ) (r d : Predecoded) → slot < length table → slice_index_or (slice_set table slot r) k d ≡ (if k == slot then r else slice_index_or table k d)
slot-at table slot k r d inside = grind (arith, common_steps)

same-length : (table : List Predecoded) (slot : ℕ) (r : Predecoded) → length (slice_set table slot r) ≡ length table
same-length table slot r = grind (arith, common_steps)

chosen-slot : (memory : List ℕ) (k slot : ℕ) (r t : Predecoded) (same : Bool) → (k == slot) ≡ same → IsSlot memory (0x2000 + slot) r → IsSlot memory (0x2000 + k) t → IsSlot memory (0x2000 + k) (if k == slot then r else t)
chosen-slot memory k slot r t true e a b = rw e (subst (λ x. IsSlot memory (0x2000 + x) r) (let same : slot ≡ k = grind (arith, common_steps) in same) a)
chosen-slot memory k slot r t false e a b = rw e b

-- one slot that is filled anew leaves the table true
pub table_keep : (table : List Predecoded) (memory : List ℕ) (slot : ℕ) (r : Predecoded) → slot < length table → IsSlot memory (0x2000 + slot) r → IsTable table memory → IsTable (slice_set table slot r) memory
table_keep table memory slot r inside one known = λ k d few within.
    subst (IsSlot memory (0x2000 + k)) (sym (slot-at table slot k r d inside)) (chosen-slot memory k slot r (slice_index_or table k d) (k == slot) refl one (known k d few (subst (λ n. k < n) (same-length table slot r) within)))

same-slot : (n k : ℕ) (r d : Predecoded) → k < n → slice_index_or (replicate n r) k d ≡ r
same-slot zero k r d few = absurd (omega arith)
same-slot (suc n) zero r d few = refl
same-slot (suc n) (suc k) r d few = same-slot n k r d (omega arith)

-- a table of blank slots is true of each memory
pub table_blank : (memory : List ℕ) (n : ℕ) (r : Predecoded) → is_blank r ≡ true → IsTable (replicate n r) memory
table_blank memory n r blank = λ k d few inside some.
    absurd (let here : slice_index_or (replicate n r) k d ≡ r = same-slot n k r d (grind (arith, common_steps)) in cc (blank, (rw here at some)))

-- a table that was cleared is true of each memory
pub table_cleared : (table : List Predecoded) (memory : List ℕ) → All (λ r. is_blank r ≡ true) table → IsTable table memory
table_cleared table memory none = λ k d few inside some. absurd (cc (none k d inside, some))

begun-so : {X : Type 0} (m : Machine X) (read : Decoded) (insn : Insn) → insn_of read ≡ Some insn → begins m read ≡ placed insn (place_of insn m.cpu (masks_of m.board.units) (byte (scene_of m)))
begun-so m (says.Insn i length) insn h = ap (λ j. placed j (place_of j m.cpu (masks_of m.board.units) (byte (scene_of m)))) (cc h)
begun-so m says.Unimplemented insn h = absurd (cc h)
begun-so m says.Undefined insn h = absurd (cc h)
begun-so m says.Short insn h = absurd (cc h)

placed-so : (insn : Insn) (place : Result Place Kind) (n : ℕ) → (place >>= λ p. Ok (states_of insn p)) ≡ Ok n → placed insn place ≡ record { doing = Executes insn; left = n }
placed-so insn (Ok p) n h = ap (λ k. record { doing = Executes insn; left = k }) (cc h)
placed-so insn (Err k) n h = absurd (cc h)

-- so many states are those of its place
pub placed_for : (insn : Insn) (place : Result Place Kind) (n : ℕ) → Ok n ≡ (place >>= λ p. Ok (states_of insn p)) → record { doing = Executes insn; left = n } ≡ placed insn place
placed_for insn place n h = sym (placed-so insn place n (sym h))

-- and it has none where its place is refused
pub placed_not : (insn : Insn) (place : Result Place Kind) (kind : Kind) → Err kind ≡ (place >>= λ p. Ok (states_of insn p)) → breaks kind ≡ placed insn place
placed_not insn (Ok p) kind h = absurd (cc h)
placed_not insn (Err k) kind h = ap breaks (cc h)

-- the instruction that was read comes next
pub read_so : {X : Type 0} (m : Machine X) (r : Predecoded) → IsRead m.board.memory m.cpu.pc r → placed r.insn (place_of r.insn m.cpu (masks_of m.board.units) (byte (scene_of m))) ≡ fetches m
unfolding fetches
read_so m r there = sym (begun-so m (decode_of (fetched 7 m.board.memory m.cpu.pc)) r.insn there.read)

-- no request is served where none is pending and none has come from the transfer server
pub nothing_wanted : (pse enabled : Bool) (r : Requests) → r.pending ≡ 0 → r.service ≡ 0 → choice_of pse enabled r ≡ Go
nothing_wanted pse enabled r pending service =
    nothing_masked_in pse enabled r (rw (pending, service) (and_zero_l (bit_or r.mask 0x8000)))

-- between two activities an instruction is held for
pub held_between : {X : Type 0} (m : Machine X) → m.under_way ≡ None → m.going ≡ None → m.held ≡ true → IsBetween m
held_between m begun alone held = record { begun = begun; alone = alone; none = λ unheld. absurd (cc (held, unheld)) }

-- or no request is served
pub free_between : {X : Type 0} (m : Machine X) → IsFree m → asked m ≡ Go → IsBetween m
free_between m is none = record { begun = is.begun; alone = is.alone; none = λ unheld. none }

-- the next activity of a free machine is what its requests choose
pub free_serves : {X : Type 0} (m : Machine X) → IsFree m → serves m (asked m) ≡ current m
unfolding chosen
free_serves m is = rw (is.begun, is.alone, is.unheld) refl

-- the next activity is the instruction at PC, whether it is held for or no request is served
fetches-next : {X : Type 0} (m : Machine X) (held : Bool) → m.held ≡ held → IsBetween m → current m ≡ fetches m
unfolding chosen
fetches-next m true h between = rw (between.begun, between.alone, h) refl
fetches-next m false h between = rw (between.begun, between.alone, h, between.none h) refl

-- the next activity is the instruction that is known, at its place
pub known_next : {X : Type 0} (m : Machine X) (r : Predecoded) → IsBetween m → IsRead m.board.memory m.cpu.pc r → placed r.insn (place_of r.insn m.cpu (masks_of m.board.units) (byte (scene_of m))) ≡ current m
known_next m r between there = read_so m r there ∙ sym (fetches-next m m.held refl between)

-- and it has these states
pub comes_next : {X : Type 0} (m : Machine X) (r : Predecoded) (n : ℕ) → IsBetween m → IsRead m.board.memory m.cpu.pc r → time_at r.insn m.cpu (masks_of m.board.units) (byte (scene_of m)) ≡ Ok n → executing r n ≡ current m
comes_next m r n between there time =
    placed_for r.insn (place_of r.insn m.cpu (masks_of m.board.units) (byte (scene_of m))) n (sym time)
    ∙ known_next m r between there

-- whether an instruction has to follow, or any activity may
followed-by : (insn : Insn) (held : Bool) → next_after insn (if held then Held else Next) ≡ record { held = held; going = None; ended = None }
followed-by insn true = refl
followed-by insn false = refl

-- a machine between activities, a state and the accesses of an instruction later
pub gone-on : {X : Type 0} (m : Machine X) (insn : Insn) (s : Scene X) (cpu : Cpu) (held : Bool) → m.under_way ≡ None → m.going ≡ None → m.ended ≡ None →
    stepped_of (record m { time = m.time + 1; board = s.board; cpu = cpu; held = held }) (pins m.time s.edges) s.reached ≡ closed m s cpu (next_after insn (if held then Held else Next)) []
gone-on m insn s cpu held begun alone lives =
    rw (begun, alone, lives, followed-by insn held, append-nil (pins m.time s.edges)) refl

no-trap : (m : Mnemonic) → is_free (plan_of m) ≡ true → is_trap (Some m) ≡ false
no-trap named.Trap h = absurd (cc h)
no-trap m h = grind (arith, common_steps)

-- no record is its own
pub silent : (time pc : ℕ) (r : Predecoded) → IsPredecoded r → is_free (plan_of r.mnemonic) ≡ true → own_records time pc r.insn ≡ []
silent time pc r predecoded free = rw (predecoded.named, no-trap r.mnemonic free) refl

-- what is prepared is no part of a machine
pub same-machine : {X : Type 0} {d : extra.Ghosts X} (core : Core X d) (bus : Common X d) → held_of bus ≡ held_of core.bus → machine_of (record core { bus = bus }) ≡ machine_of core
same-machine core bus same = ap (λ scene. record (machine_of core) { board = scene.board }) same
