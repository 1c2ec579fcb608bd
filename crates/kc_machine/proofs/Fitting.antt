-- The edges and accesses of one activity fit into what the bus keeps.
use Rattle.std.proofs.Common.{◌≡◌, ℕ, ◌+◌, ◌-◌, ◌*◌, ◌/◌, ◌%◌, ◌<◌, ◌≤◌, nat_lt, max, is_some, Bool, true, false, if◌then◌else◌, List, [], ◌∷◌, ◌++◌, length, length-append, append_assoc, append-nil, Option, Result, Ok, Err, refl, sym, subst, ap, ◌∙◌, arith}
use Rattle.std.proofs.Math.Path.{fun_ext}
use Rattle.std.proofs.lemmas.Bool.Decides.{nat_tests}
use Rattle.kc_base.specs.declared.types.Edge.{Edge}
use Rattle.kc_base.specs.declared.types.Kind.{Kind}
use Rattle.kc_exec_spec.specs.declared.cpu.Cpu.{Cpu}
use Rattle.kc_exec_spec.specs.declared.access.Access.{Access}
use Rattle.kc_exec_spec.specs.declared.access.Access.TheVariants.{ReadByte, ReadWord, WriteByte, WriteWord, SetMasks}
use Rattle.kc_exec_spec.specs.Effect.{Effect, End, Undefined, Look, Ask, Outcome, Done, Refused, Gives, answered, run}
use Rattle.kc_exec_spec.specs.declared.cpu.After.{After}
use Rattle.kc_exec_spec.specs.Effects.{Performs}
use Rattle.kc_exec_spec.specs.declared.cpu.After.TheVariants.{Next, Held}
use Rattle.kc_exec_spec.specs.Entering.{Loads}
use Rattle.kc_exec_predecode.specs.Predecoding.{GoesOn}
use Rattle.kc_exec_spec.specs.Accesses.{AtMost}
use Rattle.kc_exec_spec.proofs.Counting.{AtMost-more}
use Rattle.kc_pts.specs.declared.cycle.Cycle.{Cycle}
use Rattle.kc_pts.specs.Cycles.{set_up, served, Serves}
use Rattle.kc_pts.proofs.Counts.{setup_accesses, transfer_accesses}
use Rattle.kc_extra.specs.Further.{Further}
use Rattle.kc_block_spec.specs.Units.{Units}
use Rattle.kc_block_spec.specs.Levels.{printed}
use Rattle.kc_block_spec.specs.Registers.{bytes_read_everywhere, bytes_written_everywhere, words_read, words_written, row_at}
use Rattle.kc_block_spec.specs.Accesses.{latch_edges, after_byte_read, after_word_read, byte_written, word_written}
use Rattle.kc_block_spec.proofs.Counts.{eighteen_edges}
use Rattle.kc_machine_spec.specs.Board.{Board, masks_of, with_masks}
use Rattle.kc_machine_spec.specs.Scene.{Scene, all_kept, opened, with_units, window_at, byte_weight, is_zero_register, word_weight, refusing, put, kept, scene_answer, after_by, scene_meaning}
use Rattle.kc_machine.specs.Keeping.{all_noted, while_counted, fitting}
use Rattle.kc_machine.specs.Bus.{bus_meaning}
use Rattle.kc_block_spec.specs.Costs.{CostsAtMost}

-- an access gives eighteen edges at most
latch_edges-short : {X : Type 0} (old new : Units X) → length (latch_edges old new) ≤ 18
latch_edges-short old new = eighteen_edges (printed old.board_registers old.hso) (printed new.board_registers new.hso)

-- where there is room, all edges are noted
noted-whole : (old more : List Edge) → length old + length more ≤ 144 → all_noted old more ≡ old ++ more
noted-whole old [] room = sym (append-nil old)
noted-whole old (e ∷ es) room =
    let some : nat_lt (length old) 144 ≡ true = grind (arith, nat_tests) in
    let longer : length (old ++ e ∷ []) ≡ length old + 1 = length-append old (e ∷ []) in
    rw some (noted-whole (old ++ e ∷ []) es (omega arith) ∙ append_assoc old (e ∷ []) es)

-- with room for one access more
with_units-fits : {X : Type 0} (s : Scene X) (u : Units X) (n : ℕ) → length s.edges + 18 ≤ 144 → s.reached < 64 → with_units fitting s u n ≡ with_units all_kept s u n
unfolding with_units
with_units-fits s u n edges reached =
    let e : all_noted s.edges (latch_edges s.board.units u) ≡ s.edges ++ latch_edges s.board.units u =
    noted-whole s.edges (latch_edges s.board.units u) (omega (arith, latch_edges-short s.board.units u)) in
    let some : nat_lt s.reached 64 ≡ true = grind (arith, nat_tests) in
    λ i. record { time = s.time; board = record { units = u; memory = s.board.memory }; edges = e i; reached = ap (λ b. if b then s.reached + n else s.reached) some i; refused = s.refused }

-- what one access may add
record Grows {X : Type 0} (s x : Scene X) : Type 0 where
  edges : length x.edges ≤ length s.edges + 18
  reached : x.reached ≤ s.reached + 2

with_units-grows : {X : Type 0} (s : Scene X) (u : Units X) (n : ℕ) → n ≤ 2 → Grows s (with_units all_kept s u n)
unfolding with_units
with_units-grows s u n few = record {
  edges = omega (arith, latch_edges-short s.board.units u, length-append s.edges (latch_edges s.board.units u));
  reached = omega arith;
}

either-grows : {X : Type 0} (b : Bool) (s x y : Scene X) → Grows s x → Grows s y → Grows s (if b then x else y)
either-grows true s x y h k = h
either-grows false s x y h k = k

stays : {X : Type 0} (s : Scene X) → Grows s s
stays s = record { edges = omega arith; reached = omega arith }

put-grows : {X : Type 0} (s x : Scene X) (addr n : ℕ) → Grows s x → Grows s (put x addr n)
put-grows s x addr n h = record { edges = h.edges; reached = h.reached }

either-few : (b : Bool) (x y : ℕ) → x ≤ 2 → y ≤ 2 → (if b then x else y) ≤ 2
either-few true x y h k = h
either-few false x y h k = k

byte_weight-few : {R : Type 0} (everywhere : List (ℕ × R)) (addr : ℕ) → byte_weight everywhere addr ≤ 2
byte_weight-few everywhere addr = either-few (is_some (row_at everywhere addr)) 0 1 (omega arith) (omega arith)

word_weight-few : (addr : ℕ) → word_weight addr ≤ 2
word_weight-few addr = either-few (is_zero_register (row_at bytes_read_everywhere addr)) 0 2 (omega arith) (omega arith)

-- a count is no more than the sum
counted-most : (a b : ℕ) (room : Bool) → (if room then a + b else a) ≤ a + b
counted-most a b true = omega arith
counted-most a b false = omega arith

module _ {X : Type 0} (f : Further X) where
  after-fits : (s : Scene X) (r : Access) → length s.edges + 18 ≤ 144 → s.reached < 64 → after_by f fitting s r ≡ after_by f all_kept s r
  after-fits s (ReadByte by addr) e k = ap (λ x. if nat_lt addr 24 then x else s) (with_units-fits s (after_byte_read f s.time (window_at s by) s.board.units addr) (byte_weight bytes_read_everywhere addr) e k)
  after-fits s (ReadWord by addr) e k = ap (λ x. if nat_lt addr 24 then x else s) (with_units-fits s (after_word_read f s.time (window_at s by) s.board.units addr) (word_weight addr) e k)
  after-fits s (WriteByte by addr n) e k = ap (λ x. if nat_lt addr 24 then x else put s addr n) (with_units-fits s (kept s.board.units (byte_written f s.time (window_at s by) s.board.units addr n)) (byte_weight bytes_written_everywhere addr) e k)
  after-fits s (WriteWord by addr n) e k = ap (λ x. if nat_lt addr 24 then x else put (put s addr (n % 256)) (addr + 1) (n / 256)) (with_units-fits s (kept s.board.units (word_written f s.time (window_at s by) s.board.units addr n)) (word_weight addr) e k)
  after-fits s (SetMasks m) e k = with_units-fits s (with_masks s.board.units m) 0 e k

  after-grows : (s : Scene X) (r : Access) → Grows s (after_by f all_kept s r)
  after-grows s (ReadByte by addr) = either-grows (nat_lt addr 24) s _ s (with_units-grows s (after_byte_read f s.time (window_at s by) s.board.units addr) (byte_weight bytes_read_everywhere addr) (byte_weight-few bytes_read_everywhere addr)) (stays s)
  after-grows s (ReadWord by addr) = either-grows (nat_lt addr 24) s _ s (with_units-grows s (after_word_read f s.time (window_at s by) s.board.units addr) (word_weight addr) (word_weight-few addr)) (stays s)
  after-grows s (WriteByte by addr n) = either-grows (nat_lt addr 24) s _ (put s addr n) (with_units-grows s (kept s.board.units (byte_written f s.time (window_at s by) s.board.units addr n)) (byte_weight bytes_written_everywhere addr) (byte_weight-few bytes_written_everywhere addr)) (put-grows s s addr n (stays s))
  after-grows s (WriteWord by addr n) = either-grows (nat_lt addr 24) s _ (put (put s addr (n % 256)) (addr + 1) (n / 256)) (with_units-grows s (kept s.board.units (word_written f s.time (window_at s by) s.board.units addr n)) (word_weight addr) (word_weight-few addr)) (put-grows s (put s addr (n % 256)) (addr + 1) (n / 256) (put-grows s s addr (n % 256) (stays s)))
  after-grows s (SetMasks m) = with_units-grows s (with_masks s.board.units m) 0 (omega arith)

  runs-alike : {A : Type 0} (n : ℕ) (t : Effect A) (s : Scene X) → AtMost n t → length s.edges + 18 * n ≤ 144 → s.reached + 2 * n ≤ 64 → run (bus_meaning f) t s ≡ run (scene_meaning f) t s
  runs-alike n (End a) s h e k = refl
  runs-alike n (Undefined kind) s h e k = refl
  runs-alike n (Look next) s h e k = runs-alike n (next (masks_of s.board.units)) s (h (masks_of s.board.units)) e k
  runs-alike n (Ask r next) s h e k =
      let some : 0 < n = h.0 in
      let grown = after-grows s r in
      let more = grown.edges in
      let count = grown.reached in
      ap (λ x. answered (scene_answer f s r) (λ i. run (bus_meaning f) (next i) x) (refusing s r)) (after-fits s r (omega arith) (omega arith))
      ∙ ap (λ g. answered (scene_answer f s r) g (refusing s r)) (fun_ext (λ i. runs-alike (n - 1) (next i) (after_by f all_kept s r) (h.1 i) (omega arith) (omega arith)))

  -- what the bus does in an activity is what the definitions say
  pub fits : {A : Type 0} (effect : Effect A) (t : ℕ) (board : Board X) → AtMost 8 effect → run (bus_meaning f) effect (opened t board) ≡ run (scene_meaning f) effect (opened t board)
  fits effect t board few = runs-alike 8 effect (opened t board) few (omega arith) (omega arith)

-- what the bus counts of one access
record Counts {X : Type 0} (s x : Scene X) : Type 0 where
  few : x.reached ≤ s.reached + 2

with_units-counts : {X : Type 0} (s : Scene X) (u : Units X) (n : ℕ) → n ≤ 2 → Counts s (with_units fitting s u n)
unfolding with_units
with_units-counts s u n few = record { few = omega (arith, counted-most s.reached n (nat_lt s.reached 64)) }

either-counts : {X : Type 0} (b : Bool) (s x y : Scene X) → Counts s x → Counts s y → Counts s (if b then x else y)
either-counts true s x y h k = h
either-counts false s x y h k = k

same-counts : {X : Type 0} (s x : Scene X) → x.reached ≡ s.reached → Counts s x
same-counts s x same = record { few = omega arith }

-- what the bus holds after an effect
abbrev pub left_by : {A H : Type 0} → Outcome A H → H
left_by (Done a h) = h
left_by (Refused k h) = h

module _ {X : Type 0} (f : Further X) where
  after-counts : (s : Scene X) (r : Access) → Counts s (after_by f fitting s r)
  after-counts s (ReadByte by addr) = either-counts (nat_lt addr 24) s _ s (with_units-counts s (after_byte_read f s.time (window_at s by) s.board.units addr) (byte_weight bytes_read_everywhere addr) (byte_weight-few bytes_read_everywhere addr)) (same-counts s s refl)
  after-counts s (ReadWord by addr) = either-counts (nat_lt addr 24) s _ s (with_units-counts s (after_word_read f s.time (window_at s by) s.board.units addr) (word_weight addr) (word_weight-few addr)) (same-counts s s refl)
  after-counts s (WriteByte by addr n) = either-counts (nat_lt addr 24) s _ (put s addr n) (with_units-counts s (kept s.board.units (byte_written f s.time (window_at s by) s.board.units addr n)) (byte_weight bytes_written_everywhere addr) (byte_weight-few bytes_written_everywhere addr)) (same-counts s (put s addr n) refl)
  after-counts s (WriteWord by addr n) = either-counts (nat_lt addr 24) s _ (put (put s addr (n % 256)) (addr + 1) (n / 256)) (with_units-counts s (kept s.board.units (word_written f s.time (window_at s by) s.board.units addr n)) (word_weight addr) (word_weight-few addr)) (same-counts s (put (put s addr (n % 256)) (addr + 1) (n / 256)) refl)
  after-counts s (SetMasks m) = with_units-counts s (with_masks s.board.units m) 0 (omega arith)

  by-answer : {A : Type 0} (n : ℕ) (next : ℕ → Effect A) (s : Scene X) (r : Access) → AtMost n (Ask r next) → (a : Result ℕ Kind) → ((i : ℕ) → (left_by (run (bus_meaning f) (next i) (after_by f fitting s r))).reached ≤ (after_by f fitting s r).reached + 2 * (n - 1)) → (left_by (answered a (λ i. run (bus_meaning f) (next i) (after_by f fitting s r)) (refusing s r))).reached ≤ s.reached + 2 * n
  by-answer n next s r h (Ok i) rest =
      let some : 0 < n = h.0 in
      let count = (after-counts s r).few in
      let more = rest i in
      omega arith
  by-answer n next s r h (Err kind) rest = omega arith

  -- so many accesses count at most twice as many
  pub few-counted : {A : Type 0} (n : ℕ) (t : Effect A) (s : Scene X) → AtMost n t → (left_by (run (bus_meaning f) t s)).reached ≤ s.reached + 2 * n
  few-counted n (End a) s h = omega arith
  few-counted n (Undefined kind) s h = omega arith
  few-counted n (Look next) s h = few-counted n (next (masks_of s.board.units)) s (h (masks_of s.board.units))
  few-counted n (Ask r next) s h =
      by-answer n next s r h (scene_answer f s r) (λ i. few-counted (n - 1) (next i) (after_by f fitting s r) (h.1 i))

-- what the bus holds where a call has performed an effect, or has loaded the program counter
performed : {H : Type 0} (result : Result After Kind) (old new : Cpu) (h : H) (outcome : Outcome (After × Cpu) H) → Performs result old new h outcome → left_by outcome ≡ h
performed (Ok after) old new h outcome e = ap left_by e
performed (Err kind) old new h outcome e = ap left_by e.0

loaded : {H : Type 0} (result : Result (Unit {0}) Kind) (old new : Cpu) (h : H) (outcome : Outcome ℕ H) → Loads result old new h outcome → left_by outcome ≡ h
loaded (Ok u) old new h outcome e = ap left_by e.0
loaded (Err kind) old new h outcome e = ap left_by e.0

module _ {X : Type 0} (f : Further X) where
  pub performed-few : (t : Effect (After × Cpu)) (s h : Scene X) (result : Result After Kind) (old new : Cpu) → AtMost 8 t → Performs result old new h (run (bus_meaning f) t s) → h.reached ≤ s.reached + 16
  performed-few t s h result old new few e =
      subst (λ (x : Scene X). x.reached ≤ s.reached + 16) (performed result old new h (run (bus_meaning f) t s) e) (few-counted f 8 t s few)

  pub went-few : (t : Effect (After × Cpu)) (s h : Scene X) (result : Result Bool Kind) (old new : Cpu) → AtMost 8 t → GoesOn result old new h (run (bus_meaning f) t s) → h.reached ≤ s.reached + 16
  went-few t s h (Ok held) old new few e = performed-few t s h (Ok (if held then Held else Next)) old new few e
  went-few t s h (Err k) old new few e = performed-few t s h (Err k) old new few e

  pub loaded-few : (t : Effect ℕ) (s h : Scene X) (result : Result (Unit {0}) Kind) (old new : Cpu) → AtMost 8 t → Loads result old new h (run (bus_meaning f) t s) → h.reached ≤ s.reached + 16
  loaded-few t s h result old new few e =
      subst (λ (x : Scene X). x.reached ≤ s.reached + 16) (loaded result old new h (run (bus_meaning f) t s) e) (few-counted f 8 t s few)

pub setup-most : (n : ℕ) → AtMost 8 (set_up n)
setup-most n = AtMost-more 6 8 (set_up n) (omega arith) (setup_accesses n)

prepared : {H : Type 0} (result : Result Cycle Kind) (h : H) (outcome : Outcome Cycle H) → Gives (λ x. x) result h outcome → left_by outcome ≡ h
prepared (Ok cycle) h outcome e = ap left_by e
prepared (Err kind) h outcome e = ap left_by e

transferred : {H : Type 0} (result : Result (Option ℕ) Kind) (old new : Cycle) (h : H) (outcome : Outcome (Cycle × Option ℕ) H) → Serves result old new h outcome → left_by outcome ≡ h
transferred (Ok count) old new h outcome e = ap left_by e
transferred (Err kind) old new h outcome e = ap left_by e.0

module _ {X : Type 0} (f : Further X) where
  pub setup-few : (n : ℕ) (s h : Scene X) (result : Result Cycle Kind) → Gives (λ x. x) result h (run (bus_meaning f) (set_up n) s) → h.reached ≤ s.reached + 16
  setup-few n s h result e =
      subst (λ (x : Scene X). x.reached ≤ s.reached + 16) (prepared result h (run (bus_meaning f) (set_up n) s) e) (few-counted f 8 (set_up n) s (setup-most n))

  pub served-few : (cycle : Cycle) (s h : Scene X) (result : Result (Option ℕ) Kind) (new : Cycle) → Serves result cycle new h (run (bus_meaning f) (served cycle) s) → h.reached ≤ s.reached + 16
  served-few cycle s h result new e =
      subst (λ (x : Scene X). x.reached ≤ s.reached + 16) (transferred result cycle new h (run (bus_meaning f) (served cycle) s) e) (few-counted f 8 (served cycle) s (transfer_accesses cycle))

-- both numbers, while the count goes on
pub spent-both : (count before a b a0 b0 ka kb : ℕ) → before ≡ 0 → a0 ≡ ka → b0 ≡ kb → count ≤ before + 16 → while_counted count (max (a + kb) (b + ka)) + 4 * before ≤ while_counted before (max (a0 + kb) (b0 + ka)) + 4 * count → CostsAtMost (4 * count) a0 a b0 b
spent-both count before a b a0 b0 ka kb none ea eb few h =
    let some : nat_lt count 64 ≡ true = grind (arith, nat_tests) in
    let first : nat_lt before 64 ≡ true = grind (arith, nat_tests) in
    let one : max (a + kb) (b + ka) + 4 * before ≤ while_counted before (max (a0 + kb) (b0 + ka)) + 4 * count = subst (λ t. (if t then max (a + kb) (b + ka) else 0) + 4 * before ≤ while_counted before (max (a0 + kb) (b0 + ka)) + 4 * count) some h in
    let real : max (a + kb) (b + ka) + 4 * before ≤ max (a0 + kb) (b0 + ka) + 4 * count = subst (λ t. max (a + kb) (b + ka) + 4 * before ≤ (if t then max (a0 + kb) (b0 + ka) else 0) + 4 * count) first one in
    record { spent = omega arith; moves = omega arith }
