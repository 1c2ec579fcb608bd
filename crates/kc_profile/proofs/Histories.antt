-- What a run shows in its states, one after the other.
use Rattle.std.proofs.Common.{◌≡◌, ℕ, zero, suc, ◌+◌, ◌-◌, ◌<◌, ◌≤◌, max, eqb, Bool, true, false, List, [], ◌∷◌, Option, Some, None, refl, sym, ◌∙◌, ap, subst, arith}
use Rattle.kc_base.specs.declared.types.IntSet.{IntSet}
use Rattle.kc_span.specs.Span.{after, QuietFor}
use Rattle.kc_intc.specs.declared.requests.Requests.{Requests}
use Rattle.kc_extra.specs.Further.{Further}
use Rattle.kc_block_spec.specs.declared.board_registers.BoardRegisters.{BoardRegisters}
use Rattle.kc_block_spec.specs.Tick.{raised_at, further_out_at, ◌∪◌}
use Rattle.kc_block_spec.specs.Touch.{block_rule}
use Rattle.kc_block_spec.specs.Units.{Units}
use Rattle.kc_machine_spec.specs.declared.doing.Activity.{Activity}
use Rattle.kc_machine_spec.specs.declared.doing.End.{End}
use Rattle.kc_machine_spec.specs.declared.doing.UnderWay.{UnderWay}
use Rattle.kc_machine_spec.specs.Board.{word_at}
use Rattle.kc_machine_spec.specs.Machine.{Machine, Stepped, current, step}
use Rattle.kc_machine_spec.specs.Run.{still, run_for, run_to}
use Rattle.kc_machine_spec.proofs.Runs.{run-none, machine-add, run_for-one, run_for-ended, run_to-append, stepped-time}
use Rattle.kc_machine.specs.Raising.{raised_in}
use Rattle.kc_profile.specs.declared.running.Start.{Start}
use Rattle.kc_profile.specs.declared.sight.Sight.{Sight}
use Rattle.kc_profile.specs.Passing.{CountsOn, IsNoneOrIdle, IsAlone, PassesAlone}
use Rattle.kc_profile.specs.Sights.{is_undefined, ending, seen_of, sight_of, history, unless_ended, Begins}
use Rattle.kc_profile.specs.Statistics.{Statistics, AreStatisticsOf}
use Rattle.kc_profile.specs.Waits.{Follows, AreConsecutive}
use Rattle.kc_profile.proofs.Alone.{quiet-for, quiet-raises, board-kept}
use Rattle.kc_profile.proofs.Nothing.{IsQuietSight, statistics-kept}

shown : ℕ → IntSet → Requests → Requests → Option Activity → Bool → ℕ → ℕ → ℕ → ℕ → Sight
shown at raised before later ends is_broken pc next_pc stack next_stack = record {
  at = at;
  raised = raised;
  before = before;
  after = later;
  ends = ends;
  is_broken = is_broken;
  pc = pc;
  next_pc = next_pc;
  stack = stack;
  next_stack = next_stack;
}

module _ {X : Type 0} (f : Further X) where
  abbrev requests : Machine X → Requests
  requests m = m.board.units.board_registers.requests

  -- ---- the states of a life

  at-state : ℕ → Machine X → Machine X
  at-state t m = (run_for f t m).machine

  next-state : (t : ℕ) (m : Machine X) → at-state (suc t) m ≡ at-state 1 (at-state t m)
  unfolding at-state
  next-state t m = let e : suc t ≡ t + 1 = omega arith in ap (λ i. (run_for f i m).machine) e ∙ machine-add f t 1 m

  one-later : (m : Machine X) → m.ended ≡ None → (at-state 1 m).time ≡ m.time + 1
  unfolding at-state
  one-later m lives = ap (λ (s : Stepped X). s.machine.time) (run_for-one f m lives) ∙ stepped-time f m (current m) (eqb (current m).left 1) refl

  -- a machine that lives has lived before
  lived : (t : ℕ) (m : Machine X) → (at-state (suc t) m).ended ≡ None → (at-state t m).ended ≡ None
  unfolding at-state
  lived t m lives = by (at-state t m).ended refl
    where
      over : (how : End) → (at-state t m).ended ≡ Some how → at-state 1 (at-state t m) ≡ at-state t m
      over how e = ap (λ (s : Stepped X). s.machine) (run_for-ended f 1 (at-state t m) how e)

      by : (o : Option End) → (at-state t m).ended ≡ o → (at-state t m).ended ≡ None
      by None e = e
      by (Some how) e = absurd (let g : Some how ≡ None = sym e ∙ ap (λ (n : Machine X). n.ended) (sym (over how e)) ∙ ap (λ (n : Machine X). n.ended) (sym (next-state t m)) ∙ lives in cc)

  history-more : (t : ℕ) (m : Machine X) → (at-state t m).ended ≡ None → history f (suc t) m ≡ sight_of f (at-state t m) ∷ history f t m
  unfolding history at-state
  history-more t m lives = ap (λ o. unless_ended o (sight_of f (run_for f t m).machine) (history f t m)) lives

  -- the states of a life follow one another
  consecutive : (t : ℕ) (m : Machine X) → Begins m → (at-state t m).ended ≡ None → AreConsecutive (sight_of f (at-state t m)) (history f t m)
  unfolding history AreConsecutive at-state
  consecutive zero m begins lives =
      let first : at-state 0 m ≡ m = ap (λ (s : Stepped X). s.machine) (run-none f m) in
      (ap (λ (n : Machine X). (requests n).pending) first ∙ begins.pending, ap (λ (n : Machine X). (requests n).service) first ∙ begins.handed)
  consecutive (suc t) m begins lives =
      let before = lived t m lives in
      let now : Machine X = at-state (suc t) m in
      let last : Machine X = at-state t m in
      let next = next-state t m in
      let at : (at-state 1 now).time - 1 ≡ (at-state 1 last).time - 1 + 1 = (let a = one-later now lives in let b = one-later last before in let c : now.time ≡ (at-state 1 last).time = ap (λ (n : Machine X). n.time) next in omega (arith, a, b, c)) in
      let same : requests now ≡ requests (at-state 1 last) = ap requests next in
      subst (λ l. AreConsecutive (sight_of f now) l) (sym (history-more t m before)) ((at, same), consecutive t m begins before)

  -- ---- states in which nothing is shown

  quiet-sight : (n k : ℕ) (m : Machine X) → PassesAlone f n m → k + 1 < n → IsQuietSight (sight_of f (at-state k m))
  unfolding at-state
  quiet-sight n k m alone below =
      let here : IsAlone f k m (at-state k m) = alone.each k (omega (arith, below)) in
      let there : IsAlone f (k + 1) m (at-state (k + 1) m) = alone.each (k + 1) below in
      let step : at-state (k + 1) m ≡ at-state 1 (at-state k m) = machine-add f k 1 m in
      let last : Machine X = at-state k m in
      let time : (at-state 1 last).time - last.time ≡ 1 = (let a = one-later last here.lives in omega (arith, a)) in
      let quiet = quiet-raises f (m.time + k) (after (block_rule f) m.time k m.board.units) (alone.quiet k (omega (arith, below))) in
      let board : (i : ℕ) → i + 1 ≤ n → (after (block_rule f) m.time i m.board.units).board_registers ≡ m.board.units.board_registers = λ i few. board-kept f m.time i m.board.units (quiet-for (block_rule f) m.time (n - 1) i m.board.units (omega (arith, few)) alone.quiet) in
      let old : requests last ≡ requests m = ap (λ (u : Units X). u.board_registers.requests) here.units ∙ ap (λ (b : BoardRegisters). b.requests) (board k (omega (arith, below))) in
      let new : requests (at-state 1 last) ≡ requests m = ap requests (sym step) ∙ ap (λ (u : Units X). u.board_registers.requests) there.units ∙ ap (λ (b : BoardRegisters). b.requests) (board (k + 1) (omega (arith, below))) in
      let ends : ending (current last) ((at-state 1 last).time - last.time) ≡ ending (current m) (k + 1) = ap (ending (current last)) time ∙ here.ends in
      record {
        raised = ap (λ t. raised_at t last.board.units ∪ (further_out_at f t last.board.units).raised.0) here.time ∙ ap (λ u. raised_at (m.time + k) u ∪ (further_out_at f (m.time + k) u).raised.0) here.units ∙ quiet;
        same = new ∙ sym old;
        ends = either ends (alone.between k below);
        stack = ap (λ (x : Machine X). word_at x.board.memory 0x18) (sym step) ∙ ap (λ l. word_at l 0x18) there.memory ∙ sym (ap (λ l. word_at l 0x18) here.memory);
      }
    where
      either : {o p : Option Activity} → o ≡ p → IsNoneOrIdle p → IsNoneOrIdle o
      either e h = subst IsNoneOrIdle (sym e) h

  -- they leave the statistics as they were
  statistics-stay : (life n k : ℕ) (first m : Machine X) (t : Statistics) → Begins first → m ≡ at-state m.time first → PassesAlone f n m → k < n → AreStatisticsOf life (history f m.time first) t → AreStatisticsOf life (history f (m.time + k) first) t
  unfolding at-state
  statistics-stay life n zero first m t begins there alone below is =
      let e : m.time ≡ m.time + 0 = omega arith in subst (λ i. AreStatisticsOf life (history f i first) t) e is
  statistics-stay life n (suc k) first m t begins there alone below is =
      let e : suc (m.time + k) ≡ m.time + suc k = omega arith in
      let before = statistics-stay life n k first m t begins there alone (omega (arith, below)) is in
      let same : at-state (m.time + k) first ≡ at-state k m = machine-add f m.time k first ∙ ap (at-state k) (sym there) in
      let lives : (at-state (m.time + k) first).ended ≡ None = ap (λ (x : Machine X). x.ended) same ∙ (alone.each k (omega (arith, below))).lives in
      let quiet : IsQuietSight (sight_of f (at-state (m.time + k) first)) = subst (λ (x : Machine X). IsQuietSight (sight_of f x)) (sym same) (quiet-sight n k m alone (omega (arith, below))) in
      let more = statistics-kept life (sight_of f (at-state (m.time + k) first)) (history f (m.time + k) first) t (consecutive (m.time + k) first begins lives) quiet before in
      subst (λ i. AreStatisticsOf life (history f i first) t) e (subst (λ l. AreStatisticsOf life l t) (sym (history-more (m.time + k) first lives)) more)

  -- ---- the last state

  -- it is seen from where the states of one activity began
  last-seen : (k : ℕ) (m n : Machine X) (raised : IntSet) → PassesAlone f (k + 1) m → n ≡ at-state (k + 1) m → raised.0 ≡ raised_in f (at-state k m) →
      seen_of m.time (requests m) m.cpu.pc (word_at m.board.memory 0x18) (current m) raised n ≡ sight_of f (at-state k m)
  unfolding at-state shown
  last-seen k m n raised alone is set =
      let here : IsAlone f k m (at-state k m) = alone.each k (omega arith) in
      let last : Machine X = at-state k m in
      let step : n ≡ at-state 1 last = is ∙ machine-add f k 1 m in
      let time : n.time ≡ last.time + 1 = ap (λ (x : Machine X). x.time) step ∙ one-later last here.lives in
      let board : (after (block_rule f) m.time k m.board.units).board_registers ≡ m.board.units.board_registers = board-kept f m.time k m.board.units (quiet-for (block_rule f) m.time (k + 1 - 1) k m.board.units (omega arith) alone.quiet) in
      let old : requests m ≡ requests last = sym (ap (λ (u : Units X). u.board_registers.requests) here.units ∙ ap (λ (b : BoardRegisters). b.requests) board) in
      let states : n.time - m.time ≡ k + 1 = omega (arith, time, here.time) in
      let one : (at-state 1 last).time - last.time ≡ 1 = (let a = one-later last here.lives in omega (arith, a)) in
      let at : n.time - 1 ≡ (at-state 1 last).time - 1 = ap (λ (x : Machine X). x.time - 1) step in
      let sets : raised ≡ record { 0 = raised_in f last } = ap (λ (v : ℕ). set-of v) set in
      let later : requests n ≡ requests (at-state 1 last) = ap requests step in
      let ends : ending (current m) (n.time - m.time) ≡ ending (current last) ((at-state 1 last).time - last.time) = ap (ending (current m)) states ∙ sym here.ends ∙ ap (ending (current last)) (sym one) in
      let broken : is_undefined n.ended ≡ is_undefined (at-state 1 last).ended = ap (λ (x : Machine X). is_undefined x.ended) step in
      let pc : m.cpu.pc ≡ last.cpu.pc = ap (λ c. c.pc) (sym here.cpu) in
      let next_pc : n.cpu.pc ≡ (at-state 1 last).cpu.pc = ap (λ (x : Machine X). x.cpu.pc) step in
      let stack : word_at m.board.memory 0x18 ≡ word_at last.board.memory 0x18 = ap (λ l. word_at l 0x18) (sym here.memory) in
      let next_stack : word_at n.board.memory 0x18 ≡ word_at (at-state 1 last).board.memory 0x18 = ap (λ (x : Machine X). word_at x.board.memory 0x18) step in
      λ j. shown (at j) (sets j) (old j) (later j) (ends j) (broken j) (pc j) (next_pc j) (stack j) (next_stack j)
    where
      set-of : ℕ → IntSet
      set-of v = record { 0 = v }

  -- statistics after some states of one activity, of which the last is seen
  pub statistics-further : (life : ℕ) (first m n : Machine X) (t u : Statistics) (raised : IntSet) → Begins first → m ≡ (run_to f m.time first).machine → m.time < n.time → n ≡ (run_to f n.time m).machine →
      PassesAlone f (n.time - m.time) m → raised.0 ≡ raised_in f (run_for f (n.time - m.time - 1) m).machine →
      ((sights : List Sight) → AreConsecutive (seen_of m.time m.board.units.board_registers.requests m.cpu.pc (word_at m.board.memory 0x18) (current m) raised n) sights → AreStatisticsOf life sights t → AreStatisticsOf life (seen_of m.time m.board.units.board_registers.requests m.cpu.pc (word_at m.board.memory 0x18) (current m) raised n ∷ sights) u) →
      AreStatisticsOf life (history f m.time first) t → AreStatisticsOf life (history f n.time first) u
  unfolding at-state
  statistics-further life first m n t u raised begins there ahead is alone set sees before =
      let k : ℕ = n.time - m.time - 1 in
      let count : n.time - m.time ≡ k + 1 = omega (arith, ahead) in
      let all : PassesAlone f (k + 1) m = subst (λ i. PassesAlone f i m) count alone in
      let from : m ≡ at-state m.time first = there ∙ ap (λ i. at-state i first) (let e : m.time - first.time ≡ m.time = omega (arith, begins.time) in e) in
      let came : n ≡ at-state (k + 1) m = is ∙ ap (λ i. at-state i m) count in
      let stay = statistics-stay life (k + 1) k first m t begins from all (omega arith) before in
      let same : at-state (m.time + k) first ≡ at-state k m = machine-add f m.time k first ∙ ap (at-state k) (sym from) in
      let lives : (at-state (m.time + k) first).ended ≡ None = ap (λ (x : Machine X). x.ended) same ∙ (all.each k (omega arith)).lives in
      let seen = last-seen k m n raised all came set ∙ ap (sight_of f) (sym same) in
      let follows = subst (λ s. AreConsecutive s (history f (m.time + k) first)) (sym seen) (consecutive (m.time + k) first begins lives) in
      let more = subst (λ s. AreStatisticsOf life (s ∷ history f (m.time + k) first) u) seen (sees (history f (m.time + k) first) follows stay) in
      let end : suc (m.time + k) ≡ n.time = omega (arith, ahead) in
      subst (λ i. AreStatisticsOf life (history f i first) u) end (subst (λ l. AreStatisticsOf life l u) (sym (history-more (m.time + k) first lives)) more)

  -- a run that is counted goes on
  pub counts-first : (life : ℕ) (m : Machine X) (t : Statistics) → CountsOn f life m t m t
  counts-first life m t = λ first begins there is. is

  pub counts-next : (life other : ℕ) (m0 : Machine X) (t0 : Statistics) (m : Machine X) (t : Statistics) (n : Machine X) (u : Statistics) → m0.time ≤ m.time → m ≡ (run_to f m.time m0).machine → other ≡ life → CountsOn f life m0 t0 m t → CountsOn f other m t n u → CountsOn f life m0 t0 n u
  counts-next life other m0 t0 m t n u forward is same before next = λ first begins there counted.
      let time : (run_to f m0.time first).machine.time ≡ m0.time = ap (λ (k : Machine X). k.time) (sym there) in
      let parts = run_to-append f m0.time m.time first (omega (arith, begins.time)) forward time in
      let from : m ≡ (run_to f m.time first).machine = is ∙ ap (λ k. (run_to f m.time k).machine) there ∙ sym (ap (λ (s : Stepped X). s.machine) parts) in
      subst (λ l. AreStatisticsOf l (history f n.time first) u) same
      (next first begins from (subst (λ l. AreStatisticsOf l (history f m.time first) t) (sym same) (before first begins there counted)))

  -- ---- the end of a run

  -- a machine that has ended shows nothing more
  history-over : (k t : ℕ) (m : Machine X) (how : End) → (at-state t m).ended ≡ Some how → history f (t + k) m ≡ history f t m
  unfolding history at-state
  history-over zero t m how over = let e : t + zero ≡ t = omega arith in ap (λ i. history f i m) e
  history-over (suc k) t m how over =
      let e : t + suc k ≡ suc (t + k) = omega arith in
      let same : at-state (t + k) m ≡ at-state t m = machine-add f t k m ∙ ap (λ (s : Stepped X). s.machine) (run_for-ended f k (at-state t m) how over) in
      let ended : (at-state (t + k) m).ended ≡ Some how = ap (λ (n : Machine X). n.ended) same ∙ over in
      ap (λ i. history f i m) e
      ∙ ap (λ o. unless_ended o (sight_of f (run_for f (t + k) m).machine) (history f (t + k) m)) ended
      ∙ history-over k t m how over

  pub shown-over : (until : ℕ) (m0 m first : Machine X) (how : End) → m0.time ≤ m.time → m ≡ (run_to f m.time m0).machine → m.time ≤ max until m0.time → m0 ≡ (run_to f m0.time first).machine → first.time ≡ 0 → m.ended ≡ Some how →
      history f (max until m0.time) first ≡ history f m.time first
  unfolding at-state
  shown-over until m0 m first how forward is within there none over =
      let time : (run_to f m0.time first).machine.time ≡ m0.time = ap (λ (k : Machine X). k.time) (sym there) in
      let parts = run_to-append f m0.time m.time first (omega (arith, none)) forward time in
      let from : m ≡ (run_to f m.time first).machine = is ∙ ap (λ k. (run_to f m.time k).machine) there ∙ sym (ap (λ (s : Stepped X). s.machine) parts) in
      let at : m ≡ at-state m.time first = from ∙ ap (λ i. at-state i first) (let e : m.time - first.time ≡ m.time = omega (arith, none) in e) in
      let sum : max until m0.time ≡ m.time + (max until m0.time - m.time) = omega (arith, within) in
      ap (λ i. history f i first) sum ∙ history-over (max until m0.time - m.time) m.time first how (ap (λ (k : Machine X). k.ended) (sym at) ∙ over)

  pub shown-far : (until : ℕ) (m0 m first : Machine X) → m0.time ≤ m.time → m.time ≤ max until m0.time → until ≤ m.time → history f (max until m0.time) first ≡ history f m.time first
  shown-far until m0 m first forward within far = let e : max until m0.time ≡ m.time = omega (arith, forward, within, far) in ap (λ i. history f i first) e

-- what is seen from a start that is a machine's
pub seen-from : {X : Type 0} (m : Machine X) (start : Start) (a : UnderWay) (raised : IntSet) (n : Machine X) → start.at ≡ m.time → start.requests ≡ m.board.units.board_registers.requests → start.pc ≡ m.cpu.pc → start.stack ≡ word_at m.board.memory 0x18 → a ≡ current m →
    seen_of start.at start.requests start.pc start.stack a raised n ≡ seen_of m.time m.board.units.board_registers.requests m.cpu.pc (word_at m.board.memory 0x18) (current m) raised n
seen-from m start a raised n at requests pc stack same = λ j. seen_of (at j) (requests j) (pc j) (stack j) (same j) raised n
