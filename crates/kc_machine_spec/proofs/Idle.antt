-- Idle states in which no request is served.
use Rattle.std.proofs.Common.{if◌then◌else◌, ◌≡◌, ℕ, zero, suc, ◌+◌, ◌-◌, ◌<◌, ◌≤◌, Bool, true, false, not, List, [], ◌++◌, Option, Some, None, refl, sym, ◌∙◌, ap, subst, append-nil, arith}
use Rattle.kc_span.specs.Span.{after, QuietFor}
use Rattle.kc_exec_spec.specs.Status.{has}
use Rattle.kc_intc.specs.Choosing.{choice_of}
use Rattle.kc_intc.specs.declared.requests.Choice.TheVariants.{Go}
use Rattle.kc_trace.specs.declared.record.Record.{Record}
use Rattle.kc_machine_spec.specs.declared.doing.Activity.TheVariants.{Idles}
use Rattle.kc_machine_spec.specs.declared.doing.Going.{Going}
use Rattle.kc_machine_spec.specs.declared.doing.Going.TheVariants.{Idling}
use Rattle.kc_machine_spec.specs.declared.doing.End.{End}
use Rattle.kc_machine_spec.specs.declared.doing.UnderWay.{UnderWay}
use Rattle.kc_extra.specs.Further.{Further}
use Rattle.kc_block_spec.specs.declared.board_registers.BoardRegisters.{BoardRegisters}
use Rattle.kc_block_spec.specs.Units.{Units, Ticked}
use Rattle.kc_block_spec.specs.Laws.{IsQuietTick}
use Rattle.kc_block_spec.proofs.Rests.{quiet_ticks_are_rests, quiet_ticks_keep_board_registers}
use Rattle.kc_block_spec.specs.Tick.{tick}
use Rattle.kc_block_spec.specs.Touch.{touched, worked, touch, block_rule, edges_of, in_state}
use Rattle.kc_machine_spec.specs.Board.{pin_records, pins, edges_in}
use Rattle.kc_machine_spec.specs.Machine.{Machine, Stepped, current, current_of, chosen, asked, serves, goes_on, goes_first, fetches, finished, stepped, before}
use Rattle.kc_machine_spec.specs.Passing.{at, stepped_of, after_ticks, ticks_of, IsIdle, activity_end}
use Rattle.kc_machine_spec.specs.Run.{still, and_then, run_for, run_to}
use Rattle.kc_machine_spec.proofs.Runs.{edges_in-suc, run_for-add, run_for-one, stepped-finished, same_stepped, same_at}

pub idle_state : UnderWay
idle_state = record { doing = Idles; left = 1 }

-- a machine that idles, of which no request is served, has an idle state next
pub current-idle : {X : Type 0} (m : Machine X) → IsIdle m → asked m ≡ Go → current m ≡ idle_state
unfolding chosen idle_state
current-idle m idle none =
    ap (current_of m) idle.between
    ∙ ap (λ g. if goes_first g then goes_on m g else if m.held then fetches m else serves m (asked m)) idle.idling
    ∙ ap (λ h. if h then fetches m else serves m (asked m)) idle.free
    ∙ ap (serves m) none
    ∙ ap (goes_on m) idle.idling

stands : {X : Type 0} → Machine X → ℕ → Units X → Bool → Option Going → Option End → Machine X
stands m now units held going ended = record { time = now; board = record m.board { units = units }; cpu = m.cpu; held = held; going = going; under_way = None; ended = ended }

-- the machine after an idle state is the same but for its units
rested : {X : Type 0} (m : Machine X) (now : ℕ) (units : Units X) → IsIdle m → stands m now units false (Some Idling) None ≡ at m now units None
unfolding stands
rested m now units idle =
    ap (λ h. stands m now units h (Some Idling) None) (sym idle.free)
    ∙ ap (λ g. stands m now units m.held g None) (sym idle.idling)
    ∙ ap (λ e. stands m now units m.held m.going e) (sym idle.lives)

unworked : (b : Bool) → not b ≡ true → b ≡ false
unworked true e = sym e
unworked false e = refl

module _ {X : Type 0} (f : Further X) where
  still-idle : (m : Machine X) (k : ℕ) → IsIdle m → IsIdle (after_ticks f m k None)
  still-idle m k idle = record { idling = idle.idling; free = idle.free; between = refl; lives = idle.lives }

  pub one_more : (m : Machine X) → IsIdle m → asked m ≡ Go → run_for f 1 m ≡ before (pins m.time (tick f m.time m.board.units).edges) (touched f m.time m.board.units) (stepped_of (at m (m.time + 1) (tick f m.time m.board.units).units None) [] 0)
  unfolding finished idle_state stands
  one_more m idle none =
      let units : Units X = (tick f m.time m.board.units).units in
      run_for-one f m idle.lives
      ∙ ap (stepped f m) (current-idle m idle none)
      ∙ stepped-finished f m idle_state refl
      ∙ ap (λ n. before (pins m.time (tick f m.time m.board.units).edges) (touched f m.time m.board.units) (stepped_of n [] 0)) (rested m (m.time + 1) units idle)

  rests-next : (k : ℕ) (m : Machine X) → IsIdle m → asked (after_ticks f m k None) ≡ Go → and_then (ticks_of f m k None) (run_for f 1) ≡ ticks_of f m (suc k) None
  unfolding after edges_of touch
  rests-next k m idle none =
      let now : (m.time + k) + 1 ≡ m.time + suc k = omega arith in
      let here : Machine X = after_ticks f m k None in
      let edges : List Record = edges_in f m.time k m.board.units in
      let own : List Record = pins here.time (tick f here.time here.board.units).edges in
      let cost : ℕ = touch f m.time k m.board.units in
      let now_touched : ℕ = touched f here.time here.board.units in
      ap (before edges cost) (one_more here (still-idle m k idle) none)
      ∙ same_stepped _ _ (edges ++ (own ++ [])) (edges_in f m.time (suc k) m.board.units) (cost + (now_touched + 0)) (cost + now_touched)
      (same_at m _ _ _ _ None None now refl refl)
      (ap (λ xs. edges ++ xs) (append-nil own) ∙ edges_in-suc f m.time k m.board.units) (let e : cost + (now_touched + 0) ≡ cost + now_touched = omega arith in e)

  pub rests : (n : ℕ) (m : Machine X) → IsIdle m → ((k : ℕ) → k < n → asked (after_ticks f m k None) ≡ Go) → run_for f n m ≡ ticks_of f m n None
  unfolding run_for after edges_of touch
  rests zero m idle none =
      let now : m.time ≡ m.time + 0 = omega arith in
      ap still (same_at m m.time (m.time + 0) m.board.units m.board.units m.under_way None now refl idle.between)
  rests (suc k) m idle none =
      let e : suc k ≡ k + 1 = omega arith in
      ap (λ i. run_for f i m) e ∙ run_for-add f k 1 m ∙ ap (λ s. and_then s (run_for f 1)) (rests k m idle (λ i within. none i (omega arith))) ∙ rests-next k m idle (none k (omega arith))

  -- quiet Ticks keep what the requests are chosen from
  board_registers_kept : (from n : ℕ) (u : Units X) → QuietFor (block_rule f) from n u → (after (block_rule f) from n u).board_registers ≡ u.board_registers
  unfolding after
  board_registers_kept from zero u quiet = refl
  board_registers_kept from (suc n) u quiet =
      quiet_ticks_keep_board_registers f (from + n) (after (block_rule f) from n u) (unworked (worked f (from + n) (after (block_rule f) from n u)) (quiet n (omega arith)))
      ∙ board_registers_kept from n u (λ k within. quiet k (omega arith))

  none_later : (k : ℕ) (m : Machine X) → asked m ≡ Go → QuietFor (block_rule f) m.time k m.board.units → asked (after_ticks f m k None) ≡ Go
  none_later k m none quiet = ap (λ (s : BoardRegisters). choice_of (has 4 m.cpu.psw_high) (has 2 m.cpu.psw_high) s.requests) (board_registers_kept m.time k m.board.units quiet) ∙ none

  pub rests_to_due : (n : ℕ) (m : Machine X) → IsIdle m → asked m ≡ Go → QuietFor (block_rule f) m.time n m.board.units → run_for f (suc n) m ≡ ticks_of f m (suc n) None
  rests_to_due n m idle none quiet = rests (suc n) m idle (λ k within. none_later k m none (λ i below. quiet i (omega arith)))

  -- up to the first Tick that is not quiet, and in the state of that Tick, the machine idles
  pub rests_each : (n k : ℕ) (m : Machine X) → IsIdle m → asked m ≡ Go → QuietFor (block_rule f) m.time n m.board.units → k ≤ n →
      IsIdle (run_for f k m).machine × (asked (run_for f k m).machine ≡ Go)
  rests_each n k m idle none quiet within =
      let ran : run_for f k m ≡ ticks_of f m k None = rests k m idle (λ i below. none_later i m none (λ j less. quiet j (omega arith))) in
      subst (λ (s : Stepped X). IsIdle s.machine × (asked s.machine ≡ Go)) (sym ran) (still-idle m k idle, none_later k m none (λ j less. quiet j (omega arith)))

  -- a run of idle states alone
  pub run_to-rests : (until : ℕ) (m : Machine X) → IsIdle m → asked m ≡ Go → m.time < until → QuietFor (block_rule f) m.time (until - 1 - m.time) m.board.units → run_to f until m ≡ record {
    machine = at m until (after (block_rule f) m.time (until - m.time) m.board.units) None;
    records = edges_in f m.time (until - m.time) m.board.units;
    touch = touch f m.time (until - m.time) m.board.units;
  }
  run_to-rests until m idle none ahead quiet =
      let n : ℕ = until - m.time in
      let sum : m.time + n ≡ until = omega arith in
      rests n m idle (λ k within. none_later k m none (λ i below. quiet i (omega arith)))
      ∙ same_stepped _ _ _ _ _ _ (same_at m (m.time + n) until (after (block_rule f) m.time n m.board.units) (after (block_rule f) m.time n m.board.units) None None sum refl refl) refl refl

  -- quiet Ticks give no edge
  quiet_edges : (from n : ℕ) (u : Units X) → QuietFor (block_rule f) from n u → edges_of f from n u ≡ []
  unfolding edges_of
  quiet_edges from zero u quiet = refl
  quiet_edges from (suc n) u quiet =
      let last : IsQuietTick f (from + n) (after (block_rule f) from n u) = quiet_ticks_are_rests f (from + n) (after (block_rule f) from n u) (unworked (worked f (from + n) (after (block_rule f) from n u)) (quiet n (omega arith))) in
      ap (λ es. edges_of f from n u ++ in_state (from + n) es) (ap (λ (t : Ticked X). t.edges) last.same)
      ∙ append-nil (edges_of f from n u)
      ∙ quiet_edges from n u (λ k within. quiet k (omega arith))

  -- a machine that has idled over quiet states
  pub record QuietEnd (end : ℕ) (m : Machine X) : Type 0 where
    pub there : (run_to f end m).machine.time ≡ end
    pub silent : (run_to f end m).records ≡ []
    pub over : activity_end (run_to f end m).machine ≡ end + 1

  pub quiet_end : (end : ℕ) (m : Machine X) → IsIdle m → asked m ≡ Go → m.time ≤ end → QuietFor (block_rule f) m.time (end - m.time) m.board.units → QuietEnd end m
  unfolding idle_state
  quiet_end end m idle none ahead quiet =
      let n : ℕ = end - m.time in
      let sum : m.time + n ≡ end = omega arith in
      let here : Machine X = after_ticks f m n None in
      let ran : run_for f n m ≡ ticks_of f m n None = rests n m idle (λ k within. none_later k m none (λ i below. quiet i (omega arith))) in
      let next : current here ≡ idle_state = current-idle here (still-idle m n idle) (none_later n m none quiet) in
      record {
        there = ap (λ (s : Stepped X). s.machine.time) ran ∙ sum;
        silent = ap (λ (s : Stepped X). s.records) ran ∙ ap pin_records (quiet_edges m.time n m.board.units quiet);
        over = ap (λ (s : Stepped X). activity_end s.machine) ran ∙ ap (λ (a : UnderWay). (m.time + n) + a.left) next ∙ ap (λ t. t + 1) sum;
      }
