-- A Tick leaves the pending requests as they are, but for those that it adds: where none is pending, these are the ones that it raises.
use Rattle.std.proofs.Common.{◌≡◌, ℕ, zero, suc, ◌+◌, ◌-◌, ◌*◌, ◌<◌, ◌≤◌, List, Option, None, refl, sym, ◌∙◌, ap, subst, arith}
use Rattle.std.proofs.lemmas.Nat.{and_le_l, or_comm, or_disjoint}
use Rattle.std.specs.Prelude.{bit_and, bit_or}
use Rattle.kc_extra.specs.Further.{Further}
use Rattle.kc_extra.specs.declared.extra.Extra as extra
use Rattle.kc_span.specs.Span.{after}
use Rattle.kc_span.proofs.SpanLaws.{after-suc, after-zero}
use Rattle.kc_trace.specs.declared.record.Record.{Record}
use Rattle.kc_trace.specs.Out.{Out, Prints}
use Rattle.kc_block_spec.specs.Costs.{CostsAtMost}
use Rattle.kc_block_spec.specs.Tick.{tick, raised_at, further_out_at, ◌∪◌}
use Rattle.kc_block_spec.specs.Touch.{block_rule, touch, touched, edges_of}
use Rattle.kc_block_spec.specs.Units.{Units}
use Rattle.kc_block_spec.specs.Writing.{with_requests}
use Rattle.kc_machine_spec.specs.declared.doing.UnderWay.{UnderWay}
use Rattle.kc_machine_spec.specs.Board.{pin_records, edges_in}
use Rattle.kc_machine_spec.specs.Scene.{Scene, opened}
use Rattle.kc_machine_spec.specs.Machine.{Machine, Stepped, with_units, with_asked, scene_of, finished, before}
use Rattle.kc_machine_spec.specs.Passing.{at, whole}
use Rattle.kc_machine.specs.declared.common.Common.{Common}
use Rattle.kc_machine.specs.declared.parts.Core.{Core}
use Rattle.kc_machine.specs.Bus.{held_of}
use Rattle.kc_machine.specs.Passing.{ticks_to, GoesAs}
use Rattle.kc_machine.specs.Seen.{machine_of}
use Rattle.kc_machine.specs.Raising.{raised_in}

zero-or : (n : ℕ) → bit_or 0 n ≡ n
zero-or n =
    let none : bit_and 0 n ≤ 0 = and_le_l 0 n in
    let sum : 0 + n ≡ n = omega arith in
    or_disjoint 0 n (omega (arith, none)) ∙ sum

-- units of which no request is pending, and units with further ones
abbrev pub unasked : {X : Type 0} → Units X → Units X
unasked u = with_requests u (record u.board_registers.requests { pending = 0 })

abbrev pub asked_too : {X : Type 0} → ℕ → Units X → Units X
asked_too n u = with_requests u (record u.board_registers.requests { pending = bit_or u.board_registers.requests.pending n })

module _ {X : Type 0} (f : Further X) where
  raised-of : ℕ → Units X → ℕ
  raised-of t u = raised_at t u ∪ (further_out_at f t u).raised.0

  tick-asked : (t : ℕ) (u : Units X) → asked_too u.board_registers.requests.pending (tick f t (unasked u)).units ≡ (tick f t u).units
  unfolding tick raised-of
  tick-asked t u =
      let pending : ℕ = u.board_registers.requests.pending in
      let same : bit_or (bit_or 0 (raised-of t u)) pending ≡ bit_or pending (raised-of t u) = ap (λ n. bit_or n pending) (zero-or (raised-of t u)) ∙ or_comm (raised-of t u) pending in
      ap (λ n. with_requests (tick f t u).units (record (tick f t u).units.board_registers.requests { pending = n })) same

  tick-raised : (t : ℕ) (u : Units X) → (tick f t (unasked u)).units.board_registers.requests.pending ≡ raised_at t u ∪ (further_out_at f t u).raised.0
  unfolding tick raised-of
  tick-raised t u = zero-or (raised-of t u)

  after-one : (t : ℕ) (u : Units X) → after (block_rule f) t 1 u ≡ (tick f t u).units
  after-one t u =
      let none : t + 0 ≡ t = omega arith in
      after-suc (block_rule f) t 0 u
      ∙ ap (λ n. (tick f n (after (block_rule f) t 0 u)).units) none
      ∙ ap (λ v. (tick f t v).units) (after-zero (block_rule f) t u)

  edges-asked : (t : ℕ) (u : Units X) → edges_of f t 1 (unasked u) ≡ edges_of f t 1 u
  unfolding edges_of after tick
  edges-asked t u = refl

  touch-asked : (t : ℕ) (u : Units X) → touch f t 1 (unasked u) ≡ touch f t 1 u
  unfolding touch after touched
  touch-asked t u = refl

  after-asked : (t : ℕ) (u : Units X) → asked_too u.board_registers.requests.pending (after (block_rule f) t 1 (unasked u)) ≡ after (block_rule f) t 1 u
  after-asked t u = ap (asked_too u.board_registers.requests.pending) (after-one t (unasked u)) ∙ tick-asked t u ∙ sym (after-one t u)

  -- ---- a Tick of the machine's parts, while no request is pending

  asked_again : ℕ → Machine X → Machine X
  asked_again n m = with_units m (asked_too n m.board.units)

  pub ticked-machine : {d : extra.Ghosts X} (old : Core X d) (bus1 : Common X d) (now : ℕ) (core : Core X d) (bus2 : Common X d) (pending : ℕ) →
      pending ≡ old.bus.block.units.board_registers.requests.pending →
      held_of bus1 ≡ with_asked (λ r. record r { pending = 0 }) (held_of old.bus) →
      machine_of core ≡ (ticks_to f (machine_of (record old { bus = bus1 })) now 1 old.under_way).machine →
      held_of bus2 ≡ with_asked (λ r. record r { pending = bit_or r.pending pending }) (held_of core.bus) →
      machine_of (record core { bus = bus2 }) ≡ (ticks_to f (machine_of old) now 1 old.under_way).machine
  unfolding asked_again
  ticked-machine old bus1 now core bus2 pending was took went put =
      let m = machine_of old in
      let t : ℕ = m.time in
      let back : machine_of (record core { bus = bus2 }) ≡ asked_again pending (machine_of core) = ap (λ (s : Scene X). record (machine_of core) { board = s.board }) put in
      let ticked : asked_again pending (machine_of core) ≡ asked_again pending (at (record m { board = (held_of bus1).board }) now (after (block_rule f) t 1 (held_of bus1).board.units) m.under_way) = ap (asked_again pending) went in
      let alone = ap (λ (s : Scene X). asked_again pending (at (record m { board = s.board }) now (after (block_rule f) t 1 s.board.units) m.under_way)) took in
      let same = ap (λ (n : ℕ). asked_too n (after (block_rule f) t 1 (unasked m.board.units))) was ∙ after-asked t m.board.units in
      back ∙ ticked ∙ alone ∙ ap (λ u. at m now u m.under_way) same

  pub ticked-lines : {d : extra.Ghosts X} (old : Core X d) (bus1 : Common X d) → held_of bus1 ≡ with_asked (λ r. record r { pending = 0 }) (held_of old.bus) → edges_in f old.time 1 bus1.block.units ≡ edges_in f old.time 1 old.bus.block.units
  ticked-lines old bus1 took =
      ap (λ (s : Scene X). edges_in f old.time 1 s.board.units) took ∙ ap pin_records (edges-asked old.time old.bus.block.units)

  pub ticked-touch : {d : extra.Ghosts X} (old : Core X d) (bus1 : Common X d) → held_of bus1 ≡ with_asked (λ r. record r { pending = 0 }) (held_of old.bus) → touch f old.time 1 bus1.block.units ≡ touch f old.time 1 old.bus.block.units
  ticked-touch old bus1 took =
      ap (λ (s : Scene X). touch f old.time 1 s.board.units) took ∙ touch-asked old.time old.bus.block.units

  pub ticked-raised : {d : extra.Ghosts X} (old : Core X d) (bus1 : Common X d) (now : ℕ) (core : Core X d) →
      held_of bus1 ≡ with_asked (λ r. record r { pending = 0 }) (held_of old.bus) →
      machine_of core ≡ (ticks_to f (machine_of (record old { bus = bus1 })) now 1 old.under_way).machine →
      core.bus.block.units.board_registers.requests.pending ≡ raised_in f (machine_of old)
  ticked-raised old bus1 now core took went =
      ap (λ (m : Machine X). m.board.units.board_registers.requests.pending) went
      ∙ ap (λ (s : Scene X). (after (block_rule f) old.time 1 s.board.units).board_registers.requests.pending) took
      ∙ ap (λ (u : Units X). u.board_registers.requests.pending) (after-one old.time (unasked old.bus.block.units))
      ∙ tick-raised old.time old.bus.block.units

  pub ticked-scene : {d : extra.Ghosts X} (core : Core X d) (bus2 : Common X d) (pending : ℕ) →
      held_of core.bus ≡ scene_of (machine_of core) →
      held_of bus2 ≡ with_asked (λ r. record r { pending = bit_or r.pending pending }) (held_of core.bus) →
      held_of bus2 ≡ scene_of (machine_of (record core { bus = bus2 }))
  ticked-scene core bus2 pending here put =
      put ∙ ap (with_asked (λ r. record r { pending = bit_or r.pending pending })) here ∙ sym (ap (λ (s : Scene X). opened core.time s.board) put)

  -- ---- an activity of which one state is left

  pub whole-last : (m : Machine X) (a : UnderWay) → a.left ≡ 1 → whole f m a ≡ before (edges_in f m.time 1 m.board.units) (touch f m.time 1 m.board.units) (finished f a.doing (at m m.time (after (block_rule f) m.time 1 m.board.units) m.under_way))
  whole-last m a one =
      let none : m.time + (1 - 1) ≡ m.time = omega arith in
      ap (λ n. before (edges_in f m.time n m.board.units) (touch f m.time n m.board.units) (finished f a.doing (at m (m.time + (n - 1)) (after (block_rule f) m.time n m.board.units) m.under_way))) one
      ∙ ap (λ now. before (edges_in f m.time 1 m.board.units) (touch f m.time 1 m.board.units) (finished f a.doing (at m now (after (block_rule f) m.time 1 m.board.units) m.under_way))) none
