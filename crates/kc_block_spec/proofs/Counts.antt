-- How many edges a change gives, and how many units a Tick touches.
use Rattle.std.proofs.Common.{◌≡◌, ℕ, zero, suc, ◌+◌, ◌≤◌, Bool, true, false, [], ◌∷◌, ◌++◌, length, length-append, arith, bit_xor}
use Rattle.std.specs.Prelude.{if◌then◌else◌}
use Rattle.kc_base.specs.Levels.{level_of}
use Rattle.kc_base.specs.declared.types.Edge.{Edge}
use Rattle.kc_base.specs.Bits.{bit}
use Rattle.kc_block_spec.specs.Levels.{edge_at, edges_below}
use Rattle.kc_block_spec.specs.Touch.{one_if, timer2_touched, hso_touched, hsi_touched, further_touched, touched}
use Rattle.kc_block_spec.specs.Laws.{EighteenEdges, FourTouched}

edge_once : (old new n : ℕ) → length (edge_at old new n) ≤ 1
edge_once old new n = by (bit (bit_xor old new) n)
  where
    by : (b : Bool) → length {A = Edge} (if b then record { pin = record { 0 = n }; level = level_of (bit new n) } ∷ [] else []) ≤ 1
    by true = omega arith
    by false = omega arith

edges_few : (old new n : ℕ) → length (edges_below old new n) ≤ n
unfolding edges_below
edges_few old new zero = omega arith
edges_few old new (suc n) =
    let low : length (edges_below old new n) ≤ n = edges_few old new n in
    let top : length (edge_at old new n) ≤ 1 = edge_once old new n in
    let sum : length (edges_below old new n ++ edge_at old new n) ≡ length (edges_below old new n) + length (edge_at old new n) =
    length-append (edges_below old new n) (edge_at old new n) in
    omega arith

pub eighteen_edges : EighteenEdges
eighteen_edges old new = edges_few old new 18

once : (b : Bool) → one_if b ≤ 1
once true = omega arith
once false = omega arith

pub four_touched : {X : Type 0} → FourTouched X
unfolding touched
four_touched f t u =
    let a : one_if (timer2_touched t u) ≤ 1 = once (timer2_touched t u) in
    let b : one_if (hso_touched t u) ≤ 1 = once (hso_touched t u) in
    let c : one_if (hsi_touched t u) ≤ 1 = once (hsi_touched t u) in
    let d : one_if (further_touched f t u) ≤ 1 = once (further_touched f t u) in
    omega arith
