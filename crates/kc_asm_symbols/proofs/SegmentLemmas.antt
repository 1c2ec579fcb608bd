-- How many pieces a statement adds.
use Rattle.std.proofs.Common.{◌≡◌, ℕ, ◌+◌, ◌≤◌, arith}
use Rattle.std.specs.Prelude.{Option, Some, None}
use Rattle.kc_obj_module.specs.declared.parts.SegKind.{SegKind}
use Rattle.kc_obj_module.specs.declared.parts.SegKind.TheVariants.{Reg, Code, Ram}
use Rattle.kc_expr.specs.Tree.{Tree}
use Rattle.kc_source_statement.specs.Trees.{ActionTree, Bare, Module, Cseg, Dseg, Rseg, Sseg, Public, Extrn, Equ, Set, Define, Reserve, Org, Even, End, Operation}
use Rattle.kc_asm_symbols.specs.declared.segments.Segment.{Segment}
use Rattle.kc_asm_symbols.specs.Located.{opened, segment_after}

one_opened : (kind : SegKind) (at : Option Tree) (g : Segment) → (opened kind at g).count ≤ g.count + 1
one_opened kind None g = omega arith
one_opened kind (Some at) g = omega arith

pub one_more_piece : (g : Segment) (a : ActionTree) → (segment_after g a).count ≤ g.count + 1
one_more_piece g (Cseg at) = one_opened Code at g
one_more_piece g (Dseg at) = one_opened Ram at g
one_more_piece g (Rseg at) = one_opened Reg at g
one_more_piece g Bare = omega arith
one_more_piece g (Module name stack) = omega arith
one_more_piece g (Sseg size) = omega arith
one_more_piece g (Public names) = omega arith
one_more_piece g (Extrn names) = omega arith
one_more_piece g (Equ name x) = omega arith
one_more_piece g (Set name x) = omega arith
one_more_piece g (Define size items) = omega arith
one_more_piece g (Reserve size x) = omega arith
one_more_piece g (Org x) = omega arith
one_more_piece g Even = omega arith
one_more_piece g End = omega arith
one_more_piece g (Operation name args) = omega arith

-- a bound on the pieces, by the number of the statement
pub few_pieces : (g h : Segment) (a : ActionTree) (i : ℕ) → h ≡ segment_after g a → g.count ≤ i + 3 → h.count ≤ i + 1 + 3
few_pieces g h a i is few = rw is (let more : (segment_after g a).count ≤ g.count + 1 = one_more_piece g a in omega arith)
