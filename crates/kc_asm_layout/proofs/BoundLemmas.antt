-- The numbers of a table of sizes are bounded.
use Rattle.std.proofs.Common.{◌≡◌, ℕ, zero, suc, ◌+◌, ◌<◌, ◌≤◌, ◌^◌, Bool, true, false, cond, ◌&&◌, List, [], ◌∷◌, length, refl, arith}
use Rattle.std.specs.Prelude.{◌==◌, nat_le, Option, Some, None, All, slice_index_or}
use Rattle.kc_obj_module.specs.declared.parts.SegKind.{SegKind}
use Rattle.kc_obj_module.specs.declared.parts.SegKind.TheVariants.{Reg, Code, Ram}
use Rattle.kc_obj_module.specs.Pieces.{kind_number, is_register_kind}
use Rattle.kc_expr.specs.Tree.{Tree}
use Rattle.kc_expr.specs.declared.values.Value.{Value}
use Rattle.kc_source_statement.specs.declared.statement.Stmt.{Stmt}
use Rattle.kc_source_statement.specs.Trees.{ActionTree, action_tree}
use Rattle.kc_source_statement.specs.Trees as trees
use Rattle.kc_asm_symbols.specs.declared.segments.Segment.{Segment}
use Rattle.kc_asm_symbols.specs.Located.{Located, located_by, located_from, located_at, opened, segment_after, first_segment}
use Rattle.kc_asm_symbols.specs.Meanings.{meaning}
use Rattle.kc_branch.specs.declared.piece.BranchKind.{BranchKind}
use Rattle.kc_branch.specs.declared.piece.Form.TheVariants.{First}
use Rattle.kc_asm_emit.specs.declared.extent.Extent.{Extent}
use Rattle.kc_asm_emit.specs.declared.extent.Extent.TheVariants as extent
use Rattle.kc_asm_emit.specs.Alignment.{alignment}
use Rattle.kc_asm_emit.specs.Arguments.{Look}
use Rattle.kc_asm_emit.specs.Content.{content, extent_of}
use Rattle.kc_asm_emit.specs.Seen.{counted}
use Rattle.kc_asm_layout.specs.declared.size_record.Anchor.{Anchor}
use Rattle.kc_asm_layout.specs.declared.size_record.Body.{Body}
use Rattle.kc_asm_layout.specs.declared.size_record.SizeRecord.{SizeRecord}
use Rattle.kc_asm_layout.specs.StatementSizes.{at_zero, on_its_own, body_of, branch_or, branch_of, target_of, anchor_of, plain_body, body_in, size_records_from, statement_sizes}
use Rattle.kc_asm_layout.specs.Bounds.{HasFewBytes, IsBounded, AreBounded}
use Rattle.kc_asm_layout.proofs.Steps.{size_record_count}

-- ---- how far a statement goes on

few_counted : (e : Extent) → HasFewBytes (body_of (counted e))
few_counted (extent.Bytes n) = grind arith
few_counted (extent.Upto place) = tt
few_counted extent.Even = tt

few_or_branch : (kind : Option BranchKind) (a : Anchor) (b : Body) → HasFewBytes b → HasFewBytes (branch_or kind a b)
few_or_branch None a b h = h
few_or_branch (Some kind) a b h = tt

few_bytes : (look own : Look) (here : Value) (action : ActionTree) → HasFewBytes (body_in look own here action)
few_bytes look own here action =
    few_or_branch (branch_of look action) (anchor_of own (target_of action)) (plain_body look here action) (few_counted (extent_of (content look First here action)))

-- ---- what a place is divisible by

by_size : (b : Bool) → cond b 1 2 ≤ 4
by_size true = omega arith
by_size false = omega arith

by_kind : (a b c : Bool) → cond a 1 (cond (b && c) 4 2) ≤ 4
by_kind true b c = omega arith
by_kind false true true = omega arith
by_kind false true false = omega arith
by_kind false false c = omega arith

at_most_four : (kind : SegKind) (action : ActionTree) → alignment kind action ≤ 4
at_most_four kind (trees.Define size items) = by_size (nat_le size 1)
at_most_four kind (trees.Reserve size count) = by_kind (nat_le size 1) (size == 4) (is_register_kind kind)
at_most_four kind trees.Bare = omega arith
at_most_four kind (trees.Module name stack) = omega arith
at_most_four kind (trees.Cseg at) = omega arith
at_most_four kind (trees.Dseg at) = omega arith
at_most_four kind (trees.Rseg at) = omega arith
at_most_four kind (trees.Sseg size) = omega arith
at_most_four kind (trees.Public names) = omega arith
at_most_four kind (trees.Extrn names) = omega arith
at_most_four kind (trees.Equ name x) = omega arith
at_most_four kind (trees.Set name x) = omega arith
at_most_four kind (trees.Org place) = omega arith
at_most_four kind trees.Even = omega arith
at_most_four kind trees.End = omega arith
at_most_four kind (trees.Operation word args) = omega arith

-- ---- the numbers of pieces

-- behind so many statements
record IsAfter (i : ℕ) (g : Segment) : Type 0 where
  pub own : g.piece < g.count
  pub first : 3 ≤ g.count
  pub few : g.count ≤ i + 3

stays : (i : ℕ) (g : Segment) → IsAfter i g → IsAfter (i + 1) g
stays i g h = record { own = h.own; first = h.first; few = omega (arith, h.few) }

opens : (i : ℕ) (g : Segment) (kind : SegKind) (at : Option Tree) → kind_number kind < 3 → IsAfter i g → IsAfter (i + 1) (opened kind at g)
opens i g kind None low h = record { own = omega (arith, low, h.first); first = h.first; few = omega (arith, h.few) }
opens i g kind (Some x) low h = record { own = omega arith; first = omega (arith, h.first); few = omega (arith, h.few) }

after : (i : ℕ) (g : Segment) (action : ActionTree) → IsAfter i g → IsAfter (i + 1) (segment_after g action)
after i g (trees.Cseg at) h = opens i g Code at (omega arith) h
after i g (trees.Dseg at) h = opens i g Ram at (omega arith) h
after i g (trees.Rseg at) h = opens i g Reg at (omega arith) h
after i g trees.Bare h = stays i g h
after i g (trees.Module name stack) h = stays i g h
after i g (trees.Sseg size) h = stays i g h
after i g (trees.Public names) h = stays i g h
after i g (trees.Extrn names) h = stays i g h
after i g (trees.Equ name x) h = stays i g h
after i g (trees.Set name x) h = stays i g h
after i g (trees.Define size items) h = stays i g h
after i g (trees.Reserve size count) h = stays i g h
after i g (trees.Org place) h = stays i g h
after i g trees.Even h = stays i g h
after i g trees.End h = stays i g h
after i g (trees.Operation word args) h = stays i g h

-- ---- all statements

all_from : (zeros owns before passed : List Located) (i : ℕ) (g : Segment) (ss : List Stmt) → i + length ss ≤ 65536 → IsAfter i g
    → All IsBounded (size_records_from zeros owns before passed (located_from at_zero i g ss) (located_from on_its_own i g ss))
unfolding size_records_from located_from
all_from zeros owns before passed i g [] few h k d lt = absurd (omega (arith, lt))
all_from zeros owns before passed i g (s ∷ ss) few h zero d lt =
    let l = located_at g (at_zero i g) s in
    let m = located_at g (on_its_own i g) s in
    (omega (arith, few, h.own, h.few), at_most_four g.kind l.action, few_bytes (meaning zeros before l) (meaning owns passed m) l.here l.action)
all_from zeros owns before passed i g (s ∷ ss) few h (suc k) d lt =
    let a = action_tree s.action in
    all_from zeros owns (located_at g (at_zero i g) s ∷ before) (located_at g (on_its_own i g) s ∷ passed) (i + 1) (segment_after g a) ss
    (omega (arith, few)) (after i g a h) k d (omega (arith, lt))

pub sizes_bounded : (stmts : List Stmt) → length stmts ≤ 65536 → AreBounded (statement_sizes stmts)
sizes_bounded stmts few =
    let first : IsAfter 0 first_segment = record { own = omega arith; first = omega arith; few = omega arith } in
    (omega (arith, few, size_record_count stmts), all_from (located_by at_zero stmts) (located_by on_its_own stmts) [] [] 0 first_segment stmts (omega (arith, few)) first)
