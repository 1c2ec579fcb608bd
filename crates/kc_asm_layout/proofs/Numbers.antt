-- The pieces of a table of sizes are numbered as they are opened.
use Rattle.std.proofs.Common.{◌≡◌, ℕ, ◌+◌, Bool, true, false, cond, ◌&&◌, ◌||◌, List, [], ◌∷◌, refl, eq-eqb}
use Rattle.std.specs.Prelude.{◌==◌, nat_le, Option, Some, None}
use Rattle.kc_obj_module.specs.declared.parts.SegKind.{SegKind}
use Rattle.kc_obj_module.specs.declared.parts.SegKind.TheVariants.{Reg, Code, Ram, Stack}
use Rattle.kc_expr.specs.Tree.{Tree}
use Rattle.kc_source_statement.specs.declared.statement.Stmt.{Stmt}
use Rattle.kc_source_statement.specs.Trees.{ActionTree, action_tree}
use Rattle.kc_source_statement.specs.Trees as trees
use Rattle.kc_asm_symbols.specs.declared.segments.Segment.{Segment}
use Rattle.kc_asm_symbols.specs.Located.{Located, located_by, located_from, located_at, opened, segment_after, first_segment}
use Rattle.kc_asm_symbols.specs.Meanings.{meaning}
use Rattle.kc_asm_emit.specs.Alignment.{alignment}
use Rattle.kc_asm_emit.specs.Arguments.{Look}
use Rattle.kc_asm_layout.specs.Numbered.{is_code, is_same_piece, is_relocatable, may_follow, aligns_well, numbered_after}
use Rattle.kc_asm_layout.specs.StatementSizes.{at_zero, on_its_own, opened_at, opens, size_record_of, size_records_from}
use Rattle.kc_asm_layout.specs.SizesLaws.{SizesAreNumbered}

-- ---- tests

same : (n : ℕ) → (n == n) ≡ true
same n = eq-eqb n n refl

or_true : (b : Bool) → (b || true) ≡ true
or_true true = refl
or_true false = refl

-- ---- one statement behind another

stays : (g : Segment) → may_follow g None g ≡ true
stays g = by_kind g.kind g.piece g.count
  where
    by_kind : (k : SegKind) (p c : ℕ) → may_follow (record { piece = p; kind = k; count = c }) None (record { piece = p; kind = k; count = c }) ≡ true
    by_kind Reg p c = λ i. ((same p i && true) || is_relocatable (record { piece = p; kind = Reg; count = c })) && same c i
    by_kind Code p c = λ i. ((same p i && true) || is_relocatable (record { piece = p; kind = Code; count = c })) && same c i
    by_kind Ram p c = λ i. ((same p i && true) || is_relocatable (record { piece = p; kind = Ram; count = c })) && same c i
    by_kind Stack p c = λ i. ((same p i && true) || is_relocatable (record { piece = p; kind = Stack; count = c })) && same c i

registers_follow : (look : Look) (g : Segment) (at : Option Tree) → may_follow g (opened_at look at) (opened Reg at g) ≡ true
registers_follow look g None = λ i. or_true (is_same_piece g (opened Reg None g)) i && same g.count i
registers_follow look g (Some x) = λ i. same g.count i && same (g.count + 1) i

code_follows : (look : Look) (g : Segment) (at : Option Tree) → may_follow g (opened_at look at) (opened Code at g) ≡ true
code_follows look g None = λ i. or_true (is_same_piece g (opened Code None g)) i && same g.count i
code_follows look g (Some x) = λ i. same g.count i && same (g.count + 1) i

data_follow : (look : Look) (g : Segment) (at : Option Tree) → may_follow g (opened_at look at) (opened Ram at g) ≡ true
data_follow look g None = λ i. or_true (is_same_piece g (opened Ram None g)) i && same g.count i
data_follow look g (Some x) = λ i. same g.count i && same (g.count + 1) i

follows : (look : Look) (g : Segment) (action : ActionTree) → may_follow g (opens look action) (segment_after g action) ≡ true
follows look g (trees.Cseg at) = code_follows look g at
follows look g (trees.Dseg at) = data_follow look g at
follows look g (trees.Rseg at) = registers_follow look g at
follows look g trees.Bare = stays g
follows look g (trees.Module name stack) = stays g
follows look g (trees.Sseg size) = stays g
follows look g (trees.Public names) = stays g
follows look g (trees.Extrn names) = stays g
follows look g (trees.Equ name x) = stays g
follows look g (trees.Set name x) = stays g
follows look g (trees.Define size items) = stays g
follows look g (trees.Reserve size count) = stays g
follows look g (trees.Org place) = stays g
follows look g trees.Even = stays g
follows look g trees.End = stays g
follows look g (trees.Operation word args) = stays g

-- ---- alignment in code

abbrev one_or_two : ℕ → Bool
one_or_two n = (n == 1) || (n == 2)

by_size : (b : Bool) → one_or_two (cond b 1 2) ≡ true
by_size true = refl
by_size false = refl

reserved_by : (a b : Bool) → one_or_two (cond a 1 (cond (b && false) 4 2)) ≡ true
reserved_by true b = refl
reserved_by false true = refl
reserved_by false false = refl

in_code : (action : ActionTree) → one_or_two (alignment Code action) ≡ true
in_code (trees.Define size items) = by_size (nat_le size 1)
in_code (trees.Reserve size count) = reserved_by (nat_le size 1) (size == 4)
in_code trees.Bare = refl
in_code (trees.Module name stack) = refl
in_code (trees.Cseg at) = refl
in_code (trees.Dseg at) = refl
in_code (trees.Rseg at) = refl
in_code (trees.Sseg size) = refl
in_code (trees.Public names) = refl
in_code (trees.Extrn names) = refl
in_code (trees.Equ name x) = refl
in_code (trees.Set name x) = refl
in_code (trees.Org place) = refl
in_code trees.Even = refl
in_code trees.End = refl
in_code (trees.Operation word args) = refl

aligned : (kind : SegKind) (p c : ℕ) (action : ActionTree) → cond (is_code (record { piece = p; kind = kind; count = c })) (one_or_two (alignment kind action)) true ≡ true
aligned Reg p c action = refl
aligned Code p c action = in_code action
aligned Ram p c action = refl
aligned Stack p c action = refl

-- ---- all statements

both : (a b c : Bool) → a ≡ true → b ≡ true → c ≡ true → (a && b && c) ≡ true
both a b c first second third = λ i. first i && second i && third i

numbered_from : (zeros owns before passed : List Located) (g h : Segment) (o : Option ℕ) (i : ℕ) (ss : List Stmt) → may_follow g o h ≡ true
    → numbered_after g o (size_records_from zeros owns before passed (located_from at_zero i h ss) (located_from on_its_own i h ss)) ≡ true
unfolding numbered_after size_records_from located_from
numbered_from zeros owns before passed g h o i [] may = refl
numbered_from zeros owns before passed g h o i (s ∷ ss) may =
    let a = action_tree s.action in
    let l = located_at h (at_zero i h) s in
    let m = located_at h (on_its_own i h) s in
    let look = meaning zeros before l in
    both (may_follow g o h) (aligns_well (size_record_of look (meaning owns passed m) l))
    (numbered_after h (opens look a) (size_records_from zeros owns (l ∷ before) (m ∷ passed) (located_from at_zero (i + 1) (segment_after h a) ss) (located_from on_its_own (i + 1) (segment_after h a) ss)))
    may (aligned h.kind h.piece h.count a)
    (numbered_from zeros owns (l ∷ before) (m ∷ passed) h (segment_after h a) (opens look a) (i + 1) ss (follows look h a))

pub sizes_numbered : SizesAreNumbered
sizes_numbered stmts = numbered_from (located_by at_zero stmts) (located_by on_its_own stmts) [] [] first_segment first_segment None 0 stmts refl
