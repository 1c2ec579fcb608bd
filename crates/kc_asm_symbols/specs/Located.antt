-- Where statements stand. A segment is in force from the statement that opens it on; a module begins in its code segment
-- (after the MCS-96 Macro Assembler User's Guide, "Segments and the Location Counter").
use Rattle.std.specs.Prelude.{ℕ, Bool, ◌+◌, ◌%◌, nat_le, if◌then◌else◌, List, [], ◌∷◌, map, get_or, Option, Some, None}
use Rattle.kc_obj_module.specs.declared.parts.SegKind.{SegKind}
use Rattle.kc_obj_module.specs.declared.parts.SegKind.TheVariants.{Reg, Code, Ram, Stack}
use Rattle.kc_obj_module.specs.Pieces.{kind_number}
use Rattle.kc_expr.specs.declared.values.Base.{Base}
use Rattle.kc_expr.specs.declared.values.Base.TheVariants.{Absolute, Piece}
use Rattle.kc_expr.specs.declared.values.Tag.{Tag}
use Rattle.kc_expr.specs.declared.values.Tag.TheVariants.{Register, Memory}
use Rattle.kc_expr.specs.declared.values.Value.{Value}
use Rattle.kc_expr.specs.Tree.{Tree}
use Rattle.kc_expr.specs.Meaning.{plain}
use Rattle.kc_source_statement.specs.declared.statement.Stmt.{Stmt}
use Rattle.kc_source_statement.specs.Trees.{ActionTree, action_tree, Bare, Module, Cseg, Dseg, Rseg, Sseg, Public, Extrn, Equ, Set, Define, Reserve, Org, Even, End, Operation}
use Rattle.kc_asm_symbols.specs.declared.segments.Segment.{Segment}

-- Of the segment in force: the number and the kind of its piece, and how many pieces there are so far. The relocatable
-- pieces are 0 (registers), 1 (code) and 2 (data); absolute ones follow in the order of the source.

abbrev pub first_segment : Segment
first_segment = record { piece = 1; kind = Code; count = 3 }

-- the module's piece of a kind, or a new absolute one
abbrev pub opened : SegKind → Option Tree → Segment → Segment
opened kind None g = record g { piece = kind_number kind; kind = kind }
opened kind (Some at) g = record { piece = g.count; kind = kind; count = g.count + 1 }

abbrev pub segment_after : Segment → ActionTree → Segment
segment_after g (Cseg at) = opened Code at g
segment_after g (Dseg at) = opened Ram at g
segment_after g (Rseg at) = opened Reg at g
segment_after g Bare = g
segment_after g (Module name stack) = g
segment_after g (Sseg size) = g
segment_after g (Public names) = g
segment_after g (Extrn names) = g
segment_after g (Equ name x) = g
segment_after g (Set name x) = g
segment_after g (Define size items) = g
segment_after g (Reserve size x) = g
segment_after g (Org x) = g
segment_after g Even = g
segment_after g End = g
segment_after g (Operation name args) = g

-- ---- the value of a place

abbrev pub is_absolute : Segment → Bool
is_absolute g = nat_le 3 g.piece

abbrev pub base_of : Segment → Base
base_of g = if is_absolute g then Absolute else Piece g.piece

abbrev pub tag_of : SegKind → Tag
tag_of Reg = Register
tag_of Code = Memory
tag_of Ram = Memory
tag_of Stack = Memory

-- a place is an offset, or in an absolute piece an address
abbrev pub value_at : Segment → ℕ → Value
value_at g place = record { base = base_of g; tag = tag_of g.kind; number = place % 65536 }

-- ---- where statements stand

-- a statement with its segment and the value of its place, which its label and `$` have
pub record Located : Type 0 where
  pub line : ℕ
  pub label : Option (List ℕ)
  pub action : ActionTree
  pub segment : Segment
  pub here : Value

abbrev pub located_at : Segment → Value → Stmt → Located
located_at g value s = record { line = s.line; label = s.label; action = action_tree s.action; segment = g; here = value }

-- the statements from one on, where the values of all places are given by the numbers of the statements and their segments
unfoldable pub located_from : (ℕ → Segment → Value) → ℕ → Segment → List Stmt → List Located
located_from values i g [] = []
located_from values i g (s ∷ ss) = located_at g (values i g) s ∷ located_from values (i + 1) (segment_after g (action_tree s.action)) ss

abbrev pub located_by : (ℕ → Segment → Value) → List Stmt → List Located
located_by values ss = located_from values 0 first_segment ss

-- where each statement has this place in its segment
abbrev pub located : (ℕ → ℕ) → List Stmt → List Located
located places ss = located_by (λ i g. value_at g (places i)) ss

abbrev pub place_values : List Located → List Value
place_values ls = map (λ l. l.here) ls

-- the values of places by a list of them
abbrev pub listed : List Value → ℕ → Segment → Value
listed values i g = get_or values i (plain 0)
