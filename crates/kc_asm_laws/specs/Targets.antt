-- Where the targets of generic branches stand. The table of sizes reports what a target counts from by meaning names with each statement
-- as a base of its own, and the forms of branches are chosen by that. Here it is known of what the target means where the
-- statements stand (after the MCS-96 Macro Assembler User's Guide, "Generic Branches").
use Rattle.std.specs.Prelude.{◌≡◌, ℕ, true, ℤ, pos, ◌+ℤ◌, ◌-ℤ◌, List, ◌∷◌, ◌++◌, reverse, length, Some, Ok, slice_get}
use Rattle.std.specs.Int.{int_rem_euclid}
use Rattle.std.specs.List.{list_all}
use Rattle.kc_expr.specs.declared.values.Base.TheVariants.{External}
use Rattle.kc_expr.specs.declared.values.Value.{Value}
use Rattle.kc_expr.specs.Tree.{Tree}
use Rattle.kc_expr.specs.Meaning.{Answer, answer_by}
use Rattle.kc_source_statement.specs.declared.statement.Stmt.{Stmt}
use Rattle.kc_source_statement.specs.Trees.{ActionTree}
use Rattle.kc_asm_symbols.specs.Located.{Located, located}
use Rattle.kc_asm_symbols.specs.Meanings.{meaning}
use Rattle.kc_branch.specs.declared.piece.BranchKind.{BranchKind}
use Rattle.kc_branch.specs.Forms.{spans}
use Rattle.kc_asm_emit.specs.Arguments.{Look}
use Rattle.kc_asm_layout.specs.declared.size_record.Anchor.TheVariants as anchor
use Rattle.kc_asm_layout.specs.declared.size_record.Body.TheVariants.{Branch}
use Rattle.kc_asm_layout.specs.declared.size_record.SizeRecord.{SizeRecord}
use Rattle.kc_asm_layout.specs.StatementSizes.{statement_sizes, target_of}
use Rattle.kc_asm_layout.specs.Numbered.{is_code}
use Rattle.kc_asm_layout.specs.declared.location.Location.{Location}
use Rattle.kc_asm_layout.specs.Laws.{is_near}
use Rattle.kc_asm_check.specs.Checking.{location_list, standing}
use Rattle.kc_asm.specs.Characters.{has_bytes}

-- what is left of a place in 16 bits
abbrev pub in_word : ℤ → ℤ
in_word place = int_rem_euclid place (pos 65536)

-- the answer is a place so many bytes behind that of a statement, in the same base; before it where the distance is negative
pub record CountsFrom (answer : Answer) (statement : Located) (distance : ℤ) : Type 0 where
  pub value : Value
  pub is : answer ≡ Ok value
  pub base : value.base ≡ statement.here.base
  pub number : pos value.number ≡ in_word (pos statement.here.number +ℤ distance)

-- the answer counts from an external
pub record CountsFromExternal (answer : Answer) : Type 0 where
  pub value : Value
  pub is : answer ≡ Ok value
  pub external : ℕ
  pub base : value.base ≡ External external

-- the target of a statement counts from the statement with this number
pub record TargetCounts (look : Look) (all : List Located) (action : ActionTree) (to : ℕ) (distance : ℤ) : Type 0 where
  pub statement : Located
  pub found : slice_get all to ≡ Some statement
  pub expression : Tree
  pub target : target_of action ≡ Some expression
  pub counts : CountsFrom (answer_by look expression) statement distance

-- the target of a statement counts from an external
pub record TargetIsExternal (look : Look) (action : ActionTree) : Type 0 where
  pub expression : Tree
  pub target : target_of action ≡ Some expression
  pub counts : CountsFromExternal (answer_by look expression)

-- a target that counts from a statement by the table of sizes does so in every layout
abbrev pub AnchorsHold : Type 0
AnchorsHold =
    (stmts : List Stmt) (places : ℕ → ℕ) (before after : List Located) (l : Located)
    → list_all has_bytes stmts ≡ true
    → located places stmts ≡ reverse before ++ l ∷ after
    → (n : SizeRecord) (kind : BranchKind) (to : ℕ) (distance : ℤ)
    → slice_get (statement_sizes stmts) (length before) ≡ Some n
    → n.body ≡ Branch kind (anchor.Statement to distance)
    → TargetCounts (meaning (located places stmts) before l) (located places stmts) l.action to distance

-- one that counts from an external by the table of sizes does so in every layout
abbrev pub ExternalAnchorsHold : Type 0
ExternalAnchorsHold =
    (stmts : List Stmt) (places : ℕ → ℕ) (before after : List Located) (l : Located)
    → list_all has_bytes stmts ≡ true
    → located places stmts ≡ reverse before ++ l ∷ after
    → (n : SizeRecord) (kind : BranchKind)
    → slice_get (statement_sizes stmts) (length before) ≡ Some n
    → n.body ≡ Branch kind anchor.External
    → TargetIsExternal (meaning (located places stmts) before l) l.action

-- ---- in the layout of the statements

-- the target of a branch is a place of the branch's own base, and the form of the branch spans from the place behind it to
-- there
pub record TargetIsReached (look : Look) (locations : List Location) (l : Located) (s : Location) (kind : BranchKind) (to : ℕ) (distance : ℤ) : Type 0 where
  pub target_location : Location
  pub found : slice_get locations to ≡ Some target_location
  pub spanned : spans kind s.form ((pos target_location.place +ℤ distance) -ℤ pos s.after) ≡ true
  pub expression : Tree
  pub target : target_of l.action ≡ Some expression
  pub value : Value
  pub is : answer_by look expression ≡ Ok value
  pub base : value.base ≡ l.here.base
  pub number : pos value.number ≡ in_word (pos target_location.place +ℤ distance)

-- a generic branch in code, to a statement of the same base
abbrev pub TargetsAreReached : Type 0
TargetsAreReached =
    (stmts : List Stmt) (before after : List Located) (l : Located) (s : Location)
    → list_all has_bytes stmts ≡ true
    → standing stmts ≡ reverse before ++ l ∷ after
    → slice_get (location_list stmts) (length before) ≡ Some s
    → (n : SizeRecord) (kind : BranchKind) (to : ℕ) (distance : ℤ)
    → slice_get (statement_sizes stmts) (length before) ≡ Some n
    → is_code n.segment ≡ true
    → n.body ≡ Branch kind (anchor.Statement to distance)
    → is_near (statement_sizes stmts) n.segment (anchor.Statement to distance) ≡ true
    → TargetIsReached (meaning (standing stmts) before l) (location_list stmts) l s kind to distance
