-- The table of sizes of a module: what of its statements reports where they stand. None of it depends on where they stand: so it is
-- reported with all of them at 0. What the target of a generic branch counts from is reported with each statement as a base of its
-- own (after the MCS-96 Macro Assembler User's Guide, "Segments and the Location Counter" and "Generic Branches").
use Rattle.std.specs.Prelude.{ℕ, List, [], ◌∷◌, Option, Some, None, unwrap_or, Ok, Err}
use Rattle.std.specs.Int.{w16, cast_signed}
use Rattle.kc_expr.specs.declared.values.Base.{Base}
use Rattle.kc_expr.specs.declared.values.Base.TheVariants.{Fixed, Absolute, Piece, External}
use Rattle.kc_expr.specs.declared.values.Tag.TheVariants.{Memory}
use Rattle.kc_expr.specs.declared.values.Value.{Value}
use Rattle.kc_expr.specs.Tree.{Tree}
use Rattle.kc_expr.specs.Meaning.{Answer, answer_by}
use Rattle.kc_source_statement.specs.declared.statement.Stmt.{Stmt}
use Rattle.kc_source_statement.specs.Trees.{ArgTree, ActionTree, Cseg, Dseg, Rseg, Even, Operation}
use Rattle.kc_source_statement.specs.Trees as trees
use Rattle.kc_asm_symbols.specs.declared.segments.Segment.{Segment}
use Rattle.kc_asm_symbols.specs.Located.{Located, located_by, value_at}
use Rattle.kc_asm_symbols.specs.Meanings.{meaning}
use Rattle.kc_branch.specs.declared.piece.Form.TheVariants.{First}
use Rattle.kc_branch.specs.declared.piece.BranchKind.{BranchKind}
use Rattle.kc_asm_encode.specs.Branches.{branch_kind}
use Rattle.kc_asm_emit.specs.declared.extent.Extent.{Extent}
use Rattle.kc_asm_emit.specs.declared.extent.Extent.TheVariants as extent
use Rattle.kc_asm_emit.specs.Arguments.{Look, fixed_of, arguments}
use Rattle.kc_asm_emit.specs.Alignment.{alignment}
use Rattle.kc_asm_emit.specs.Content.{content, extent_of}
use Rattle.kc_asm_emit.specs.Seen.{counted}
use Rattle.kc_asm_layout.specs.declared.size_record.Anchor.{Anchor}
use Rattle.kc_asm_layout.specs.declared.size_record.Anchor.TheVariants as anchor
use Rattle.kc_asm_layout.specs.declared.size_record.Body.{Body}
use Rattle.kc_asm_layout.specs.declared.size_record.Body.TheVariants as body
use Rattle.kc_asm_layout.specs.declared.size_record.SizeRecord.{SizeRecord}

-- ---- two choices of what places are

abbrev pub at_zero : ℕ → Segment → Value
at_zero number g = value_at g 0

abbrev pub on_its_own : ℕ → Segment → Value
on_its_own number g = record { base = Piece number; tag = Memory; number = 0 }

-- ---- generic branches

abbrev pub anchor_by : Base → ℕ → Anchor
anchor_by (Piece number) distance = anchor.Statement number (cast_signed w16 distance)
anchor_by (External external) distance = anchor.External
anchor_by Fixed distance = anchor.Nothing
anchor_by Absolute distance = anchor.Nothing

abbrev pub anchor_in : Answer → Anchor
anchor_in (Ok v) = anchor_by v.base v.number
anchor_in (Err fault) = anchor.Nothing

abbrev pub plain : ArgTree → Option Tree
plain (trees.Plain x) = Some x
plain (trees.Immediate x) = None
plain (trees.Indirect r) = None
plain (trees.Increment r) = None
plain (trees.Indexed x r) = None

-- the target stands last among the operands
unfoldable pub target : List ArgTree → Option Tree
target [] = None
target (a ∷ []) = plain a
target (a ∷ b ∷ args) = target (b ∷ args)

abbrev pub anchor_of : Look → Option Tree → Anchor
anchor_of own None = anchor.Nothing
anchor_of own (Some x) = anchor_in (answer_by own x)

abbrev pub body_of : Extent → Body
body_of (extent.Bytes n) = body.Bytes n
body_of (extent.Upto place) = body.Upto place
body_of extent.Even = body.Even

-- ---- statements

abbrev pub plain_body : Look → Value → ActionTree → Body
plain_body look here action = body_of (counted (extent_of (content look First here action)))

-- the generic branch that a statement is, if it is one, and its target
abbrev pub branch_of : Look → ActionTree → Option BranchKind
branch_of look (Operation word args) = branch_kind word (arguments look args)
branch_of look action = None

abbrev pub target_of : ActionTree → Option Tree
target_of (Operation word args) = target args
target_of action = None

abbrev pub branch_or : Option BranchKind → Anchor → Body → Body
branch_or None a other = other
branch_or (Some kind) a other = body.Branch kind a

abbrev pub body_in : Look → Look → Value → ActionTree → Body
body_in look own here action = branch_or (branch_of look action) (anchor_of own (target_of action)) (plain_body look here action)

-- an absolute piece without a fixed address begins at 0
abbrev pub opened_at : Look → Option Tree → Option ℕ
opened_at look None = None
opened_at look (Some x) = Some (unwrap_or (fixed_of look x) 0)

abbrev pub opens : Look → ActionTree → Option ℕ
opens look (Cseg at) = opened_at look at
opens look (Dseg at) = opened_at look at
opens look (Rseg at) = opened_at look at
opens look action = None

-- look is what names mean with all statements at 0, own with each as a base of its own
abbrev pub size_record_of : Look → Look → Located → SizeRecord
size_record_of look own l = record {
  segment = l.segment;
  alignment = alignment l.segment.kind l.action;
  body = body_in look own l.here l.action;
  opens = opens look l.action;
}

-- ---- the whole: the same statements in both choices, those before each with the latest first

unfoldable pub size_records_from : List Located → List Located → List Located → List Located → List Located → List Located → List SizeRecord
size_records_from all owned before passed [] ms = []
size_records_from all owned before passed (l ∷ ls) [] = []
size_records_from all owned before passed (l ∷ ls) (m ∷ ms) =
    size_record_of (meaning all before l) (meaning owned passed m) l ∷ size_records_from all owned (l ∷ before) (m ∷ passed) ls ms

abbrev pub statement_sizes : List Stmt → List SizeRecord
statement_sizes stmts = size_records_from zeros owns [] [] zeros owns
  where
    zeros : List Located
    zeros = located_by at_zero stmts

    owns : List Located
    owns = located_by on_its_own stmts
