-- How far a statement goes on in each form, and what it opens, over what names mean.
use Rattle.std.proofs.Common.{◌≡◌, ℕ, List, [], ◌∷◌, length, refl, sym, ap, ◌∙◌}
use Rattle.std.specs.Prelude.{min, Option, Some, None, unwrap_or}
use Rattle.kc_expr.specs.declared.values.Value.{Value}
use Rattle.kc_expr.specs.Alike.{AllAlike}
use Rattle.kc_expr.specs.Tree.{Tree}
use Rattle.kc_source_statement.specs.Trees.{ActionTree}
use Rattle.kc_source_statement.specs.Trees as trees
use Rattle.kc_branch.specs.declared.piece.Form.{Form}
use Rattle.kc_branch.specs.declared.piece.Form.TheVariants.{First, Second, Third}
use Rattle.kc_branch.specs.declared.piece.BranchKind.{BranchKind}
use Rattle.kc_branch.specs.declared.piece.BranchKind.TheVariants.{Jump, Call, Conditional, BitTest}
use Rattle.kc_branch.specs.Forms.{size as branch_length}
use Rattle.kc_asm_encode.specs.declared.argument.Argument.{Argument}
use Rattle.kc_asm_encode.specs.Branches.{Line, line, branch_kind, branch_lines}
use Rattle.kc_asm_encode.specs.Instructions.{all_lines, instructions}
use Rattle.kc_asm_encode.specs.Laws.{BranchesHaveLengths}
use Rattle.kc_asm_encode.specs.RelocatableBytes.{all_relocatable_bytes}
use Rattle.kc_asm_emit.specs.declared.extent.Extent.{Extent}
use Rattle.kc_asm_emit.specs.declared.extent.Extent.TheVariants as extent
use Rattle.kc_asm_emit.specs.Arguments.{Look, fixed_of, arguments}
use Rattle.kc_asm_emit.specs.Content.{content, extent_of, upto}
use Rattle.kc_asm_emit.specs.Laws.{ExtentsStay}
use Rattle.kc_asm_emit.specs.Seen.{most, counted}
use Rattle.kc_asm_layout.specs.declared.size_record.Anchor.{Anchor}
use Rattle.kc_asm_layout.specs.StatementSizes.{body_of, branch_or, target_of, anchor_of, body_in, opened_at, opens}
use Rattle.kc_asm_layout.specs.SizesLaws.{extent_in}

-- ---- what is no generic branch

plain : (form : Form) (e : Extent) → e ≡ extent_in form (body_of e)
plain form (extent.Bytes n) = refl
plain form (extent.Upto place) = refl
plain form extent.Even = refl

-- ---- operations

-- an instruction has one form
abbrev lines_of : Option BranchKind → List ℕ → List Argument → Form → Value → List Line
lines_of kind word args form here = elim kind [ None ↦ line word args ∷ [] | Some kind ↦ branch_lines kind word args form here ]

no_branch : (word : List ℕ) (args : List Argument) (form : Form) (here : Value) → branch_kind word args ≡ None → instructions word args form here ≡ instructions word args First here
unfolding instructions
no_branch word args form here none =
    ap (λ (kind : Option BranchKind). all_lines (lines_of kind word args form here)) none ∙ sym (ap (λ (kind : Option BranchKind). all_lines (lines_of kind word args First here)) none)

few_bytes : (kind : BranchKind) (form : Form) → min (branch_length kind form) most ≡ branch_length kind form
few_bytes Jump First = refl
few_bytes Jump Second = refl
few_bytes Jump Third = refl
few_bytes Call First = refl
few_bytes Call Second = refl
few_bytes Call Third = refl
few_bytes Conditional First = refl
few_bytes Conditional Second = refl
few_bytes Conditional Third = refl
few_bytes BitTest First = refl
few_bytes BitTest Second = refl
few_bytes BitTest Third = refl

abbrev bytes_of : List ℕ → List Argument → Form → Value → Extent
bytes_of word args form here = counted (extent.Bytes (length (all_relocatable_bytes (instructions word args form here))))

operation : BranchesHaveLengths → (word : List ℕ) (args : List Argument) (form : Form) (here : Value) (a : Anchor) (kind : Option BranchKind) → branch_kind word args ≡ kind
    → bytes_of word args form here ≡ extent_in form (branch_or kind a (body_of (bytes_of word args First here)))
operation lengths word args form here a None is =
    ap (λ ws. counted (extent.Bytes (length (all_relocatable_bytes ws)))) (no_branch word args form here is) ∙ plain form (bytes_of word args First here)
operation lengths word args form here a (Some kind) is =
    ap (λ n. extent.Bytes (min n most)) (lengths word args form here kind is) ∙ ap extent.Bytes (few_bytes kind form)

-- ---- statements

pub extent_of_body : BranchesHaveLengths → (look own : Look) (form : Form) (here : Value) (action : ActionTree)
    → counted (extent_of (content look form here action)) ≡ extent_in form (body_in look own here action)
extent_of_body lengths look own form here (trees.Operation word args) =
    operation lengths word (arguments look args) form here (anchor_of own (target_of (trees.Operation word args))) (branch_kind word (arguments look args)) refl
extent_of_body lengths look own form here (trees.Define size items) = plain form (counted (extent_of (content look First here (trees.Define size items))))
extent_of_body lengths look own form here (trees.Reserve size count) = plain form (counted (extent_of (content look First here (trees.Reserve size count))))
extent_of_body lengths look own form here (trees.Org x) = plain form (counted (extent_of (content look First here (trees.Org x))))
extent_of_body lengths look own form here trees.Even = refl
extent_of_body lengths look own form here trees.Bare = refl
extent_of_body lengths look own form here (trees.Module name stack) = refl
extent_of_body lengths look own form here (trees.Cseg at) = refl
extent_of_body lengths look own form here (trees.Dseg at) = refl
extent_of_body lengths look own form here (trees.Rseg at) = refl
extent_of_body lengths look own form here (trees.Sseg size) = refl
extent_of_body lengths look own form here (trees.Public names) = refl
extent_of_body lengths look own form here (trees.Extrn names) = refl
extent_of_body lengths look own form here (trees.Equ name x) = refl
extent_of_body lengths look own form here (trees.Set name x) = refl
extent_of_body lengths look own form here trees.End = refl

-- ---- fixed numbers: those of ORG report that they are the same over names that are alike

abbrev place_in : Extent → Option ℕ
place_in (extent.Bytes n) = None
place_in (extent.Upto place) = Some place
place_in extent.Even = None

place_back : (o : Option ℕ) → place_in (extent_of (upto o)) ≡ o
place_back None = refl
place_back (Some place) = refl

fixed_stays : ExtentsStay → (look other : Look) → AllAlike look other → (here : Value) (x : Tree) → fixed_of look x ≡ fixed_of other x
fixed_stays stay look other same here x =
    sym (place_back (fixed_of look x)) ∙ ap place_in (stay look other same First here here (trees.Org x)) ∙ place_back (fixed_of other x)

opened_stays : ExtentsStay → (look other : Look) → AllAlike look other → (here : Value) (at : Option Tree) → opened_at look at ≡ opened_at other at
opened_stays stay look other same here None = refl
opened_stays stay look other same here (Some x) = ap (λ o. Some (unwrap_or o 0)) (fixed_stays stay look other same here x)

pub opens_stay : ExtentsStay → (look other : Look) → AllAlike look other → (here : Value) (action : ActionTree) → opens look action ≡ opens other action
opens_stay stay look other same here (trees.Cseg at) = opened_stays stay look other same here at
opens_stay stay look other same here (trees.Dseg at) = opened_stays stay look other same here at
opens_stay stay look other same here (trees.Rseg at) = opened_stays stay look other same here at
opens_stay stay look other same here trees.Bare = refl
opens_stay stay look other same here (trees.Module name stack) = refl
opens_stay stay look other same here (trees.Sseg size) = refl
opens_stay stay look other same here (trees.Public names) = refl
opens_stay stay look other same here (trees.Extrn names) = refl
opens_stay stay look other same here (trees.Equ name x) = refl
opens_stay stay look other same here (trees.Set name x) = refl
opens_stay stay look other same here (trees.Define size items) = refl
opens_stay stay look other same here (trees.Reserve size count) = refl
opens_stay stay look other same here (trees.Org place) = refl
opens_stay stay look other same here trees.Even = refl
opens_stay stay look other same here trees.End = refl
opens_stay stay look other same here (trees.Operation word args) = refl
