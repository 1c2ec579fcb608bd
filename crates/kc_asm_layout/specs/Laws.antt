-- What the forms of a layout owe: a generic branch to a statement of the same base reaches it, in the layout with all forms;
-- any other has its third form.
use Rattle.std.specs.Prelude.{◌≡◌, ℕ, Bool, true, false, ℤ, pos, ◌+ℤ◌, ◌-ℤ◌, List, Some, slice_get}
use Rattle.kc_branch.specs.declared.piece.BranchKind.{BranchKind}
use Rattle.kc_branch.specs.declared.piece.Form.TheVariants.{Third}
use Rattle.kc_branch.specs.Forms.{spans}
use Rattle.kc_asm_symbols.specs.declared.segments.Segment.{Segment}
use Rattle.kc_asm_layout.specs.declared.size_record.Anchor.{Anchor}
use Rattle.kc_asm_layout.specs.declared.size_record.Anchor.TheVariants as anchor
use Rattle.kc_asm_layout.specs.declared.size_record.Body.TheVariants.{Branch}
use Rattle.kc_asm_layout.specs.declared.size_record.SizeRecord.{SizeRecord}
use Rattle.kc_asm_layout.specs.declared.location.Location.{Location}
use Rattle.kc_asm_layout.specs.Numbered.{IsNumbered, is_code}
use Rattle.kc_asm_layout.specs.Text.{layout, is_same_base, segment_at}

-- a statement in code is a branch, with its size record and its location
pub record IsBranchAt (ns : List SizeRecord) (number : ℕ) (n : SizeRecord) (s : Location) (kind : BranchKind) (a : Anchor) : Type 0 where
  pub size_record : slice_get ns number ≡ Some n
  pub location : slice_get (layout ns) number ≡ Some s
  pub code : is_code n.segment ≡ true
  pub body : n.body ≡ Branch kind a

-- whether it counts from a statement of the same base
abbrev pub is_near : List SizeRecord → Segment → Anchor → Bool
is_near ns g (anchor.Statement number distance) = is_same_base g (segment_at ns number)
is_near ns g anchor.External = false
is_near ns g anchor.Nothing = false

abbrev pub BranchesReach : Type 0
BranchesReach =
    (ns : List SizeRecord) (number to : ℕ) (n : SizeRecord) (s t : Location) (kind : BranchKind) (distance : ℤ)
    → IsNumbered ns
    → IsBranchAt ns number n s kind (anchor.Statement to distance)
    → is_near ns n.segment (anchor.Statement to distance) ≡ true
    → slice_get (layout ns) to ≡ Some t
    → spans kind s.form ((pos t.place +ℤ distance) -ℤ pos s.after) ≡ true

abbrev pub OtherBranchesAreLong : Type 0
OtherBranchesAreLong =
    (ns : List SizeRecord) (number : ℕ) (n : SizeRecord) (s : Location) (kind : BranchKind) (a : Anchor)
    → IsNumbered ns → IsBranchAt ns number n s kind a → is_near ns n.segment a ≡ false → s.form ≡ Third
