-- The table of sizes holds wherever statements stand.
use Rattle.std.specs.Prelude.{◌≡◌, ℕ, List, ◌∷◌, ◌++◌, reverse, length, Some, slice_get}
use Rattle.kc_source_statement.specs.declared.statement.Stmt.{Stmt}
use Rattle.kc_asm_symbols.specs.Located.{Located, located}
use Rattle.kc_asm_symbols.specs.Meanings.{meaning}
use Rattle.kc_branch.specs.declared.piece.Form.{Form}
use Rattle.kc_branch.specs.Forms.{size as branch_length}
use Rattle.kc_asm_emit.specs.declared.extent.Extent.{Extent}
use Rattle.kc_asm_emit.specs.declared.extent.Extent.TheVariants as extent
use Rattle.kc_asm_emit.specs.Alignment.{alignment}
use Rattle.kc_asm_emit.specs.Content.{content, extent_of}
use Rattle.kc_asm_emit.specs.Seen.{counted}
use Rattle.kc_asm_layout.specs.declared.size_record.Body.{Body}
use Rattle.kc_asm_layout.specs.declared.size_record.Body.TheVariants as body
use Rattle.kc_asm_layout.specs.declared.size_record.SizeRecord.{SizeRecord}
use Rattle.kc_asm_layout.specs.StatementSizes.{statement_sizes, opens}
use Rattle.kc_asm_layout.specs.Numbered.{IsNumbered}

-- how far a statement goes on in a form
abbrev pub extent_in : Form → Body → Extent
extent_in form (body.Bytes n) = extent.Bytes n
extent_in form (body.Upto place) = extent.Upto place
extent_in form body.Even = extent.Even
extent_in form (body.Branch kind anchor) = extent.Bytes (branch_length kind form)

-- what a size record says of a statement, with what names mean there
pub record IsSizeRecordOf (n : SizeRecord) (all before : List Located) (l : Located) : Type 0 where
  pub segment : n.segment ≡ l.segment
  pub alignment : n.alignment ≡ alignment l.segment.kind l.action
  pub extent : (form : Form) → counted (extent_of (content (meaning all before l) form l.here l.action)) ≡ extent_in form n.body
  pub opens : n.opens ≡ opens (meaning all before l) l.action

-- whatever places are chosen
abbrev pub SizesStay : Type 0
SizesStay =
    (stmts : List Stmt) (places : ℕ → ℕ) (before after : List Located) (l : Located)
    → located places stmts ≡ reverse before ++ l ∷ after
    → (n : SizeRecord) → slice_get (statement_sizes stmts) (length before) ≡ Some n
    → IsSizeRecordOf n (located places stmts) before l

abbrev pub SizesHaveLengths : Type 0
SizesHaveLengths = (stmts : List Stmt) → length (statement_sizes stmts) ≡ length stmts

abbrev pub SizesAreNumbered : Type 0
SizesAreNumbered = (stmts : List Stmt) → IsNumbered (statement_sizes stmts)
