-- Where the statements of a source stand, each with the line that it comes from and how deep it stands (after the MCS-96
-- Macro Assembler User's Guide, "Segments and the Location Counter").
use Rattle.std.specs.Prelude.{ℕ, if◌then◌else◌, List, [], ◌∷◌, ◌++◌, drop, slice_index}
use Rattle.kc_lex.specs.declared.token.Line.{Line}
use Rattle.kc_lex.specs.Kinds.{has_label}
use Rattle.kc_source_statement.specs.declared.statement.Stmt.{Stmt}
use Rattle.kc_source_statement.specs.Operands.{is_nil}
use Rattle.kc_asm_layout.specs.declared.size_record.SizeRecord.{SizeRecord}
use Rattle.kc_asm_layout.specs.StatementSizes.{statement_sizes}
use Rattle.kc_asm_layout.specs.declared.location.Location.{Location}
use Rattle.kc_asm_layout.specs.Text.{layout}
use Rattle.kc_asm_list.specs.declared.spot.Spot.{Spot}

-- each line of the expansion that is not blank is a statement, with its depth, its size record and its location

abbrev pub spot_of : Line → ℕ → SizeRecord → Location → Spot
spot_of l depth n s = record {
  line = l.number;
  depth = depth;
  labelled = has_label l.tokens;
  kind = n.segment.kind;
  piece = n.segment.piece;
  at = s.address;
  before = s.before;
  place = s.place;
  after = s.after;
}

abbrev pub first_spot : Line → List ℕ → List SizeRecord → List Location → List Spot
first_spot l ds (n ∷ ns) (s ∷ ss) = spot_of l (slice_index ds 0) n s ∷ []
first_spot l ds ns ss = []

unfoldable pub spots_from : List Line → List ℕ → List SizeRecord → List Location → List Spot
spots_from [] ds ns ss = []
spots_from (l ∷ ls) ds ns ss =
    if is_nil l.tokens then spots_from ls (drop 1 ds) ns ss else first_spot l ds ns ss ++ spots_from ls (drop 1 ds) (drop 1 ns) (drop 1 ss)

-- those of a source, of which these are the expansion with the depths of its lines, and the statements
abbrev pub spots_of : List Line → List ℕ → List Stmt → List Spot
spots_of text ds stmts = spots_from text ds (statement_sizes stmts) (layout (statement_sizes stmts))
