-- What the listing of a source says of its module (this kit's own).
use Rattle.std.specs.Prelude.{◌≡◌, ℕ, Bool, ◌==◌, List, [], ◌∷◌, unwrap_or}
use Rattle.std.specs.List.{filter}
use Rattle.kc_lex.specs.declared.token.Line.{Line}
use Rattle.kc_source_statement.specs.declared.statement.Stmt.{Stmt}
use Rattle.kc_obj_module.specs.Object.{Object}
use Rattle.kc_asm_list.specs.declared.spot.Spot.{Spot}
use Rattle.kc_asm_list.specs.Listed.{IsListing, AreInstructionsOf}
use Rattle.kc_asm_list.specs.Spots.{spots_of}

-- a source has one listing
abbrev pub OneListing : Type 0
OneListing = (source : List ℕ) (m : Object) (listed other : List ℕ) → IsListing source m listed → IsListing source m other → listed ≡ other

-- the instructions of a source stand in one way
abbrev pub OneInstructions : Type 0
OneInstructions = (source : List ℕ) (spots others : List Spot) → AreInstructionsOf source spots → AreInstructionsOf source others → spots ≡ others

-- ---- the stretches of the statements of a piece leave nothing out, and none stands over another

abbrev pub is_of : ℕ → Spot → Bool
is_of piece s = s.piece == piece

-- the first begins at a place, and each other one where the one before ends
abbrev pub Follow : ℕ → List Spot → Type 0
Follow from [] = Unit {0}
Follow from (s ∷ ss) = (s.before ≡ from) × Follow s.after ss

-- where a piece begins: at its address, or where it is relocatable at 0
abbrev pub FollowFromStart : List Spot → Type 0
FollowFromStart [] = Unit {0}
FollowFromStart (s ∷ ss) = Follow (unwrap_or s.at 0) (s ∷ ss)

abbrev pub StretchesFollow : Type 0
StretchesFollow = (text : List Line) (depths : List ℕ) (stmts : List Stmt) (piece : ℕ) → FollowFromStart (filter (is_of piece) (spots_of text depths stmts))
