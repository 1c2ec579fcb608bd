-- The notes that are read stand by rising address (this kit's own).
use Rattle.std.specs.Prelude.{◌≡◌, ℕ, ◌<◌, Ok, List, [], ◌∷◌}
use Rattle.kc_bound.specs.Reading.{Reader, NotesRead, notes_of}

-- each stands at an address above that of the one before
abbrev pub RiseBy : {A : Type 0} → (A → ℕ) → List A → Type 0
RiseBy at [] = Unit {0}
RiseBy at (a ∷ []) = Unit {0}
RiseBy at (a ∷ b ∷ more) = (at a < at b) × RiseBy at (b ∷ more)

-- each kind does, so that no two of a kind have one address
pub record StandByAddress (notes : NotesRead) : Type 0 where
  pub loops : RiseBy (λ l. l.head) notes.loops
  pub goes : RiseBy (λ g. g.jump) notes.goes
  pub words : RiseBy (λ m. m.block) notes.words
  pub ends : RiseBy (λ a. a) notes.ends

abbrev pub NotesStandByAddress : Type 0
NotesStandByAddress = (address : Reader) (text : List ℕ) (notes : NotesRead) → notes_of address text ≡ Ok notes → StandByAddress notes
