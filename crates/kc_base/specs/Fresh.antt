-- How a count of unit calls begins (this kit's own).
use Rattle.std.specs.Prelude.{◌≡◌, ℕ, ◌<◌}
use Rattle.std.specs.declared.sync.ledger.Blank.{Blank}

-- a blank that opens the ledger of this name and of so many parts, at least one
pub record IsFresh (blank : Blank) (name parts : ℕ) : Type 0 where
  pub named : blank.name ≡ name
  pub whole : blank.parts ≡ parts
  pub some : 0 < parts
