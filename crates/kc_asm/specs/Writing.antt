-- What has room at the end of a piece.
use Rattle.std.specs.Prelude.{ℕ, ◌+◌, ◌-◌, ◌≤◌}
use Rattle.kc_asm_emit.specs.Content.{Content}
use Rattle.kc_asm_layout.specs.declared.location.Location.{Location}
use Rattle.kc_asm_unlinked_laws.specs.Writable.{HasRoom}

-- behind so many bytes a content has room at a location
pub record ContentFits (c : Content) (s : Location) (size : ℕ) : Type 0 where
  pub forward : s.before ≤ s.place
  pub gap : size + (s.place - s.before) ≤ 65536
  pub room : HasRoom (size + (s.place - s.before)) c s.place
