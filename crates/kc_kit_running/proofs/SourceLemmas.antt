-- The files of sources by their names.
use Rattle.std.proofs.Common.{◌≡◌, ℕ, List, map, string_bytes, String, Global}
use Rattle.std.specs.Prelude.{slice_get}
use Rattle.std.specs.Option.{option_map}
use Rattle.std.proofs.lemmas.Option.{slice_get-map}

pub file_named : (files : List (String Global)) (index : ℕ) → slice_get (map string_bytes files) index ≡ option_map string_bytes (slice_get files index)
file_named files index = slice_get-map string_bytes files index
