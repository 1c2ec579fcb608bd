-- A library as bytes: 4BH, 4CH, 1, the number of its members, and for each member the length of its object (4 bytes, low
-- byte first) and the object (this kit's own format).
use Rattle.std.specs.Prelude.{◌≡◌, ℕ, ◌<◌, ◌≤◌, ◌^◌, Bool, ◌&&◌, nat_le, is_none, All, List, [], ◌∷◌, ◌++◌, length}
use Rattle.std.specs.List.{flat_map}
use Rattle.kc_obj_module.specs.Object.{Object}
use Rattle.kc_obj_module.specs.Spelling.{long_bytes, spelling}
use Rattle.kc_obj_module.specs.Spelled.{IsSpelled}
use Rattle.kc_lib.specs.Names.{GivenOnce, doubled}

abbrev pub member_bytes : Object → List ℕ
member_bytes m = long_bytes (length (spelling m)) ++ spelling m

abbrev pub library_bytes : List Object → List ℕ
library_bytes ms = (0x4B ∷ 0x4C ∷ 0x01 ∷ length ms ∷ []) ++ flat_map member_bytes ms

-- a module with its object, whose length has four bytes
pub record IsMember (m : Object) : Type 0 where
  pub is_object : IsSpelled (spelling m) m
  pub fits : length (spelling m) < 2 ^ 32

pub record IsLibrary (bytes : List ℕ) (ms : List Object) : Type 0 where
  pub some : 1 ≤ length ms
  pub few : length ms ≤ 64
  pub members : All IsMember ms
  pub once : GivenOnce ms
  pub written : library_bytes ms ≡ bytes

-- 1 to 64 modules, no name public in two of them
abbrev pub can_be_library : List Object → Bool
can_be_library ms = nat_le 1 (length ms) && nat_le (length ms) 64 && is_none (doubled ms)
