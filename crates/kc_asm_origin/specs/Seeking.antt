-- How far a search among the uses of names has come.
use Rattle.std.specs.Prelude.{◌≡◌, ℕ, List, [], ◌++◌, reverse}
use Rattle.std.specs.Option.{option_or}
use Rattle.kc_source.specs.declared.uses.Use.{Use}
use Rattle.kc_source.specs.Faults.{has_use, is_once, is_again, is_taken}
use Rattle.kc_asm_symbols.specs.Tables.{is_marked}
use Rattle.kc_asm_origin.specs.declared.names.Known.{Known}
use Rattle.kc_asm_origin.specs.declared.names.Search.{Search}
use Rattle.kc_asm_origin.specs.Uses.{used_from}

-- of each name what these uses say
pub record IsKnown (k : Known) (us : List Use) : Type 0 where
  pub once : is_marked k.once ≡ (λ name. has_use is_once name us)
  pub again : is_marked k.again ≡ (λ name. has_use is_again name us)
  pub taken : is_marked k.taken ≡ (λ name. has_use is_taken name us)

-- what it has found, and what the rest gives, is what all uses give
pub record IsSeeking (s : Search) (line code : ℕ) (all rest whole : List Use) : Type 0 where
  pub line_is : s.line ≡ line
  pub code_is : s.code ≡ code
  pub known : IsKnown s.all all
  pub earlier : List Use
  pub passed : reverse earlier ++ rest ≡ whole
  pub before : IsKnown s.before earlier
  pub found : option_or s.found (used_from line code all earlier rest) ≡ used_from line code all [] whole
