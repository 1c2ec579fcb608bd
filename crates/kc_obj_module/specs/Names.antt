-- Names of modules, externals and publics (the MCS-96 assembler's names, at most 31 characters, in upper case).
use Rattle.std.specs.Prelude.{ℕ, Bool, true, false, not, ◌&&◌, ◌||◌, ◌==◌, nat_eq, nat_lt, nat_le, List, [], ◌∷◌, length, codes}
use Rattle.std.specs.List.{list_all}
use Rattle.std.specs.Cmp.Lexicographic.{pointwise}

abbrev pub is_digit : ℕ → Bool
is_digit c = nat_le 48 c && nat_le c 57

-- an upper-case letter, a digit, '_' (95) or '?' (63)
abbrev pub is_name_char : ℕ → Bool
is_name_char c = (nat_le 65 c && nat_le c 90) || is_digit c || (c == 95) || (c == 63)

abbrev pub begins_name : List ℕ → Bool
begins_name [] = false
begins_name (c ∷ cs) = not (is_digit c)

abbrev pub is_name : List ℕ → Bool
is_name name = begins_name name && nat_le (length name) 31 && list_all is_name_char name

-- the name of the address after the stack, which no module gives
abbrev pub is_stack_name : List ℕ → Bool
is_stack_name name = pointwise nat_eq name (codes "STACK")

-- in the order of bytes
unfoldable pub is_below : List ℕ → List ℕ → Bool
is_below [] [] = false
is_below [] (d ∷ ds) = true
is_below (c ∷ cs) [] = false
is_below (c ∷ cs) (d ∷ ds) = nat_lt c d || ((c == d) && is_below cs ds)
