-- The public names of a module.
use Rattle.std.specs.Prelude.{ℕ, Bool, nat_eq, Option, Some, None}
use Rattle.std.specs.Ordering.{nat_cmp, is_lt}
use Rattle.std.specs.Cmp.Lexicographic.{pointwise, slice_cmp}
use Rattle.kc_expr.specs.declared.values.Base.{Base}
use Rattle.kc_expr.specs.declared.values.Base.TheVariants.{Fixed, Absolute, Piece, External}
use Rattle.kc_obj_module.specs.declared.parts.Given.{Given}
use Rattle.kc_asm_section.specs.declared.unlinked.Public.{Public}

-- an address is a number alone
abbrev pub piece_of : (ℕ → ℕ) → Base → Option ℕ
piece_of number Fixed = None
piece_of number Absolute = None
piece_of number (Piece part) = Some (number part)
piece_of number (External external) = None

abbrev pub given_of : (ℕ → ℕ) → Public → Given
given_of number p = record { name = p.name; piece = piece_of number p.value.base; value = p.value.number }

abbrev pub is_same_name : Public → Public → Bool
is_same_name p q = pointwise nat_eq p.name q.name

abbrev pub is_before : Given → Given → Bool
is_before g h = is_lt (slice_cmp nat_cmp g.name h.name)
