-- The number of pieces, counted part by part.
use Rattle.std.proofs.Common.{◌≡◌, ℕ, ◌+◌, ◌-◌, Bool, true, false, not, eqb, if◌then◌else◌, Some, None, List, [], ◌∷◌, length, refl, arith}
use Rattle.kc_asm_section.specs.declared.unlinked.Public.{Public}
use Rattle.kc_asm_section.specs.Section.{Section}
use Rattle.kc_asm_section.specs.Order.{kept_of, kept_if, count_of, stack_section, stack_pieces, pieces_of}
use Rattle.kc_asm_section.proofs.Counting.{all_count}

kept_count : (b : Bool) (t : Section) → length (kept_if b (Some t)) ≡ count_of b
kept_count true t = refl
kept_count false t = refl

stack_count : (bytes : ℕ) → length (stack_pieces bytes) ≡ count_of (not (eqb bytes 0))
stack_count bytes = by (eqb bytes 0)
  where
    by : (t : Bool) → length (if t then [] else stack_section bytes ∷ []) ≡ count_of (not t)
    by true = refl
    by false = refl

pub total : (parts : List Section) (publics : List Public) (stack : ℕ) → let kept = kept_of parts publics in
    count_of kept.registers + count_of kept.code + count_of kept.ram + count_of (not (eqb stack 0)) + (length parts - 3) ≡ length (pieces_of kept parts stack)
unfolding kept_of
total [] publics stack = omega (arith, all_count (kept_of [] publics) None None None stack [], stack_count stack)
total (r ∷ []) publics stack = let k = kept_of (r ∷ []) publics in omega (arith, all_count k (Some r) None None stack [], kept_count k.registers r, stack_count stack)
total (r ∷ c ∷ []) publics stack = let k = kept_of (r ∷ c ∷ []) publics in omega (arith, all_count k (Some r) (Some c) None stack [], kept_count k.registers r, kept_count k.code c, stack_count stack)
total (r ∷ c ∷ m ∷ absolute) publics stack = let k = kept_of (r ∷ c ∷ m ∷ absolute) publics in omega (arith, all_count k (Some r) (Some c) (Some m) stack absolute, kept_count k.registers r, kept_count k.code c, kept_count k.ram m, stack_count stack)
