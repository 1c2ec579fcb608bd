-- How many pieces there are.
use Rattle.std.proofs.Common.{◌≡◌, ℕ, ◌+◌, ◌≤◌, Bool, true, false, eqb, if◌then◌else◌, Option, Some, None, List, [], ◌∷◌, ◌++◌, length, refl, length-append, arith}
use Rattle.kc_asm_section.specs.Section.{Section}
use Rattle.kc_asm_section.specs.declared.kept.Kept.{Kept}
use Rattle.kc_asm_section.specs.Order.{kept_if, stack_section, stack_pieces, in_order}
use Rattle.kc_asm_section.specs.Count.{FewPieces}

none_kept : (b : Bool) → length (kept_if b None) ≤ 0
none_kept true = omega arith
none_kept false = omega arith

one_kept : (b : Bool) (t : Option Section) → length (kept_if b t) ≤ 1
one_kept true (Some t) = omega arith
one_kept true None = omega arith
one_kept false t = omega arith

one_stack : (bytes : ℕ) → length (stack_pieces bytes) ≤ 1
one_stack bytes = by (eqb bytes 0)
  where
    by : (t : Bool) → length (if t then [] else stack_section bytes ∷ []) ≤ 1
    by true = omega arith
    by false = omega arith

pub all_count : (kept : Kept) (r c m : Option Section) (stack : ℕ) (absolute : List Section) → length (in_order kept r c m stack absolute) ≡ length (kept_if kept.registers r) + (length (kept_if kept.code c) + (length (kept_if kept.ram m) + (length (stack_pieces stack) + length absolute)))
all_count kept r c m stack absolute =
    rw (
      length-append (kept_if kept.registers r) (kept_if kept.code c ++ (kept_if kept.ram m ++ (stack_pieces stack ++ absolute))),
      length-append (kept_if kept.code c) (kept_if kept.ram m ++ (stack_pieces stack ++ absolute)),
      length-append (kept_if kept.ram m) (stack_pieces stack ++ absolute),
      length-append (stack_pieces stack) absolute,
    ) refl

pub few : FewPieces
few kept [] stack = omega (arith, all_count kept None None None stack [], none_kept kept.registers, none_kept kept.code, none_kept kept.ram, one_stack stack)
few kept (r ∷ []) stack = omega (arith, all_count kept (Some r) None None stack [], one_kept kept.registers (Some r), none_kept kept.code, none_kept kept.ram, one_stack stack)
few kept (r ∷ c ∷ []) stack = omega (arith, all_count kept (Some r) (Some c) None stack [], one_kept kept.registers (Some r), one_kept kept.code (Some c), none_kept kept.ram, one_stack stack)
few kept (r ∷ c ∷ m ∷ absolute) stack = omega (arith, all_count kept (Some r) (Some c) (Some m) stack absolute, one_kept kept.registers (Some r), one_kept kept.code (Some c), one_kept kept.ram (Some m), one_stack stack)
