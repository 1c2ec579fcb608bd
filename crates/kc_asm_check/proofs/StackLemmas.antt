-- The stack of a module without a fault has at most 65,535 bytes.
use Rattle.std.proofs.Common.{◌≡◌, ℕ, Bool, true, false, ◌+◌, ◌≤◌, List, [], ◌∷◌, ◌++◌, length, refl, arith}
use Rattle.std.proofs.lemmas.Bool.Decides.{nat_tests}
use Rattle.std.specs.Prelude.{nat_le, nat_lt, ◌&&◌}
use Rattle.kc_asm_symbols.specs.Located.{Located}
use Rattle.kc_asm_symbols.specs.Meanings.{meaning, in_all}
use Rattle.kc_asm_layout.specs.declared.location.Location.{Location}
use Rattle.kc_asm_emit.specs.Arguments.{Look}
use Rattle.kc_asm_emit.specs.Content.{content}
use Rattle.kc_asm_emit.specs.Faults as values
use Rattle.kc_asm_check.specs.Codes.{Regions, when, branch_faults, relocatable_faults, place_faults, stack_faults, stack_after, regions_after}
use Rattle.kc_asm_check.specs.Checking.{own_codes, codes_of}
use Rattle.kc_asm_check.specs.Laws.{AreSound}
use Rattle.kc_asm_check.specs.Putting.{stack_from}

-- ---- none of the codes, no code of the stack

no_prefix : {X : Type 0} (xs ys : List X) → xs ++ ys ≡ [] → xs ≡ []
no_prefix [] ys e = refl
no_prefix (x ∷ xs) ys e = absurd (cc)

no_back : {X : Type 0} (xs ys : List X) → xs ++ ys ≡ [] → ys ≡ []
no_back [] ys e = e
no_back (x ∷ xs) ys e = absurd (cc)

no_stack_code : (look last : Look) (regions : Regions) (sum : ℕ) (l : Located) (s : Location) → codes_of look last regions sum l s ≡ [] → stack_faults look sum l.action ≡ []
no_stack_code look last regions sum l s none =
    no_back (place_faults regions look l.label l.action l.segment s) _
    (no_back (relocatable_faults look l.action l.segment s (content look s.form l.here l.action)) _
    (no_back (branch_faults look s.body l.action) _
    (no_back (values.faults_of look l.action) _
    (no_prefix (own_codes look regions sum l s) _ none))))

stays_small : (sum after : ℕ) → when (nat_le sum 65535 && nat_lt 65535 after) 17 ≡ [] → sum ≤ 65535 → after ≤ 65535
stays_small sum after none small = by_tests (nat_le sum 65535) (nat_lt 65535 after) refl refl none
  where
    by_tests : (b c : Bool) → nat_le sum 65535 ≡ b → nat_lt 65535 after ≡ c → when (b && c) 17 ≡ [] → after ≤ 65535
    by_tests true true p q e = absurd (cc)
    by_tests true false p q e = grind (arith, nat_tests)
    by_tests false c p q e = grind (arith, nat_tests)

-- ---- all statements

no_location : (n : ℕ) → n + 1 ≤ 0 → ⊥
no_location n e = omega (arith, e)

pub stack_fits : (all : List Located) (regions : Regions) (sum : ℕ) (before ls : List Located) (ss : List Location)
    → AreSound all regions sum before ls ss → length ls ≤ length ss → sum ≤ 65535 → stack_from all sum before ls ≤ 65535
unfolding AreSound stack_from
stack_fits all regions sum before [] ss sound each small = small
stack_fits all regions sum before (l ∷ ls) [] sound each small = absurd (no_location (length ls) (let e : length ls + 1 ≤ 0 = omega (arith, each) in e))
stack_fits all regions sum before (l ∷ ls) (s ∷ ss) sound each small =
    let look = meaning all before l in
    let next = stack_after look sum l.action in
    stack_fits all (regions_after look regions l.action) next (l ∷ before) ls ss sound.1
    (let e : length ls ≤ length ss = omega (arith, each) in e)
    (stays_small sum next (no_stack_code look (in_all all) regions sum l s sound.0) small)
