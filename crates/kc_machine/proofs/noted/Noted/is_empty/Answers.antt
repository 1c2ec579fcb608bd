use Rattle.std.proofs.Common.{◌≡◌, ◌==◌, ℕ, suc, List, [], ◌∷◌, length, false, refl, subst, arith}
use Rattle.std.proofs.lemmas.Grind.{common_steps}
use Rattle.std.specs.Bool.{OnTrue}
use Rattle.kc_machine.proofs.noted.Noted.is_empty.Goals as goal

not-none : (n : ℕ) → (suc n == 0) ≡ false
not-none n = grind (arith, common_steps)

none-there : {A : Type 0} (xs : List A) → OnTrue (length xs == 0) (xs ≡ [])
none-there [] = refl
none-there (x ∷ xs) = rw (not-none (length xs)) tt

pub returns : goal.returns
returns c = subst (λ xs. OnTrue c.is_empty.result (xs ≡ [])) c.self.view_is (rw c.is_empty.ensures (none-there c.self.inside.edges.items))
