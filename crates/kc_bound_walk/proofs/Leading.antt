-- Steps one behind the other, and where they lead.
use Rattle.std.specs.Prelude.{if◌then◌else◌}
use Rattle.std.proofs.Common.{◌≡◌, ℕ, zero, suc, Bool, true, false, Option, Some, None, List, [], ◌∷◌, ◌++◌, refl, sym, ap, subst}
use Rattle.kc_bound.specs.declared.notes.Notes.{Notes}
use Rattle.kc_bound.specs.declared.way.Way.{Way}
use Rattle.kc_bound.specs.declared.way.Way.TheVariants.{To, Call, Back, Out}
use Rattle.kc_bound.specs.Notes.{is_end}
use Rattle.kc_bound.specs.Ways.{ways_at}
use Rattle.kc_bound_walk.specs.Walks.{Step, Place, after_way, IsOneOf, Leads}

-- steps behind steps
pub leads_on : (image : List ℕ) (notes : Notes) (p q r : Option Place) (xs ys : List Step) → Leads image notes p xs q → Leads image notes q ys r → Leads image notes p (xs ++ ys) r
unfolding Leads
leads_on image notes p q r [] ys first later = subst (λ o. Leads image notes o ys r) (sym first) later
leads_on image notes None q r (s ∷ xs) ys first later = absurd first
leads_on image notes (Some p) q r (s ∷ xs) ys first later = (first.0, first.1, leads_on image notes (after_way notes s.way p.open_calls) q r xs ys first.2 later)

-- none leads nowhere
pub no_steps : (image : List ℕ) (notes : Notes) (p : Option Place) → Leads image notes p [] p
unfolding Leads
no_steps image notes p = refl

-- one step
pub one_step : (image : List ℕ) (notes : Notes) (a : ℕ) (open_calls : List ℕ) (way : Way) → IsOneOf (ways_at image notes a) way
    → Leads image notes (Some (record { at = a; open_calls = open_calls })) (record { at = a; way = way } ∷ []) (after_way notes way open_calls)
unfolding Leads
one_step image notes a open_calls way there = (refl, there, refl)

-- with more open calls
abbrev wider : List ℕ → Option Place → Option Place
wider base None = None
wider base (Some p) = Some (record { at = p.at; open_calls = p.open_calls ++ base })

abbrev behind : ℕ → List ℕ → Bool → Option Place
behind back open_calls is_over = if is_over then None else Some (record { at = back; open_calls = open_calls })

behind-wider : (back : ℕ) (open_calls base : List ℕ) (is_over : Bool) (p : Place) → behind back open_calls is_over ≡ Some p → behind back (open_calls ++ base) is_over ≡ Some (record { at = p.at; open_calls = p.open_calls ++ base })
behind-wider back open_calls base true p e = absurd (cc e)
behind-wider back open_calls base false p e = ap (wider base) e

-- a way that leads on with some open calls leads on with more of them
pub beside : (notes : Notes) (way : Way) (open_calls base : List ℕ) (p : Place) → after_way notes way open_calls ≡ Some p
    → after_way notes way (open_calls ++ base) ≡ Some (record { at = p.at; open_calls = p.open_calls ++ base })
beside notes (To states target) open_calls base p e = ap (wider base) e
beside notes (Call states target back) open_calls base p e = ap (wider base) e
beside notes (Back states) [] base p e = absurd (cc e)
beside notes (Back states) (back ∷ open_calls) base p e = behind-wider back open_calls base (is_end notes back) p e
beside notes (Out states) open_calls base p e = absurd (cc e)

-- ---- the same steps so many times

unfoldable pub copies : ℕ → List Step → List Step
copies zero steps = []
copies (suc n) steps = steps ++ copies n steps

pub copies-more : (n : ℕ) (steps : List Step) → copies (suc n) steps ≡ steps ++ copies n steps
unfolding copies
copies-more n steps = refl

pub leads_round : (image : List ℕ) (notes : Notes) (p : Option Place) (steps : List Step) → Leads image notes p steps p → (n : ℕ) → Leads image notes p (copies n steps) p
unfolding copies
leads_round image notes p steps round zero = no_steps image notes p
leads_round image notes p steps round (suc n) = leads_on image notes p p p steps (copies n steps) round (leads_round image notes p steps round n)
