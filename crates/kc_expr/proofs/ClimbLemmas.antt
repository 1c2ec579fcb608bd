-- The levels of expressions gone through in one run: which level an operator is of, and what one operator makes of the run.
use Rattle.std.proofs.Common.{◌≡◌, ℕ, zero, suc, ◌+◌, ◌-◌, ◌*◌, ◌<◌, ◌≤◌, true, false, cond, eqb, List, [], ◌∷◌, drop, Option, Some, None, refl, sym, ap, subst, ◌∙◌, arith, inl, inr}
use Rattle.std.specs.Prelude.{option_and_then}
use Rattle.std.proofs.lemmas.Bool.{eqb-true, ne_eqb, eq-eqb, cases_lt}
use Rattle.kc_lex.specs.declared.token.Token.{Token}
use Rattle.kc_expr.specs.declared.expr.Unary.{Unary}
use Rattle.kc_expr.specs.declared.expr.Binary.{Binary}
use Rattle.kc_expr.specs.Tree.{Tree, Two}
use Rattle.kc_expr.specs.Grammar.{Reading, multiplying, adding, comparing, meeting, either, binary_at, unary_at, unary_first, binary_first, longest, extended}
use Rattle.kc_expr.specs.Climb.{at_level, climbed, AreEnough}
use Rattle.kc_expr.proofs.GrammarLemmas as g
use Rattle.kc_expr.proofs.OperatorLemmas.{all_none, binary_breaks, unary_level, unary_positive}

-- ---- a token is an operator of one level

one_level : {Op : Type 0} (at : ℕ → Option Op) (own : ℕ) (op : Op) → at own ≡ Some op → ((l : ℕ) → (l ≡ own → ⊥) → at l ≡ None) → (l : ℕ) → at l ≡ at_level l (Some (op, own))
one_level at own op some none l =
    elim (eqb l own) as (λ r. eqb l own ≡ r → at l ≡ cond r (Some op) None) [
      | true ↦ λ e. ap at (eqb-true l own e) ∙ some
      | false ↦ λ e. none l (λ same. absurd (let t : eqb l own ≡ true = eq-eqb l own same in cc (t, e)))
    ] refl

none_where : {Op : Type 0} (o : Option Op) → ((op : Op) → o ≡ Some op → ⊥) → o ≡ None
none_where None h = refl
none_where (Some op) h = absurd (h op refl)

pub binary_own : (t : Token) (own : ℕ) (op : Binary) → binary_at own t ≡ Some op → (l : ℕ) → binary_at l t ≡ at_level l (Some (op, own))
binary_own t own op some = one_level (λ l. binary_at l t) own op some (λ l else. elim (cases_lt l own) [
  | inl less ↦ (binary_breaks own t op some).loose l less
  | inr more ↦ none_where (binary_at l t) (λ found h. let none : binary_at own t ≡ None = (binary_breaks l t found h).loose own (let apart : (l ≡ own → ⊥) = else in strictly l own more else) in absurd (cc (none, some)))
])
  where
    strictly : (a b : ℕ) → b ≤ a → (a ≡ b → ⊥) → b < a
    strictly a b h else = elim (cases_lt b a) [ inl less ↦ less | inr more ↦ absurd (else (let same : a ≡ b = omega arith in same)) ]

pub unary_own : (t : Token) (own : ℕ) (op : Unary) → unary_at own t ≡ Some op → (l : ℕ) → unary_at l t ≡ at_level l (Some (op, own))
unary_own t own op some = one_level (λ l. unary_at l t) own op some (λ l else. elim (cases_lt own l) [
  | inl more ↦ unary_level own t op some l more
  | inr less ↦ none_where (unary_at l t) (λ found h. let none : unary_at own t ≡ None = unary_level l t found h own (strictly own l less else) in absurd (cc (none, some)))
])
  where
    strictly : (own l : ℕ) → l ≤ own → (l ≡ own → ⊥) → l < own
    strictly own l h else = elim (cases_lt l own) [ inl less ↦ less | inr more ↦ absurd (else (let same : l ≡ own = omega arith in same)) ]

pub at_2 : (t : Token) → binary_at 2 t ≡ multiplying t
unfolding binary_at
at_2 t = refl

pub at_3 : (t : Token) → binary_at 3 t ≡ adding t
unfolding binary_at
at_3 t = refl

pub at_4 : (t : Token) → binary_at 4 t ≡ comparing t
unfolding binary_at
at_4 t = refl

pub at_6 : (t : Token) → binary_at 6 t ≡ meeting t
unfolding binary_at
at_6 t = refl

pub at_7 : (t : Token) → binary_at 7 t ≡ either t
unfolding binary_at
at_7 t = refl

pub no_class : (t : Token) → multiplying t ≡ None → adding t ≡ None → comparing t ≡ None → meeting t ≡ None → either t ≡ None → (l : ℕ) → binary_at l t ≡ None
unfolding binary_at
no_class t a b c d e l = rw (a, b, c, d, e) (all_none (eqb l 2) (eqb l 3) (eqb l 4) (eqb l 6) (eqb l 7) None)

-- ---- levels without an operator

extended_stops : (n level : ℕ) (left : Tree) (ts : List Token) → binary_first level ts ≡ None → extended n level left ts ≡ Some (left, ts)
unfolding extended
extended_stops zero level left ts none = refl
extended_stops (suc n) level left ts none = g.stops n level left ts none

pub stays : (steps : ℕ → ℕ) (tight n : ℕ) (left : Tree) (ts : List Token) → ((l : ℕ) → tight < l → l ≤ tight + n → binary_first l ts ≡ None) → climbed steps tight n (Some (left, ts)) ≡ Some (left, ts)
unfolding climbed
stays steps tight zero left ts none = refl
stays steps tight (suc n) left ts none =
    ap (λ r. option_and_then (λ p. extended (steps (tight + suc n)) (tight + suc n) p.0 p.1) r) (stays steps tight n left ts (λ l a b. none l a (omega arith)))
    ∙ extended_stops (steps (tight + suc n)) (tight + suc n) left ts (none (tight + suc n) (omega arith) (omega arith))

pub nothing : (steps : ℕ → ℕ) (tight n : ℕ) → climbed steps tight n None ≡ None
unfolding climbed
nothing steps tight zero = refl
nothing steps tight (suc n) = ap (λ r. option_and_then (λ p. extended (steps (tight + suc n)) (tight + suc n) p.0 p.1) r) (nothing steps tight n)

-- ---- a run in two parts, and of other steps

pub in_two : (steps : ℕ → ℕ) (tight a b : ℕ) (r : Reading) → climbed steps tight (a + b) r ≡ climbed steps (tight + a) b (climbed steps tight a r)
unfolding climbed
in_two steps tight a zero r = let e : a + zero ≡ a = omega arith in ap (λ n. climbed steps tight n r) e
in_two steps tight a (suc b) r =
    let e : a + suc b ≡ suc (a + b) = omega arith in
    let f : tight + suc (a + b) ≡ (tight + a) + suc b = omega arith in
    ap (λ n. climbed steps tight n r) e
    ∙ ap (λ q. option_and_then (λ p. extended (steps (tight + suc (a + b))) (tight + suc (a + b)) p.0 p.1) q) (in_two steps tight a b r)
    ∙ ap (λ l. option_and_then (λ p. extended (steps l) l p.0 p.1) (climbed steps (tight + a) b (climbed steps tight a r))) f

same_steps : (steps other : ℕ → ℕ) (tight n : ℕ) (r : Reading) → ((l : ℕ) → tight < l → steps l ≡ other l) → climbed steps tight n r ≡ climbed other tight n r
unfolding climbed
same_steps steps other tight zero r same = refl
same_steps steps other tight (suc n) r same =
    ap (λ q. option_and_then (λ p. extended (steps (tight + suc n)) (tight + suc n) p.0 p.1) q) (same_steps steps other tight n r same)
    ∙ ap (λ k. option_and_then (λ p. extended k (tight + suc n) p.0 p.1) (climbed other tight n r)) (same (tight + suc n) (omega arith))

-- ---- what one operator makes of the run

-- one step fewer at one level
abbrev pub fewer : (ℕ → ℕ) → ℕ → ℕ → ℕ
fewer steps own l = cond (eqb l own) (steps l - 1) (steps l)

fewer_at : (steps : ℕ → ℕ) (own : ℕ) → fewer steps own own ≡ steps own - 1
fewer_at steps own = rw (eq-eqb own own refl) refl

fewer_else : (steps : ℕ → ℕ) (own l : ℕ) → own < l → fewer steps own l ≡ steps l
fewer_else steps own l h = rw (ne_eqb l own (λ same. absurd (omega (arith, same)))) refl

one_more : (steps : ℕ → ℕ) (tight : ℕ) (left : Tree) (ts : List Token) → climbed steps tight 1 (Some (left, ts)) ≡ extended (steps (tight + 1)) (tight + 1) left ts
unfolding climbed
one_more steps tight left ts = refl

-- a run up to the level of the operator that stands next, that level, and the levels above it
by_own : (steps : ℕ → ℕ) (tight own level : ℕ) (left : Tree) (ts : List Token) → tight < own → own ≤ level → ((l : ℕ) → tight < l → l < own → binary_first l ts ≡ None) →
    climbed steps tight (level - tight) (Some (left, ts)) ≡ climbed steps own (level - own) (extended (steps own) own left ts)
by_own steps tight own level left ts above below none =
    let e : level - tight ≡ ((own - 1) - tight) + (1 + (level - own)) = omega arith in
    let f : tight + ((own - 1) - tight) ≡ own - 1 = omega arith in
    let o : (own - 1) + 1 ≡ own = omega arith in
    ap (λ n. climbed steps tight n (Some (left, ts))) e
    ∙ in_two steps tight ((own - 1) - tight) (1 + (level - own)) (Some (left, ts))
    ∙ ap (λ r. climbed steps (tight + ((own - 1) - tight)) (1 + (level - own)) r) (stays steps tight ((own - 1) - tight) left ts (λ l a b. none l a (omega arith)))
    ∙ ap (λ t. climbed steps t (1 + (level - own)) (Some (left, ts))) f
    ∙ in_two steps (own - 1) 1 (level - own) (Some (left, ts))
    ∙ ap (λ r. climbed steps ((own - 1) + 1) (level - own) r) (one_more steps (own - 1) left ts)
    ∙ ap (λ l. climbed steps l (level - own) (extended (steps l) l left ts)) o

at_own : {Op : Type 0} (own : ℕ) (op : Op) → at_level own (Some (op, own)) ≡ Some op
at_own own op = rw (eq-eqb own own refl) refl

at_else : {Op : Type 0} (l own : ℕ) (op : Op) → (l ≡ own → ⊥) → at_level l (Some (op, own)) ≡ None
at_else l own op h = rw (ne_eqb l own h) refl

-- the operator that stands next, if it is of a level between the two
abbrev pub IsNext : ℕ → ℕ → List Token → Option (Binary × ℕ) → Type 0
IsNext tight level ts found = (l : ℕ) → tight < l → l ≤ level → binary_first l ts ≡ at_level l found

pub no_operator : (steps : ℕ → ℕ) (tight level : ℕ) (left : Tree) (ts : List Token) → tight ≤ level → IsNext tight level ts None → climbed steps tight (level - tight) (Some (left, ts)) ≡ Some (left, ts)
no_operator steps tight level left ts h next = stays steps tight (level - tight) left ts (λ l a b. next l a (omega arith))

own_is : (tight own level : ℕ) (ts : List Token) (op : Binary) → tight < own → own ≤ level → IsNext tight level ts (Some (op, own)) → binary_first own ts ≡ Some op
own_is tight own level ts op above below next = next own above below ∙ at_own own op

less_none : (tight own level : ℕ) (ts : List Token) (op : Binary) → own ≤ level → IsNext tight level ts (Some (op, own)) → (l : ℕ) → tight < l → l < own → binary_first l ts ≡ None
less_none tight own level ts op below next l a b = next l a (omega arith) ∙ at_else l own op (λ same. absurd (omega (arith, same)))

more_none : (tight own level : ℕ) (ts : List Token) (op : Binary) → tight < own → IsNext tight level ts (Some (op, own)) → (l : ℕ) → own < l → l ≤ level → binary_first l ts ≡ None
more_none tight own level ts op above next l a b = next l (omega arith) b ∙ at_else l own op (λ same. absurd (omega (arith, same)))

pub no_right : (steps : ℕ → ℕ) (tight own level : ℕ) (left : Tree) (ts : List Token) (op : Binary) → tight < own → own ≤ level → 1 ≤ steps own → IsNext tight level ts (Some (op, own)) →
    longest (steps own - 1) (own - 1) (drop 1 ts) ≡ None → climbed steps tight (level - tight) (Some (left, ts)) ≡ Some (left, ts)
no_right steps tight own level left ts op above below some next none =
    let s : steps own ≡ suc (steps own - 1) = omega arith in
    by_own steps tight own level left ts above below (less_none tight own level ts op below next)
    ∙ ap (λ r. climbed steps own (level - own) r) (ap (λ n. extended n own left ts) s ∙ g.no_right (steps own - 1) own left ts op (own_is tight own level ts op above below next) none)
    ∙ stays steps own (level - own) left ts (λ l a b. more_none tight own level ts op above next l a (omega arith))

pub goes_on : (steps : ℕ → ℕ) (tight own level : ℕ) (left right : Tree) (ts us : List Token) (op : Binary) → tight < own → own ≤ level → 1 ≤ steps own → IsNext tight level ts (Some (op, own)) →
    longest (steps own - 1) (own - 1) (drop 1 ts) ≡ Some (right, us) →
    climbed steps tight (level - tight) (Some (left, ts)) ≡ climbed (fewer steps own) (own - 1) (level - (own - 1)) (Some (Two op left right, us))
goes_on steps tight own level left right ts us op above below some next read =
    let s : steps own ≡ suc (steps own - 1) = omega arith in
    by_own steps tight own level left ts above below (less_none tight own level ts op below next)
    ∙ ap (λ r. climbed steps own (level - own) r)
    (ap (λ n. extended n own left ts) s ∙ g.goes_on (steps own - 1) own left right ts us op (own_is tight own level ts op above below next) read ∙ ap (λ n. extended n own (Two op left right) us) (sym (fewer_at steps own)))
    ∙ same_steps steps (fewer steps own) own (level - own) _ (λ l a. sym (fewer_else steps own l a))
    ∙ sym (by_own (fewer steps own) (own - 1) own level (Two op left right) us (omega arith) below (λ l a b. absurd (omega arith)))

pub enough : (steps : ℕ → ℕ) (tight own level a b : ℕ) → AreEnough steps tight level a → tight < own → own ≤ level → b < a → AreEnough (fewer steps own) (own - 1) level b
enough steps tight own level a b h above below less l low high =
    elim (cases_lt own l) [
      | inl more ↦ (let was : 16 * a + 2 * l < steps l = h l (omega arith) high in subst (λ n. 16 * b + 2 * l < n) (sym (fewer_else steps own l more)) (omega arith))
      | inr upto ↦ (let same : own ≡ l = omega arith in let was : 16 * a + 2 * own < steps own = h own above below in
          subst (λ k. 16 * b + 2 * k < fewer steps own k) same (subst (λ n. 16 * b + 2 * own < n) (sym (fewer_at steps own)) (omega arith)))
    ]

-- ---- down to the level of an operand

descend : (c r k : ℕ) (ts : List Token) → ((l : ℕ) → r < l → l ≤ r + k → unary_first l ts ≡ None) → longest (suc (c + (r + k))) (r + k) ts ≡ climbed (λ l. c + l) r k (longest (suc (c + r)) r ts)
unfolding climbed
descend c r zero ts none = let e : r + zero ≡ r = omega arith in ap (λ l. longest (suc (c + l)) l ts) e
descend c r (suc k) ts none =
    let a : (r + suc k) - 1 ≡ r + k = omega arith in
    let b : c + (r + suc k) ≡ suc (c + (r + k)) = omega arith in
    g.plain_level (c + (r + suc k)) (r + suc k) ts (climbed (λ l. c + l) r k (longest (suc (c + r)) r ts)) (omega arith) (none (r + suc k) (omega arith) (omega arith))
    (ap (λ l. longest (c + (r + suc k)) l ts) a ∙ ap (λ n. longest n (r + k) ts) b ∙ descend c r k ts (λ l x y. none l x (omega arith)))

-- what an operand, or an operator and its operand, make of the run
pub from_operand : (n r level : ℕ) (ts : List Token) (read : Reading) → r ≤ level → level ≤ n → ((l : ℕ) → r < l → l ≤ level → unary_first l ts ≡ None) → longest (suc ((n - level) + r)) r ts ≡ read →
    longest (suc n) level ts ≡ climbed (λ l. (n - level) + l) r (level - r) read
from_operand n r level ts read low high none is =
    let e : level ≡ r + (level - r) = omega arith in
    let f : suc n ≡ suc ((n - level) + (r + (level - r))) = omega arith in
    ap (λ l. longest (suc n) l ts) e ∙ ap (λ m. longest m (r + (level - r)) ts) f
    ∙ descend (n - level) r (level - r) ts (λ l a b. none l a (omega arith))
    ∙ ap (λ x. climbed (λ l. (n - level) + l) r (level - r) x) is

-- the operator that stands first, if it is of the level or tighter
abbrev pub IsFirst : ℕ → List Token → Option (Unary × ℕ) → Type 0
IsFirst level ts found = (l : ℕ) → l ≤ level → unary_first l ts ≡ at_level l found

pub first_is : (own level : ℕ) (ts : List Token) (op : Unary) → own ≤ level → IsFirst level ts (Some (op, own)) → unary_first own ts ≡ Some op
first_is own level ts op h first = first own h ∙ at_own own op

pub first_else : (own level : ℕ) (ts : List Token) (op : Unary) → IsFirst level ts (Some (op, own)) → (l : ℕ) → own < l → l ≤ level → unary_first l ts ≡ None
first_else own level ts op first l a b = first l b ∙ at_else l own op (λ same. absurd (omega (arith, same)))

pub first_positive : (own : ℕ) (ts : List Token) (op : Unary) → unary_first own ts ≡ Some op → 1 ≤ own
first_positive own [] op h = absurd (cc h)
first_positive own (t ∷ ts) op h = unary_positive own t op h

pub from_enough : (n level a b r : ℕ) → 16 * a + 2 * level ≤ n → b < a → AreEnough (λ l. (n - level) + l) r level b
from_enough n level a b r h less l low high = omega arith
