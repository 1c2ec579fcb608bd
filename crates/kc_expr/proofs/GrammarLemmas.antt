-- One step of reading an expression, from what its parts gave.
use Rattle.std.proofs.Common.{◌≡◌, ℕ, zero, suc, ◌+◌, ◌-◌, ◌≤◌, true, false, List, [], ◌∷◌, drop, Some, None, Result, Ok, Err, refl, sym, ap, ◌∙◌, drop-drop, arith}
use Rattle.std.specs.Prelude.{IfOk, option_and_then}
use Rattle.std.specs.Option.{option_map}
use Rattle.kc_lex.specs.declared.token.Token.{Token}
use Rattle.kc_lex.specs.Kinds.{begins_sign}
use Rattle.kc_expr.specs.declared.expr.Unary.{Unary}
use Rattle.kc_expr.specs.declared.expr.Binary.{Binary}
use Rattle.kc_expr.specs.Tree.{Tree, One, Two}
use Rattle.kc_expr.specs.Grammar.{Reading, unary_first, binary_first, grouped, alone, past_suffix, longest, extended}

pub if_ok : {A E : Type 0} (r : Result A E) (P Q : A → Type 0) → ((x : A) → P x → Q x) → IfOk r P → IfOk r Q
if_ok (Ok x) P Q f p = f x p
if_ok (Err e) P Q f p = tt

-- ---- one step fewer

pub before : (n level : ℕ) (ts : List Token) (r : Reading) → 1 ≤ n → longest (suc (n - 1)) level ts ≡ r → longest n level ts ≡ r
before n level ts r h e = let same : n ≡ suc (n - 1) = omega arith in ap (λ m. longest m level ts) same ∙ e

pub before_tail : (n level at : ℕ) (tokens : List Token) (r : Reading) → 1 ≤ n → longest (suc (n - 1)) level (drop (at + 1) tokens) ≡ r → longest n level (drop 1 (drop at tokens)) ≡ r
before_tail n level at tokens r h e = ap (longest n level) (drop-drop 1 at tokens) ∙ before n level (drop (at + 1) tokens) r h e

pub before_extended : (n level : ℕ) (left : Tree) (ts : List Token) (r : Reading) → 1 ≤ n → extended (suc (n - 1)) level left ts ≡ r → extended n level left ts ≡ r
before_extended n level left ts r h e = let same : n ≡ suc (n - 1) = omega arith in ap (λ m. extended m level left ts) same ∙ e

-- ---- operators to the right

pub stops : (n level : ℕ) (left : Tree) (ts : List Token) → binary_first level ts ≡ None → extended (suc n) level left ts ≡ Some (left, ts)
unfolding extended
stops n level left ts none = rw none refl

pub no_right : (n level : ℕ) (left : Tree) (ts : List Token) (op : Binary) → binary_first level ts ≡ Some op → longest n (level - 1) (drop 1 ts) ≡ None → extended (suc n) level left ts ≡ Some (left, ts)
unfolding extended
no_right n level left ts op some none = rw (some, none) refl

pub goes_on : (n level : ℕ) (left right : Tree) (ts us : List Token) (op : Binary) → binary_first level ts ≡ Some op → longest n (level - 1) (drop 1 ts) ≡ Some (right, us) → extended (suc n) level left ts ≡ extended n level (Two op left right) us
unfolding extended
goes_on n level left right ts us op some read = rw (some, read) refl

-- ---- a level

pub plain_level : (n level : ℕ) (ts : List Token) (r : Reading) → 1 ≤ level → unary_first level ts ≡ None → longest n (level - 1) ts ≡ r → longest (suc n) level ts ≡ option_and_then (λ p. extended n level p.0 p.1) r
unfolding longest
plain_level n zero ts r h none read = absurd (omega arith)
plain_level n (suc l) ts r h none read =
    let same : l ≡ suc l - 1 = omega arith in
    rw none (ap (λ k. option_and_then (λ p. extended n (suc l) p.0 p.1) (longest n k ts)) same ∙ ap (option_and_then (λ p. extended n (suc l) p.0 p.1)) read)

pub op_level : (n level : ℕ) (ts : List Token) (op : Unary) (r : Reading) → 1 ≤ level → unary_first level ts ≡ Some op → longest n level (drop 1 ts) ≡ r → longest (suc n) level ts ≡ option_map (λ p. (One op p.0, p.1)) r
unfolding longest
op_level n zero ts op r h some read = absurd (omega arith)
op_level n (suc l) ts op r h some read = rw (some, read) refl

-- ---- a primary

pub at_end : (n : ℕ) (ts : List Token) → ts ≡ [] → longest (suc n) 0 ts ≡ None
unfolding longest
at_end n ts h = rw h refl

pub group : (n : ℕ) (ts : List Token) (r : Reading) → begins_sign 40 ts ≡ true → longest n 7 (drop 1 ts) ≡ r → longest (suc n) 0 ts ≡ grouped r
unfolding longest
group n [] r opens read = absurd cc
group n (t ∷ ts) r opens read = rw (opens, read) refl

pub one_token : (n : ℕ) (ts us : List Token) (t : Token) → begins_sign 40 ts ≡ false → ts ≡ t ∷ us → longest (suc n) 0 ts ≡ option_map (λ e. (e, past_suffix us)) (alone t)
unfolding longest
one_token n ts us t opens is =
    let other : begins_sign 40 (t ∷ us) ≡ false = ap (begins_sign 40) (sym is) ∙ opens in
    rw (is, other) refl
