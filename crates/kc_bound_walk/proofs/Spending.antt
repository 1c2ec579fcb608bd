-- What steps spend, by address and number of states.
use Rattle.std.proofs.Common.{◌≡◌, ℕ, zero, suc, Bool, true, false, ◌+◌, ◌*◌, ◌==◌, ◌&&◌, ◌||◌, ◌<◌, length, cond, List, [], ◌∷◌, ◌++◌, map, refl, sym, ap, ◌∙◌, subst, arith}
use Rattle.std.proofs.lemmas.List.{map-append, append-nil}
use Rattle.std.proofs.lemmas.Bool.{and_parts, eqb-true, eqb-false, eq-eqb, ne_eqb}
use Rattle.std.specs.List.{list_any}
use Rattle.std.specs.Prelude.{slice_index_or, slice_set}
use Rattle.kc_bound_walk.specs.declared.lines.Spent.{Spent}
use Rattle.kc_bound_walk.specs.Walks.{Step, is_alike, with_spent, with_all, spent_by, spent_in}
use Rattle.kc_bound_walk.specs.Parts.{times_more}
use Rattle.kc_bound_walk.proofs.Leading.{copies}

-- ---- lines that are alike: of one address and number of states

-- whether there is a line that is alike
abbrev has : List Spent → Spent → Bool
has lines s = list_any (λ l. is_alike l s) lines

same-parts : (a b c d : ℕ) → ((a == b) && (c == d)) ≡ true → (a ≡ b) × (c ≡ d)
same-parts a b c d e = let both = and_parts (a == b) (c == d) e in (eqb-true a b both.0, eqb-true c d both.1)

-- lines that are alike are alike to the same ones
alike-before : (l s t : Spent) → is_alike s t ≡ true → is_alike l s ≡ is_alike l t
alike-before l s t e = let both = same-parts s.at t.at s.states t.states e in ap (λ a. (l.at == a) && (l.states == s.states)) both.0 ∙ ap (λ n. (l.at == t.at) && (l.states == n)) both.1

same-turned : (a b : ℕ) → (a == b) ≡ (b == a)
same-turned a b = (elim (a == b) as (λ c. (a == b) ≡ c → (a == b) ≡ (b == a)) [ true ↦ λ e. e ∙ sym (eq-eqb b a (sym (eqb-true a b e))) | false ↦ λ e. e ∙ sym (ne_eqb b a (λ f. eqb-false a b e (sym f))) ]) refl

alike-turned : (s t : Spent) → is_alike s t ≡ is_alike t s
alike-turned s t = ap (λ b. b && (s.states == t.states)) (same-turned s.at t.at) ∙ ap (λ b. (t.at == s.at) && b) (same-turned s.states t.states)

same-one : (a : ℕ) → (a == a) ≡ true
same-one a = eq-eqb a a refl

alike-one : (s : Spent) → is_alike s s ≡ true
alike-one s = ap (λ b. b && (s.states == s.states)) (same-one s.at) ∙ same-one s.states

-- ---- one more

put-alike : (l s : Spent) (lines : List Spent) → is_alike l s ≡ true → with_spent (l ∷ lines) s ≡ record l { times = l.times + s.times } ∷ lines
unfolding with_spent
put-alike l s lines e = ap (λ b. cond b (record l { times = l.times + s.times } ∷ lines) (l ∷ with_spent lines s)) e

put-other : (l s : Spent) (lines : List Spent) → is_alike l s ≡ false → with_spent (l ∷ lines) s ≡ l ∷ with_spent lines s
unfolding with_spent
put-other l s lines e = ap (λ b. cond b (record l { times = l.times + s.times } ∷ lines) (l ∷ with_spent lines s)) e

put-first : (s : Spent) → with_spent [] s ≡ s ∷ []
unfolding with_spent
put-first s = refl

-- by whether two lines are alike
by-alike : (l s : Spent) (P : Type 0) → (is_alike l s ≡ true → P) → (is_alike l s ≡ false → P) → P
by-alike l s P alike other = (elim (is_alike l s) as (λ b. is_alike l s ≡ b → P) [ true ↦ alike | false ↦ other ]) refl

has-rest : (l s : Spent) (lines : List Spent) → has (l ∷ lines) s ≡ true → is_alike l s ≡ false → has lines s ≡ true
has-rest l s lines h e = ap (λ b. b || has lines s) (sym e) ∙ h

-- one and another, where there is a line for the other
commute : (lines : List Spent) (m s : Spent) → has lines s ≡ true → with_spent (with_spent lines m) s ≡ with_spent (with_spent lines s) m
commute [] m s h = absurd (cc h)
commute (l ∷ lines) m s h =
    by-alike l m (with_spent (with_spent (l ∷ lines) m) s ≡ with_spent (with_spent (l ∷ lines) s) m)
    (λ e. by-alike l s (with_spent (with_spent (l ∷ lines) m) s ≡ with_spent (with_spent (l ∷ lines) s) m)
    (λ f. ap (λ ls. with_spent ls s) (put-alike l m lines e) ∙ put-alike (record l { times = l.times + m.times }) s lines f
    ∙ ap (λ n. record l { times = n } ∷ lines) (sum-turned l.times m.times s.times)
    ∙ sym (ap (λ ls. with_spent ls m) (put-alike l s lines f) ∙ put-alike (record l { times = l.times + s.times }) m lines e))
    (λ f. ap (λ ls. with_spent ls s) (put-alike l m lines e) ∙ put-other (record l { times = l.times + m.times }) s lines f
    ∙ sym (ap (λ ls. with_spent ls m) (put-other l s lines f) ∙ put-alike l m (with_spent lines s) e)))
    (λ e. by-alike l s (with_spent (with_spent (l ∷ lines) m) s ≡ with_spent (with_spent (l ∷ lines) s) m)
    (λ f. ap (λ ls. with_spent ls s) (put-other l m lines e) ∙ put-alike l s (with_spent lines m) f
    ∙ sym (ap (λ ls. with_spent ls m) (put-alike l s lines f) ∙ put-other (record l { times = l.times + s.times }) m lines e))
    (λ f. ap (λ ls. with_spent ls s) (put-other l m lines e) ∙ put-other l s (with_spent lines m) f
    ∙ ap (λ ls. l ∷ ls) (commute lines m s (has-rest l s lines h f))
    ∙ sym (ap (λ ls. with_spent ls m) (put-other l s lines f) ∙ put-other l m (with_spent lines s) e)))
  where
    sum-turned : (a b c : ℕ) → a + b + c ≡ a + c + b
    sum-turned a b c = omega arith

-- a line stays, and one that is put is there
has-kept : (lines : List Spent) (m s : Spent) → has lines s ≡ true → has (with_spent lines m) s ≡ true
has-kept [] m s h = absurd (cc h)
has-kept (l ∷ lines) m s h =
    by-alike l m (has (with_spent (l ∷ lines) m) s ≡ true)
    (λ e. ap (λ ls. has ls s) (put-alike l m lines e) ∙ h)
    (λ e. ap (λ ls. has ls s) (put-other l m lines e) ∙ by-alike l s (has (l ∷ with_spent lines m) s ≡ true)
    (λ f. ap (λ b. b || has (with_spent lines m) s) f)
    (λ f. ap (λ b. b || has (with_spent lines m) s) f ∙ has-kept lines m s (has-rest l s lines h f)))

has-new : (lines : List Spent) (m s : Spent) → is_alike m s ≡ true → has (with_spent lines m) s ≡ true
has-new [] m s same = ap (λ ls. has ls s) (put-first m) ∙ ap (λ b. b || false) same
has-new (l ∷ lines) m s same =
    by-alike l m (has (with_spent (l ∷ lines) m) s ≡ true)
    (λ e. ap (λ ls. has ls s) (put-alike l m lines e) ∙ ap (λ b. b || has lines s) (sym (alike-before l m s same) ∙ e))
    (λ e. ap (λ ls. has ls s) (put-other l m lines e) ∙ ap (λ b. b || has (with_spent lines m) s) (sym (alike-before l m s same) ∙ e) ∙ has-new lines m s same)

-- one and then one that is alike
put-again : (lines : List Spent) (m s : Spent) → is_alike m s ≡ true → with_spent (with_spent lines m) s ≡ with_spent lines (record m { times = m.times + s.times })
put-again [] m s same = ap (λ ls. with_spent ls s) (put-first m) ∙ put-alike m s [] same ∙ sym (put-first (record m { times = m.times + s.times }))
put-again (l ∷ lines) m s same =
    by-alike l m (with_spent (with_spent (l ∷ lines) m) s ≡ with_spent (l ∷ lines) (record m { times = m.times + s.times }))
    (λ e. ap (λ ls. with_spent ls s) (put-alike l m lines e) ∙ put-alike (record l { times = l.times + m.times }) s lines (sym (alike-before l m s same) ∙ e)
    ∙ ap (λ n. record l { times = n } ∷ lines) (sum-joined l.times m.times s.times)
    ∙ sym (put-alike l (record m { times = m.times + s.times }) lines e))
    (λ e. ap (λ ls. with_spent ls s) (put-other l m lines e) ∙ put-other l s (with_spent lines m) (sym (alike-before l m s same) ∙ e)
    ∙ ap (λ ls. l ∷ ls) (put-again lines m s same)
    ∙ sym (put-other l (record m { times = m.times + s.times }) lines e))
  where
    sum-joined : (a b c : ℕ) → a + b + c ≡ a + (b + c)
    sum-joined a b c = omega arith

-- ---- all of some lines

pub all-none : (lines : List Spent) → with_all lines [] ≡ lines
unfolding with_all
all-none lines = refl

all-more : (lines : List Spent) (s : Spent) (others : List Spent) → with_all lines (s ∷ others) ≡ with_all (with_spent lines s) others
unfolding with_all
all-more lines s others = refl

through : (lines others : List Spent) (s : Spent) → has lines s ≡ true → with_spent (with_all lines others) s ≡ with_all (with_spent lines s) others
unfolding with_all
through lines [] s h = refl
through lines (m ∷ others) s h = through (with_spent lines m) others s (has-kept lines m s h) ∙ ap (λ ls. with_all ls others) (commute lines m s h)

all-put : (lines others : List Spent) (s : Spent) → with_all lines (with_spent others s) ≡ with_spent (with_all lines others) s
all-put lines [] s = ap (with_all lines) (put-first s) ∙ all-more lines s [] ∙ all-none (with_spent lines s) ∙ sym (ap (λ ls. with_spent ls s) (all-none lines))
all-put lines (m ∷ others) s =
    by-alike m s (with_all lines (with_spent (m ∷ others) s) ≡ with_spent (with_all lines (m ∷ others)) s)
    (λ e. ap (with_all lines) (put-alike m s others e) ∙ all-more lines (record m { times = m.times + s.times }) others
    ∙ ap (λ ls. with_all ls others) (sym (put-again lines m s e))
    ∙ sym (through (with_spent lines m) others s (has-new lines m s e))
    ∙ ap (λ ls. with_spent ls s) (sym (all-more lines m others)))
    (λ e. ap (with_all lines) (put-other m s others e) ∙ all-more lines m (with_spent others s)
    ∙ all-put (with_spent lines m) others s
    ∙ ap (λ ls. with_spent ls s) (sym (all-more lines m others)))

all-all : (lines others rest : List Spent) → with_all lines (with_all others rest) ≡ with_all (with_all lines others) rest
unfolding with_all
all-all lines others [] = refl
all-all lines others (s ∷ rest) = all-all lines (with_spent others s) rest ∙ ap (λ ls. with_all ls rest) (all-put lines others s)

all-append : (lines xs ys : List Spent) → with_all lines (xs ++ ys) ≡ with_all (with_all lines xs) ys
unfolding with_all
all-append lines [] ys = refl
all-append lines (x ∷ xs) ys = all-append (with_spent lines x) xs ys

-- ---- steps behind steps

pub spent_joined : (xs ys : List Step) → spent_in (xs ++ ys) ≡ with_all (spent_in xs) (spent_in ys)
spent_joined xs ys =
    ap (with_all []) (map-append spent_by xs ys) ∙ all-append [] (map spent_by xs) (map spent_by ys)
    ∙ sym (all-all (spent_in xs) [] (map spent_by ys) ∙ ap (λ ls. with_all ls (map spent_by ys)) (all-none (spent_in xs)))

pub spent_step : (xs : List Step) (s : Step) → spent_in (xs ++ s ∷ []) ≡ with_spent (spent_in xs) (spent_by s)
spent_step xs s =
    ap (with_all []) (map-append spent_by xs (s ∷ [])) ∙ all-append [] (map spent_by xs) (spent_by s ∷ [])
    ∙ all-more (spent_in xs) (spent_by s) [] ∙ all-none (with_spent (spent_in xs) (spent_by s))

-- ---- the same steps so many times

abbrev Apart : List Spent → Type 0
Apart [] = Unit {0}
Apart (l ∷ lines) = (has lines l ≡ false) × Apart lines

or-parts : (a b : Bool) → (a || b) ≡ false → (a ≡ false) × (b ≡ false)
or-parts true b e = absurd (cc e)
or-parts false b e = (refl, e)

has-none : (lines : List Spent) (s h : Spent) → has lines h ≡ false → is_alike s h ≡ false → has (with_spent lines s) h ≡ false
has-none [] s h none other = ap (λ ls. has ls h) (put-first s) ∙ ap (λ b. b || false) other
has-none (l ∷ lines) s h none other =
    by-alike l s (has (with_spent (l ∷ lines) s) h ≡ false)
    (λ e. ap (λ ls. has ls h) (put-alike l s lines e) ∙ none)
    (λ e. let both = or-parts (is_alike l h) (has lines h) none in
    ap (λ ls. has ls h) (put-other l s lines e) ∙ ap (λ b. b || has (with_spent lines s) h) both.0 ∙ has-none lines s h both.1 other)

apart-put : (lines : List Spent) (s : Spent) → Apart lines → Apart (with_spent lines s)
apart-put [] s apart = subst Apart (sym (put-first s)) (refl, tt)
apart-put (l ∷ lines) s apart =
    by-alike l s (Apart (with_spent (l ∷ lines) s))
    (λ e. subst Apart (sym (put-alike l s lines e)) (apart.0, apart.1))
    (λ e. subst Apart (sym (put-other l s lines e)) (has-none lines s l apart.0 (alike-turned s l ∙ e), apart-put lines s apart.1))

apart-all : (lines others : List Spent) → Apart lines → Apart (with_all lines others)
unfolding with_all
apart-all lines [] apart = apart
apart-all lines (s ∷ others) apart = apart-all (with_spent lines s) others (apart-put lines s apart)

-- lines pass over one to which none is alike
pass-over : (n : ℕ) (h : Spent) (lines others : List Spent) → has others h ≡ false → with_all (h ∷ lines) (map (times_more n) others) ≡ h ∷ with_all lines (map (times_more n) others)
unfolding with_all
pass-over n h lines [] none = refl
pass-over n h lines (u ∷ others) none =
    let both = or-parts (is_alike u h) (has others h) none in
    ap (λ ls. with_all ls (map (times_more n) others)) (put-other h (times_more n u) lines (alike-turned h u ∙ both.0))
    ∙ pass-over n h (with_spent lines (times_more n u)) others both.1

once-more : (n : ℕ) (lines : List Spent) → Apart lines → with_all lines (map (times_more n) lines) ≡ map (times_more (suc n)) lines
unfolding with_all
once-more n [] apart = refl
once-more n (l ∷ lines) apart =
    ap (λ ls. with_all ls (map (times_more n) lines)) (put-alike l (times_more n l) lines (alike-one l))
    ∙ pass-over n (record l { times = l.times + n * l.times }) lines lines apart.0
    ∙ ap (λ k. record l { times = k } ∷ with_all lines (map (times_more n) lines)) (one-more n l.times)
    ∙ ap (λ ls. times_more (suc n) l ∷ ls) (once-more n lines apart.1)
  where
    one-more : (n k : ℕ) → k + n * k ≡ suc n * k
    one-more n k = omega arith

just-once : (lines : List Spent) → map (times_more 1) lines ≡ lines
just-once [] = refl
just-once (l ∷ lines) = ap (λ k. record l { times = k } ∷ map (times_more 1) lines) (one l.times) ∙ ap (λ ls. l ∷ ls) (just-once lines)
  where
    one : (k : ℕ) → 1 * k ≡ k
    one k = omega arith

pub spent_copies : (n : ℕ) (steps : List Step) → spent_in (copies (suc n) steps) ≡ map (times_more (suc n)) (spent_in steps)
unfolding copies
spent_copies zero steps = ap spent_in (append-nil steps) ∙ sym (just-once (spent_in steps))
spent_copies (suc n) steps =
    spent_joined steps (copies (suc n) steps) ∙ ap (with_all (spent_in steps)) (spent_copies n steps)
    ∙ once-more (suc n) (spent_in steps) (apart-all [] (map spent_by steps) tt)

-- ---- one more line, by its place

pub put_found : (lines : List Spent) (s l : Spent) (k : ℕ) → k < length lines → slice_index_or lines k l ≡ l
    → ((j : ℕ) (d : Spent) → j < k → is_alike (slice_index_or lines j d) s ≡ false) → is_alike l s ≡ true
    → with_spent lines s ≡ slice_set lines k (record l { times = l.times + s.times })
put_found [] s l k within is others same = absurd (omega (arith, within))
put_found (x ∷ lines) s l zero within is others same =
    put-alike x s lines (ap (λ y. is_alike y s) is ∙ same) ∙ ap (λ (y : Spent). record y { times = y.times + s.times } ∷ lines) is
put_found (x ∷ lines) s l (suc k) within is others same =
    put-other x s lines (others 0 s (omega arith))
    ∙ ap (λ ls. x ∷ ls) (put_found lines s l k (omega (arith, within)) is (λ j d less. others (suc j) d (omega (arith, less))) same)

pub put_new : (lines : List Spent) (s : Spent) → ((j : ℕ) (d : Spent) → j < length lines → is_alike (slice_index_or lines j d) s ≡ false) → with_spent lines s ≡ lines ++ s ∷ []
put_new [] s others = put-first s
put_new (x ∷ lines) s others = put-other x s lines (others 0 s (omega arith)) ∙ ap (λ ls. x ∷ ls) (put_new lines s (λ j d less. others (suc j) d (omega (arith, less))))
