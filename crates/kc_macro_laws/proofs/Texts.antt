-- Which calls and repetitions the lines ahead come from: those of one stand together.
use Rattle.std.proofs.Common.{◌≡◌, ℕ, ◌-◌, ◌<◌, Bool, true, false, ◌&&◌, cond, List, [], ◌∷◌, ◌++◌, map, Some, refl, sym, ◌∙◌, subst, arith}
use Rattle.std.specs.List.{list_all, list_any, filter}
use Rattle.std.proofs.lemmas.Bool.{and_parts, ltb-true, lt-ltb, or_parts}
use Rattle.kc_macro_input.specs.declared.piece.Mark.{Mark}
use Rattle.kc_macro_input.specs.declared.piece.Mark.TheVariants.{Call, Turns, If}
use Rattle.kc_macro_input.specs.declared.piece.Piece.{Piece}
use Rattle.kc_macro_input.specs.Pieces.{innermost, same_mark, comes_from, marked, left_out}
use Rattle.kc_macro_laws.specs.Course.{is_older}
use Rattle.kc_macro_laws.proofs.Simulation.{never_if}

-- ---- parts of a text

pub data Sub : List Piece → List Piece → Type 0 where
  NoneLeft : Sub [] []
  Keeps : (p : Piece) (qs ps : List Piece) → Sub qs ps → Sub (p ∷ qs) (p ∷ ps)
  Drops : (p : Piece) (qs ps : List Piece) → Sub qs ps → Sub qs (p ∷ ps)

pub sub_same : (ps : List Piece) → Sub ps ps
sub_same [] = NoneLeft
sub_same (p ∷ ps) = Keeps p ps ps (sub_same ps)

pub sub_none : (ps : List Piece) → Sub [] ps
sub_none [] = NoneLeft
sub_none (p ∷ ps) = Drops p [] ps (sub_none ps)

pub sub_append : (qs ps rest more : List Piece) → Sub qs ps → Sub rest more → Sub (qs ++ rest) (ps ++ more)
sub_append _ _ rest more NoneLeft k = k
sub_append _ _ rest more (Keeps p qs ps h) k = Keeps p (qs ++ rest) (ps ++ more) (sub_append qs ps rest more h k)
sub_append _ _ rest more (Drops p qs ps h) k = Drops p (qs ++ rest) (ps ++ more) (sub_append qs ps rest more h k)

pub sub_filter : (test : Piece → Bool) (ps : List Piece) → Sub (filter test ps) ps
sub_filter test [] = NoneLeft
sub_filter test (p ∷ ps) = elim (test p) as (λ b. Sub (cond b (p ∷ filter test ps) (filter test ps)) (p ∷ ps)) [
  | true ↦ Keeps p (filter test ps) ps (sub_filter test ps)
  | false ↦ Drops p (filter test ps) ps (sub_filter test ps)
]

pub sub_left : (m : Mark) (ps : List Piece) → Sub (left_out m ps) ps
unfolding left_out
sub_left m [] = NoneLeft
sub_left m (p ∷ ps) = elim (comes_from m p) as (λ b. Sub (cond b (left_out m ps) (p ∷ ps)) (p ∷ ps)) [
  | true ↦ Drops p (left_out m ps) ps (sub_left m ps)
  | false ↦ sub_same (p ∷ ps)
]

-- ---- older marks

abbrev pub is_old : ℕ → Piece → Bool
is_old left p = list_all (is_older left) p.from

abbrev pub IsOld : ℕ → List Piece → Type 0
IsOld left ps = list_all (λ p. list_all (is_older left) p.from) ps ≡ true

pub both_true : (a b : Bool) → a ≡ true → b ≡ true → (a && b) ≡ true
both_true a b h k = rw (h, k) refl

pub old_sub : (left : ℕ) (qs ps : List Piece) → Sub qs ps → IsOld left ps → IsOld left qs
old_sub left _ _ NoneLeft old = refl
old_sub left _ _ (Keeps p qs ps h) old = let both : (is_old left p ≡ true) × IsOld left ps = and_parts _ _ old in both_true _ _ both.0 (old_sub left qs ps h both.1)
old_sub left _ _ (Drops p qs ps h) old = old_sub left qs ps h (and_parts _ _ old).1

pub old_append : (left : ℕ) (ps qs : List Piece) → IsOld left ps → IsOld left qs → IsOld left (ps ++ qs)
old_append left [] qs h k = k
old_append left (p ∷ ps) qs h k = let both : (is_old left p ≡ true) × IsOld left ps = and_parts _ _ h in both_true _ _ both.0 (old_append left ps qs both.1 k)

older_less : (left : ℕ) (m : Mark) → is_older left m ≡ true → is_older (left - 1) m ≡ true
older_less left (Call n) h = let lt : left < n = ltb-true left n h in lt-ltb (left - 1) n (omega arith)
older_less left (Turns n) h = let lt : left < n = ltb-true left n h in lt-ltb (left - 1) n (omega arith)
older_less left If h = refl

marks_less : (left : ℕ) (xs : List Mark) → list_all (is_older left) xs ≡ true → list_all (is_older (left - 1)) xs ≡ true
marks_less left [] h = refl
marks_less left (m ∷ xs) h = let both : (is_older left m ≡ true) × (list_all (is_older left) xs ≡ true) = and_parts _ _ h in both_true _ _ (older_less left m both.0) (marks_less left xs both.1)

pub old_less : (left : ℕ) (ps : List Piece) → IsOld left ps → IsOld (left - 1) ps
old_less left [] h = refl
old_less left (p ∷ ps) h = let both : (is_old left p ≡ true) × IsOld left ps = and_parts _ _ h in both_true _ _ (marks_less left p.from both.0) (old_less left ps both.1)

-- ---- lines of one call or repetition stand together

abbrev pub ComesNone : Mark → List Piece → Type 0
ComesNone m ps = list_any (comes_from m) ps ≡ false

-- the lines in front that come from m are all that come from it
abbrev pub Runs : Mark → List Piece → Type 0
Runs m ps = ComesNone m (left_out m ps)

none_sub : (m : Mark) (qs ps : List Piece) → Sub qs ps → ComesNone m ps → ComesNone m qs
none_sub m _ _ NoneLeft h = refl
none_sub m _ _ (Keeps p qs ps k) h = let both : (comes_from m p ≡ false) × ComesNone m ps = or_parts _ _ h in rw (both.0, none_sub m qs ps k both.1) refl
none_sub m _ _ (Drops p qs ps k) h = none_sub m qs ps k (or_parts _ _ h).1

none_runs : (m : Mark) (ps : List Piece) → ComesNone m ps → Runs m ps
none_runs m ps h = none_sub m (left_out m ps) ps (sub_left m ps) h

-- by the first line
abbrev RunsFrom : Bool → Mark → Piece → List Piece → Type 0
RunsFrom true m p ps = Runs m ps
RunsFrom false m p ps = ComesNone m ps

runs_first : (m : Mark) (p : Piece) (ps : List Piece) (b : Bool) → comes_from m p ≡ b → Runs m (p ∷ ps) → RunsFrom b m p ps
unfolding left_out
runs_first m p ps true e h = rw e at h
runs_first m p ps false e h = (or_parts _ _ (rw e at h)).1

first_runs : (m : Mark) (p : Piece) (ps : List Piece) (b : Bool) → comes_from m p ≡ b → RunsFrom b m p ps → Runs m (p ∷ ps)
unfolding left_out
first_runs m p ps true e h = rw e h
first_runs m p ps false e h = rw e (rw (e, h) refl)

runs_sub : (m : Mark) (qs ps : List Piece) → Sub qs ps → Runs m ps → Runs m qs
unfolding left_out
runs_sub m _ _ NoneLeft h = refl
runs_sub m _ _ (Keeps p qs ps k) h = choice (comes_from m p) refl (λ g. runs_sub m qs ps k g)
  where
    choice : (b : Bool) → comes_from m p ≡ b → (Runs m ps → Runs m qs) → Runs m (p ∷ qs)
    choice true e later = first_runs m p qs true e (later (runs_first m p ps true e h))
    choice false e later = first_runs m p qs false e (none_sub m qs ps k (runs_first m p ps false e h))
runs_sub m _ _ (Drops p qs ps k) h = choice (comes_from m p) refl (λ g. runs_sub m qs ps k g)
  where
    choice : (b : Bool) → comes_from m p ≡ b → (Runs m ps → Runs m qs) → Runs m qs
    choice true e later = later (runs_first m p ps true e h)
    choice false e later = none_runs m qs (none_sub m qs ps k (runs_first m p ps false e h))

-- what comes from the innermost call or repetition of a line stands right behind it
abbrev pub Tidy : List Piece → Type 0
Tidy [] = Unit {0}
Tidy (p ∷ ps) = ((m : Mark) → innermost p.from ≡ Some m → Runs m ps) × Tidy ps

pub tidy_sub : (qs ps : List Piece) → Sub qs ps → Tidy ps → Tidy qs
tidy_sub _ _ NoneLeft t = tt
tidy_sub _ _ (Keeps p qs ps h) t = ((λ m e. runs_sub m qs ps h (t.0 m e)), tidy_sub qs ps h t.1)
tidy_sub _ _ (Drops p qs ps h) t = tidy_sub qs ps h t.1

-- ---- with the mark of an IF

not_if : (m : Mark) (xs : List Mark) → innermost xs ≡ Some m → same_mark m If ≡ false
not_if (Call n) xs e = refl
not_if (Turns n) xs e = refl
not_if If xs e = absurd (never_if xs e)

marked_comes : (m : Mark) (p : Piece) → same_mark m If ≡ false → comes_from m (marked If p) ≡ comes_from m p
marked_comes m p e = rw e refl

none_marked : (m : Mark) (ps rest : List Piece) → same_mark m If ≡ false → ComesNone m (ps ++ rest) → ComesNone m (map (marked If) ps ++ rest)
none_marked m [] rest e h = h
none_marked m (p ∷ ps) rest e h = let both : (comes_from m p ≡ false) × ComesNone m (ps ++ rest) = or_parts _ _ h in rw (e, both.0, none_marked m ps rest e both.1) refl

runs_marked : (m : Mark) (ps rest : List Piece) → same_mark m If ≡ false → Runs m (ps ++ rest) → Runs m (map (marked If) ps ++ rest)
runs_marked m [] rest e h = h
runs_marked m (p ∷ ps) rest e h = choice (comes_from m p) refl (λ g. runs_marked m ps rest e g)
  where
    choice : (b : Bool) → comes_from m p ≡ b → (Runs m (ps ++ rest) → Runs m (map (marked If) ps ++ rest)) → Runs m (map (marked If) (p ∷ ps) ++ rest)
    choice true f later = first_runs m (marked If p) (map (marked If) ps ++ rest) true (marked_comes m p e ∙ f) (later (runs_first m p (ps ++ rest) true f h))
    choice false f later = first_runs m (marked If p) (map (marked If) ps ++ rest) false (marked_comes m p e ∙ f) (none_marked m ps rest e (runs_first m p (ps ++ rest) false f h))

pub tidy_if : (ps rest : List Piece) → Tidy (ps ++ rest) → Tidy (map (marked If) ps ++ rest)
tidy_if [] rest h = h
tidy_if (p ∷ ps) rest h = ((λ m e. runs_marked m ps rest (not_if m p.from e) (h.0 m e)), tidy_if ps rest h.1)

pub old_if : (left : ℕ) (ps : List Piece) → IsOld left ps → IsOld left (map (marked If) ps)
old_if left [] h = refl
old_if left (p ∷ ps) h = let both : (is_old left p ≡ true) × IsOld left ps = and_parts _ _ h in both_true _ _ both.0 (old_if left ps both.1)

-- ---- with a new mark

-- the innermost mark is x, and the others are older
abbrev pub IsNew : Mark → ℕ → Piece → Type 0
IsNew x left p = (xs : List Mark) × ((p.from ≡ x ∷ xs) × (list_all (is_older left) xs ≡ true))

abbrev pub AllNew : Mark → ℕ → List Piece → Type 0
AllNew x left [] = Unit {0}
AllNew x left (p ∷ ps) = IsNew x left p × AllNew x left ps

pub new_append : (x : Mark) (left : ℕ) (ps qs : List Piece) → AllNew x left ps → AllNew x left qs → AllNew x left (ps ++ qs)
new_append x left [] qs h k = k
new_append x left (p ∷ ps) qs h k = (h.0, new_append x left ps qs h.1 k)

-- a mark of its own
pub record IsOwn (x : Mark) (left : ℕ) : Type 0 where
  pub own : same_mark x x ≡ true
  pub plain : (xs : List Mark) → innermost (x ∷ xs) ≡ Some x
  pub fresh : (m : Mark) → is_older left m ≡ true → same_mark x m ≡ false
  pub older : is_older (left - 1) x ≡ true

new_comes : (x : Mark) (left : ℕ) (p : Piece) → IsOwn x left → IsNew x left p → comes_from x p ≡ true
new_comes x left p own h = rw (h.1.0, own.own) refl

old_comes : (x : Mark) (left : ℕ) (xs : List Mark) → IsOwn x left → list_all (is_older left) xs ≡ true → list_any (same_mark x) xs ≡ false
old_comes x left [] own h = refl
old_comes x left (m ∷ xs) own h = let both : (is_older left m ≡ true) × (list_all (is_older left) xs ≡ true) = and_parts _ _ h in rw (own.fresh m both.0, old_comes x left xs own both.1) refl

pub old_none : (x : Mark) (left : ℕ) (ps : List Piece) → IsOwn x left → IsOld left ps → ComesNone x ps
old_none x left [] own h = refl
old_none x left (p ∷ ps) own h = let both : (is_old left p ≡ true) × IsOld left ps = and_parts _ _ h in rw (old_comes x left p.from own both.0, old_none x left ps own both.1) refl

new_runs : (x : Mark) (left : ℕ) (ps rest : List Piece) → IsOwn x left → AllNew x left ps → ComesNone x rest → Runs x (ps ++ rest)
new_runs x left [] rest own h none = none_runs x rest none
new_runs x left (p ∷ ps) rest own h none = first_runs x p (ps ++ rest) true (new_comes x left p own h.0) (new_runs x left ps rest own h.1 none)

pub tidy_new : (x : Mark) (left : ℕ) (ps rest : List Piece) → IsOwn x left → AllNew x left ps → IsOld left rest → Tidy rest → Tidy (ps ++ rest)
tidy_new x left [] rest own h old t = t
tidy_new x left (p ∷ ps) rest own h old t = (
  (λ m e. let is : innermost p.from ≡ Some x = rw (h.0.1.0) (own.plain h.0.0) in let same : x ≡ m = one x m (sym is ∙ e) in subst (λ k. Runs k (ps ++ rest)) same (new_runs x left ps rest own h.1 (old_none x left rest own old))),
  tidy_new x left ps rest own h.1 old t,
)
  where
    one : (k m : Mark) → Some k ≡ Some m → k ≡ m
    one k m e = cc

pub new_old : (x : Mark) (left : ℕ) (ps : List Piece) → IsOwn x left → AllNew x left ps → IsOld (left - 1) ps
new_old x left [] own h = refl
new_old x left (p ∷ ps) own h = both_true _ _ (rw (h.0.1.0) (both_true _ _ own.older (marks_less left h.0.0 h.0.1.1))) (new_old x left ps own h.1)
