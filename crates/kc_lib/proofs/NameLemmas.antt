-- The first name that is public in a second module.
use Rattle.std.proofs.Common.{◌≡◌, ℕ, suc, ◌+◌, ◌<◌, ◌≤◌, ◌⊎◌, inl, inr, Bool, true, false, List, [], ◌∷◌, ◌++◌, length, get_or, take, drop, Option, Some, None, refl, sym, ap, subst, ◌∙◌, append_assoc, append-nil, arith}
use Rattle.std.specs.Prelude.{slice_get, if◌then◌else◌}
use Rattle.std.specs.List.{list_any}
use Rattle.std.specs.Option.{option_or}
use Rattle.std.specs.Str.{bytes_eq}
use Rattle.std.specs.Cmp.Lexicographic.{bytes_decides}
use Rattle.std.proofs.lemmas.Bool.{or_cases, both_ways}
use Rattle.std.proofs.lemmas.List.{drop_more, take_more, drop_all}
use Rattle.std.proofs.lemmas.Option.{slice_get_within}
use Rattle.kc_obj_module.specs.declared.parts.Given.{Given}
use Rattle.kc_obj_module.specs.Object.{Object}
use Rattle.kc_lib.specs.Names.{gives, is_given, GivenOnce, second_of, doubled_behind, doubled, IsFirstDouble}
use Rattle.kc_lib.proofs.Places.{found, any_at, get_left, get_seam, get_push}

-- ---- the publics of one module

-- none of them is given before
second_none : (before : List Object) (gs : List Given) (name : List ℕ) → second_of before gs ≡ None → list_any (λ g. bytes_eq g.name name) gs ≡ true → is_given before name ≡ false
second_none before [] name h e = absurd (cc e)
second_none before (g ∷ gs) name h e = by (is_given before g.name) refl h (second_none before gs name) (or_cases (bytes_eq g.name name) (list_any (λ g. bytes_eq g.name name) gs) e)
  where
    by : (b : Bool) → is_given before g.name ≡ b → (if b then Some g.name else second_of before gs) ≡ None
        → (second_of before gs ≡ None → list_any (λ g. bytes_eq g.name name) gs ≡ true → is_given before name ≡ false)
        → (bytes_eq g.name name ≡ true) ⊎ (list_any (λ g. bytes_eq g.name name) gs ≡ true) → is_given before name ≡ false
    by true i n rest c = absurd (cc n)
    by false i n rest (inl c) = let same : g.name ≡ name = (bytes_decides g.name name).0 c in subst (λ (q : List ℕ). is_given before q ≡ false) same i
    by false i n rest (inr c) = rest n c

second_of_none : (before : List Object) (gs : List Given) → ((i : ℕ) (g : Given) → slice_get gs i ≡ Some g → is_given before g.name ≡ false) → second_of before gs ≡ None
second_of_none before [] h = refl
second_of_none before (g ∷ gs) h = rw (h 0 g refl) (second_of_none before gs (λ i. h (suc i)))

record Second (before : List Object) (gs : List Given) (name : List ℕ) : Type 0 where
  pub passed : List Given
  pub given : Given
  pub others : List Given
  pub is : gs ≡ passed ++ given ∷ others
  pub is_name : given.name ≡ name
  pub is_second : is_given before name ≡ true
  pub none_before : list_any (λ g. is_given before g.name) passed ≡ false

second_some : (before : List Object) (gs : List Given) (name : List ℕ) → second_of before gs ≡ Some name → Second before gs name
second_some before [] name h = absurd (cc h)
second_some before (g ∷ gs) name h = by (is_given before g.name) refl h (second_some before gs name)
  where
    by : (b : Bool) → is_given before g.name ≡ b → (if b then Some g.name else second_of before gs) ≡ Some name → (second_of before gs ≡ Some name → Second before gs name) → Second before (g ∷ gs) name
    by true i e rest =
        let same : g.name ≡ name = cc e in
        record { passed = []; given = g; others = gs; is = refl; is_name = same; is_second = subst (λ (q : List ℕ). is_given before q ≡ true) same i; none_before = refl }
    by false i e rest =
        let s = rest e in
        record { passed = g ∷ s.passed; given = s.given; others = s.others; is = ap (λ (l : List Given). g ∷ l) s.is; is_name = s.is_name; is_second = s.is_second; none_before = rw i s.none_before }

-- ---- one module more

once_more : (before : List Object) (m : Object) → GivenOnce before → second_of before m.publics ≡ None → GivenOnce (before ++ m ∷ [])
once_more before m once none i j x y name hi hj gx gy =
    let quiet : gives name m ≡ true → is_given before name ≡ false = λ e. second_none before m.publics name none e in
    elim (get_push before m i x hi) [
      | inl a ↦ elim (get_push before m j y hj) [
        | inl b ↦ once i j x y name a b gx gy
        | inr b ↦ absurd (both_ways (is_given before name) (quiet (subst (λ (z : Object). gives name z ≡ true) (sym b.1) gy)) (any_at (gives name) before i x a gx))
      ]
      | inr a ↦ elim (get_push before m j y hj) [
        | inl b ↦ absurd (both_ways (is_given before name) (quiet (subst (λ (z : Object). gives name z ≡ true) (sym a.1) gx)) (any_at (gives name) before j y b gy))
        | inr b ↦ a.0 ∙ sym b.0
      ]
    ]

seam : (before : List Object) (m : Object) (ms : List Object) → (before ++ m ∷ []) ++ ms ≡ before ++ m ∷ ms
seam before m ms = append_assoc before (m ∷ []) ms

-- what an `option_or` came from
or_none : {A : Type 0} (a b : Option A) → option_or a b ≡ None → (a ≡ None) × (b ≡ None)
or_none None b h = (refl, h)
or_none (Some x) b h = absurd (cc h)

once_all : (ms before : List Object) → GivenOnce before → doubled_behind before ms ≡ None → GivenOnce (before ++ ms)
unfolding doubled_behind
once_all [] before once h = subst GivenOnce (sym (append-nil before)) once
once_all (m ∷ ms) before once h =
    let both = or_none (second_of before m.publics) (doubled_behind (before ++ m ∷ []) ms) h in
    subst GivenOnce (seam before m ms) (once_all ms (before ++ m ∷ []) (once_more before m once both.0) both.1)

once_nothing : GivenOnce []
once_nothing i j m n name hi hj gm gn = absurd (cc hi)

pub once_from_none : (ms : List Object) → doubled ms ≡ None → GivenOnce ms
once_from_none ms h = once_all ms [] once_nothing h

none_behind : (ms before : List Object) → GivenOnce (before ++ ms) → doubled_behind before ms ≡ None
unfolding doubled_behind
none_behind [] before once = refl
none_behind (m ∷ ms) before once =
    let none : second_of before m.publics ≡ None = second_of_none before m.publics (λ i g h. quiet i g h (is_given before g.name) refl) in
    rw none (none_behind ms (before ++ m ∷ []) (subst GivenOnce (sym (seam before m ms)) once))
  where
    quiet : (i : ℕ) (g : Given) → slice_get m.publics i ≡ Some g → (b : Bool) → is_given before g.name ≡ b → b ≡ false
    quiet i g h true e =
        let f = found (gives g.name) before e in
        let here : gives g.name m ≡ true = any_at (λ x. bytes_eq x.name g.name) m.publics i g h ((bytes_decides g.name g.name).1 refl) in
        let same : f.at ≡ length before = once f.at (length before) f.x m g.name (get_left before (m ∷ ms) f.at f.x f.is_there) (get_seam before ms m) f.passes here in
        let within : f.at < length before = slice_get_within before f.at f.x f.is_there in
        absurd (omega (arith, same, within))
    quiet i g h false e = refl

pub none_from_once : (ms : List Object) → GivenOnce ms → doubled ms ≡ None
none_from_once ms once = none_behind ms [] once

reported_behind : (ms before : List Object) (name : List ℕ) → GivenOnce before → doubled_behind before ms ≡ Some name → IsFirstDouble (before ++ ms) name
unfolding doubled_behind
reported_behind [] before name once h = absurd (cc h)
reported_behind (m ∷ ms) before name once h = by (second_of before m.publics) refl h (reported_behind ms (before ++ m ∷ []) name)
  where
    by : (o : Option (List ℕ)) → second_of before m.publics ≡ o → option_or o (doubled_behind (before ++ m ∷ []) ms) ≡ Some name
        → (GivenOnce (before ++ m ∷ []) → doubled_behind (before ++ m ∷ []) ms ≡ Some name → IsFirstDouble ((before ++ m ∷ []) ++ ms) name) → IsFirstDouble (before ++ m ∷ ms) name
    by None e k rest = subst (λ (l : List Object). IsFirstDouble l name) (seam before m ms) (rest (once_more before m once e) k)
    by (Some n) e k rest =
        let s = second_some before m.publics name (e ∙ k) in
        record {
          before = before;
          m = m;
          behind = ms;
          modules = refl;
          passed = s.passed;
          given = s.given;
          others = s.others;
          publics = s.is;
          is_name = s.is_name;
          is_second = s.is_second;
          no_module_before = once;
          no_public_before = s.none_before;
        }

pub reported_first : (ms : List Object) (name : List ℕ) → doubled ms ≡ Some name → IsFirstDouble ms name
reported_first ms name h = reported_behind ms [] name once_nothing h

-- ---- the code's steps

step_none : (before : List Object) (m : Object) (ms : List Object) → second_of before m.publics ≡ None → doubled_behind before (m ∷ ms) ≡ doubled_behind (before ++ m ∷ []) ms
unfolding doubled_behind
step_none before m ms none = rw none refl

step_some : (before : List Object) (m : Object) (ms : List Object) (name : List ℕ) → second_of before m.publics ≡ Some name → doubled_behind before (m ∷ ms) ≡ Some name
unfolding doubled_behind
step_some before m ms name some = rw some refl

-- the module at a number, and those behind it
rest_is : (ms : List Object) (n : ℕ) (m : Object) → n < length ms → m ≡ get_or ms n m → drop n ms ≡ m ∷ drop (n + 1) ms
rest_is ms n m l e = drop_more ms n m l ∙ ap (λ x. x ∷ drop (n + 1) ms) (sym e)

pub doubled_step : (ms : List Object) (n : ℕ) (m : Object) → n < length ms → m ≡ get_or ms n m → second_of (take n ms) m.publics ≡ None
    → doubled_behind (take n ms) (drop n ms) ≡ doubled_behind (take (n + 1) ms) (drop (n + 1) ms)
doubled_step ms n m l e none =
    let prefix : take n ms ++ m ∷ [] ≡ take (n + 1) ms = ap (λ x. take n ms ++ x ∷ []) e ∙ sym (take_more ms n m l) in
    ap (λ (r : List Object). doubled_behind (take n ms) r) (rest_is ms n m l e)
    ∙ (step_none (take n ms) m (drop (n + 1) ms) none ∙ ap (λ (b : List Object). doubled_behind b (drop (n + 1) ms)) prefix)

pub doubled_stop : (ms : List Object) (n : ℕ) (m : Object) (name : List ℕ) → n < length ms → m ≡ get_or ms n m → second_of (take n ms) m.publics ≡ Some name
    → doubled_behind (take n ms) (drop n ms) ≡ Some name
doubled_stop ms n m name l e here =
    ap (λ (r : List Object). doubled_behind (take n ms) r) (rest_is ms n m l e) ∙ step_some (take n ms) m (drop (n + 1) ms) name here

pub doubled_end : (before ms : List Object) (n : ℕ) → length ms ≤ n → doubled_behind before (drop n ms) ≡ None
unfolding doubled_behind
doubled_end before ms n l = ap (λ (r : List Object). doubled_behind before r) (drop_all n ms l)
