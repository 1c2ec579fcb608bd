-- The search for the members that modules need.
use Rattle.std.proofs.Common.{◌≡◌, ℕ, zero, suc, ◌+◌, ◌<◌, ◌≤◌, ◌⊎◌, inl, inr, Bool, true, false, ◌||◌, List, [], ◌∷◌, ◌++◌, length, get_or, set, drop, replicate, Option, Some, None, refl, sym, ap, subst, ◌∙◌, arith}
use Rattle.std.specs.Prelude.{slice_get, if◌then◌else◌, nat_lt}
use Rattle.std.specs.List.{list_any, position_or_len}
use Rattle.std.specs.Str.{bytes_eq}
use Rattle.std.specs.Cmp.Lexicographic.{bytes_decides}
use Rattle.std.proofs.lemmas.Bool.{or_cases, or_left, or_right, both_ways, cases_eq, lt-ltb}
use Rattle.std.proofs.lemmas.List.Folds.{list_any-append}
use Rattle.std.proofs.lemmas.List.{length-set, length-replicate, drop_more, drop_all}
use Rattle.std.proofs.lemmas.List.Quantifiers.{position-Some}
use Rattle.std.proofs.lemmas.Option.{slice_get_within, slice_get-get_or}
use Rattle.kc_obj_module.specs.declared.parts.Taken.{Taken}
use Rattle.kc_obj_module.specs.Object.{Object}
use Rattle.kc_obj_module.specs.Names.{is_stack_name}
use Rattle.kc_lib.specs.declared.taking.Standing.{Standing}
use Rattle.kc_lib.specs.declared.taking.Standing.TheVariants.{Out, Called, Settled}
use Rattle.kc_lib.specs.Names.{takes, gives, is_taken, is_given, GivenOnce}
use Rattle.kc_lib.specs.Givers.{giver_of}
use Rattle.kc_lib.specs.Taking.{chosen_from, chosen, Closed, IsLeast, AreTaken}
use Rattle.kc_lib.specs.Standings.{is_needed, is_in, needed, called_if_out, called, called_all, called_by, is_called, first_called, work_of, work, AreAnswered, IsUnderWay}
use Rattle.kc_lib.proofs.Places.{any_at, set_same, set_other}
use Rattle.kc_lib.proofs.GiverLemmas.{giver_is, has_giver}

-- ---- work

pub work-set : (st : List Standing) (n : ℕ) (s t : Standing) → slice_get st n ≡ Some s → work (set st n t) + work_of s ≡ work st + work_of t
work-set [] n s t h = absurd (cc h)
work-set (x ∷ st) zero s t h = let same : work_of x ≡ work_of s = ap work_of (let e : x ≡ s = cc h in e) in omega (arith, same)
work-set (x ∷ st) (suc n) s t h = omega (arith, work-set st n s t h)

pub called_work : (o : Option ℕ) (st : List Standing) → work (called o st) ≤ work st
called_work None st = omega arith
called_work (Some n) st = by (slice_get st n) refl
  where
    by : (o : Option Standing) → slice_get st n ≡ o → work (called_if_out o st n) ≤ work st
    by None h = omega arith
    by (Some Out) h = omega (arith, work-set st n Out Called h)
    by (Some Called) h = omega arith
    by (Some Settled) h = omega arith

pub settled_work : (st new : List Standing) (n : ℕ) → slice_get st n ≡ Some Called → work new ≤ work (set st n Settled) → work new < work st
settled_work st new n h l = omega (arith, l, work-set st n Called Settled h)

-- ---- what a call changes

pub record Grown (st new : List Standing) : Type 0 where
  pub keeps : (k : ℕ) → is_in st k ≡ true → is_in new k ≡ true
  pub settled : (k : ℕ) → slice_get new k ≡ Some Settled → slice_get st k ≡ Some Settled
  pub long : length new ≡ length st

grown_same : (st : List Standing) → Grown st st
grown_same st = record { keeps = λ k h. h; settled = λ k h. h; long = refl }

grown_trans : (a b c : List Standing) → Grown a b → Grown b c → Grown a c
grown_trans a b c f g = record { keeps = λ k h. g.keeps k (f.keeps k h); settled = λ k h. f.settled k (g.settled k h); long = g.long ∙ f.long }

set_grown : (st : List Standing) (n : ℕ) → slice_get st n ≡ Some Out → Grown st (set st n Called)
set_grown st n h = record { keeps = keeps; settled = settled; long = length-set st n Called }
  where
    same : slice_get (set st n Called) n ≡ Some Called
    same = set_same st n Out Called h

    keeps : (k : ℕ) → is_in st k ≡ true → is_in (set st n Called) k ≡ true
    keeps k e =
        elim (cases_eq k n) [
          | inl i ↦ rw (i, same) refl
          | inr d ↦ rw (set_other st n k Called d) e
        ]

    settled : (k : ℕ) → slice_get (set st n Called) k ≡ Some Settled → slice_get st k ≡ Some Settled
    settled k e =
        elim (cases_eq k n) [
          | inl i ↦ let there : Some Called ≡ Some Settled = sym same ∙ (ap (λ j. slice_get (set st n Called) j) (sym i) ∙ e) in absurd (cc there)
          | inr d ↦ sym (set_other st n k Called d) ∙ e
        ]

called_grown : (o : Option ℕ) (st : List Standing) → Grown st (called o st)
called_grown None st = grown_same st
called_grown (Some n) st = by (slice_get st n) refl
  where
    by : (o : Option Standing) → slice_get st n ≡ o → Grown st (called_if_out o st n)
    by None h = grown_same st
    by (Some Out) h = set_grown st n h
    by (Some Called) h = grown_same st
    by (Some Settled) h = grown_same st

called_in : (n : ℕ) (st : List Standing) → n < length st → is_in (called (Some n) st) n ≡ true
called_in n st l = by (slice_get st n) refl
  where
    by : (o : Option Standing) → slice_get st n ≡ o → is_in (called_if_out o st n) n ≡ true
    by None h = absurd (let s : slice_get st n ≡ Some (get_or st n Out) = slice_get-get_or st n Out l in cc (s, h))
    by (Some Out) h = rw (set_same st n Out Called h) refl
    by (Some Called) h = rw h refl
    by (Some Settled) h = rw h refl

-- ---- the members that are chosen

pub any_chosen : (p : Object → Bool) (set : ℕ → Bool) (members : List Object) (n i : ℕ) (m : Object) → slice_get members i ≡ Some m → set (n + i) ≡ true → p m ≡ true
    → list_any p (chosen_from n set members) ≡ true
unfolding chosen_from
any_chosen p set [] n i m h s e = absurd (cc h)
any_chosen p set (x ∷ members) n zero m h s e =
    let same : x ≡ m = cc h in
    let here : set n ≡ true = ap set (let z : n ≡ n + 0 = omega arith in z) ∙ s in
    rw here (or_left (p x) (list_any p (chosen_from (n + 1) set members)) (ap p same ∙ e))
any_chosen p set (x ∷ members) n (suc i) m h s e =
    by (set n) (any_chosen p set members (n + 1) i m h (ap set (let z : n + 1 + i ≡ n + suc i = omega arith in z) ∙ s) e)
  where
    by : (b : Bool) → list_any p (chosen_from (n + 1) set members) ≡ true → list_any p (if b then x ∷ chosen_from (n + 1) set members else chosen_from (n + 1) set members) ≡ true
    by true k = or_right (p x) (list_any p (chosen_from (n + 1) set members)) k
    by false k = k

pub record IsChosen (p : Object → Bool) (set : ℕ → Bool) (members : List Object) (n : ℕ) : Type 0 where
  pub at : ℕ
  pub m : Object
  pub is_there : slice_get members at ≡ Some m
  pub in_set : set (n + at) ≡ true
  pub passes : p m ≡ true

pub chosen_found : (p : Object → Bool) (set : ℕ → Bool) (members : List Object) (n : ℕ) → list_any p (chosen_from n set members) ≡ true → IsChosen p set members n
unfolding chosen_from
chosen_found p set [] n h = absurd (cc h)
chosen_found p set (x ∷ members) n h = by (set n) refl h (chosen_found p set members (n + 1))
  where
    later : IsChosen p set members (n + 1) → IsChosen p set (x ∷ members) n
    later c = record { at = suc c.at; m = c.m; is_there = c.is_there; in_set = ap set (let z : n + suc c.at ≡ n + 1 + c.at = omega arith in z) ∙ c.in_set; passes = c.passes }

    first : set n ≡ true → p x ≡ true → IsChosen p set (x ∷ members) n
    first s e = record { at = 0; m = x; is_there = refl; in_set = ap set (let z : n + 0 ≡ n = omega arith in z) ∙ s; passes = e }

    by : (b : Bool) → set n ≡ b → list_any p (if b then x ∷ chosen_from (n + 1) set members else chosen_from (n + 1) set members) ≡ true
        → (list_any p (chosen_from (n + 1) set members) ≡ true → IsChosen p set members (n + 1)) → IsChosen p set (x ∷ members) n
    by true s k rest =
        elim (or_cases (p x) (list_any p (chosen_from (n + 1) set members)) k) [
          | inl e ↦ first s e
          | inr e ↦ later (rest e)
        ]
    by false s k rest = later (rest k)

-- ---- the member that a name needs

record IsNeeded (modules members : List Object) (name : List ℕ) (number : ℕ) : Type 0 where
  pub not_stack : is_stack_name name ≡ false
  pub not_given : is_given modules name ≡ false
  pub giver : giver_of members name ≡ Some number

needed_is : (modules members : List Object) (name : List ℕ) (number : ℕ) → needed modules members name ≡ Some number → IsNeeded modules members name number
needed_is modules members name number h = by (is_stack_name name) (is_given modules name) refl refl h
  where
    by : (a b : Bool) → is_stack_name name ≡ a → is_given modules name ≡ b → (if a || b then None else giver_of members name) ≡ Some number → IsNeeded modules members name number
    by true b e f k = absurd (cc k)
    by false true e f k = absurd (cc k)
    by false false e f k = record { not_stack = e; not_given = f; giver = k }

needed_from : (modules members : List Object) (name : List ℕ) (number : ℕ) → is_stack_name name ≡ false → is_given modules name ≡ false → giver_of members name ≡ Some number → needed modules members name ≡ Some number
needed_from modules members name number a b g = rw (a, b) g

-- ---- every closed set has the members that are called

module _ (modules members : List Object) (once : GivenOnce members) (other : ℕ → Bool) (closed : Closed modules members other) where
  abbrev IsWithin : List Standing → Type 0
  IsWithin st = (k : ℕ) → is_in st k ≡ true → other k ≡ true

  -- a name that is taken needs a member of the set
  in_closed : (name : List ℕ) (number : ℕ) → is_taken (modules ++ chosen other members) name ≡ true → needed modules members name ≡ Some number → other number ≡ true
  in_closed name number taken need =
      let n = needed_is modules members name number need in
      let g = giver_is members 0 name number n.giver in
      let c = chosen_found (gives name) other members 0 (closed name taken n.not_stack n.not_given (any_at (gives name) members g.at g.m g.is_there g.gives_it)) in
      let same : c.at ≡ g.at = once c.at g.at c.m g.m name c.is_there g.is_there c.passes g.gives_it in
      ap other (let z : number ≡ 0 + c.at = omega (arith, g.is, same) in z) ∙ c.in_set

  set_within : (st : List Standing) (n : ℕ) → other n ≡ true → IsWithin st → IsWithin (set st n Called)
  set_within st n o h k e =
      elim (cases_eq k n) [
        | inl i ↦ ap other i ∙ o
        | inr d ↦ h k (ap is_needed (sym (set_other st n k Called d)) ∙ e)
      ]

  called_within : (o : Option ℕ) (st : List Standing) → ((n : ℕ) → o ≡ Some n → other n ≡ true) → IsWithin st → IsWithin (called o st)
  called_within None st f h = h
  called_within (Some n) st f h = by (slice_get st n)
    where
      by : (o : Option Standing) → IsWithin (called_if_out o st n)
      by None = h
      by (Some Out) = set_within st n (f n refl) h
      by (Some Called) = h
      by (Some Settled) = h

  all_within : (ts : List Taken) (st : List Standing) → ((name : List ℕ) → list_any (λ t. bytes_eq t.name name) ts ≡ true → is_taken (modules ++ chosen other members) name ≡ true)
      → IsWithin st → IsWithin (called_all modules members ts st)
  all_within [] st f h = h
  all_within (t ∷ ts) st f h =
      let here : is_taken (modules ++ chosen other members) t.name ≡ true = f t.name (or_left (bytes_eq t.name t.name) (list_any (λ u. bytes_eq u.name t.name) ts) ((bytes_decides t.name t.name).1 refl)) in
      all_within ts (called (needed modules members t.name) st)
      (λ name e. f name (or_right (bytes_eq t.name name) (list_any (λ u. bytes_eq u.name name) ts) e))
      (called_within (needed modules members t.name) st (λ n need. in_closed t.name n here need) h)

  by_within : (ms : List Object) (st : List Standing) → ((name : List ℕ) → is_taken ms name ≡ true → is_taken (modules ++ chosen other members) name ≡ true)
      → IsWithin st → IsWithin (called_by modules members ms st)
  by_within [] st f h = h
  by_within (m ∷ ms) st f h =
      by_within ms (called_all modules members m.externals st)
      (λ name e. f name (or_right (takes name m) (is_taken ms name) e))
      (all_within m.externals st (λ name e. f name (or_left (takes name m) (is_taken ms name) e)) h)

-- ---- what is taken is called

module _ (modules members : List Object) where
  all_grown : (ts : List Taken) (st : List Standing) → Grown st (called_all modules members ts st)
  all_grown [] st = grown_same st
  all_grown (t ∷ ts) st =
      let first = called (needed modules members t.name) st in
      grown_trans st first (called_all modules members ts first) (called_grown (needed modules members t.name) st) (all_grown ts first)

  by_grown : (ms : List Object) (st : List Standing) → Grown st (called_by modules members ms st)
  by_grown [] st = grown_same st
  by_grown (m ∷ ms) st =
      let first = called_all modules members m.externals st in
      grown_trans st first (called_by modules members ms first) (all_grown m.externals st) (by_grown ms first)

  needed_within : (name : List ℕ) (number : ℕ) (st : List Standing) → length st ≡ length members → needed modules members name ≡ Some number → number < length st
  needed_within name number st long need =
      let g = giver_is members 0 name number (needed_is modules members name number need).giver in
      omega (arith, long, g.is, slice_get_within members g.at g.m g.is_there)

  all_answered : (ts : List Taken) (st : List Standing) (name : List ℕ) (number : ℕ) → length st ≡ length members → list_any (λ t. bytes_eq t.name name) ts ≡ true
      → needed modules members name ≡ Some number → is_in (called_all modules members ts st) number ≡ true
  all_answered [] st name number long h need = absurd (cc h)
  all_answered (t ∷ ts) st name number long h need =
      let first = called (needed modules members t.name) st in
      let size : length first ≡ length members = (called_grown (needed modules members t.name) st).long ∙ long in
      elim (or_cases (bytes_eq t.name name) (list_any (λ u. bytes_eq u.name name) ts) h) [
        | inl e ↦
            let same : needed modules members t.name ≡ Some number = ap (needed modules members) ((bytes_decides t.name name).0 e) ∙ need in
            let here : is_in first number ≡ true = rw same (called_in number st (needed_within name number st long need)) in
            (all_grown ts first).keeps number here
        | inr e ↦ all_answered ts first name number size e need
      ]

  by_answered : (ms : List Object) (st : List Standing) → length st ≡ length members → AreAnswered modules members (called_by modules members ms st) ms
  by_answered [] st long name number h need = absurd (cc h)
  by_answered (m ∷ ms) st long name number h need =
      let first = called_all modules members m.externals st in
      let size : length first ≡ length members = (all_grown m.externals st).long ∙ long in
      elim (or_cases (takes name m) (is_taken ms name) h) [
        | inl e ↦ (by_grown ms first).keeps number (all_answered m.externals st name number long e need)
        | inr e ↦ by_answered ms first size name number e need
      ]

  answered_grown : (st new : List Standing) (callers : List Object) → ((k : ℕ) → is_in st k ≡ true → is_in new k ≡ true) → AreAnswered modules members st callers → AreAnswered modules members new callers
  answered_grown st new callers g h name number e need = g number (h name number e need)

  -- ---- the search

  pub under_way_first : (st : List Standing) → GivenOnce members → length st ≡ length members → ((k : ℕ) → is_in st k ≡ true → ⊥) → ((k : ℕ) → slice_get st k ≡ Some Settled → ⊥)
      → IsUnderWay modules members (called_by modules members modules st)
  under_way_first st once long none quiet = record {
    least = λ other closed.
        by_within modules members once other closed modules st
        (λ name e. list_any-append (takes name) modules (chosen other members) ∙ or_left (is_taken modules name) (is_taken (chosen other members) name) e)
        (λ k e. absurd (none k e));
    by_modules = by_answered modules st long;
    by_settled = λ number m e. absurd (quiet number ((by_grown modules st).settled number e));
  }

  settled_in : (st : List Standing) (n : ℕ) → slice_get st n ≡ Some Called → (k : ℕ) → is_in (set st n Settled) k ≡ true → is_in st k ≡ true
  settled_in st n h k e =
      elim (cases_eq k n) [
        | inl i ↦ rw (i, h) refl
        | inr d ↦ ap is_needed (sym (set_other st n k Settled d)) ∙ e
      ]

  in_settled : (st : List Standing) (n : ℕ) → slice_get st n ≡ Some Called → (k : ℕ) → is_in st k ≡ true → is_in (set st n Settled) k ≡ true
  in_settled st n h k e =
      elim (cases_eq k n) [
        | inl i ↦ rw (i, set_same st n Called Settled h) refl
        | inr d ↦ ap is_needed (set_other st n k Settled d) ∙ e
      ]

  pub under_way_next : (st : List Standing) (n : ℕ) (m : Object) → GivenOnce members → length st ≡ length members → slice_get st n ≡ Some Called → slice_get members n ≡ Some m
      → IsUnderWay modules members st → IsUnderWay modules members (called_all modules members m.externals (set st n Settled))
  under_way_next st n m once long called_here here way =
      let first = set st n Settled in
      let new = called_all modules members m.externals first in
      let grown : Grown first new = all_grown m.externals first in
      let grows : (k : ℕ) → is_in st k ≡ true → is_in new k ≡ true = λ k e. grown.keeps k (in_settled st n called_here k e) in
      let size : length first ≡ length members = length-set st n Settled ∙ long in
      record {
        least = λ other closed.
            let before : (k : ℕ) → is_in st k ≡ true → other k ≡ true = way.least other closed in
            let there : other n ≡ true = before n (rw called_here refl) in
            all_within modules members once other closed m.externals first
            (λ name e. list_any-append (takes name) modules (chosen other members) ∙ or_right (is_taken modules name) (is_taken (chosen other members) name) (any_chosen (takes name) other members 0 n m here (ap other (let z : 0 + n ≡ n = omega arith in z) ∙ there) e))
            (λ k e. before k (settled_in st n called_here k e));
        by_modules = answered_grown st new modules grows way.by_modules;
        by_settled = λ number other_m e there.
            elim (cases_eq number n) [
              | inl i ↦ λ name needed_number taken need.
                  let same : other_m ≡ m = cc (there, here, i) in
                  let taken_here : takes name m ≡ true = only name m (subst (λ (x : Object). is_taken (x ∷ []) name ≡ true) same taken) in
                  all_answered m.externals first name needed_number size taken_here need
              | inr d ↦
                  let before : slice_get st number ≡ Some Settled = sym (set_other st n number Settled d) ∙ grown.settled number e in
                  answered_grown st new (other_m ∷ []) grows (way.by_settled number other_m before there)
            ];
      }
    where
      only : (name : List ℕ) (x : Object) → is_taken (x ∷ []) name ≡ true → takes name x ≡ true
      only name x h = elim (or_cases (takes name x) false h) [ inl e ↦ e | inr e ↦ absurd (cc e) ]

-- where none is called, each that is in is settled
pub settled_all : (st : List Standing) (k : ℕ) → ((n : ℕ) → slice_get st n ≡ Some Called → ⊥) → is_in st k ≡ true → slice_get st k ≡ Some Settled
settled_all st k none h = by (slice_get st k) refl h
  where
    by : (o : Option Standing) → slice_get st k ≡ o → is_needed o ≡ true → o ≡ Some Settled
    by None e i = absurd (cc i)
    by (Some Out) e i = absurd (cc i)
    by (Some Called) e i = absurd (none k e)
    by (Some Settled) e i = refl

pub found_least : (modules members : List Object) (st : List Standing) → ((n : ℕ) → slice_get st n ≡ Some Called → ⊥) → IsUnderWay modules members st → IsLeast modules members (is_in st)
found_least modules members st none way = record {
  closed = λ name taken stack given held.
      let giver = has_giver members 0 name held in
      let need : needed modules members name ≡ Some giver.0 = needed_from modules members name giver.0 stack given giver.1 in
      let g = giver_is members 0 name giver.0 giver.1 in
      let there : is_in st giver.0 ≡ true = reached name giver.0 need (or_cases (is_taken modules name) (is_taken (chosen (is_in st) members) name) (sym (list_any-append (takes name) modules (chosen (is_in st) members)) ∙ taken)) in
      any_chosen (gives name) (is_in st) members 0 g.at g.m g.is_there (ap (is_in st) (sym g.is) ∙ there) g.gives_it;
  least = λ other closed number within e. way.least other closed number e;
}
  where
    reached : (name : List ℕ) (number : ℕ) → needed modules members name ≡ Some number → (is_taken modules name ≡ true) ⊎ (is_taken (chosen (is_in st) members) name ≡ true) → is_in st number ≡ true
    reached name number need (inl e) = way.by_modules name number e need
    reached name number need (inr e) =
        let c = chosen_found (takes name) (is_in st) members 0 e in
        let settled : slice_get st c.at ≡ Some Settled = settled_all st c.at none (ap (is_in st) (let z : c.at ≡ 0 + c.at = omega arith in z) ∙ c.in_set) in
        way.by_settled c.at c.m settled c.is_there name number (or_left (takes name c.m) false c.passes) need

-- ---- the first one that is called

place_within : (p : Standing → Bool) (xs : List Standing) (n : ℕ) (x : Standing) → slice_get xs n ≡ Some x → p x ≡ true → position_or_len p xs < length xs
place_within p [] n x h e = absurd (cc h)
place_within p (y ∷ xs) n x h e = by (p y) refl n h (place_within p xs)
  where
    by : (b : Bool) → p y ≡ b → (n : ℕ) → slice_get (y ∷ xs) n ≡ Some x → ((n : ℕ) (x : Standing) → slice_get xs n ≡ Some x → p x ≡ true → position_or_len p xs < length xs) → position_or_len p (y ∷ xs) < length (y ∷ xs)
    by true f n k rest = rw f (omega arith)
    by false f zero k rest = absurd (let same : y ≡ x = cc k in both_ways (p y) f (ap p same ∙ e))
    by false f (suc n) k rest = let l : position_or_len p xs < length xs = rest n x k e in rw f (omega (arith, l))

pub none_called : (st : List Standing) (n : ℕ) → first_called st ≡ None → slice_get st n ≡ Some Called → ⊥
none_called st n h e =
    let within : nat_lt (position_or_len is_called st) (length st) ≡ true = lt-ltb (position_or_len is_called st) (length st) (place_within is_called st n Called e refl) in
    let some : first_called st ≡ Some (position_or_len is_called st) = rw within refl in
    cc (h, some)

pub one_called : (st : List Standing) (n : ℕ) → first_called st ≡ Some n → slice_get st n ≡ Some Called
one_called st n h =
    let here = position-Some is_called st n Out h in
    slice_get-get_or st n Out here.0 ∙ ap (λ (s : Standing). Some s) (is (get_or st n Out) here.1)
  where
    is : (s : Standing) → is_called s ≡ true → s ≡ Called
    is Out e = absurd (cc e)
    is Called e = refl
    is Settled e = absurd (cc e)

-- ---- all members out

pub none_in : (n k : ℕ) → is_in (replicate n Out) k ≡ true → ⊥
none_in zero k h = cc h
none_in (suc n) zero h = cc h
none_in (suc n) (suc k) h = none_in n k h

pub none_settled : (n k : ℕ) → slice_get (replicate n Out) k ≡ Some Settled → ⊥
none_settled zero k h = cc h
none_settled (suc n) zero h = cc h
none_settled (suc n) (suc k) h = none_settled n k h

-- ---- at most one list is taken

chosen_same : (set other : ℕ → Bool) (members : List Object) (n : ℕ) → ((k : ℕ) → k < length members → set (n + k) ≡ other (n + k)) → chosen_from n set members ≡ chosen_from n other members
unfolding chosen_from
chosen_same set other [] n h = refl
chosen_same set other (m ∷ members) n h =
    let here : set n ≡ other n = ap set (let z : n ≡ n + 0 = omega arith in z) ∙ (h 0 (omega arith) ∙ ap other (let z : n + 0 ≡ n = omega arith in z)) in
    let rest : chosen_from (n + 1) set members ≡ chosen_from (n + 1) other members =
    chosen_same set other members (n + 1) (λ k l. ap set (let z : n + 1 + k ≡ n + suc k = omega arith in z) ∙ (h (suc k) (omega arith) ∙ ap other (let z : n + suc k ≡ n + 1 + k = omega arith in z))) in
    rw (here, rest) refl

pub taken_once : (modules members taken others : List Object) → AreTaken modules members taken → AreTaken modules members others → taken ≡ others
taken_once modules members taken others a b =
    let same : (k : ℕ) → k < length members → a.set (0 + k) ≡ b.set (0 + k) =
    λ k l. ap a.set (let z : 0 + k ≡ k = omega arith in z) ∙ (both (a.set k) (b.set k) (a.is_least.least b.set b.is_least.closed k l) (b.is_least.least a.set a.is_least.closed k l) ∙ ap b.set (let z : k ≡ 0 + k = omega arith in z)) in
    a.in_order ∙ (chosen_same a.set b.set members 0 same ∙ sym b.in_order)
  where
    both : (x y : Bool) → (x ≡ true → y ≡ true) → (y ≡ true → x ≡ true) → x ≡ y
    both true true f g = refl
    both true false f g = sym (f refl)
    both false true f g = g refl
    both false false f g = refl

-- ---- the code's steps

-- the member at a number, and those behind it
rest_is : (ms : List Object) (n : ℕ) (m : Object) → n < length ms → m ≡ get_or ms n m → drop n ms ≡ m ∷ drop (n + 1) ms
rest_is ms n m l e = drop_more ms n m l ∙ ap (λ x. x ∷ drop (n + 1) ms) (sym e)

pub chosen_here : (set : ℕ → Bool) (ms : List Object) (n : ℕ) (m : Object) → n < length ms → m ≡ get_or ms n m → set n ≡ true → chosen_from n set (drop n ms) ≡ m ∷ chosen_from (n + 1) set (drop (n + 1) ms)
unfolding chosen_from
chosen_here set ms n m l e h = ap (λ (r : List Object). chosen_from n set r) (rest_is ms n m l e) ∙ rw h refl

pub chosen_not : (set : ℕ → Bool) (ms : List Object) (n : ℕ) (m : Object) → n < length ms → m ≡ get_or ms n m → set n ≡ false → chosen_from n set (drop n ms) ≡ chosen_from (n + 1) set (drop (n + 1) ms)
unfolding chosen_from
chosen_not set ms n m l e h = ap (λ (r : List Object). chosen_from n set r) (rest_is ms n m l e) ∙ rw h refl

pub chosen_end : (set : ℕ → Bool) (ms : List Object) (n : ℕ) → length ms ≤ n → chosen_from n set (drop n ms) ≡ []
unfolding chosen_from
chosen_end set ms n l = ap (λ (r : List Object). chosen_from n set r) (drop_all n ms l)

-- how the member with a number stands
pub stands_so : (st : List Standing) (n : ℕ) (b : Bool) → n < length st → b ≡ is_needed (Some (get_or st n Out)) → is_in st n ≡ b
stands_so st n b l e = ap is_needed (slice_get-get_or st n Out l) ∙ sym e

out_is : (s : Standing) → is_needed (Some s) ≡ false → s ≡ Out
out_is Out h = refl
out_is Called h = absurd (cc h)
out_is Settled h = absurd (cc h)

pub out_work : (st : List Standing) (n : ℕ) (b : Bool) → n < length st → b ≡ is_needed (Some (get_or st n Out)) → b ≡ false → work (set st n Called) ≤ work st
out_work st n b l e f =
    let here : slice_get st n ≡ Some Out = slice_get-get_or st n Out l ∙ ap (λ (s : Standing). Some s) (out_is (get_or st n Out) (sym e ∙ f)) in
    omega (arith, work-set st n Out Called here)

-- one that is called already stays as it is
pub called_again : (st : List Standing) (n : ℕ) (b : Bool) → n < length st → b ≡ is_needed (Some (get_or st n Out)) → b ≡ true → st ≡ called_if_out (slice_get st n) st n
called_again st n b l e f = by (get_or st n Out) (slice_get-get_or st n Out l) (sym e ∙ f)
  where
    by : (s : Standing) → slice_get st n ≡ Some s → is_needed (Some s) ≡ true → st ≡ called_if_out (slice_get st n) st n
    by Out here t = absurd (cc t)
    by Called here t = rw here refl
    by Settled here t = rw here refl

-- what the modules need is called, where all members were out
pub under_way_out : (modules members : List Object) (st new : List Standing) → GivenOnce members → st ≡ replicate (length members) Out → new ≡ called_by modules members modules st → IsUnderWay modules members new
under_way_out modules members st new once out e =
    let all = replicate (length members) Out in
    let first : IsUnderWay modules members (called_by modules members modules all) = under_way_first modules members all once (length-replicate (length members) Out) (none_in (length members)) (none_settled (length members)) in
    subst (λ (s : List Standing). IsUnderWay modules members s) (sym (e ∙ ap (called_by modules members modules) out)) first
