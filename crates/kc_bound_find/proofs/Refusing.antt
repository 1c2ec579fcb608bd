-- Refusals one by one, joined, and by rising address.
use Rattle.std.specs.Prelude.{◌==◌, if◌then◌else◌}
use Rattle.std.proofs.Common.{◌≡◌, ℕ, ◌+◌, ◌<◌, ◌≤◌, ◌++◌, Bool, false, not, nat_eq, List, [], ◌∷◌, map, length, slice_index_or, Contains, refl, subst, sym, ap, ◌∙◌, arith}
use Rattle.std.specs.List.{All, AllPairs}
use Rattle.std.specs.List.Sorted.{IsPermutation, IsNonDecreasingBy}
use Rattle.std.proofs.lemmas.List.{length-map, get_or_default}
use Rattle.std.proofs.lemmas.List.Elements.{All-nil, All-cons, All-append, All-push, Contains-push, Contains-append_left}
use Rattle.std.proofs.lemmas.List.Quantifiers.{all_pairs_push}
use Rattle.std.proofs.lemmas.List.Sorted.{All-permutation, Contains-permutation, IsPermutation-sym}
use borrow.Author.Count.{below_more}
use Rattle.kc_bound.specs.declared.notes.Notes.{Notes}
use Rattle.kc_bound_find.specs.declared.refusal.Why.{Why}
use Rattle.kc_bound_find.specs.declared.refusal.Why.TheVariants.{Block, Computed, Early, Endless, Outside, Recursive, Unbounded}
use Rattle.kc_bound_find.specs.declared.refusal.Refusal.{Refusal}
use Rattle.kc_bound_find.specs.Refusals.{is_of_instruction, IsRefusal, number_of, order_of, IsBefore, refusal_for, StandRising, AreRefusals}

-- what holds of each of some holds of each that is among them
pub all_among : {X : Type 0} (P : X → Type 0) (xs ys : List X) → All P xs → All (Contains xs) ys → All P ys
all_among P xs ys all among = λ k d lt. let here = among k d lt in subst P here.2 (all here.0 (slice_index_or ys k d) here.1)

-- nothing is asked of a refusal whose reason is none of an instruction
pub for_others : (image : List ℕ) (notes : Notes) (why : Why) → is_of_instruction why ≡ false → (addresses : List ℕ)
    → All (IsRefusal image notes) (map (refusal_for why) addresses)
for_others image notes why other [] = All-nil (IsRefusal image notes)
for_others image notes why other (a ∷ rest) =
    All-cons (IsRefusal image notes) (refusal_for why a) (map (refusal_for why) rest)
    (λ yes. cc)
    (for_others image notes why other rest)

-- those that are refused before, and others for one reason beside them
pub joined : (image : List ℕ) (notes : Notes) (before given refusals : List Refusal) (why : Why) (addresses : List ℕ)
    → All (IsRefusal image notes) before → is_of_instruction why ≡ false → given ≡ before ++ map (refusal_for why) addresses
    → 0 < length given → StandRising given refusals → AreRefusals image notes refusals
joined image notes before given refusals why addresses all other is some rising =
    let both : All (IsRefusal image notes) (before ++ map (refusal_for why) addresses) =
    All-append (IsRefusal image notes) before (map (refusal_for why) addresses) all (for_others image notes why other addresses)
    in
    record {
      some = omega (arith, (rising.whole 0 (refusal_for why 0) some).1);
      rising = rising.rising;
      sound = all_among (IsRefusal image notes) given refusals (subst (λ rs. All (IsRefusal image notes) rs) (sym is) both) rising.among;
    }

-- one refusal or more: there were some before, so many, or there are others beside them
pub some_given : (before given : List Refusal) (why : Why) (addresses : List ℕ) (count : ℕ) (empty : Bool) → count ≡ length before
    → empty ≡ nat_eq count 0 → given ≡ before ++ map (refusal_for why) addresses → (not empty ≡ false → 0 < length addresses) → 0 < length given
some_given [] given why addresses count empty none e is others =
    let there : 0 < length addresses = others (ap not (e ∙ ap (λ n. nat_eq n 0) none)) in
    omega (arith, there, ap length is, length-map addresses (refusal_for why))
some_given (r ∷ more) given why addresses count empty some e is others = omega (arith, ap length is)

-- in another order
pub as_sorted : (given sorted refusals : List Refusal) → IsPermutation given sorted → StandRising sorted refusals → StandRising given refusals
as_sorted given sorted refusals same stand = record {
  rising = stand.rising;
  among = λ k d lt. Contains-permutation sorted given (slice_index_or refusals k d) (IsPermutation-sym given sorted same) (stand.among k d lt);
  whole = All-permutation (Contains refusals) sorted given (IsPermutation-sym given sorted same) stand.whole;
}

-- ---- two refusals of one order are the same

why_at : ℕ → Why
why_at n =
    if n == 0 then Block else (if n == 1 then Computed else (if n == 2 then Early else (if n == 3 then Endless else (if n == 4 then Outside else (if n == 5 then Recursive else Unbounded)))))

at_number : (why : Why) → why_at (number_of why) ≡ why
unfolding why_at
at_number Block = refl
at_number Computed = refl
at_number Early = refl
at_number Endless = refl
at_number Outside = refl
at_number Recursive = refl
at_number Unbounded = refl

small_number : (why : Why) → number_of why < 8
small_number Block = omega arith
small_number Computed = omega arith
small_number Early = omega arith
small_number Endless = omega arith
small_number Outside = omega arith
small_number Recursive = omega arith
small_number Unbounded = omega arith

pub same_order : (r s : Refusal) → order_of r ≡ order_of s → r ≡ s
same_order r s e =
    let at : r.at ≡ s.at = omega (arith, e, small_number r.why, small_number s.why) in
    let number : number_of r.why ≡ number_of s.why = omega (arith, e, small_number r.why, small_number s.why) in
    let why : r.why ≡ s.why = sym (at_number r.why) ∙ (ap why_at number ∙ at_number s.why) in
    λ i. record { at = at i; why = why i }

-- ---- one after the other

-- so many refusals by rising order, each once; and the least order that a next one has if it is none of these
pub record IsSoFar (refused : List Refusal) (count next : ℕ) (found : List Refusal) : Type 0 where
  pub below : All (λ r. order_of r < next) found
  pub last : 0 < next → (k : ℕ) × (k < count) × ((d : Refusal) → order_of (slice_index_or refused k d) + 1 ≡ next)
  pub rising : AllPairs IsBefore found
  pub among : All (Contains refused) found
  pub whole : (k : ℕ) → k < count → (d : Refusal) → Contains found (slice_index_or refused k d)

pub none_so_far : (refused : List Refusal) → IsSoFar refused 0 0 []
none_so_far refused = record {
  below = λ k d lt. absurd (omega arith);
  last = λ lt. absurd (omega arith);
  rising = λ i j d lt within. absurd (omega arith);
  among = λ k d lt. absurd (omega arith);
  whole = λ k lt d. absurd (omega arith);
}

-- the next one, which comes behind all
pub pushed : (refused : List Refusal) (count next order next' : ℕ) (found found' : List Refusal) (d : Refusal) → IsSoFar refused count next found
    → order ≡ order_of (slice_index_or refused count d) → next ≤ order → count < length refused → next' ≡ order + 1
    → found' ≡ found ++ slice_index_or refused count d ∷ [] → IsSoFar refused (count + 1) next' found'
pushed refused count next order next' found found' d so value le within is-next is =
    let r = slice_index_or refused count d in
    let here : Contains refused r = (count, within, get_or_default refused count r d within) in
    let same : (e : Refusal) → r ≡ slice_index_or refused count e = λ e. get_or_default refused count d e within in
    rw (is, is-next) record {
      below = All-push (λ s. order_of s < order + 1) found r (λ k e lt. omega (arith, so.below k e lt)) (omega (arith, value));
      last = λ lt. (count, omega arith, λ e. ap (λ x. order_of x + 1) (sym (same e)) ∙ ap (λ n. n + 1) (sym value));
      rising = all_pairs_push IsBefore found r so.rising (λ k e lt. omega (arith, so.below k e lt, value));
      among = All-push (Contains refused) found r so.among here;
      whole = below_more (λ k. (e : Refusal) → Contains (found ++ r ∷ []) (slice_index_or refused k e)) count
          (λ k lt e. Contains-append_left found (r ∷ []) (slice_index_or refused k e) (so.whole k lt e))
          (λ e. subst (λ x. Contains (found ++ r ∷ []) x) (same e) (Contains-push found r));
    }

-- one that stands there already: by its order it is the last one
pub passed : (refused : List Refusal) (count next order next' : ℕ) (found found' : List Refusal) (d : Refusal) → IsNonDecreasingBy order_of refused
    → IsSoFar refused count next found → order ≡ order_of (slice_index_or refused count d) → order < next → count < length refused
    → next' ≡ next → found' ≡ found → IsSoFar refused (count + 1) next' found'
passed refused count next order next' found found' d sorted so value lt within is-next is =
    let last = so.last (omega (arith, lt)) in
    let up = sorted last.0 count d (omega (arith, last.1)) within in
    let same : slice_index_or refused last.0 d ≡ slice_index_or refused count d =
    same_order (slice_index_or refused last.0 d) (slice_index_or refused count d) (omega (arith, up, last.2 d, value, lt))
    in
    rw (is, is-next) record {
      below = so.below;
      last = λ pos. (last.0, omega (arith, last.1), last.2);
      rising = so.rising;
      among = so.among;
      whole = below_more (λ k. (e : Refusal) → Contains found (slice_index_or refused k e)) count so.whole
          (λ e. subst (λ x. Contains found x) (same ∙ get_or_default refused count d e within) (so.whole last.0 last.1 d));
    }

-- all of them
pub all_found : (refused : List Refusal) (count next : ℕ) (found : List Refusal) → IsSoFar refused count next found → length refused ≤ count → StandRising refused found
all_found refused count next found so all = record { rising = so.rising; among = so.among; whole = λ k d lt. so.whole k (omega arith) d }
