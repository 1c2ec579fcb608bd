-- What is kept of two signals reports what is asked of them.
use Rattle.std.proofs.Common.{◌≡◌, ℕ, zero, suc, ◌+◌, ◌-◌, ◌<◌, ◌≤◌, Bool, true, false, not, ◌&&◌, [], ◌++◌, Option, Some, None, refl, sym, ap, ◌∙◌, inl, inr, arith}
use Rattle.std.specs.Prelude.{flat_map, if◌then◌else◌, IfSome}
use Rattle.std.specs.List.{range_with_len}
use Rattle.std.proofs.lemmas.Bool.{cases_Bool, eq-eqb, ne_eqb}
use Rattle.kc_monitor_forms.specs.declared.apart.Side.{Side}
use Rattle.kc_monitor_forms.specs.declared.tally.Tally.{Tally}
use Rattle.kc_monitor_forms.specs.Tallies.{with_all}
use Rattle.kc_monitor_forms.proofs.TallyLemmas.{with_all_append}
use Rattle.kc_monitor_forms.specs.Apart.{Times, comes, last_had, asked_by, asked_at, apart}
use Rattle.kc_monitor_forms.specs.Sides.{off, side_at, measured_from, met, asked_of, asked_in, asked_from, IsSide}

-- ---- the last state in which it had its level

last_none : (has : Times) (first : ℕ) → last_had has first 0 ≡ None
unfolding last_had
last_none has first = refl

last_now : (has : Times) (first n : ℕ) → has (first + n) ≡ true → last_had has first (suc n) ≡ Some (first + n)
unfolding last_had
last_now has first n does = rw does refl

last_before : (has : Times) (first n : ℕ) → has (first + n) ≡ false → last_had has first (suc n) ≡ last_had has first n
unfolding last_had
last_before has first n lacks = rw lacks refl

last_below : (has : Times) (first n : ℕ) → IfSome (last_had has first n) (λ y. y < first + n)
unfolding last_had
last_below has first zero = tt
last_below has first (suc n) = elim (cases_Bool (has (first + n))) [
  | inl does ↦ rw does (omega arith)
  | inr lacks ↦ rw lacks (weaker (last_had has first n) (first + n) (first + suc n) (omega arith) (last_below has first n))
]
  where
    weaker : (o : Option ℕ) (a b : ℕ) → a ≤ b → IfSome o (λ y. y < a) → IfSome o (λ y. y < b)
    weaker None a b le h = tt
    weaker (Some y) a b le h = omega arith

-- ---- a side goes on

side_next : (has : Times) (first n : ℕ) (side : Side) → IsSide has first n side → IsSide has first (suc n) (side_at side (first + n) (has (first + n)))
side_next has first zero side kept = (refl, λ lacks. rw kept.0 (kept.1 ∙ sym (last_none has first)))
side_next has first (suc n) side kept = (
  refl,
  λ lacks. elim (cases_Bool side.on) [
    | inl on ↦
        let prev : first + suc n - 1 ≡ first + n = omega arith in
        rw (on, lacks) (ap (λ t. Some t) prev ∙ sym (last_now has first n (sym kept.0 ∙ on)))
    | inr off ↦ rw off (kept.1 (sym kept.0 ∙ off) ∙ sym (last_before has first n (sym kept.0 ∙ off)))
  ],
)

-- ---- what is asked

met_reported : (distance first n : ℕ) (has : Times) (other : Side) → IsSide has first (suc n) other →
    met distance (first + n) other ≡ asked_by distance (first + n) (last_had has first (suc n))
met_reported distance first n has other kept = elim (cases_Bool other.on) [
  | inl on ↦
      let last : last_had has first (suc n) ≡ Some (first + n) = last_now has first n (sym kept.0 ∙ on) in
      rw on (sym (ap (asked_by distance (first + n)) last ∙ rw (eq-eqb (first + n) (first + n) refl) refl))
  | inr off ↦
      let lacks : has (first + n) ≡ false = sym kept.0 ∙ off in
      rw off (ap (measured_from distance (first + n)) (kept.1 lacks)
      ∙ not_now distance (first + n) (last_had has first n) (last_below has first n)
      ∙ ap (asked_by distance (first + n)) (sym (last_before has first n lacks)))
]
  where
    not_now : (distance t : ℕ) (o : Option ℕ) → IfSome o (λ y. y < t) → measured_from distance t o ≡ asked_by distance t o
    not_now distance t None h = refl
    not_now distance t (Some y) h = rw (ne_eqb y t (λ e. omega arith)) refl

-- it comes to its level where it did not have it before
comes_reported : (has : Times) (first n : ℕ) (side : Side) → IsSide has first n side → comes has first (first + n) ≡ (has (first + n) && not side.on)
comes_reported has first zero side kept = rw (eq-eqb (first + 0) first (omega arith), kept.0) refl
comes_reported has first (suc n) side kept =
    let prev : first + suc n - 1 ≡ first + n = omega arith in
    rw (ne_eqb (first + suc n) first (λ e. absurd (omega arith)), prev, kept.0) refl

of_reported : (distance first n : ℕ) (has has_other : Times) (before other : Side) → IsSide has first n before → IsSide has_other first (suc n) other →
    asked_of distance (first + n) before (side_at before (first + n) (has (first + n))) other ≡ asked_at distance has has_other first (first + n)
of_reported distance first n has has_other before other kept kept_other =
    let so_far : first + n + 1 - first ≡ suc n = omega arith in
    ap (λ b. if b then met distance (first + n) other else []) (sym (comes_reported has first n before kept))
    ∙ ap (λ os. if comes has first (first + n) then os else [])
    (met_reported distance first n has_other other kept_other ∙ ap (λ m. asked_by distance (first + n) (last_had has_other first m)) (sym so_far))

in_reported : (distance first n : ℕ) (has_one has_other : Times) (one other : Side) → IsSide has_one first n one → IsSide has_other first n other →
    asked_in distance (first + n) one (has_one (first + n)) other (has_other (first + n))
    ≡ asked_at distance has_one has_other first (first + n) ++ asked_at distance has_other has_one first (first + n)
in_reported distance first n has_one has_other one other kept_one kept_other =
    let one_next = side_next has_one first n one kept_one in
    let other_next = side_next has_other first n other kept_other in
    ap (λ os. os ++ asked_of distance (first + n) other (side_at other (first + n) (has_other (first + n))) (side_at one (first + n) (has_one (first + n))))
    (of_reported distance first n has_one has_other one (side_at other (first + n) (has_other (first + n))) kept_one other_next)
    ∙ ap (λ os. asked_at distance has_one has_other first (first + n) ++ os)
    (of_reported distance first n has_other has_one other (side_at one (first + n) (has_one (first + n))) kept_other one_next)

-- all states
from_reported : (distance first n more : ℕ) (has_one has_other : Times) (one other : Side) → IsSide has_one first n one → IsSide has_other first n other →
    asked_from distance one other has_one has_other (first + n) more
    ≡ flat_map (λ t. asked_at distance has_one has_other first t ++ asked_at distance has_other has_one first t) (range_with_len (first + n) more)
unfolding asked_from
from_reported distance first n zero has_one has_other one other kept_one kept_other = refl
from_reported distance first n (suc more) has_one has_other one other kept_one kept_other =
    let next : first + n + 1 ≡ first + suc n = omega arith in
    let here = λ (t : ℕ). asked_at distance has_one has_other first t ++ asked_at distance has_other has_one first t in
    ap (λ os. os ++ asked_from distance (side_at one (first + n) (has_one (first + n))) (side_at other (first + n) (has_other (first + n))) has_one has_other (first + n + 1) more)
    (in_reported distance first n has_one has_other one other kept_one kept_other)
    ∙ ap (λ os. here (first + n) ++ os)
    (ap (λ t. asked_from distance (side_at one (first + n) (has_one (first + n))) (side_at other (first + n) (has_other (first + n))) has_one has_other t more) next
    ∙ from_reported distance first (suc n) more has_one has_other _ _ (side_next has_one first n one kept_one) (side_next has_other first n other kept_other)
    ∙ ap (λ t. flat_map here (range_with_len t more)) (sym next))

pub apart_kept : (distance first end : ℕ) (has_one has_other : Times) →
    apart distance has_one has_other first end ≡ asked_from distance off off has_one has_other first (end - first)
unfolding apart
apart_kept distance first end has_one has_other =
    let none : first + 0 ≡ first = omega arith in
    sym (ap (λ t. asked_from distance off off has_one has_other t (end - first)) (sym none)
    ∙ from_reported distance first 0 (end - first) has_one has_other off off (refl, refl) (refl, refl)
    ∙ ap (λ t. flat_map (λ t. asked_at distance has_one has_other first t ++ asked_at distance has_other has_one first t) (range_with_len t (end - first))) none)

-- ---- states in which nothing moves

and_not : (b : Bool) → (b && not b) ≡ false
and_not true = refl
and_not false = refl

pub side_stays : (side : Side) (t : ℕ) (on : Bool) → on ≡ side.on → side_at side t on ≡ side
side_stays side t on same =
    ap (λ b. side_at side t b) same ∙ ap (λ b. record { on = side.on; last = if b then Some (t - 1) else side.last }) (and_not side.on)

none_of : (distance t : ℕ) (before now other : Side) → now.on ≡ before.on → asked_of distance t before now other ≡ []
none_of distance t before now other same =
    ap (λ b. if b && not before.on then met distance t other else []) same ∙ ap (λ b. if b then met distance t other else []) (and_not before.on)

in_stays : (distance t : ℕ) (one other : Side) (one_on other_on : Bool) → one_on ≡ one.on → other_on ≡ other.on →
    asked_in distance t one one_on other other_on ≡ []
in_stays distance t one other one_on other_on same_one same_other =
    ap (λ os. os ++ asked_of distance t other (side_at other t other_on) (side_at one t one_on))
    (none_of distance t one (side_at one t one_on) (side_at other t other_on) same_one)
    ∙ none_of distance t other (side_at other t other_on) (side_at one t one_on) same_other

stay : (distance t n : ℕ) (has_one has_other : Times) (one other : Side) → has_one t ≡ one.on → has_other t ≡ other.on →
    asked_from distance one other has_one has_other t (suc n) ≡ asked_from distance one other has_one has_other (t + 1) n
unfolding asked_from
stay distance t n has_one has_other one other same_one same_other =
    ap (λ os. os ++ asked_from distance (side_at one t (has_one t)) (side_at other t (has_other t)) has_one has_other (t + 1) n)
    (in_stays distance t one other (has_one t) (has_other t) same_one same_other)
    ∙ ap (λ s. asked_from distance s (side_at other t (has_other t)) has_one has_other (t + 1) n) (side_stays one t (has_one t) same_one)
    ∙ ap (λ s. asked_from distance one s has_one has_other (t + 1) n) (side_stays other t (has_other t) same_other)

stays : (k distance t n m : ℕ) (has_one has_other : Times) (one other : Side) → m ≡ k + n →
    ((i : ℕ) → t ≤ i → i < t + k → has_one i ≡ one.on) → ((i : ℕ) → t ≤ i → i < t + k → has_other i ≡ other.on) →
    asked_from distance one other has_one has_other t m ≡ asked_from distance one other has_one has_other (t + k) n
stays zero distance t n m has_one has_other one other sum same_one same_other =
    let here : t ≡ t + 0 = omega arith in
    let all : m ≡ n = omega arith in
    ap (λ s. asked_from distance one other has_one has_other s m) here ∙ ap (λ l. asked_from distance one other has_one has_other (t + 0) l) all
stays (suc k) distance t n zero has_one has_other one other sum same_one same_other = absurd (omega arith)
stays (suc k) distance t n (suc m) has_one has_other one other sum same_one same_other =
    let next : t + 1 + k ≡ t + suc k = omega arith in
    stay distance t m has_one has_other one other (same_one t (omega arith) (omega arith)) (same_other t (omega arith) (omega arith))
    ∙ stays k distance (t + 1) n m has_one has_other one other (omega arith)
    (λ i from to. same_one i (omega arith) (omega arith)) (λ i from to. same_other i (omega arith) (omega arith))
    ∙ ap (λ s. asked_from distance one other has_one has_other s n) next

-- from one state to a later one
pub from_later : (distance t later end : ℕ) (has_one has_other : Times) (one other : Side) → t ≤ later → later ≤ end →
    ((i : ℕ) → t ≤ i → i < later → has_one i ≡ one.on) → ((i : ℕ) → t ≤ i → i < later → has_other i ≡ other.on) →
    asked_from distance one other has_one has_other t (end - t) ≡ asked_from distance one other has_one has_other later (end - later)
from_later distance t later end has_one has_other one other le within same_one same_other =
    let there : t + (later - t) ≡ later = omega arith in
    stays (later - t) distance t (end - later) (end - t) has_one has_other one other (omega arith)
    (λ i from to. same_one i from (omega arith)) (λ i from to. same_other i from (omega arith))
    ∙ ap (λ s. asked_from distance one other has_one has_other s (end - later)) there

-- ---- a state comes

more_states : (distance t n m : ℕ) (has_one has_other : Times) (one other : Side) → m ≡ suc n →
    asked_from distance one other has_one has_other t m
    ≡ asked_in distance t one (has_one t) other (has_other t) ++ asked_from distance (side_at one t (has_one t)) (side_at other t (has_other t)) has_one has_other (t + 1) n
unfolding asked_from
more_states distance t n m has_one has_other one other sum = ap (λ k. asked_from distance one other has_one has_other t k) sum

pub from_next : (life : ℕ) (tally : Tally) (distance t end : ℕ) (has_one has_other : Times) (one other : Side) → t < end →
    with_all life tally (asked_from distance one other has_one has_other t (end - t))
    ≡ with_all life (with_all life tally (asked_in distance t one (has_one t) other (has_other t)))
    (asked_from distance (side_at one t (has_one t)) (side_at other t (has_other t)) has_one has_other (t + 1) (end - (t + 1)))
from_next life tally distance t end has_one has_other one other less =
    ap (λ os. with_all life tally os) (more_states distance t (end - (t + 1)) (end - t) has_one has_other one other (omega arith))
    ∙ with_all_append life tally (asked_in distance t one (has_one t) other (has_other t))
    (asked_from distance (side_at one t (has_one t)) (side_at other t (has_other t)) has_one has_other (t + 1) (end - (t + 1)))

pub from_none : (distance t : ℕ) (has_one has_other : Times) (one other : Side) → asked_from distance one other has_one has_other t (t - t) ≡ []
unfolding asked_from
from_none distance t has_one has_other one other =
    let none : t - t ≡ 0 = omega arith in
    ap (λ k. asked_from distance one other has_one has_other t k) none
