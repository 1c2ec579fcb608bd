-- What waits for its event, and when it is reported.
use Rattle.std.proofs.Common.{◌≡◌, ℕ, ◌-◌, ◌<◌, ◌≤◌, Bool, true, false, ◌&&◌, leb, ltb, eqb, List, [], ◌∷◌, ◌++◌, Option, Some, None, refl, sym, ap, ◌∙◌, append_assoc, inl, inr, arith}
use Rattle.std.specs.Prelude.{IfSome, map, if◌then◌else◌, is_none}
use Rattle.std.specs.Option.{option_map}
use Rattle.std.proofs.lemmas.Bool.{cases_Bool, le-leb, lt-leb, lt-ltb, eq-eqb}
use Rattle.kc_monitor_forms.specs.declared.obligation.Point.{Point}
use Rattle.kc_monitor_forms.specs.After.{reached, asked, awaited, after}
use Rattle.kc_monitor_forms.specs.Obligations.{measured, unseen, good_if, same}
use Rattle.kc_monitor_forms.specs.Tallies.{one_more, with_one, with_all, first_of, widened}
use Rattle.kc_monitor_forms.specs.declared.tally.Tally.{Tally}
use Rattle.kc_monitor_forms.specs.declared.tally.Found.{Found}
use Rattle.kc_monitor_forms.specs.declared.after.Late.{Late}
use Rattle.kc_monitor_forms.specs.declared.obligation.Offset.TheVariants.{Plus}
use Rattle.kc_monitor_forms.specs.declared.obligation.Spread.{Spread}
use Rattle.kc_monitor_forms.specs.declared.obligation.Answer.TheVariants.{Open}
use Rattle.kc_monitor_forms.specs.After.{wanted}
use Rattle.kc_monitor_forms.specs.Machines.{next_event, IsOrderedFrom, IsRisingFrom, IsUpTo, AreNear, IsLate, IsReported, waiting_after, late_last, late_seen, later, patched, waiting_total, front_of, behind_front}
use Rattle.kc_monitor_forms.proofs.SpreadLemmas.{least_plus, most_plus, least_later, most_later}
use Rattle.kc_monitor_forms.proofs.TallyLemmas.{with_all_none, with_all_cons}

-- ---- the next event

pub next_event_late : (at : ℕ) (points : List Point) → IsOrderedFrom at points → IfSome (next_event points) (λ t. at ≤ t)
unfolding next_event IsOrderedFrom
next_event_late at [] order = tt
next_event_late at (p ∷ points) order = elim (cases_Bool p.event) [
  | inl is ↦ rw is order.0
  | inr none ↦ rw none (weaker at p.at (next_event points) order.0 (next_event_late p.at points order.1))
]
  where
    weaker : (a b : ℕ) (o : Option ℕ) → a ≤ b → IfSome o (λ t. b ≤ t) → IfSome o (λ t. a ≤ t)
    weaker a b None le h = tt
    weaker a b (Some t) le h = omega arith

-- what has waited long enough is reached by the next event
pub reached_late : (a at t : ℕ) (points : List Point) → a ≤ at - t → IsOrderedFrom at points → reached a t points ≡ option_map (λ u. u - t) (next_event points)
unfolding reached next_event IsOrderedFrom
reached_late a at t [] far order = refl
reached_late a at t (p ∷ points) far order =
    let farther : a ≤ p.at - t = omega (arith, order.0) in
    elim (cases_Bool p.event) [
      | inl is ↦ rw (is, le-leb a (p.at - t) farther) refl
      | inr none ↦ rw none (reached_late a p.at t points farther order.1)
    ]

pub reached_now : (a t : ℕ) (p : Point) (points : List Point) → p.event ≡ true → a ≤ p.at - t → reached a t (p ∷ points) ≡ Some (p.at - t)
unfolding reached
reached_now a t p points is far = rw (is, le-leb a (p.at - t) far) refl

pub reached_other : (a t : ℕ) (p : Point) (points : List Point) → p.event ≡ false → reached a t (p ∷ points) ≡ reached a t points
unfolding reached
reached_other a t p points none = rw none refl

pub reached_near : (a t : ℕ) (p : Point) (points : List Point) → p.at - t < a → reached a t (p ∷ points) ≡ reached a t points
unfolding reached
reached_near a t p points near = elim (cases_Bool p.event) [
  | inl is ↦ rw (is, lt-leb a (p.at - t) near) refl
  | inr none ↦ rw none refl
]

-- ---- behind a point

pub asked_near : (none : Bool) (a b end : ℕ) (p : Point) (points : List Point) (waiting : List ℕ) → AreNear a p.at waiting →
    map (λ t. asked none a b end t (p ∷ points)) waiting ≡ map (λ t. asked none a b end t points) waiting
unfolding AreNear
asked_near none a b end p points [] near = refl
asked_near none a b end p points (t ∷ ts) near = rw (reached_near a t p points near.0, asked_near none a b end p points ts near.1) refl

pub asked_other : (none : Bool) (a b end : ℕ) (p : Point) (points : List Point) (waiting : List ℕ) → p.event ≡ false →
    map (λ t. asked none a b end t (p ∷ points)) waiting ≡ map (λ t. asked none a b end t points) waiting
asked_other none a b end p points [] other = refl
asked_other none a b end p points (t ∷ ts) other = rw (reached_other a t p points other, asked_other none a b end p points ts other) refl

-- ---- the first bad obligation gets the event that is seen

none_seen : (b : Bool) → (b && false) ≡ false
none_seen true = refl
none_seen false = refl

pub patched_twice : (life t u : ℕ) (first : Option Found) → patched life u (patched life t first) ≡ patched life t first
patched_twice life t u None = refl
patched_twice life t u (Some f) = elim (cases_Bool (eqb f.life life && is_none f.seen)) [
  | inl is ↦ rw is (rw (none_seen (eqb f.life life)) refl)
  | inr other ↦ rw other (rw other refl)
]

-- one of which nothing was seen, and that it is seen then
patched_new : (life t at : ℕ) → patched life t (Some (record { life = life; at = at; seen = None })) ≡ Some (record { life = life; at = at; seen = Some (Plus (t - at)) })
patched_new life t at = rw (eq-eqb life life refl) refl

first_patched : (life t at : ℕ) (first : Option Found) →
    first_of (patched life t first) (record { life = life; at = at; seen = Some (Plus (t - at)) })
    ≡ patched life t (first_of first (record { life = life; at = at; seen = None }))
first_patched life t at None = sym (patched_new life t at)
first_patched life t at (Some f) = elim (cases_Bool (eqb f.life life && is_none f.seen)) [
  | inl is ↦ rw is refl
  | inr other ↦ rw other refl
]

-- ---- what has waited too long is reported before its event is seen

spread_alone : (s : Option Spread) (d : ℕ) → widened s (same (Plus d)) ≡ widened (widened s None) (same (Plus d))
spread_alone None d = refl
spread_alone (Some s) d = refl

spread_late : (s : Option Spread) (last first d : ℕ) → d ≤ last → last ≤ first →
    widened (widened s (Some (record { least = Plus last; most = Plus first }))) (same (Plus d)) ≡ widened (widened s None) (Some (record { least = Plus d; most = Plus first }))
spread_late None last first d near far =
    let most : d ≤ first = omega arith in
    λ i. Some (record { least = least_plus last d near i; most = most_plus first d most i })
spread_late (Some s) last first d near far =
    let most : d ≤ first = omega arith in
    λ i. Some (record { least = least_later s.least last d near i; most = most_later s.most first d most i })

abbrev too_late : ℕ → Tally → Bool → ℕ → Tally
too_late life tally none at = with_one life tally (unseen at (good_if none))

late_reported : (life t at b : ℕ) (none : Bool) (tally : Tally) (late : Option Late) → b < t - at → at ≤ t → IsLate late → late_last late ≤ at → IsReported life late tally.first_bad →
    with_one life (late_seen life tally late (Some t)) (measured at (t - at) (wanted none (leb (t - at) b)))
    ≡ late_seen life (too_late life tally none at) (later late at) (Some t)
late_reported life t at b true tally None past le is before reported =
    rw (lt-leb (t - at) b past)
    (λ i. record tally { good = one_more tally.good; first_bad = sym (reported t) i; spread = spread_alone tally.spread (t - at) i })
late_reported life t at b true tally (Some late) past le is before reported =
    rw (lt-leb (t - at) b past)
    (λ i. record tally { good = one_more tally.good; first_bad = patched life t tally.first_bad; spread = spread_late tally.spread (t - late.last) (t - late.first) (t - at) (omega arith) (omega arith) i })
late_reported life t at b false tally None past le is before reported =
    rw (lt-leb (t - at) b past)
    (λ i. record tally {
      bad = one_more tally.bad;
      first_bad = (ap (λ f. first_of f (record { life = life; at = at; seen = Some (Plus (t - at)) })) (sym (reported t)) ∙ first_patched life t at tally.first_bad) i;
      spread = spread_alone tally.spread (t - at) i;
    })
late_reported life t at b false tally (Some late) past le is before reported =
    rw (lt-leb (t - at) b past)
    (λ i. record tally {
      bad = one_more tally.bad;
      first_bad = first_patched life t at tally.first_bad i;
      spread = spread_late tally.spread (t - late.last) (t - late.first) (t - at) (omega arith) (omega arith) i;
    })

late_none : (life : ℕ) (tally : Tally) (late : Option Late) → late_seen life tally late None ≡ tally
late_none life tally None = refl
late_none life tally (Some late) = refl

-- whether its event comes or not
expired_by : (life at now b end : ℕ) (none : Bool) (tally : Tally) (late : Option Late) (next : Option ℕ) → b < now - at → now ≤ end → IfSome next (λ t. now ≤ t) →
    IsLate late → late_last late ≤ at → IsReported life late tally.first_bad →
    with_one life (late_seen life tally late next) (awaited none b end at (option_map (λ u. u - at) next))
    ≡ late_seen life (too_late life tally none at) (later late at) next
expired_by life at now b end none tally late None past within next is before reported =
    let long : b < end - at = omega arith in
    ap (λ t. with_one life t (unseen at (if ltb b (end - at) then good_if none else Open))) (late_none life tally late)
    ∙ rw (lt-ltb b (end - at) long) (sym (late_none life (too_late life tally none at) (later late at)))
expired_by life at now b end none tally late (Some t) past within next is before reported =
    late_reported life t at b none tally late (omega arith) (omega arith) is before reported

pub expired : (life at now a b end : ℕ) (none : Bool) (tally : Tally) (late : Option Late) (waiting : List ℕ) (points : List Point) →
    a ≤ now - at → b < now - at → now ≤ end → IsOrderedFrom now points → IsLate late → late_last late ≤ at → IsReported life late tally.first_bad →
    waiting_total life tally none a b late (at ∷ waiting) end points
    ≡ waiting_total life (with_one life tally (unseen at (good_if none))) none a b (later late at) waiting end points
expired life at now a b end none tally late waiting points far past within order is before reported =
    let os = map (λ t. asked none a b end t points) waiting ++ after none a b end points in
    with_all_cons life (late_seen life tally late (next_event points)) (asked none a b end at points) os
    ∙ ap (λ t. with_all life t os)
    (ap (λ r. with_one life (late_seen life tally late (next_event points)) (awaited none b end at r)) (reached_late a now at points far order)
    ∙ expired_by life at now b end none tally late (next_event points) past within (next_event_late now points order) is before reported)

-- ---- an event comes

next_now : (p : Point) (points : List Point) → p.event ≡ true → next_event (p ∷ points) ≡ Some p.at
unfolding next_event
next_now p points is = rw is refl

next_other : (p : Point) (points : List Point) → p.event ≡ false → next_event (p ∷ points) ≡ next_event points
unfolding next_event
next_other p points other = rw other refl

-- it is the one of what was late
pub seen_total : (life a b end : ℕ) (none : Bool) (tally : Tally) (late : Option Late) (waiting : List ℕ) (p : Point) (points : List Point) → p.event ≡ true →
    waiting_total life tally none a b late waiting end (p ∷ points)
    ≡ waiting_total life (late_seen life tally late (Some p.at)) none a b None waiting end (p ∷ points)
seen_total life a b end none tally late waiting p points is =
    ap (λ o. with_all life (late_seen life tally late o) (map (λ t. asked none a b end t (p ∷ points)) waiting ++ after none a b end (p ∷ points))) (next_now p points is)

-- it is the one of what waits first
pub answered_total : (life at a b end : ℕ) (none : Bool) (tally : Tally) (waiting : List ℕ) (p : Point) (points : List Point) → p.event ≡ true → a ≤ p.at - at →
    waiting_total life tally none a b None (at ∷ waiting) end (p ∷ points)
    ≡ waiting_total life (with_one life tally (measured at (p.at - at) (wanted none (leb (p.at - at) b)))) none a b None waiting end (p ∷ points)
answered_total life at a b end none tally waiting p points is far =
    let os = map (λ t. asked none a b end t (p ∷ points)) waiting ++ after none a b end (p ∷ points) in
    with_all_cons life tally (asked none a b end at (p ∷ points)) os
    ∙ ap (λ r. with_all life (with_one life tally (awaited none b end at r)) os) (reached_now a at p points is far)

-- the scope is over
pub finished_total : (life at a b end : ℕ) (none : Bool) (tally : Tally) (late other : Option Late) (waiting : List ℕ) →
    waiting_total life tally none a b late (at ∷ waiting) end []
    ≡ waiting_total life (with_one life tally (unseen at (if ltb b (end - at) then good_if none else Open))) none a b other waiting end []
unfolding next_event reached
finished_total life at a b end none tally late other waiting =
    let os = map (λ t. asked none a b end t []) waiting ++ after none a b end [] in
    ap (λ t. with_all life t (asked none a b end at [] ∷ os)) (late_none life tally late)
    ∙ with_all_cons life tally (asked none a b end at []) os
    ∙ ap (λ t. with_all life t os) (sym (late_none life (with_one life tally (asked none a b end at [])) other))

pub over_total : (life a b end : ℕ) (none : Bool) (tally : Tally) (late : Option Late) → waiting_total life tally none a b late [] end [] ≡ tally
unfolding next_event after
over_total life a b end none tally late = with_all_none life (late_seen life tally late None) ∙ late_none life tally late

-- nothing is late any more
pub late_total : (life a b end : ℕ) (none : Bool) (tally : Tally) (late other : Option Late) (waiting : List ℕ) →
    waiting_total life tally none a b late waiting end [] ≡ waiting_total life tally none a b other waiting end []
unfolding next_event
late_total life a b end none tally late other waiting =
    ap (λ t. with_all life t (map (λ t. asked none a b end t []) waiting ++ after none a b end []))
    (late_none life tally late ∙ sym (late_none life tally other))

-- ---- behind a point

after_from : (none : Bool) (a b end : ℕ) (p : Point) (points : List Point) → p.from ≡ true →
    after none a b end (p ∷ points) ≡ asked none a b end p.at points ∷ after none a b end points
unfolding after
after_from none a b end p points is = rw is refl

after_other : (none : Bool) (a b end : ℕ) (p : Point) (points : List Point) → p.from ≡ false → after none a b end (p ∷ points) ≡ after none a b end points
unfolding after
after_other none a b end p points other = rw other refl

map_push : {A B : Type 0} (f : A → B) (xs : List A) (x : A) → map f (xs ++ x ∷ []) ≡ map f xs ++ f x ∷ []
map_push f [] x = refl
map_push f (y ∷ xs) x = ap (λ ys. f y ∷ ys) (map_push f xs x)

pub behind_total : (life a b end : ℕ) (none : Bool) (tally : Tally) (late : Option Late) (waiting : List ℕ) (p : Point) (points : List Point) →
    (p.event ≡ true → (late ≡ None) × AreNear a p.at waiting) →
    waiting_total life tally none a b late waiting end (p ∷ points) ≡ waiting_total life tally none a b late (waiting_after p waiting) end points
behind_total life a b end none tally late waiting p points here =
    with_seen life none a b end tally late waiting p points here
    ∙ ap (λ os. with_all life (late_seen life tally late (next_event points)) os) (with_point life none a b end waiting p points (λ is. (here is).1))
  where
    with_seen : (life : ℕ) (none : Bool) (a b end : ℕ) (tally : Tally) (late : Option Late) (waiting : List ℕ) (p : Point) (points : List Point) →
        (p.event ≡ true → (late ≡ None) × AreNear a p.at waiting) →
        waiting_total life tally none a b late waiting end (p ∷ points)
        ≡ with_all life (late_seen life tally late (next_event points)) (map (λ t. asked none a b end t (p ∷ points)) waiting ++ after none a b end (p ∷ points))
    with_seen life none a b end tally late waiting p points here =
        ap (λ t. with_all life t (map (λ t. asked none a b end t (p ∷ points)) waiting ++ after none a b end (p ∷ points)))
        (elim (cases_Bool p.event) [
          | inl is ↦
              ap (λ o. late_seen life tally o (next_event (p ∷ points))) (here is).0 ∙ sym (ap (λ o. late_seen life tally o (next_event points)) (here is).0)
          | inr other ↦ ap (λ o. late_seen life tally late o) (next_other p points other)
        ])

    asked_before : (none : Bool) (a b end : ℕ) (waiting : List ℕ) (p : Point) (points : List Point) → (p.event ≡ true → AreNear a p.at waiting) →
        map (λ t. asked none a b end t (p ∷ points)) waiting ≡ map (λ t. asked none a b end t points) waiting
    asked_before none a b end waiting p points near = elim (cases_Bool p.event) [
      | inl is ↦ asked_near none a b end p points waiting (near is)
      | inr other ↦ asked_other none a b end p points waiting other
    ]

    with_point : (life : ℕ) (none : Bool) (a b end : ℕ) (waiting : List ℕ) (p : Point) (points : List Point) → (p.event ≡ true → AreNear a p.at waiting) →
        map (λ t. asked none a b end t (p ∷ points)) waiting ++ after none a b end (p ∷ points)
        ≡ map (λ t. asked none a b end t points) (waiting_after p waiting) ++ after none a b end points
    with_point life none a b end waiting p points near =
        ap (λ os. os ++ after none a b end (p ∷ points)) (asked_before none a b end waiting p points near)
        ∙ elim (cases_Bool p.from) [
          | inl is ↦
              ap (λ os. map (λ t. asked none a b end t points) waiting ++ os) (after_from none a b end p points is)
              ∙ sym (rw is (ap (λ os. os ++ after none a b end points) (map_push (λ t. asked none a b end t points) waiting p.at)
              ∙ append_assoc (map (λ t. asked none a b end t points) waiting) (asked none a b end p.at points ∷ []) (after none a b end points)))
          | inr other ↦
              ap (λ os. map (λ t. asked none a b end t points) waiting ++ os) (after_other none a b end p points other) ∙ sym (rw other refl)
        ]

-- ---- what waits

pub near_all : (a now at : ℕ) (waiting : List ℕ) → now - at < a → IsRisingFrom at waiting → AreNear a now waiting
unfolding IsRisingFrom AreNear
near_all a now at [] near rising = tt
near_all a now at (t ∷ ts) near rising =
    let less : now - t < a = omega (arith, rising.0) in
    (less, near_all a now t ts less rising.1)

pub near_none : (a now : ℕ) (waiting : List ℕ) → front_of waiting ≡ None → AreNear a now waiting
unfolding AreNear
near_none a now [] none = tt
near_none a now (t ∷ ts) none = cc

pub near_front : (a now first before : ℕ) (waiting : List ℕ) → front_of waiting ≡ Some first → now - first < a → IsRisingFrom before waiting → AreNear a now waiting
unfolding IsRisingFrom AreNear
near_front a now first before [] is near rising = cc
near_front a now first before (t ∷ ts) is near rising =
    let same : t ≡ first = cc in
    let less : now - t < a = omega (arith, same, near) in
    (less, near_all a now t ts less rising.1)

pub front_is : (first : ℕ) (waiting : List ℕ) → front_of waiting ≡ Some first → waiting ≡ first ∷ behind_front waiting
front_is first [] is = cc
front_is first (t ∷ ts) is = let same : t ≡ first = cc in ap (λ u. u ∷ ts) same

pub none_is : (waiting : List ℕ) → front_of waiting ≡ None → waiting ≡ []
none_is [] is = refl
none_is (t ∷ ts) is = cc

pub rising_zero : (before : ℕ) (waiting : List ℕ) → IsRisingFrom before waiting → IsRisingFrom 0 waiting
unfolding IsRisingFrom
rising_zero before [] rising = tt
rising_zero before (t ∷ ts) rising = (omega arith, rising.1)

pub rising_behind : (before : ℕ) (waiting : List ℕ) → IsRisingFrom before waiting → IsRisingFrom 0 (behind_front waiting)
unfolding IsRisingFrom
rising_behind before [] rising = tt
rising_behind before (t ∷ ts) rising = rising_zero t ts rising.1

pub upto_behind : (last : ℕ) (waiting : List ℕ) → IsUpTo last waiting → IsUpTo last (behind_front waiting)
unfolding IsUpTo
upto_behind last [] upto = tt
upto_behind last (t ∷ ts) upto = upto.1

pub rising_front : (first before : ℕ) (waiting : List ℕ) → front_of waiting ≡ Some first → IsRisingFrom before waiting → (before ≤ first) × IsRisingFrom first (behind_front waiting)
unfolding IsRisingFrom
rising_front first before [] is rising = cc
rising_front first before (t ∷ ts) is rising = let same : t ≡ first = cc in rw same at rising

pub upto_front : (first last : ℕ) (waiting : List ℕ) → front_of waiting ≡ Some first → IsUpTo last waiting → first ≤ last
unfolding IsUpTo
upto_front first last [] is upto = cc
upto_front first last (t ∷ ts) is upto = let same : t ≡ first = cc in omega (arith, upto.0, same)

pub rising_push : (before at : ℕ) (waiting : List ℕ) → before ≤ at → IsRisingFrom before waiting → IsUpTo at waiting → IsRisingFrom before (waiting ++ at ∷ [])
unfolding IsRisingFrom IsUpTo
rising_push before at [] le rising upto = (le, tt)
rising_push before at (t ∷ ts) le rising upto = (rising.0, rising_push t at ts upto.0 rising.1 upto.1)

pub upto_push : (at : ℕ) (waiting : List ℕ) → IsUpTo at waiting → IsUpTo at (waiting ++ at ∷ [])
unfolding IsUpTo
upto_push at [] upto = (omega arith, tt)
upto_push at (t ∷ ts) upto = (upto.0, upto_push at ts upto.1)

pub rising_point : (before : ℕ) (p : Point) (waiting : List ℕ) → before ≤ p.at → IsRisingFrom before waiting → IsUpTo p.at waiting →
    IsRisingFrom before (waiting_after p waiting)
rising_point before p waiting le rising upto = elim (cases_Bool p.from) [
  | inl is ↦ rw is (rising_push before p.at waiting le rising upto)
  | inr other ↦ rw other rising
]

pub upto_point : (p : Point) (waiting : List ℕ) → IsUpTo p.at waiting → IsUpTo p.at (waiting_after p waiting)
upto_point p waiting upto = elim (cases_Bool p.from) [
  | inl is ↦ rw is (upto_push p.at waiting upto)
  | inr other ↦ rw other upto
]

pub upto_later : (at later : ℕ) (waiting : List ℕ) → at ≤ later → IsUpTo at waiting → IsUpTo later waiting
unfolding IsUpTo
upto_later at later [] le upto = tt
upto_later at later (t ∷ ts) le upto = (omega (arith, upto.0), upto_later at later ts le upto.1)

pub later_last : (late : Option Late) (at : ℕ) → late_last (later late at) ≡ at
later_last None at = refl
later_last (Some late) at = refl

pub later_is : (late : Option Late) (at : ℕ) → IsLate late → late_last late ≤ at → IsLate (later late at)
later_is None at is le = omega arith
later_is (Some late) at is le = omega arith

pub later_reported : (life : ℕ) (late : Option Late) (at : ℕ) (first : Option Found) → IsReported life (later late at) first
later_reported life None at first = tt
later_reported life (Some late) at first = tt

-- of what is reported with its event nothing waits for it
pub reported_seen : (life at n : ℕ) (good : Bool) (tally : Tally) → IsReported life None tally.first_bad → IsReported life None (with_one life tally (measured at n good)).first_bad
reported_seen life at n true tally reported = reported
reported_seen life at n false tally reported = λ t. here life at n t tally.first_bad (reported t)
  where
    here : (life at n t : ℕ) (first : Option Found) → patched life t first ≡ first →
        patched life t (first_of first (record { life = life; at = at; seen = Some (Plus n) })) ≡ first_of first (record { life = life; at = at; seen = Some (Plus n) })
    here life at n t None reported = rw (none_seen (eqb life life)) refl
    here life at n t (Some f) reported = reported

-- ---- by equal parts

pub same_total : (life end : ℕ) (points : List Point) {tally tally2 : Tally} {none none2 : Bool} {a a2 b b2 : ℕ} {late late2 : Option Late} {waiting waiting2 : List ℕ} →
    tally ≡ tally2 → none ≡ none2 → a ≡ a2 → b ≡ b2 → late ≡ late2 → waiting ≡ waiting2 →
    waiting_total life tally none a b late waiting end points ≡ waiting_total life tally2 none2 a2 b2 late2 waiting2 end points
same_total life end points t n p q l w = λ i. waiting_total life (t i) (n i) (p i) (q i) (l i) (w i) end points
