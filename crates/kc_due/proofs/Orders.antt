-- Laws of linked slots: which is first, and that they stay linked where one is taken out or put in.
use Rattle.std.proofs.Common.{◌≡◌, ◌≢◌, ℕ, zero, suc, ◌+◌, ◌-◌, ◌*◌, ◌<◌, ◌≤◌, ◌⊎◌, inl, inr, Bool, true, false, is_some, length, Option, Some, None, IfSome, IsSome, IsTrue, refl, sym, ◌∙◌, ap, subst, arith}
use Rattle.std.proofs.lemmas.Bool.{cases_eq, cases_lt}
use Rattle.std.proofs.lemmas.Option.{same_Some}
use Rattle.std.proofs.lemmas.List.{get_or-set_same, get_or-set_other, length-set}
use Rattle.std.proofs.Math.ListN.{get_or-map}
use Rattle.std.specs.Prelude.{slice_set, slice_index_or}
use Rattle.std.specs.Option.{unwrap_or}
use Rattle.kc_due.specs.declared.links.Links.{Links}
use Rattle.kc_due.specs.Due.{at_slot, IsFirst}
use Rattle.kc_due.specs.Links.{blank, node_of, times_of, next_of, IsIn, place, IsLinked, IsJoined, IsLastBefore}
use Rattle.kc_due.proofs.Writes.{same_link, at_times, kept}

-- ---- which is first

pub record Head (links : Links) (k : ℕ) : Type 0 where
  pub slot : ℕ
  pub is : links.head ≡ Some slot
  pub least : place links slot ≤ place links k

-- the first of what leads to a slot
from_previous : (links : Links) → IsLinked links → (k : ℕ) → IsIn links k → ((p : ℕ) → IsIn links p → place links p < place links k → Head links p) →
    (x : Option ℕ) → (node_of links k).previous ≡ x → Head links k
from_previous links linked k has earlier None e = record { slot = k; is = sym (ap (next_of links) e) ∙ (linked.back k has).1; least = omega arith }
from_previous links linked k has earlier (Some p) e =
    let p_in : IsIn links p = subst (λ x. IfSome x (IsIn links)) e (linked.back k has).0 in
    let on : next_of links (Some p) ≡ Some k = sym (ap (next_of links) e) ∙ (linked.back k has).1 in
    let before : place links p < place links k = (linked.on (Some p) k p_in on).2 in
    let first : Head links p = earlier p p_in before in
    let le : place links first.slot ≤ place links p = first.least in
    record { slot = first.slot; is = first.is; least = omega arith }

least_below : (links : Links) → IsLinked links → (n k : ℕ) → place links k < n → IsIn links k → Head links k
least_below links linked zero k lt has = absurd (omega arith)
least_below links linked (suc n) k lt has =
    from_previous links linked k has (λ p p_in before. least_below links linked n p (omega arith) p_in) (node_of links k).previous refl

pub least : (links : Links) → IsLinked links → (k : ℕ) → IsIn links k → Head links k
least links linked k has = least_below links linked (suc (place links k)) k (omega arith) has

-- a slot with a time
pub has_time : (links : Links) (k time : ℕ) → k < 16 → (node_of links k).at ≡ Some time → IsIn links k
has_time links k time lt e = (lt, ap is_some e)

pub no_time : (links : Links) (k : ℕ) → (node_of links k).at ≡ None → IsSome (node_of links k).at → ⊥
no_time links k none some = let wrong : false ≡ true = sym (ap is_some none) ∙ some in cc

pub head_in : (links : Links) (k : ℕ) → IsLinked links → links.head ≡ Some k → IsIn links k
head_in links k linked e = (linked.on None k tt e).0

place_at : (links : Links) (k time : ℕ) → (node_of links k).at ≡ Some time → place links k ≡ time * 16 + k
place_at links k time e = ap (λ o. unwrap_or o 0 * 16 + k) e

pub none_found : (links : Links) → IsLinked links → links.head ≡ None → IsFirst (times_of links) None
none_found links linked none = λ k kt. at_times links k ∙ by k kt (node_of links k).at refl
  where
    by : (k : ℕ) → k < 16 → (o : Option ℕ) → (node_of links k).at ≡ o → (node_of links k).at ≡ None
    by k kt None e = e
    by k kt (Some time) e = let first : Head links k = least links linked k (has_time links k time kt e) in let is : links.head ≡ Some first.slot = first.is in absurd (cc)

pub first_found : (links : Links) (slot time : ℕ) → IsLinked links → links.head ≡ Some slot → (node_of links slot).at ≡ Some time → IsFirst (times_of links) (Some (slot, time))
first_found links slot time linked head at = (
  (head_in links slot linked head).0,
  at_times links slot ∙ at,
  λ k other kt is.
      let here : (node_of links k).at ≡ Some other = sym (at_times links k) ∙ is in
      let first : Head links k = least links linked k (has_time links k other kt here) in
      let same : first.slot ≡ slot = same_Some _ _ (sym first.is ∙ head) in
      let le : place links slot ≤ place links k = subst (λ j. place links j ≤ place links k) same first.least in
      let a : place links slot ≡ time * 16 + slot = place_at links slot time at in
      let b : place links k ≡ other * 16 + k = place_at links k other here in
      let lt : slot < 16 = (head_in links slot linked head).0 in
      order slot time k other lt kt (omega arith),
)
  where
    order : (slot time k other : ℕ) → slot < 16 → k < 16 → time * 16 + slot ≤ other * 16 + k → (time < other) ⊎ ((time ≡ other) × (slot ≤ k))
    order slot time k other a b le = elim (cases_lt time other) [ inl sooner ↦ inl sooner | inr later ↦ inr (omega arith, omega arith) ]

-- ---- a slot taken out

pub record IsTakenOut (old : Links) (slot : ℕ) (new : Links) : Type 0 where
  pub sixteen : length new.nodes ≡ 16
  pub gone : (node_of new slot).at ≡ None
  pub others : (k : ℕ) → k ≢ slot → (node_of new k).at ≡ (node_of old k).at
  pub on : next_of new (node_of old slot).previous ≡ (node_of old slot).next
  pub others_on : (from : Option ℕ) → from ≢ (node_of old slot).previous → next_of new from ≡ next_of old from
  pub back : (k : ℕ) → (node_of old slot).next ≡ Some k → (node_of new k).previous ≡ (node_of old slot).previous
  pub others_back : (k : ℕ) → (node_of old slot).next ≢ Some k → (node_of new k).previous ≡ (node_of old k).previous

module _ (old : Links) (slot : ℕ) (new : Links) (linked : IsLinked old) (here : IsIn old slot) (out : IsTakenOut old slot new) where
  still_in : (k : ℕ) → k ≢ slot → IsIn old k → IsIn new k
  still_in k other has = (has.0, ap is_some (out.others k other) ∙ has.1)

  was_in : (k : ℕ) → IsIn new k → IsIn old k × (k ≢ slot)
  was_in k has =
      let other : k ≢ slot = λ e. no_time new k (ap (λ j. (node_of new j).at) e ∙ out.gone) has.1 in
      ((has.0, sym (ap is_some (out.others k other)) ∙ has.1), other)

  link_in : (x : Option ℕ) → x ≢ Some slot → IfSome x (IsIn old) → IfSome x (IsIn new)
  link_in None other has = tt
  link_in (Some k) other has = still_in k (λ e. other (ap Some e)) has

  link_was : (x : Option ℕ) → IfSome x (IsIn new) → IfSome x (IsIn old) × (x ≢ Some slot)
  link_was None has = (tt, λ e. cc)
  link_was (Some k) has = ((was_in k has).0, λ e. (was_in k has).1 (cc))

  same_place : (k : ℕ) → k ≢ slot → place new k ≡ place old k
  same_place k other = ap (λ o. unwrap_or o 0 * 16 + k) (out.others k other)

  -- what stood before a slot still does
  before : (x : Option ℕ) (k : ℕ) → x ≢ Some slot → k ≢ slot → IfSome x (λ j. place old j < place old k) → IfSome x (λ j. place new j < place new k)
  before None k apart other lt = tt
  before (Some j) k apart other lt =
      let a : place new j ≡ place old j = same_place j (λ e. apart (ap Some e)) in
      let b : place new k ≡ place old k = same_place k other in
      omega arith

  through : (x : Option ℕ) (k : ℕ) → IfSome x (λ j. place old j < place old slot) → place old slot < place old k → IfSome x (λ j. place old j < place old k)
  through None k lt more = tt
  through (Some j) k lt more = omega arith

  -- the link to the slot
  to_slot : IfSome (node_of old slot).previous (λ j. place old j < place old slot)
  to_slot = (linked.on (node_of old slot).previous slot (linked.back slot here).0 (linked.back slot here).1).2

  not_back : (node_of old slot).previous ≢ Some slot
  not_back = λ e. let lt : place old slot < place old slot = subst (λ x. IfSome x (λ j. place old j < place old slot)) e to_slot in omega arith

  on_out : (from : Option ℕ) (k : ℕ) → IfSome from (IsIn new) → next_of new from ≡ Some k →
      IsIn new k × ((node_of new k).previous ≡ from) × IfSome from (λ j. place new j < place new k)
  on_out from k has e = elim (same_link from (node_of old slot).previous) [
    | inl same ↦
        let next : (node_of old slot).next ≡ Some k = sym out.on ∙ sym (ap (next_of new) same) ∙ e in
        let was = linked.on (Some slot) k here next in
        let lt : place old slot < place old k = was.2 in
        let other : k ≢ slot = λ q. let same_place' : place old k ≡ place old slot = ap (place old) q in omega arith in (
          still_in k other was.0,
          out.back k next ∙ sym same,
          before from k (link_was from has).1 other (through from k (subst (λ x. IfSome x (λ j. place old j < place old slot)) (sym same) to_slot) lt),
        )
    | inr apart ↦
        let next : next_of old from ≡ Some k = sym (out.others_on from apart) ∙ e in
        let was = linked.on from k (link_was from has).0 next in
        let other : k ≢ slot = λ q. apart (sym was.1 ∙ ap (λ j. (node_of old j).previous) q) in
        let not_next : (node_of old slot).next ≢ Some k = λ q. (link_was from has).1 (sym was.1 ∙ (linked.on (Some slot) k here q).1) in
        (still_in k other was.0, out.others_back k not_next ∙ was.1, before from k (link_was from has).1 other was.2)
  ]

  back_out : (k : ℕ) → IsIn new k → IfSome (node_of new k).previous (IsIn new) × (next_of new (node_of new k).previous ≡ Some k)
  back_out k has = elim (same_link (node_of old slot).next (Some k)) [
    | inl next ↦
        let previous : (node_of new k).previous ≡ (node_of old slot).previous = out.back k next in (
          subst (λ x. IfSome x (IsIn new)) (sym previous) (link_in (node_of old slot).previous not_back (linked.back slot here).0),
          ap (next_of new) previous ∙ out.on ∙ next,
        )
    | inr apart ↦
        let was = was_in k has in
        let is = linked.back k was.0 in
        let previous : (node_of new k).previous ≡ (node_of old k).previous = out.others_back k apart in
        let not_slot : (node_of old k).previous ≢ Some slot = λ q. apart (sym (ap (next_of old) q) ∙ is.1) in
        let not_before : (node_of old k).previous ≢ (node_of old slot).previous = λ q. was.1 (same_Some _ _ (sym is.1 ∙ ap (next_of old) q ∙ (linked.back slot here).1)) in (
          subst (λ x. IfSome x (IsIn new)) (sym previous) (link_in (node_of old k).previous not_slot is.0),
          ap (next_of new) previous ∙ out.others_on (node_of old k).previous not_before ∙ is.1,
        )
  ]

  pub taken_out : IsLinked new
  taken_out = record { sixteen = out.sixteen; on = on_out; back = back_out }

-- ---- a slot put in

pub record IsPutIn (old : Links) (slot time : ℕ) (earlier : Option ℕ) (new : Links) : Type 0 where
  pub sixteen : length new.nodes ≡ 16
  pub here : (node_of new slot).at ≡ Some time
  pub others : (k : ℕ) → k ≢ slot → (node_of new k).at ≡ (node_of old k).at
  pub to_slot : next_of new earlier ≡ Some slot
  pub from_slot : next_of new (Some slot) ≡ next_of old earlier
  pub others_on : (from : Option ℕ) → from ≢ earlier → from ≢ Some slot → next_of new from ≡ next_of old from
  pub back : (node_of new slot).previous ≡ earlier
  pub back_to_slot : (k : ℕ) → next_of old earlier ≡ Some k → (node_of new k).previous ≡ Some slot
  pub others_back : (k : ℕ) → k ≢ slot → next_of old earlier ≢ Some k → (node_of new k).previous ≡ (node_of old k).previous

module _ (old : Links) (slot time : ℕ) (earlier : Option ℕ) (new : Links) (linked : IsLinked old) (slot_fits : slot < 16) (empty : (node_of old slot).at ≡ None)
    (last : IsLastBefore old (time * 16 + slot) earlier) (put : IsPutIn old slot time earlier new) where
  not_slot : (k : ℕ) → IsIn old k → k ≢ slot
  not_slot k has e = no_time old k (ap (λ j. (node_of old j).at) e ∙ empty) has.1

  slot_in : IsIn new slot
  slot_in = has_time new slot time slot_fits put.here

  in_new : (k : ℕ) → IsIn old k → IsIn new k
  in_new k has = (has.0, ap is_some (put.others k (not_slot k has)) ∙ has.1)

  in_old : (k : ℕ) → k ≢ slot → IsIn new k → IsIn old k
  in_old k other has = (has.0, sym (ap is_some (put.others k other)) ∙ has.1)

  link_new : (x : Option ℕ) → IfSome x (IsIn old) → IfSome x (IsIn new) × (x ≢ Some slot)
  link_new None has = (tt, λ e. cc)
  link_new (Some k) has = (in_new k has, λ e. not_slot k has (cc))

  link_old : (x : Option ℕ) → x ≢ Some slot → IfSome x (IsIn new) → IfSome x (IsIn old)
  link_old None other has = tt
  link_old (Some k) other has = in_old k (λ e. other (ap Some e)) has

  place_kept : (k : ℕ) → k ≢ slot → place new k ≡ place old k
  place_kept k other = ap (λ o. unwrap_or o 0 * 16 + k) (put.others k other)

  place_here : place new slot ≡ time * 16 + slot
  place_here = place_at new slot time put.here

  earlier_in : (x : Option ℕ) → IfSome x (λ k. IsIn old k × (place old k < time * 16 + slot)) → IfSome x (IsIn old)
  earlier_in None has = tt
  earlier_in (Some k) has = has.0

  before_slot : (x : Option ℕ) → IfSome x (λ k. IsIn old k × (place old k < time * 16 + slot)) → IfSome x (λ j. place new j < place new slot)
  before_slot None has = tt
  before_slot (Some k) has =
      let a : place new k ≡ place old k = place_kept k (not_slot k has.0) in
      let b : place new slot ≡ time * 16 + slot = place_here in
      let lt : place old k < time * 16 + slot = has.1 in
      omega arith

  before_still : (x : Option ℕ) (k : ℕ) → x ≢ Some slot → k ≢ slot → IfSome x (λ j. place old j < place old k) → IfSome x (λ j. place new j < place new k)
  before_still None k apart other lt = tt
  before_still (Some j) k apart other lt =
      let a : place new j ≡ place old j = place_kept j (λ e. apart (ap Some e)) in
      let b : place new k ≡ place old k = place_kept k other in
      omega arith

  on_put : (from : Option ℕ) (k : ℕ) → IfSome from (IsIn new) → next_of new from ≡ Some k →
      IsIn new k × ((node_of new k).previous ≡ from) × IfSome from (λ j. place new j < place new k)
  on_put from k has e = elim (same_link from earlier) [
    | inl same ↦
        let here : slot ≡ k = same_Some _ _ (sym put.to_slot ∙ sym (ap (next_of new) same) ∙ e) in
        subst (λ j. IsIn new j × ((node_of new j).previous ≡ from) × IfSome from (λ i. place new i < place new j)) here
        (slot_in, put.back ∙ sym same, subst (λ x. IfSome x (λ j. place new j < place new slot)) (sym same) (before_slot earlier last.before))
    | inr apart ↦ elim (same_link from (Some slot)) [
      | inl same ↦
          let next : next_of old earlier ≡ Some k = sym put.from_slot ∙ sym (ap (next_of new) same) ∙ e in
          let was = linked.on earlier k (earlier_in earlier last.before) next in
          let beyond : time * 16 + slot < place old k = subst (λ x. IfSome x (λ j. time * 16 + slot < place old j)) next last.beyond in
          let other : k ≢ slot = not_slot k was.0 in
          let a : place new k ≡ place old k = place_kept k other in
          let b : place new slot ≡ time * 16 + slot = place_here in
          let lt : place new slot < place new k = omega arith in
          (in_new k was.0, put.back_to_slot k next ∙ sym same, subst (λ x. IfSome x (λ j. place new j < place new k)) (sym same) lt)
      | inr not_here ↦
          let next : next_of old from ≡ Some k = sym (put.others_on from apart not_here) ∙ e in
          let was = linked.on from k (link_old from not_here has) next in
          let other : k ≢ slot = not_slot k was.0 in
          let not_next : next_of old earlier ≢ Some k = λ q. apart (sym was.1 ∙ (linked.on earlier k (earlier_in earlier last.before) q).1) in
          (in_new k was.0, put.others_back k other not_next ∙ was.1, before_still from k not_here other was.2)
    ]
  ]

  back_put : (k : ℕ) → IsIn new k → IfSome (node_of new k).previous (IsIn new) × (next_of new (node_of new k).previous ≡ Some k)
  back_put k has = elim (cases_eq k slot) [
    | inl same ↦
        let previous : (node_of new k).previous ≡ earlier = ap (λ j. (node_of new j).previous) same ∙ put.back in (
          subst (λ x. IfSome x (IsIn new)) (sym previous) (link_new earlier (earlier_in earlier last.before)).0,
          ap (next_of new) previous ∙ put.to_slot ∙ ap Some (sym same),
        )
    | inr other ↦ elim (same_link (next_of old earlier) (Some k)) [
      | inl next ↦
          let previous : (node_of new k).previous ≡ Some slot = put.back_to_slot k next in
          (subst (λ x. IfSome x (IsIn new)) (sym previous) slot_in, ap (next_of new) previous ∙ put.from_slot ∙ next)
      | inr apart ↦
          let is = linked.back k (in_old k other has) in
          let previous : (node_of new k).previous ≡ (node_of old k).previous = put.others_back k other apart in
          let not_earlier : (node_of old k).previous ≢ earlier = λ q. apart (sym (ap (next_of old) q) ∙ is.1) in
          let new_in = link_new (node_of old k).previous is.0 in (
            subst (λ x. IfSome x (IsIn new)) (sym previous) new_in.0,
            ap (next_of new) previous ∙ put.others_on (node_of old k).previous not_earlier new_in.1 ∙ is.1,
          )
    ]
  ]

  pub put_in : IsLinked new
  put_in = record { sixteen = put.sixteen; on = on_put; back = back_put }

-- ---- what a write of a time and joining leave

pub taken : (old new : Links) (slot : ℕ) → IsLinked old → IsIn old slot →
    IsJoined (record { nodes = slice_set old.nodes slot (record { at = None; previous = (node_of old slot).previous; next = (node_of old slot).next }); head = old.head })
    (node_of old slot).previous (node_of old slot).next new →
    IsTakenOut old slot new
taken old new slot linked here joined =
    let long : slot < length old.nodes = omega (arith, linked.sixteen, here.0) in
    record {
      sixteen = joined.sixteen ∙ length-set old.nodes slot _ ∙ linked.sixteen;
      gone = time_after slot ∙ ap (λ n. n.at) (get_or-set_same old.nodes slot _ blank long);
      others = λ k other. time_after k ∙ ap (λ n. n.at) (get_or-set_other old.nodes slot k _ blank other);
      on = joined.on;
      others_on = λ from other. joined.others_on from other ∙ on from;
      back = joined.back;
      others_back = λ k other. joined.others_back k other ∙ kept (λ n. n.previous) old.nodes slot _ refl k;
    }
  where
    time_after : (k : ℕ) → (node_of new k).at ≡ (slice_index_or (slice_set old.nodes slot (record { at = None; previous = (node_of old slot).previous; next = (node_of old slot).next })) k blank).at
    time_after k =
        sym (at_times new k) ∙ ap (λ m. at_slot m k) joined.times
        ∙ get_or-map (λ n. n.at) (slice_set old.nodes slot (record { at = None; previous = (node_of old slot).previous; next = (node_of old slot).next })) k blank

    on : (from : Option ℕ) → next_of (record { nodes = slice_set old.nodes slot (record { at = None; previous = (node_of old slot).previous; next = (node_of old slot).next }); head = old.head }) from ≡ next_of old from
    on None = refl
    on (Some k) = kept (λ n. n.next) old.nodes slot _ refl k

-- ---- a walk from the head to a place

-- how far it is from a slot to the place, 0 at the end
abbrev pub left : Links → ℕ → Option ℕ → ℕ
left links limit None = 0
left links limit (Some k) = suc (limit - place links k)

pub is_left : (b : Bool) (m n : ℕ) → (m < n → IsTrue b) → b ≡ false → n ≤ m
is_left b m n sooner never = elim (cases_lt m n) [ inl lt ↦ let then : b ≡ true = sooner lt in absurd (cc) | inr le ↦ le ]

-- the slot that a link leads to
pub next_in : (links : Links) (from : Option ℕ) (limit k : ℕ) (later : Option ℕ) → IsLinked links → IfSome from (λ j. IsIn links j × (place links j < limit)) →
    later ≡ next_of links from → later ≡ Some k → IsIn links k
next_in links None limit k later linked has is e = (linked.on None k tt (sym is ∙ e)).0
next_in links (Some j) limit k later linked has is e = (linked.on (Some j) k has.0 (sym is ∙ e)).0

-- a slot of another time or number that does not stand behind the place stands before it
pub passed : (links : Links) (slot at k time : ℕ) → slot < 16 → (node_of links slot).at ≡ None → IsIn links k → (node_of links k).at ≡ Some time → time * 16 + k ≤ at * 16 + slot →
    place links k < at * 16 + slot
passed links slot at k time lt none has is le =
    let a : place links k ≡ time * 16 + k = place_at links k time is in
    let kt : k < 16 = has.0 in
    let other : k ≢ slot = λ e. no_time links k (ap (λ j. (node_of links j).at) e ∙ none) has.1 in
    omega arith

pub nearer : (links : Links) (limit k : ℕ) (later : Option ℕ) → IsLinked links → IsIn links k → place links k < limit → later ≡ Some k →
    left links limit (node_of links k).next < left links limit later
nearer links limit k later linked has lt e = subst (λ x. left links limit (node_of links k).next < left links limit x) (sym e) (by (node_of links k).next refl)
  where
    by : (x : Option ℕ) → (node_of links k).next ≡ x → left links limit x < left links limit (Some k)
    by None is = omega arith
    by (Some j) is = let more : place links k < place links j = (linked.on (Some k) j has is).2 in omega arith

pub link_fits : (links : Links) (x : Option ℕ) → IfSome x (IsIn links) → IfSome x (λ k. k < 16)
link_fits links None has = tt
link_fits links (Some k) has = has.0

pub last_in : (links : Links) (limit : ℕ) (earlier : Option ℕ) → IsLastBefore links limit earlier → IfSome earlier (IsIn links)
last_in links limit earlier last = by earlier last.before
  where
    by : (x : Option ℕ) → IfSome x (λ k. IsIn links k × (place links k < limit)) → IfSome x (IsIn links)
    by None has = tt
    by (Some k) has = has.0

pub next_fits : (links : Links) (from : Option ℕ) → IsLinked links → IfSome from (IsIn links) → (x : Option ℕ) → next_of links from ≡ x → IfSome x (λ k. k < 16)
next_fits links from linked has None e = tt
next_fits links from linked has (Some k) e = (linked.on from k has e).0.0

-- a slot got its time, and was joined to what stands before it and to what stands behind
pub put : (old mid new : Links) (slot time : ℕ) (earlier later : Option ℕ) → IsLinked old → slot < 16 → (node_of old slot).at ≡ None →
    IsLastBefore old (time * 16 + slot) earlier → later ≡ next_of old earlier →
    IsJoined (record { nodes = slice_set old.nodes slot (record { at = Some time; previous = (node_of old slot).previous; next = (node_of old slot).next }); head = old.head }) earlier (Some slot) mid →
    IsJoined mid (Some slot) later new → IsPutIn old slot time earlier new
put old mid new slot time earlier later linked lt none last is one two = record {
  sixteen = two.sixteen ∙ one.sixteen ∙ length-set old.nodes slot _ ∙ linked.sixteen;
  here = time_after slot ∙ ap (λ n. n.at) (get_or-set_same old.nodes slot _ blank long);
  others = λ k other. time_after k ∙ ap (λ n. n.at) (get_or-set_other old.nodes slot k _ blank other);
  to_slot = two.others_on earlier not_earlier ∙ one.on;
  from_slot = two.on ∙ is;
  others_on = λ from apart other. two.others_on from other ∙ one.others_on from apart ∙ on from;
  back = two.others_back slot (λ e. not_later (sym is ∙ e)) ∙ one.back slot refl;
  back_to_slot = λ k e. two.back k (is ∙ e);
  others_back = λ k other apart.
      two.others_back k (λ e. apart (sym is ∙ e)) ∙ one.others_back k (λ e. other (sym (same_Some slot k e)))
      ∙ kept (λ n. n.previous) old.nodes slot _ refl k;
}
  where
    long : slot < length old.nodes
    long = omega (arith, linked.sixteen, lt)

    not_earlier : earlier ≢ Some slot
    not_earlier = λ e. let has : IsIn old slot = subst (λ x. IfSome x (IsIn old)) e (last_in old _ earlier last) in no_time old slot none has.1

    not_later : next_of old earlier ≢ Some slot
    not_later = λ e. no_time old slot none (linked.on earlier slot (last_in old _ earlier last) e).0.1

    time_after : (k : ℕ) → (node_of new k).at ≡ (slice_index_or (slice_set old.nodes slot (record { at = Some time; previous = (node_of old slot).previous; next = (node_of old slot).next })) k blank).at
    time_after k =
        sym (at_times new k) ∙ ap (λ m. at_slot m k) (two.times ∙ one.times)
        ∙ get_or-map (λ n. n.at) (slice_set old.nodes slot (record { at = Some time; previous = (node_of old slot).previous; next = (node_of old slot).next })) k blank

    on : (from : Option ℕ) → next_of (record { nodes = slice_set old.nodes slot (record { at = Some time; previous = (node_of old slot).previous; next = (node_of old slot).next }); head = old.head }) from ≡ next_of old from
    on None = refl
    on (Some k) = kept (λ n. n.next) old.nodes slot _ refl k
