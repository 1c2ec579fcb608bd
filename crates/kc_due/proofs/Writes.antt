-- What is written into a node, and what joining leaves of times and links.
use Rattle.std.proofs.Common.{◌≡◌, ◌≢◌, ℕ, ◌<◌, ◌⊎◌, inl, inr, List, length, false, is_some, Option, Some, None, IfSome, refl, sym, ◌∙◌, ap, subst, arith}
use Rattle.std.proofs.lemmas.Bool.{cases_eq}
use Rattle.std.proofs.lemmas.List.{get_or-set_same, get_or-set_other, length-set, map-set, length-map, set-get_or, set-set}
use Rattle.std.proofs.lemmas.Option.{same_Some}
use Rattle.std.proofs.Math.ListN.{get_or-map}
use Rattle.std.proofs.Math.Seq.{map-set_same}
use Rattle.std.specs.Prelude.{slice_set, slice_index_or}
use Rattle.kc_due.specs.declared.node.Node.{Node}
use Rattle.kc_due.specs.declared.links.Links.{Links}
use Rattle.kc_due.specs.Due.{Times, at_slot}
use Rattle.kc_due.specs.Links.{blank, node_of, times_of, next_of, IsJoined}

pub same_link : (x y : Option ℕ) → (x ≡ y) ⊎ (x ≢ y)
same_link None None = inl refl
same_link None (Some b) = inr (λ e. cc)
same_link (Some a) None = inr (λ e. cc)
same_link (Some a) (Some b) = elim (cases_eq a b) [ inl e ↦ inl (ap Some e) | inr other ↦ inr (λ e. other (same_Some a b e)) ]

pub at_times : (links : Links) (k : ℕ) → at_slot (times_of links) k ≡ (node_of links k).at
at_times links k = get_or-map (λ n. n.at) links.nodes k blank

-- a field that a write leaves as it was
pub kept : {B : Type 0} (f : Node → B) (nodes : List Node) (k : ℕ) (y : Node) → f y ≡ f (slice_index_or nodes k blank) → (j : ℕ) →
    f (slice_index_or (slice_set nodes k y) j blank) ≡ f (slice_index_or nodes j blank)
kept f nodes k y e j =
    sym (get_or-map f (slice_set nodes k y) j blank)
    ∙ ap (λ l. slice_index_or l j (f blank)) (map-set_same f nodes k y blank e)
    ∙ get_or-map f nodes j blank

-- what a write leaves of the links that lead on, where a slot is to lead back
pub record IsLedBack (old : Links) (earlier later : Option ℕ) (new : Links) : Type 0 where
  pub sixteen : length new.nodes ≡ length old.nodes
  pub times : times_of new ≡ times_of old
  pub on : (from : Option ℕ) → next_of new from ≡ next_of old from
  pub back : (k : ℕ) → later ≡ Some k → (node_of new k).previous ≡ earlier
  pub others_back : (k : ℕ) → later ≢ Some k → (node_of new k).previous ≡ (node_of old k).previous

pub led_end : (old : Links) (earlier : Option ℕ) → IsLedBack old earlier None old
led_end old earlier = record {
  sixteen = refl;
  times = refl;
  on = λ from. refl;
  back = λ k e. cc;
  others_back = λ k other. refl;
}

abbrev backed : Links → Option ℕ → ℕ → Node
backed old earlier b = record { at = (node_of old b).at; previous = earlier; next = (node_of old b).next }

pub led_back : (old : Links) (earlier : Option ℕ) (b : ℕ) → b < length old.nodes →
    IsLedBack old earlier (Some b) (record { nodes = slice_set old.nodes b (record { at = (node_of old b).at; previous = earlier; next = (node_of old b).next }); head = old.head })
led_back old earlier b lt = record {
  sixteen = length-set old.nodes b _;
  times = map-set_same (λ n. n.at) old.nodes b (backed old earlier b) blank refl;
  on = on;
  back = λ k e. ap (λ j. (slice_index_or (slice_set old.nodes b (backed old earlier b)) j blank).previous) (sym (same_Some _ _ e))
      ∙ ap (λ n. n.previous) (get_or-set_same old.nodes b (backed old earlier b) blank lt);
  others_back = λ k other. ap (λ n. n.previous) (get_or-set_other old.nodes b k (backed old earlier b) blank (λ e. other (ap Some (sym e))));
}
  where
    on : (from : Option ℕ) → next_of (record { nodes = slice_set old.nodes b (backed old earlier b); head = old.head }) from ≡ next_of old from
    on None = refl
    on (Some k) = kept (λ n. n.next) old.nodes b (backed old earlier b) refl k

-- then the head leads on
pub joined_head : (old mid : Links) (later : Option ℕ) → IsLedBack old None later mid → IsJoined old None later (record { nodes = mid.nodes; head = later })
joined_head old mid later led = record {
  sixteen = led.sixteen;
  times = led.times;
  on = refl;
  others_on = others;
  back = led.back;
  others_back = led.others_back;
}
  where
    others : (from : Option ℕ) → from ≢ None → next_of (record { nodes = mid.nodes; head = later }) from ≡ next_of old from
    others None other = absurd (other refl)
    others (Some k) other = led.on (Some k)

-- or a slot does
abbrev led : Links → Option ℕ → ℕ → Node
led mid later b = record { at = (node_of mid b).at; previous = (node_of mid b).previous; next = later }

pub joined_slot : (old mid : Links) (b : ℕ) (later : Option ℕ) → b < length old.nodes → IsLedBack old (Some b) later mid →
    IsJoined old (Some b) later (record { nodes = slice_set mid.nodes b (record { at = (node_of mid b).at; previous = (node_of mid b).previous; next = later }); head = mid.head })
joined_slot old mid b later lt is = record {
  sixteen = length-set mid.nodes b _ ∙ is.sixteen;
  times = map-set_same (λ n. n.at) mid.nodes b (led mid later b) blank refl ∙ is.times;
  on = ap (λ n. n.next) (get_or-set_same mid.nodes b (led mid later b) blank (omega (arith, is.sixteen)));
  others_on = others;
  back = λ k e. kept (λ n. n.previous) mid.nodes b (led mid later b) refl k ∙ is.back k e;
  others_back = λ k other. kept (λ n. n.previous) mid.nodes b (led mid later b) refl k ∙ is.others_back k other;
}
  where
    others : (from : Option ℕ) → from ≢ Some b → next_of (record { nodes = slice_set mid.nodes b (led mid later b); head = mid.head }) from ≡ next_of old from
    others None other = is.on None
    others (Some k) other = ap (λ n. n.next) (get_or-set_other mid.nodes b k (led mid later b) blank (λ e. other (ap Some e))) ∙ is.on (Some k)

-- both in turn; the link that is written is `link`
pub led_to : (old mid : Links) (earlier later link : Option ℕ) (k : ℕ) → length old.nodes ≡ 16 → IfSome later (λ j. j < 16) → later ≡ Some k → link ≡ Some k →
    mid ≡ record { nodes = slice_set old.nodes k (record { at = (node_of old k).at; previous = earlier; next = (node_of old k).next }); head = old.head } →
    IsLedBack old earlier later mid × (link ≡ later)
led_to old mid earlier later link k long small e written is =
    let lt : k < 16 = subst (λ x. IfSome x (λ j. j < 16)) e small in (
      subst (λ x. IsLedBack old earlier x mid) (sym e) (subst (λ m. IsLedBack old earlier (Some k) m) (sym is) (led_back old earlier k (omega arith))),
      written ∙ sym e,
    )

pub led_nowhere : (old mid : Links) (earlier later link : Option ℕ) → later ≡ None → link ≡ later → mid ≡ old → IsLedBack old earlier later mid × (link ≡ later)
led_nowhere old mid earlier later link e written is =
    (subst (λ x. IsLedBack old earlier x mid) (sym e) (subst (λ m. IsLedBack old earlier None m) (sym is) (led_end old earlier)), written)

pub joined_from : (old mid : Links) (earlier later link : Option ℕ) (b : ℕ) → length old.nodes ≡ 16 → IfSome earlier (λ j. j < 16) → earlier ≡ Some b →
    IsLedBack old earlier later mid × (link ≡ later) →
    IsJoined old earlier later (record { nodes = slice_set mid.nodes b (record { at = (node_of mid b).at; previous = (node_of mid b).previous; next = link }); head = mid.head })
joined_from old mid earlier later link b long small e is =
    let lt : b < 16 = subst (λ x. IfSome x (λ j. j < 16)) e small in
    let from_slot = joined_slot old mid b later (omega arith) (subst (λ x. IsLedBack old x later mid) e is.0) in
    let at_link = subst (λ l. IsJoined old (Some b) later (record { nodes = slice_set mid.nodes b (record { at = (node_of mid b).at; previous = (node_of mid b).previous; next = l }); head = mid.head })) (sym is.1) from_slot in
    subst (λ x. IsJoined old x later (record { nodes = slice_set mid.nodes b (record { at = (node_of mid b).at; previous = (node_of mid b).previous; next = link }); head = mid.head })) (sym e) at_link

pub joined_from_head : (old mid : Links) (earlier later link : Option ℕ) → earlier ≡ None → IsLedBack old earlier later mid × (link ≡ later) →
    IsJoined old earlier later (record { nodes = mid.nodes; head = link })
joined_from_head old mid earlier later link e is =
    let from_head = joined_head old mid later (subst (λ x. IsLedBack old x later mid) e is.0) in
    let at_link = subst (λ l. IsJoined old None later (record { nodes = mid.nodes; head = l })) (sym is.1) from_head in
    subst (λ x. IsJoined old x later (record { nodes = mid.nodes; head = link })) (sym e) at_link

-- ---- times

pub set_time : (old : Links) (k : ℕ) (at : Option ℕ) (previous next : Option ℕ) (head : Option ℕ) →
    times_of (record { nodes = slice_set old.nodes k (record { at = at; previous = previous; next = next }); head = head }) ≡ slice_set (times_of old) k at
set_time old k at previous next head = map-set (λ n. n.at) old.nodes k (record { at = at; previous = previous; next = next })

pub time_gone : (links : Links) (k : ℕ) → (node_of links k).at ≡ None → times_of links ≡ slice_set (times_of links) k None
time_gone links k none = sym (ap (λ x. slice_set (times_of links) k x) (sym (at_times links k ∙ none)) ∙ set-get_or (times_of links) k None)

fits : (links : Links) (slot : ℕ) → slot < 16 → length links.nodes ≡ 16 → slot < length (times_of links)
fits links slot lt long = let same = length-map links.nodes (λ n. n.at) in omega arith

-- a slot after a write of its time, and each other
pub slot_here : (old : Links) (new : Times) (slot : ℕ) (at : Option ℕ) → slot < 16 → length old.nodes ≡ 16 → new ≡ slice_set (times_of old) slot at → at_slot new slot ≡ at
slot_here old new slot at lt long e = ap (λ m. at_slot m slot) e ∙ get_or-set_same (times_of old) slot at None (fits old slot lt long)

pub slot_other : (old new : Times) (slot k : ℕ) (at : Option ℕ) → k ≢ slot → new ≡ slice_set old slot at → at_slot new k ≡ at_slot old k
slot_other old new slot k at other e = ap (λ m. at_slot m k) e ∙ get_or-set_other old slot k at None other

pub cleared : (old new : Links) (slot : ℕ) → slot < 16 → length old.nodes ≡ 16 → times_of new ≡ slice_set (times_of old) slot None → (node_of new slot).at ≡ None
cleared old new slot lt long e = sym (at_times new slot) ∙ slot_here old (times_of new) slot None lt long e

pub set_twice : (old mid new : Times) (slot : ℕ) (at : Option ℕ) → mid ≡ slice_set old slot None → new ≡ slice_set mid slot at → new ≡ slice_set old slot at
set_twice old mid new slot at first second = second ∙ ap (λ m. slice_set m slot at) first ∙ set-set old slot None at

pub none_of : (o : Option ℕ) → is_some o ≡ false → o ≡ None
none_of None e = refl
none_of (Some k) e = cc
