-- Levels and edges when a state becomes state 0.
use Rattle.std.proofs.Common.{◌≡◌, ℕ, zero, suc, ◌+◌, ◌-◌, ◌<◌, ◌≤◌, ◌==◌, Bool, true, false, ◌⊎◌, inl, inr, leb, List, [], ◌∷◌, ◌++◌, length, get_or, refl, sym, ◌∙◌, ap, subst, arith, add-zero, Option, Some, None}
use Rattle.std.specs.Prelude.{◌≢◌, if◌then◌else◌, slice_get, map, filter, Vec}
use Rattle.std.specs.declared.alloc.Global.{Global}
use Rattle.std.specs.List.{Contains, list_any}
use Rattle.std.specs.List.Sorted.{IsNonDecreasingBy, IsNonDecreasing}
use Rattle.std.proofs.lemmas.Bool.{cases_Bool, cases_lt, ne_eqb, le-leb, lt-leb, leb-true, leb-false, and_parts}
use Rattle.std.proofs.lemmas.List.{get_or-map, length-map}
use Rattle.std.proofs.lemmas.List.Elements.{All-filter, All-map}
use Rattle.std.proofs.lemmas.List.Kept.{IsNonDecreasingBy-filter}
use Rattle.kc_base.specs.Pins.{pin_count}
use Rattle.kc_base.specs.declared.types.Level.{Level}
use Rattle.kc_stim.specs.declared.stimulus.Stimulus.{Stimulus}
use Rattle.kc_stim.specs.Drives.{Drives, Stimulation, of_pin, up_to, last_level, level_at, level_before, start_of, start_level, level_or, sooner_by, from_on, levels_known, driven_from, LevelsGoOn, LevelsStartThere}
use Rattle.kc_base.specs.Pins.{is_input}
use Rattle.kc_base.proofs.PinLemmas.{input_is_pin, no_input}
use Rattle.kc_stim.specs.Index.{AllUpTo, AreEdges, IsIndexed, list_of}
use Rattle.kc_stim.specs.Later.{edges_from}
use Rattle.kc_stim.specs.Proper.{AreProper, is_driven, StaysProper}
use Rattle.kc_stim.proofs.Levels.{still_at}
use Rattle.kc_stim.proofs.Proper.{none_of_pin, edges_are_of_driven_inputs}

-- each stimulus has this time at least
abbrev AllFrom : ℕ → List Stimulus → Type 0
AllFrom t [] = Unit {0}
AllFrom t (s ∷ stimuli) = (t ≤ s.at) × AllFrom t stimuli

from_at : (xs : List Stimulus) (t : ℕ) → ((k : ℕ) (d : Stimulus) → k < length xs → t ≤ (get_or xs k d).at) → AllFrom t xs
from_at [] t all = tt
from_at (x ∷ xs) t all = (all 0 x (omega arith), from_at xs t (λ k d lt. all (suc k) d (omega arith)))

none_up_to : (t : ℕ) (xs : List Stimulus) → AllFrom (suc t) xs → up_to t xs ≡ []
none_up_to t [] all = refl
none_up_to t (x ∷ xs) all =
    let off : leb x.at t ≡ false = lt-leb x.at t (omega (arith, all.0)) in
    rw off (none_up_to t xs all.1)

-- where no stimulus is earlier
level_all : (at u : ℕ) (xs : List Stimulus) (l : Level) → AllFrom at xs → last_level (up_to u (from_on at xs)) l ≡ last_level (up_to (at + u) xs) l
level_all at u [] l all = refl
level_all at u (x ∷ xs) l all =
    let on : leb at x.at ≡ true = le-leb at x.at all.0 in
    elim (cases_Bool (leb x.at (at + u))) [
      | inl low ↦
          let le : x.at ≤ at + u = leb-true _ _ low in
          let own : leb (x.at - at) u ≡ true = le-leb _ _ (omega arith) in
          rw (on, low, own) (level_all at u xs x.level all.1)
      | inr high ↦
          let lt : at + u < x.at = leb-false _ _ high in
          let own : leb (x.at - at) u ≡ false = lt-leb _ _ (omega arith) in
          rw (on, high, own) (level_all at u xs l all.1)
    ]

-- stimuli in order: the earlier ones, and then the others
level_on : (at u : ℕ) (xs : List Stimulus) (l : Level) → IsNonDecreasingBy (λ s. s.at) xs →
    last_level (up_to u (from_on (suc at) xs)) (last_level (up_to at xs) l) ≡ last_level (up_to (suc at + u) xs) l
level_on at u [] l rise = refl
level_on at u (x ∷ xs) l rise = elim (cases_Bool (leb (suc at) x.at)) [
  | inl later ↦
      let le : suc at ≤ x.at = leb-true _ _ later in
      let all : AllFrom (suc at) (x ∷ xs) = from_at (x ∷ xs) (suc at) (λ k d lt. let more : x.at ≤ (get_or (x ∷ xs) k d).at = rise 0 k d (omega arith) lt in omega arith) in
      ap (λ ys. last_level (up_to u (from_on (suc at) (x ∷ xs))) (last_level ys l)) (none_up_to at (x ∷ xs) all) ∙ level_all (suc at) u (x ∷ xs) l all
  | inr sooner ↦
      let lt : x.at < suc at = leb-false _ _ sooner in
      let now : leb x.at at ≡ true = le-leb _ _ (omega arith) in
      let also : leb x.at (suc at + u) ≡ true = le-leb _ _ (omega arith) in
      rw (sooner, now, also) (level_on at u xs x.level (λ i j d le within. rise (suc i) (suc j) d (omega arith) (omega arith)))
]

-- the stimuli of a pin from a state on
of_pin-from_on : (at pin : ℕ) (xs : List Stimulus) → of_pin pin (from_on at xs) ≡ from_on at (of_pin pin xs)
of_pin-from_on at pin [] = refl
of_pin-from_on at pin (x ∷ xs) = elim (cases_Bool (leb at x.at)) [
  | inl on ↦ elim (cases_Bool (x.pin.0 == pin)) [
    | inl here ↦ rw (on, here) (rw on (ap (λ ys. sooner_by at x ∷ ys) (of_pin-from_on at pin xs)))
    | inr other ↦ rw (on, other) (of_pin-from_on at pin xs)
  ]
  | inr off ↦ elim (cases_Bool (x.pin.0 == pin)) [
    | inl here ↦ rw (off, here) (rw off (of_pin-from_on at pin xs))
    | inr other ↦ rw (off, other) (of_pin-from_on at pin xs)
  ]
]

length-known : (stimuli : Stimulation) (at n : ℕ) → length (levels_known stimuli at n) ≡ n
unfolding levels_known
length-known stimuli at zero = refl
length-known stimuli at (suc n) = longer (levels_known stimuli at n) _ ∙ ap suc (length-known stimuli at n)
  where
    longer : (xs : List Level) (y : Level) → length (xs ++ y ∷ []) ≡ suc (length xs)
    longer [] y = refl
    longer (x ∷ xs) y = ap suc (longer xs y)

get-old : (xs : List Level) (y : Level) (k : ℕ) → k < length xs → slice_get (xs ++ y ∷ []) k ≡ slice_get xs k
get-old [] y k lt = absurd (omega arith)
get-old (x ∷ xs) y zero lt = refl
get-old (x ∷ xs) y (suc k) lt = get-old xs y k (omega arith)

get-new : (xs : List Level) (y : Level) → slice_get (xs ++ y ∷ []) (length xs) ≡ Some y
get-new [] y = refl
get-new (x ∷ xs) y = get-new xs y

known_at : (stimuli : Stimulation) (at n pin : ℕ) → pin < n → slice_get (levels_known stimuli at n) pin ≡ Some (level_before stimuli pin at)
unfolding levels_known
known_at stimuli at zero pin lt = absurd (omega arith)
known_at stimuli at (suc n) pin lt =
    let long : length (levels_known stimuli at n) ≡ n = length-known stimuli at n in
    elim (cases_lt pin n) [
      | inl less ↦ get-old (levels_known stimuli at n) (level_before stimuli n at) pin (omega arith) ∙ known_at stimuli at n pin less
      | inr last ↦
          let same : n ≡ pin = omega arith in
          subst (λ k. slice_get (levels_known stimuli at n ++ level_before stimuli n at ∷ []) k ≡ Some (level_before stimuli k at)) same
          (subst (λ k. slice_get (levels_known stimuli at n ++ level_before stimuli n at ∷ []) k ≡ Some (level_before stimuli n at)) long
          (get-new (levels_known stimuli at n) (level_before stimuli n at)))
    ]

pub start_there : (stimuli : Stimulation) (at pin : ℕ) → pin < pin_count → start_of (levels_known stimuli at pin_count) pin ≡ level_before stimuli pin at
start_there stimuli at pin lt = ap (λ o. level_or o (start_level pin)) (known_at stimuli at pin_count pin lt)

own_level : (stimuli : Stimulation) (at pin u : ℕ) → IsNonDecreasingBy (λ s. s.at) (of_pin pin stimuli.list) →
    last_level (up_to u (from_on at (of_pin pin stimuli.list))) (level_before stimuli pin at) ≡ level_at stimuli pin (at + u)
own_level stimuli zero pin u rise =
    level_all 0 u (of_pin pin stimuli.list) (start_of stimuli.start pin) (from_at (of_pin pin stimuli.list) 0 (λ k d lt. omega arith))
own_level stimuli (suc at) pin u rise =
    let less : suc at - 1 ≡ at = omega arith in
    let off : (suc at == 0) ≡ false = ne_eqb (suc at) 0 (λ e. omega arith) in
    rw (off, less) (level_on at u (of_pin pin stimuli.list) (start_of stimuli.start pin) rise)

pub levels_go_on : LevelsGoOn
levels_go_on d at pin u rise lt =
    ap (λ ys. last_level (up_to u ys) (start_of (levels_known d.stimuli at pin_count) pin)) (of_pin-from_on at pin d.stimuli.list)
    ∙ ap (λ l. last_level (up_to u (from_on at (of_pin pin d.stimuli.list))) l) (start_there d.stimuli at pin lt)
    ∙ own_level d.stimuli at pin u (IsNonDecreasingBy-filter (λ s. s.at) (λ s. s.pin.0 == pin) d.stimuli.list rise)

pub levels_start_there : LevelsStartThere
levels_start_there d at pin zero rise lt = start_there d.stimuli at pin lt ∙ ap (λ t. level_before d.stimuli pin t) (sym (add-zero at))
levels_start_there d at pin (suc u) rise lt =
    let less : suc u - 1 ≡ u = omega arith in
    let off : (suc u == 0) ≡ false = ne_eqb (suc u) 0 (λ e. omega arith) in
    let more : at + suc u - 1 ≡ at + u = omega arith in
    let late : (at + suc u == 0) ≡ false = ne_eqb (at + suc u) 0 (λ e. omega arith) in
    rw (off, less, late, more) (levels_go_on d at pin u rise lt)

pub stays_proper : StaysProper
stays_proper d at proper = record {
  stimuli = All-map (λ s. is_driven d s.pin.0 ≡ true) (sooner_by at) (filter (λ s. leb at s.at) d.stimuli.list)
      (All-filter (λ s. leb at s.at) (λ s. is_driven d s.pin.0 ≡ true) d.stimuli.list proper.stimuli);
  wires = proper.wires;
}

-- ---- edges

up_to_next : (at t : ℕ) (x : Stimulus) (xs : List Stimulus) (on : Bool) → leb at x.at ≡ on → (AllUpTo t (from_on at xs) → AllUpTo (at + t) xs) →
    AllUpTo t (map (sooner_by at) (if on then x ∷ filter (λ s. leb at s.at) xs else filter (λ s. leb at s.at) xs)) → (x.at ≤ at + t) × AllUpTo (at + t) xs
up_to_next at t x xs true on rest all = let le : at ≤ x.at = leb-true _ _ on in (omega (arith, all.0), rest all.1)
up_to_next at t x xs false off rest all = let lt : x.at < at = leb-false _ _ off in (omega arith, rest all)

up_to-from_on : (at t : ℕ) (xs : List Stimulus) → AllUpTo t (from_on at xs) → AllUpTo (at + t) xs
up_to-from_on at t [] all = tt
up_to-from_on at t (x ∷ xs) all = up_to_next at t x xs (leb at x.at) refl (λ rest. up_to-from_on at t xs rest) all

edge_there : (at t : ℕ) (es : List ℕ) (i : ℕ) → i < length es → get_or es i (at + t) ≡ at + t → Contains (edges_from at es) t
edge_there at t [] i lt is = absurd (omega arith)
edge_there at t (e ∷ es) zero lt is =
    let on : leb at e ≡ true = le-leb at e (omega (arith, is)) in
    rw on (0, omega arith, omega (arith, is))
edge_there at t (e ∷ es) (suc i) lt is =
    let there : Contains (edges_from at es) t = edge_there at t es i (omega arith) is in
    elim (cases_Bool (leb at e)) [
      | inl on ↦ rw on (suc there.0, omega (arith, there.1), there.2)
      | inr off ↦ rw off there
    ]

there_later : (es : List ℕ) (e t : ℕ) → Contains es t → Contains (e ∷ es) t
there_later es e t there = (suc there.0, omega (arith, there.1), there.2)

edge_next : (at t e : ℕ) (es : List ℕ) (on : Bool) → leb at e ≡ on →
    ((i : ℕ) → i < length (edges_from at es) → get_or (edges_from at es) i t ≡ t → Contains es (at + t)) → (i : ℕ) →
    i < length (map (λ d. d - at) (if on then e ∷ filter (λ d. leb at d) es else filter (λ d. leb at d) es)) →
    get_or (map (λ d. d - at) (if on then e ∷ filter (λ d. leb at d) es else filter (λ d. leb at d) es)) i t ≡ t → Contains (e ∷ es) (at + t)
edge_next at t e es true on rest zero lt is = let le : at ≤ e = leb-true _ _ on in (0, omega arith, omega (arith, is))
edge_next at t e es true on rest (suc i) lt is = there_later es e (at + t) (rest i (omega arith) is)
edge_next at t e es false off rest i lt is = there_later es e (at + t) (rest i lt is)

edge_back : (at t : ℕ) (es : List ℕ) (i : ℕ) → i < length (edges_from at es) → get_or (edges_from at es) i t ≡ t → Contains es (at + t)
edge_back at t [] i lt is = absurd (omega arith)
edge_back at t (e ∷ es) i lt is = edge_next at t e es (leb at e) refl (λ k less same. edge_back at t es k less same) i lt is

rise_sooner : (at : ℕ) (es : List ℕ) → IsNonDecreasing es → IsNonDecreasing (map (λ e. e - at) es)
rise_sooner at es rise i j d le lt =
    let long : length (map (λ e. e - at) es) ≡ length es = length-map es (λ e. e - at) in
    omega (arith, get_or-map (λ e. e - at) es i d d (omega arith), get_or-map (λ e. e - at) es j d d (omega arith), rise i j d le (omega arith))

module _ (d : Drives) (at : ℕ) (edges : List ℕ) (was : AreEdges edges d.stimuli) (rise : IsNonDecreasingBy (λ s. s.at) d.stimuli.list) (proper : AreProper d) where
  later_known : (e : ℕ) → Contains (edges_from at edges) e → (pin : ℕ) × (level_at (driven_from at d).stimuli pin e ≢ level_before (driven_from at d).stimuli pin e)
  later_known e there =
      let old = was.known (at + e) (edge_back at e edges there.0 there.1 there.2) in
      let driven : is_driven d old.0 ≡ true = edges_are_of_driven_inputs d old.0 (at + e) proper old.1 in
      let lt : old.0 < pin_count = input_is_pin old.0 (and_parts (is_input old.0) _ driven).0 in
      (old.0, λ same. old.1 (sym (levels_go_on d at old.0 e rise lt) ∙ same ∙ levels_start_there d at old.0 e rise lt))

  later_all : (t pin : ℕ) → (level_at (driven_from at d).stimuli pin t ≡ level_before (driven_from at d).stimuli pin t) ⊎ Contains (edges_from at edges) t
  later_all t pin = elim (cases_lt pin pin_count) [
    | inl lt ↦ elim (was.all (at + t) pin) [
      | inl same ↦ inl (levels_go_on d at pin t rise lt ∙ same ∙ sym (levels_start_there d at pin t rise lt))
      | inr there ↦ inr (edge_there at t edges there.0 there.1 there.2)
    ]
    | inr ge ↦
        let none : of_pin pin d.stimuli.list ≡ [] = none_of_pin (is_driven d) d.stimuli.list pin proper.stimuli (not_driven pin ge) in
        inl (still_at (levels_known d.stimuli at pin_count) (from_on at d.stimuli.list) pin t
        (ap (λ xs. list_any (λ x. x.at == t) xs) (of_pin-from_on at pin d.stimuli.list ∙ ap (from_on at) none)))
  ]
    where
      not_driven : (pin : ℕ) → pin_count ≤ pin → is_driven d pin ≡ false
      not_driven pin ge = let off : is_input pin ≡ false = no_input pin ge in rw off refl

  pub edges_later : AreEdges (edges_from at edges) (driven_from at d).stimuli
  edges_later = record {
    rise = rise_sooner at _ (IsNonDecreasingBy-filter (λ e. e) (λ e. leb at e) edges was.rise);
    within = λ t all e there.
        let le : at + e ≤ at + t = was.within (at + t) (up_to-from_on at t d.stimuli.list all) (at + e) (edge_back at e edges there.0 there.1 there.2) in
        omega arith;
    known = later_known;
    all = later_all;
  }

pub rise_later : (at : ℕ) (xs : List Stimulus) → IsNonDecreasingBy (λ s. s.at) xs → IsNonDecreasingBy (λ s. s.at) (from_on at xs)
rise_later at xs rise i j d le lt =
    let own = IsNonDecreasingBy-filter (λ s. s.at) (λ s. leb at s.at) xs rise in
    let ys = filter (λ s. leb at s.at) xs in
    let long : length (map (sooner_by at) ys) ≡ length ys = length-map ys (sooner_by at) in
    omega (arith, ap (λ s. s.at) (get_or-map (sooner_by at) ys i d d (omega arith)), ap (λ s. s.at) (get_or-map (sooner_by at) ys j d d (omega arith)), own i j d le (omega arith))

-- what is indexed from a state on
pub indexed_later : (d : Drives) (at : ℕ) (lists later : List (Vec Stimulus Global)) (edges : List ℕ) → IsIndexed lists edges d.stimuli → AreProper d →
    ((pin : ℕ) → list_of later pin ≡ from_on at (list_of lists pin)) → IsIndexed later (edges_from at edges) (driven_from at d).stimuli
indexed_later d at lists later edges was proper cut = record {
  lists = λ pin. cut pin ∙ ap (from_on at) (was.lists pin) ∙ sym (of_pin-from_on at pin d.stimuli.list);
  rise = rise_later at d.stimuli.list was.rise;
  edges = edges_later d at edges was.edges was.rise proper;
}

pub known_none : (stimuli : Stimulation) (at : ℕ) → levels_known stimuli at 0 ≡ []
unfolding levels_known
known_none stimuli at = refl

pub known_next : (stimuli : Stimulation) (at n : ℕ) → levels_known stimuli at n ++ level_before stimuli n at ∷ [] ≡ levels_known stimuli at (n + 1)
unfolding levels_known
known_next stimuli at n = let next : n + 1 ≡ suc n = omega arith in rw next refl

-- lists of stimuli
abbrev pub itemized : List (Vec Stimulus Global) → List (List Stimulus)
itemized lists = map (λ v. v.items) lists

list_or : Option (List Stimulus) → List Stimulus
list_or None = []
list_or (Some xs) = xs

list_at : (lists : List (Vec Stimulus Global)) (pin : ℕ) → list_of lists pin ≡ list_or (slice_get (itemized lists) pin)
unfolding list_or
list_at [] pin = refl
list_at (v ∷ lists) zero = refl
list_at (v ∷ lists) (suc pin) = list_at lists pin

cut_at : (at : ℕ) (lists : List (List Stimulus)) (pin : ℕ) → list_or (slice_get (map (from_on at) lists) pin) ≡ from_on at (list_or (slice_get lists pin))
unfolding list_or
cut_at at [] pin = refl
cut_at at (xs ∷ lists) zero = refl
cut_at at (xs ∷ lists) (suc pin) = cut_at at lists pin

pub lists_cut : (at : ℕ) (lists later : List (Vec Stimulus Global)) → itemized later ≡ map (from_on at) (itemized lists) →
    (pin : ℕ) → list_of later pin ≡ from_on at (list_of lists pin)
lists_cut at lists later same pin =
    list_at later pin ∙ ap (λ xs. list_or (slice_get xs pin)) same ∙ cut_at at (itemized lists) pin ∙ ap (from_on at) (sym (list_at lists pin))
