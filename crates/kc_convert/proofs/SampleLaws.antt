-- The values of a channel up to a state, and what a search among them finds.
use Rattle.std.proofs.Common.{◌≡◌, ℕ, zero, suc, ◌-◌, ◌<◌, ◌≤◌, ◌==◌, Bool, false, ◌||◌, leb, inl, inr, List, [], ◌∷◌, ◌++◌, length, length-take, take, get_or, get_or-take, refl, sym, ◌∙◌, ap, arith, Option, Some, None}
use Rattle.std.specs.Prelude.{if◌then◌else◌, slice_get, filter, Vec, All}
use Rattle.std.specs.declared.alloc.Global.{Global}
use Rattle.std.specs.List.{list_any}
use Rattle.std.specs.List.Sorted.{IsNonDecreasingBy}
use Rattle.std.proofs.lemmas.Bool.{cases_Bool, eqb-false, ne_eqb, ltb-false, le-ltb}
use Rattle.std.proofs.lemmas.List.{append-nil, get_or_default}
use Rattle.std.proofs.lemmas.List.Elements.{filter-append, All-push, All-tail, All-cons}
use Rattle.std.proofs.lemmas.List.Folds.{list_any_at, list_any_none}
use Rattle.std.proofs.lemmas.List.Kept.{IsNonDecreasingBy-filter}
use Rattle.std.proofs.lemmas.List.Sorted.{IsNonDecreasingBy-push}
use Rattle.std.proofs.lemmas.Option.{slice_get-get_or}
use Rattle.std.proofs.Math.Bool.{and-true, and-false}
use Rattle.kc_convert.specs.declared.sample.Sample.{Sample}
use Rattle.kc_convert.specs.Samples.{of_channel, up_to, last_value, IsValue, AreOfFile}
use Rattle.kc_convert.specs.Reading.{is_falling, is_twice, is_later}
use Rattle.kc_convert.specs.Index.{IsIndexed, list_of}

-- values of ten bits leave one of ten bits
small_filter : (p : Sample → Bool) (xs : List Sample) → All IsValue xs → All IsValue (filter p xs)
small_filter p [] all = all
small_filter p (x ∷ xs) all = elim (cases_Bool (p x)) [
  | inl on ↦ rw on (All-cons IsValue x (filter p xs) (all 0 x (omega arith)) (small_filter p xs (All-tail IsValue x xs all)))
  | inr off ↦ rw off (small_filter p xs (All-tail IsValue x xs all))
]

last_small : (xs : List Sample) (v : ℕ) → v ≤ 1023 → All IsValue xs → last_value xs v ≤ 1023
last_small [] v le all = le
last_small (x ∷ xs) v le all = last_small xs x.value (all 0 x (omega arith)).1 (All-tail IsValue x xs all)

pub value_small : (xs : List Sample) (channel t : ℕ) → All IsValue xs → last_value (up_to t (of_channel channel xs)) 0 ≤ 1023
value_small xs channel t all =
    last_small (up_to t (of_channel channel xs)) 0 (omega arith) (small_filter (λ s. leb s.at t) (of_channel channel xs) (small_filter (λ s. s.channel == channel) xs all))

-- the values of a channel when one more comes
pub of_channel-push : (xs : List Sample) (s : Sample) (c : ℕ) → of_channel c (xs ++ s ∷ []) ≡ (if s.channel == c then of_channel c xs ++ s ∷ [] else of_channel c xs)
of_channel-push xs s c = elim (cases_Bool (s.channel == c)) [
  | inl here ↦ rw (filter-append, here) refl
  | inr other ↦ rw (filter-append, other) (append-nil _)
]

later_last : (xs : List Sample) (i t : ℕ) (d : Sample) → i < length xs → is_later (slice_get xs i) t ≡ false → (get_or xs i d).at ≤ t
later_last xs i t d lt later =
    let is : slice_get xs i ≡ Some (get_or xs i d) = slice_get-get_or xs i d lt in
    ltb-false t (get_or xs i d).at (sym (ap (λ o. is_later o t) is) ∙ later)

-- each value in its order does not fall behind those before it
not_falling : (xs : List Sample) (t : ℕ) → ((d : Sample) → 0 < length xs → (get_or xs (length xs - 1) d).at ≤ t) → is_falling xs t ≡ false
not_falling [] t le = refl
not_falling (x ∷ xs) t le =
    ap (λ o. is_later o t) (slice_get-get_or (x ∷ xs) (length (x ∷ xs) - 1) x (omega arith))
    ∙ le-ltb t (get_or (x ∷ xs) (length (x ∷ xs) - 1) x).at (le x (omega arith))

pub next_later : (xs : List Sample) (n : ℕ) (d : Sample) → IsNonDecreasingBy (λ s. s.at) xs → n < length xs → is_falling (take n xs) (get_or xs n d).at ≡ false
next_later xs n d rise lt = not_falling (take n xs) (get_or xs n d).at (λ e some.
    let long : length (take n xs) ≡ n = length-take n xs ∙ omega arith in
    let last : get_or (take n xs) (length (take n xs) - 1) e ≡ get_or xs (n - 1) e =
    ap (λ k. get_or (take n xs) (k - 1) e) long ∙ get_or-take n xs (n - 1) e (omega arith) in
    let le : (get_or xs (n - 1) e).at ≤ (get_or xs n e).at = rise (n - 1) n e (omega arith) lt in
    omega (arith, ap (λ s. s.at) last, ap (λ s. s.at) (get_or_default xs n e d lt)))

-- the values of a file when one more comes
pub of_file-push : (xs : List Sample) (s : Sample) → AreOfFile xs → is_falling xs s.at ≡ false → IsValue s → AreOfFile (xs ++ s ∷ [])
of_file-push xs s was later value = record {
  order = IsNonDecreasingBy-push (λ x. x.at) xs s was.order (λ d some. later_last xs (length xs - 1) s.at d (omega arith) later);
  values = All-push IsValue xs s was.values value;
}

pub indexed-push : (lists new : List (Vec Sample Global)) (xs : List Sample) (s : Sample) → IsIndexed lists xs → is_falling xs s.at ≡ false → IsValue s →
    ((channel : ℕ) → list_of new channel ≡ (if s.channel == channel then list_of lists channel ++ s ∷ [] else list_of lists channel)) → IsIndexed new (xs ++ s ∷ [])
indexed-push lists new xs s was later value added = record {
  lists = λ channel. added channel ∙ ap (λ l. if s.channel == channel then l ++ s ∷ [] else l) (was.lists channel) ∙ sym (of_channel-push xs s channel);
  values = of_file-push xs s was.values later value;
}

-- values of a channel that come in a state
any-of_channel : (xs : List Sample) (s : Sample) → is_twice xs s ≡ list_any (λ x. x.at == s.at) (of_channel s.channel xs)
any-of_channel [] s = refl
any-of_channel (x ∷ xs) s = elim (cases_Bool (x.channel == s.channel)) [
  | inl here ↦ rw here (ap (λ b. b || is_twice xs s) (and-true (x.at == s.at)) ∙ ap (λ b. (x.at == s.at) || b) (any-of_channel xs s))
  | inr other ↦ rw other (ap (λ b. b || is_twice xs s) (and-false (x.at == s.at)) ∙ any-of_channel xs s)
]

-- each of these has this time at most
AllUpTo : ℕ → List Sample → Type 0
AllUpTo t xs = (k : ℕ) (d : Sample) → k < length xs → (get_or xs k d).at ≤ t

all_up_to : (xs : List Sample) (t : ℕ) → IsNonDecreasingBy (λ s. s.at) xs → is_falling xs t ≡ false → AllUpTo t xs
unfolding AllUpTo
all_up_to xs t rise later k d lt =
    let last : (get_or xs (length xs - 1) d).at ≤ t = later_last xs (length xs - 1) t d (omega arith) later in
    let below : (get_or xs k d).at ≤ (get_or xs (length xs - 1) d).at = rise k (length xs - 1) d (omega arith) (omega arith) in
    omega arith

up_to-filter : (p : Sample → Bool) (t : ℕ) (xs : List Sample) → AllUpTo t xs → AllUpTo t (filter p xs)
unfolding AllUpTo
up_to-filter p t [] all = all
up_to-filter p t (x ∷ xs) all = elim (cases_Bool (p x)) [
  | inl on ↦ rw on (both (filter p xs) (up_to-filter p t xs (λ k d lt. all (suc k) d (omega arith))))
  | inr off ↦ rw off (up_to-filter p t xs (λ k d lt. all (suc k) d (omega arith)))
]
  where
    both : (ys : List Sample) → ((k : ℕ) (d : Sample) → k < length ys → (get_or ys k d).at ≤ t) → (k : ℕ) (d : Sample) → k < length (x ∷ ys) → (get_or (x ∷ ys) k d).at ≤ t
    both ys rest zero d lt = all 0 d (omega arith)
    both ys rest (suc k) d lt = rest k d (omega arith)

-- whether the last of these comes in a state
abbrev pub is_at : Option Sample → ℕ → Bool
is_at None t = false
is_at (Some x) t = x.at == t

twice_last : (own : List Sample) (t : ℕ) → IsNonDecreasingBy (λ x. x.at) own → AllUpTo t own →
    list_any (λ x. x.at == t) own ≡ is_at (slice_get own (length own - 1)) t
unfolding AllUpTo
twice_last [] t rise all = refl
twice_last (x ∷ xs) t rise all =
    let inside : length (x ∷ xs) - 1 < length (x ∷ xs) = omega arith in
    let is : slice_get (x ∷ xs) (length (x ∷ xs) - 1) ≡ Some (get_or (x ∷ xs) (length (x ∷ xs) - 1) x) = slice_get-get_or (x ∷ xs) (length (x ∷ xs) - 1) x inside in
    elim (cases_Bool ((get_or (x ∷ xs) (length (x ∷ xs) - 1) x).at == t)) [
      | inl now ↦ list_any_at (λ y. y.at == t) (x ∷ xs) (length (x ∷ xs) - 1) x inside now ∙ sym now ∙ sym (ap (λ o. is_at o t) is)
      | inr off ↦
          let other : (get_or (x ∷ xs) (length (x ∷ xs) - 1) x).at ≡ t → ⊥ = eqb-false _ _ off in
          let below : (get_or (x ∷ xs) (length (x ∷ xs) - 1) x).at ≤ t = all (length (x ∷ xs) - 1) x inside in
          list_any_none (λ y. y.at == t) (x ∷ xs) (λ k d lt. ne_eqb _ _ (λ same.
          let le : (get_or (x ∷ xs) k d).at ≤ (get_or (x ∷ xs) (length (x ∷ xs) - 1) d).at = rise k (length (x ∷ xs) - 1) d (omega arith) inside in
          let last : get_or (x ∷ xs) (length (x ∷ xs) - 1) d ≡ get_or (x ∷ xs) (length (x ∷ xs) - 1) x = get_or_default (x ∷ xs) (length (x ∷ xs) - 1) d x inside in
          other (omega (arith, ap (λ y. y.at) last))))
          ∙ sym off ∙ sym (ap (λ o. is_at o t) is)
    ]

-- whether a channel has a value twice in a state, by the last one of the channel
pub twice_by_last : (xs : List Sample) (s : Sample) → IsNonDecreasingBy (λ x. x.at) xs → is_falling xs s.at ≡ false →
    is_twice xs s ≡ is_at (slice_get (of_channel s.channel xs) (length (of_channel s.channel xs) - 1)) s.at
twice_by_last xs s rise later =
    any-of_channel xs s ∙ twice_last (of_channel s.channel xs) s.at (IsNonDecreasingBy-filter (λ x. x.at) (λ x. x.channel == s.channel) xs rise)
    (up_to-filter (λ x. x.channel == s.channel) s.at xs (all_up_to xs s.at rise later))
