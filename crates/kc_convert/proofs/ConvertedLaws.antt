-- The converter by the conversions begun so far.
use Rattle.std.proofs.Common.{◌≡◌, ℕ, zero, suc, ◌+◌, ◌<◌, ◌≤◌, Bool, true, false, ◌&&◌, refl, sym, ◌∙◌, ap, subst, arith, inl, inr, Option, Some, None, List, [], ◌∷◌}
use Rattle.std.specs.Prelude.{if◌then◌else◌, fold}
use Rattle.std.proofs.lemmas.Bool.{cases_eq, eqb-true, eqb-false, eq-eqb, ne_eqb, false≢true}
use Rattle.kc_span.specs.Span.{Counted}
use Rattle.kc_convert.specs.declared.sample.Sample.{Sample}
use Rattle.kc_convert.specs.Samples.{value_at}
use Rattle.kc_convert.specs.Converting.{Converting, new_converter, sample_time, conversion_time, ends_at, sample_of, converted_in, begun_in, is_low, goes, channel_in, converter_further}
use Rattle.kc_extra.specs.Histories.{Access, Driven, accessed, started_if, data_at}
use Rattle.kc_convert.specs.Converted.{selected_by, selected_before, begun_by, begins, IsLast, IsWhole, IsConverted, converter_at, ResultsAreConverted, EndsAreKnown}

some_same : (m n : ℕ) → Some m ≡ Some n → m ≡ n
some_same m n e = cc

none_some : (n : ℕ) → None ≡ Some n → ⊥
none_some n e = absurd (cc)

-- a converter whose conversion of this channel began in state t, if one did
abbrev with_begun : ℕ → Option ℕ → Converting → Converting
with_begun t None d = d
with_begun t (Some channel) d = record d { channel = channel; begun = Some t }

abbrev with : ℕ → ℕ → Option ℕ → Counted Converting → Counted Converting
with t selected begun d = record d { inner = with_begun t begun (record d.inner { selected = selected }) }

-- an access
access_step : (t selected : ℕ) (begun : Option ℕ) (d : Counted Converting) (a : Access) →
    accessed converter_further t (with t selected begun d) a ≡ with t (selected_by selected a) (begun_by begun a) d
access_step t selected begun d a = by a.is_write (is_low a.window a.sfr) (goes a.value) (channel_in a.value) begun
  where
    by : (w l g : Bool) (c : ℕ) (b : Option ℕ) →
        (if w
        then record (with t selected b d) {
          inner =
              if l
              then (if g then begun_in t (record (with t selected b d).inner { selected = c }) else record (with t selected b d).inner { selected = c })
              else (with t selected b d).inner;
        }
        else with t selected b d)
        ≡ with t (if w && l then c else selected) (if (w && l) && g then Some c else b) d
    by false l g c b = refl
    by true false g c b = refl
    by true true true c None = refl
    by true true true c (Some n) = refl
    by true true false c None = refl
    by true true false c (Some n) = refl

accesses_step : (t selected : ℕ) (begun : Option ℕ) (d : Counted Converting) (accesses : List Access) →
    fold (accessed converter_further t) (with t selected begun d) accesses ≡ with t (fold selected_by selected accesses) (fold begun_by begun accesses) d
accesses_step t selected begun d [] = refl
accesses_step t selected begun d (a ∷ accesses) =
    ap (λ e. fold (accessed converter_further t) e accesses) (access_step t selected begun d a)
    ∙ accesses_step t (selected_by selected a) (begun_by begun a) d accesses

start_step : (starts : Bool) (t : ℕ) (d : Counted Converting) →
    started_if converter_further starts t d ≡ with t d.inner.selected (if starts then Some d.inner.selected else None) d
start_step true t d = refl
start_step false t d = refl

converted_selected : (t : ℕ) (d : Converting) → (converted_in t d).selected ≡ d.selected
converted_selected t d = by (ends_at t d.begun)
  where
    by : (b : Bool) → (if b then record d { begun = None; result = sample_of d d.begun } else d).selected ≡ d.selected
    by true = refl
    by false = refl

-- a whole state: its Tick, a start, the accesses
state_step : (h : Driven) (t : ℕ) (d : Counted Converting) → d.inner.selected ≡ selected_before h t →
    fold (accessed converter_further t) (started_if converter_further (h.starts t) t (converter_further.rest t d)) (h.accesses t)
    ≡ with t (selected_before h (suc t)) (begins h t) (record d { inner = converted_in t d.inner })
unfolding selected_before
state_step h t d selected =
    let same : (converted_in t d.inner).selected ≡ selected_before h t = converted_selected t d.inner ∙ selected in
    ap (λ x. fold (accessed converter_further t) x (h.accesses t)) (start_step (h.starts t) t (record d { inner = converted_in t d.inner }))
    ∙ accesses_step t (converted_in t d.inner).selected (if h.starts t then Some (converted_in t d.inner).selected else None) (record d { inner = converted_in t d.inner }) (h.accesses t)
    ∙ ap (λ n. with t (fold selected_by n (h.accesses t)) (fold begun_by (if h.starts t then Some n else None) (h.accesses t)) (record d { inner = converted_in t d.inner })) same

-- what holds of the converter as state t begins
record Holds (values : List Sample) (from : ℕ) (h : Driven) (t : ℕ) (d : Converting) : Type 0 where
  same_values : d.values ≡ values
  same_from : d.from ≡ from
  selected : d.selected ≡ selected_before h t
  begun : (s : ℕ) → d.begun ≡ Some s → (s < t) × (t ≤ s + conversion_time) × IsLast h t s d.channel
  under : (s channel : ℕ) → s < t → t ≤ s + conversion_time → IsLast h t s channel → d.begun ≡ Some s
  result : IsConverted values from h t d.result

at_start : (values : List Sample) (from : ℕ) (h : Driven) → Holds values from h 0 (new_converter values from)
unfolding selected_before
at_start values from h = record {
  same_values = refl;
  same_from = refl;
  selected = refl;
  begun = λ s is. absurd (none_some s is);
  under = λ s channel lt le last. absurd (omega arith);
  result = inr (λ s channel past whole. absurd (omega arith), refl);
}

-- the last conversion one state on
last_on : (h : Driven) (t s channel : ℕ) → begins h t ≡ None → IsLast h t s channel → IsLast h (suc t) s channel
last_on h t s channel none last = record {
  starts = last.starts;
  alone = λ u later sooner. elim (cases_eq u t) [
    | inl now ↦ ap (begins h) now ∙ none
    | inr other ↦ last.alone u later (omega (arith, other))
  ];
}

last_back : (h : Driven) (t s channel : ℕ) → IsLast h (suc t) s channel → IsLast h t s channel
last_back h t s channel last = record { starts = last.starts; alone = λ u later sooner. last.alone u later (omega arith) }

module _ (values : List Sample) (from : ℕ) (h : Driven) (t : ℕ) (d : Converting) (was : Holds values from h t d) where
  -- a conversion that ends in state t is under way
  ends_whole : (s channel : ℕ) → IsWhole h s channel → s + conversion_time ≡ t → d.begun ≡ Some s
  ends_whole s channel whole is =
      was.under s channel (omega arith) (omega arith) (subst (λ u. IsLast h u s channel) is whole)

  ends_on : (s channel : ℕ) → IsWhole h s channel → s + conversion_time ≡ t → ends_at t d.begun ≡ true
  ends_on s channel whole is = ap (ends_at t) (ends_whole s channel whole is) ∙ eq-eqb t (s + conversion_time) (sym is)

  -- what ends is whole
  end_of : (begun : Option ℕ) → d.begun ≡ begun → ends_at t begun ≡ true → (s : ℕ) × (begun ≡ Some s) × (s + conversion_time ≡ t) × IsWhole h s d.channel
  end_of None is on = absurd (false≢true on)
  end_of (Some s) is on =
      let now : t ≡ s + conversion_time = eqb-true t (s + conversion_time) on in
      (s, refl, sym now, subst (λ u. IsLast h u s d.channel) now (was.begun s is).2)

  none_ends : ends_at t d.begun ≡ false → (s channel : ℕ) → IsWhole h s channel → s + conversion_time ≡ t → ⊥
  none_ends off s channel whole is = false≢true (sym off ∙ ends_on s channel whole is)

  result_next : (e : Bool) → ends_at t d.begun ≡ e → IsConverted values from h (suc t) (if e then record d { begun = None; result = sample_of d d.begun } else d).result
  result_next true on =
      let end = end_of d.begun refl on in
      let is : end.0 + conversion_time ≡ t = end.2 in
      inl (
        end.0,
        d.channel,
        record {
          whole = end.3;
          past = omega arith;
          last = λ u other later sooner whole. absurd (omega arith);
        },
        ap (sample_of d) end.1
            ∙ ap (λ v. value_at v d.channel (d.from + (end.0 + sample_time))) was.same_values
            ∙ ap (λ f. value_at values d.channel (f + (end.0 + sample_time))) was.same_from,
      )
  result_next false off = elim was.result [
    | inl found ↦ inl (
      found.0,
      found.1,
      record {
        whole = found.2.whole;
        past = let past : found.0 + conversion_time < t = found.2.past in omega arith;
        last = λ u other later sooner whole. elim (cases_eq (u + conversion_time) t) [
          | inl now ↦ none_ends off u other whole now
          | inr before ↦ found.2.last u other later (omega (arith, before)) whole
        ];
      },
      found.3,
    )
    | inr none ↦ inr (
      λ s channel past whole. elim (cases_eq (s + conversion_time) t) [
        | inl now ↦ none_ends off s channel whole now
        | inr before ↦ none.0 s channel (omega (arith, before)) whole
      ],
      none.1,
    )
  ]

  begun_next : (e : Bool) → ends_at t d.begun ≡ e → begins h t ≡ None → (s : ℕ) → (if e then record d { begun = None; result = sample_of d d.begun } else d).begun ≡ Some s →
      (s < suc t) × (suc t ≤ s + conversion_time) × IsLast h (suc t) s (if e then record d { begun = None; result = sample_of d d.begun } else d).channel
  begun_next true on none s is = absurd (none_some s is)
  begun_next false off none s is =
      let before = was.begun s is in
      let lt : s < t = before.0 in
      let le : t ≤ s + conversion_time = before.1 in
      let other : t ≡ s + conversion_time → ⊥ = eqb-false t (s + conversion_time) (sym (ap (ends_at t) is) ∙ off) in
      (omega arith, omega (arith, other), last_on h t s d.channel none before.2)

  under_next : (e : Bool) → ends_at t d.begun ≡ e → begins h t ≡ None → (s channel : ℕ) → s < suc t → suc t ≤ s + conversion_time → IsLast h (suc t) s channel →
      (if e then record d { begun = None; result = sample_of d d.begun } else d).begun ≡ Some s
  under_next e is none s channel lt le last = elim (cases_eq s t) [
    | inl now ↦ absurd (none_some channel (sym none ∙ ap (begins h) (sym now) ∙ last.starts))
    | inr other ↦
        let goes_on : d.begun ≡ Some s = was.under s channel (omega (arith, other)) (omega arith) (last_back h t s channel last) in
        let off : ends_at t d.begun ≡ false = ap (ends_at t) goes_on ∙ ne_eqb t (s + conversion_time) (λ same. omega arith) in
        by e (sym is ∙ off) goes_on
  ]
    where
      by : (e : Bool) → e ≡ false → d.begun ≡ Some s → (if e then record d { begun = None; result = sample_of d d.begun } else d).begun ≡ Some s
      by true is goes_on = absurd (false≢true (sym is))
      by false is goes_on = goes_on

  kept_values : (e : Bool) → (if e then record d { begun = None; result = sample_of d d.begun } else d).values ≡ values
  kept_values true = was.same_values
  kept_values false = was.same_values

  kept_from : (e : Bool) → (if e then record d { begun = None; result = sample_of d d.begun } else d).from ≡ from
  kept_from true = was.same_from
  kept_from false = was.same_from

  holds_next : (begun : Option ℕ) → begins h t ≡ begun → Holds values from h (suc t) (with_begun t begun (record (converted_in t d) { selected = selected_before h (suc t) }))
  holds_next None none = record {
    same_values = kept_values (ends_at t d.begun);
    same_from = kept_from (ends_at t d.begun);
    selected = refl;
    begun = begun_next (ends_at t d.begun) refl none;
    under = under_next (ends_at t d.begun) refl none;
    result = result_next (ends_at t d.begun) refl;
  }
  holds_next (Some channel) some = record {
    same_values = kept_values (ends_at t d.begun);
    same_from = kept_from (ends_at t d.begun);
    selected = refl;
    begun = λ s is.
        let now : t ≡ s = some_same t s is in
        (omega arith, omega arith, record { starts = ap (begins h) (sym now) ∙ some; alone = λ u later sooner. absurd (omega arith) });
    under = λ s other lt le last. elim (cases_eq s t) [
      | inl now ↦ ap (λ n. Some n) (sym now)
      | inr before ↦ absurd (none_some channel (sym (last.alone t (omega (arith, before)) (omega arith)) ∙ some))
    ];
    result = result_next (ends_at t d.begun) refl;
  }

holds : (values : List Sample) (from : ℕ) (h : Driven) (t : ℕ) → Holds values from h t (converter_at values from h t).inner
unfolding data_at
holds values from h zero = at_start values from h
holds values from h (suc t) =
    let was : Holds values from h t (converter_at values from h t).inner = holds values from h t in
    subst (λ d. Holds values from h (suc t) d.inner) (sym (state_step h t (converter_at values from h t) was.selected))
    (holds_next values from h t (converter_at values from h t).inner was (begins h t) refl)

pub results_converted : ResultsAreConverted
results_converted values from h t = (holds values from h t).result

pub ends_known : EndsAreKnown
ends_known values from h t =
    let was : Holds values from h t (converter_at values from h t).inner = holds values from h t in
    record {
      raised = λ known.
          let end = end_of values from h t (converter_at values from h t).inner was (converter_at values from h t).inner.begun refl
          (is_raised (ends_at t (converter_at values from h t).inner.begun) known) in
          (end.0, (converter_at values from h t).inner.channel, end.3, end.2);
      whole = λ s channel whole is.
          ap request (ends_on values from h t (converter_at values from h t).inner was s channel whole is);
    }
  where
    request : Bool → ℕ
    request b = if b then 2 else 0

    is_raised : (b : Bool) → request b ≡ 2 → b ≡ true
    is_raised true e = refl
    is_raised false e = absurd (omega arith)
