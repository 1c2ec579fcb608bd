-- The changes of a dump with the values of its analogue inputs between them.
use Rattle.std.proofs.Common.{◌≡◌, ℕ, ◌+◌, ◌^◌, ◌<◌, ◌≤◌, Bool, true, false, cond, leb, ltb, List, [], ◌∷◌, ◌++◌, All, filter, length, length-append, map, refl, sym, ap, ◌∙◌, arith}
use Rattle.std.proofs.lemmas.Bool.{leb-true, ltb-true}
use Rattle.std.proofs.lemmas.List.Elements.{All-head, All-tail, filter-append}
use Rattle.kc_base.specs.Series.{up_to}
use Rattle.kc_base.specs.declared.types.Level.{Level}
use Rattle.kc_trace.specs.declared.life.Signal.{Signal}
use Rattle.kc_convert.specs.declared.sample.Sample.{Sample}
use Rattle.kc_events.specs.Steps.{Seen, Begins, Passes, Ends}
use Rattle.kc_vcd.specs.declared.change.Change.{Change}
use Rattle.kc_vcd.specs.declared.change.Change.TheVariants.{Takes, Unseen}
use Rattle.kc_vcd.specs.declared.variable.Variable.{Variable}
use Rattle.kc_convert.specs.Samples.{channel_count, IsValue}
use Rattle.kc_vcd.specs.Changes.{Timed, behind, end_by, taken, before, after, with_values}
use Rattle.kc_vcd.specs.Dump.{timed_to}
use Rattle.kc_vcd.specs.Laws.{AreKnown, level_behind, is_happening, count_among}
use Rattle.kc_vcd.proofs.Picked.{picked, picked-append, both_known}
use Rattle.kc_vcd.proofs.RunLevels.{level-append}

-- ---- all are known

abbrev pub AreSamples : List Sample → Type 0
AreSamples [] = Unit {0}
AreSamples (s ∷ samples) = (s.channel < channel_count) × (s.value ≤ 1023) × AreSamples samples

pub are_samples : (samples : List Sample) → All IsValue samples → AreSamples samples
are_samples [] all = tt
are_samples (s ∷ samples) all = let first = All-head IsValue s samples all in (first.0, first.1, are_samples samples (All-tail IsValue s samples all))

to_known : (t : ℕ) (samples : List Sample) → t < 2 ^ 64 → AreSamples samples → AreKnown (taken (up_to (λ s. s.at) t samples))
to_known t [] few h = tt
to_known t (s ∷ samples) few h = by_test (leb s.at t) refl (to_known t samples few h.2)
  where
    by_test : (b : Bool) → leb s.at t ≡ b → AreKnown (taken (up_to (λ x. x.at) t samples)) → AreKnown (taken (cond b (s ∷ up_to (λ x. x.at) t samples) (up_to (λ x. x.at) t samples)))
    by_test true e rest = let low = leb-true s.at t e in (omega (arith, low, few), (h.0, h.1), rest)
    by_test false e rest = rest

before_known : (t : ℕ) (samples : List Sample) → t < 2 ^ 64 → AreSamples samples → AreKnown (taken (before t samples))
before_known t [] few h = tt
before_known t (s ∷ samples) few h = by_test (ltb s.at t) refl (before_known t samples few h.2)
  where
    by_test : (b : Bool) → ltb s.at t ≡ b → AreKnown (taken (before t samples)) → AreKnown (taken (cond b (s ∷ before t samples) (before t samples)))
    by_test true e rest = let low = ltb-true s.at t e in (omega (arith, low, few), (h.0, h.1), rest)
    by_test false e rest = rest

after_samples : (t : ℕ) (samples : List Sample) → AreSamples samples → AreSamples (after t samples)
after_samples t [] h = tt
after_samples t (s ∷ samples) h = by_test (ltb t s.at) (after_samples t samples h.2)
  where
    by_test : (b : Bool) → AreSamples (after t samples) → AreSamples (cond b (s ∷ after t samples) (after t samples))
    by_test true rest = (h.0, h.1, rest)
    by_test false rest = rest

values_known : (samples : List Sample) (end : ℕ) (changes : List Timed) → AreSamples samples → end < 2 ^ 64 → AreKnown changes → AreKnown (with_values samples end changes)
unfolding with_values
values_known samples end [] h few known = before_known end samples few h
values_known samples end (c ∷ changes) h few known =
    both_known (taken (up_to (λ s. s.at) c.at samples)) (c ∷ with_values (after c.at samples) end changes) (to_known c.at samples known.0 h)
    (known.0, known.1, values_known (after c.at samples) end changes (after_samples c.at samples h) few known.2)

pub timed_known : (samples : List Sample) (end : ℕ) (changes : List Timed) → AreSamples samples → end < 2 ^ 64 → AreKnown changes → AreKnown (timed_to samples end changes)
timed_known samples end changes h few known = both_known (with_values samples end changes) (record { at = end; change = Unseen } ∷ []) (values_known samples end changes h few known) (few, tt, tt)

pub end_few : (base : ℕ) (steps : List Seen) → base < 2 ^ 64 → end_by base steps < 2 ^ 64
unfolding end_by
end_few base [] few = few
end_few base (Begins levels ∷ steps) few = end_few base steps few
end_few base (Passes state ∷ steps) few = end_few base steps few
end_few base (Ends last ∷ steps) few = end_few (behind base last) steps (omega (arith, few))

-- ---- values leave levels as they are

level_taken : (signal : Signal) (l : Level) (test : ℕ → Bool) (samples : List Sample) → level_behind signal l (picked test (taken samples)) ≡ l
level_taken signal l test [] = refl
level_taken signal l test (s ∷ samples) = by_test (test s.at) (level_taken signal l test samples)
  where
    by_test : (b : Bool) → level_behind signal l (picked test (taken samples)) ≡ l →
        level_behind signal l (map (λ (c : Timed). c.change) (cond b (record { at = s.at; change = Takes s.channel s.value } ∷ filter (λ c. test c.at) (taken samples)) (filter (λ c. test c.at) (taken samples)))) ≡ l
    by_test true rest = rest
    by_test false rest = rest

level_values : (signal : Signal) (l : Level) (test : ℕ → Bool) (samples : List Sample) (end : ℕ) (changes : List Timed) →
    level_behind signal l (picked test (with_values samples end changes)) ≡ level_behind signal l (picked test changes)
unfolding with_values
level_values signal l test samples end [] = level_taken signal l test (before end samples)
level_values signal l test samples end (c ∷ changes) =
    let values = taken (up_to (λ s. s.at) c.at samples) in
    let rest = with_values (after c.at samples) end changes in
    let here = picked test (c ∷ []) in
    ap (level_behind signal l) (picked-append test values (c ∷ rest))
    ∙ level-append signal l (picked test values) (picked test (c ∷ rest))
    ∙ ap (λ k. level_behind signal k (picked test (c ∷ rest))) (level_taken signal l test (up_to (λ s. s.at) c.at samples))
    ∙ ap (level_behind signal l) (picked-append test (c ∷ []) rest)
    ∙ level-append signal l here (picked test rest)
    ∙ level_values signal (level_behind signal l here) test (after c.at samples) end changes
    ∙ sym (level-append signal l here (picked test changes))
    ∙ ap (level_behind signal l) (sym (picked-append test (c ∷ []) changes))

pub level_timed : (signal : Signal) (l : Level) (test : ℕ → Bool) (samples : List Sample) (end : ℕ) (changes : List Timed) →
    level_behind signal l (picked test (timed_to samples end changes)) ≡ level_behind signal l (picked test changes)
level_timed signal l test samples end changes =
    let mark : List Timed = record { at = end; change = Unseen } ∷ [] in
    let all = with_values samples end changes in
    ap (level_behind signal l) (picked-append test all mark)
    ∙ level-append signal l (picked test all) (picked test mark)
    ∙ none (test end) (level_behind signal l (picked test all))
    ∙ level_values signal l test samples end changes
  where
    none : (b : Bool) (k : Level) → level_behind signal k (map (λ (c : Timed). c.change) (cond b (record { at = end; change = Unseen } ∷ []) [])) ≡ k
    none true k = refl
    none false k = refl

-- ---- and counts

pub count-append : (event : Variable) (xs ys : List Change) → count_among event (xs ++ ys) ≡ count_among event xs + count_among event ys
count-append event xs ys = ap length (filter-append (is_happening event) xs ys) ∙ length-append (filter (is_happening event) xs) (filter (is_happening event) ys)

count_taken : (event : Variable) (test : ℕ → Bool) (samples : List Sample) → count_among event (picked test (taken samples)) ≡ 0
count_taken event test [] = refl
count_taken event test (s ∷ samples) = by_test (test s.at) (count_taken event test samples)
  where
    by_test : (b : Bool) → count_among event (picked test (taken samples)) ≡ 0 →
        count_among event (map (λ (c : Timed). c.change) (cond b (record { at = s.at; change = Takes s.channel s.value } ∷ filter (λ c. test c.at) (taken samples)) (filter (λ c. test c.at) (taken samples)))) ≡ 0
    by_test true rest = rest
    by_test false rest = rest

count_values : (event : Variable) (test : ℕ → Bool) (samples : List Sample) (end : ℕ) (changes : List Timed) →
    count_among event (picked test (with_values samples end changes)) ≡ count_among event (picked test changes)
unfolding with_values
count_values event test samples end [] = count_taken event test (before end samples)
count_values event test samples end (c ∷ changes) =
    let values = taken (up_to (λ s. s.at) c.at samples) in
    let rest = with_values (after c.at samples) end changes in
    let here = picked test (c ∷ []) in
    let a = count-append event (picked test values) (picked test (c ∷ rest)) in
    let b = count_taken event test (up_to (λ s. s.at) c.at samples) in
    let e = count-append event here (picked test rest) in
    let f = count_values event test (after c.at samples) end changes in
    let g = count-append event here (picked test changes) in
    ap (count_among event) (picked-append test values (c ∷ rest))
    ∙ plain (count_among event (picked test values ++ picked test (c ∷ rest))) (count_among event (picked test values)) (count_among event (picked test (c ∷ rest))) a b
    ∙ ap (count_among event) (picked-append test (c ∷ []) rest)
    ∙ e
    ∙ ap (λ k. count_among event here + k) f
    ∙ sym g
    ∙ ap (count_among event) (sym (picked-append test (c ∷ []) changes))
  where
    plain : (all first second : ℕ) → all ≡ first + second → first ≡ 0 → all ≡ second
    plain all first second a b = omega (arith, a, b)

pub count_timed : (event : Variable) (test : ℕ → Bool) (samples : List Sample) (end : ℕ) (changes : List Timed) →
    count_among event (picked test (timed_to samples end changes)) ≡ count_among event (picked test changes)
count_timed event test samples end changes =
    let mark : List Timed = record { at = end; change = Unseen } ∷ [] in
    let all = with_values samples end changes in
    let last = none (test end) in
    let both = count-append event (picked test all) (picked test mark) in
    let same = count_values event test samples end changes in
    ap (count_among event) (picked-append test all mark) ∙ omega (arith, both, last, same)
  where
    none : (b : Bool) → count_among event (map (λ (c : Timed). c.change) (cond b (record { at = end; change = Unseen } ∷ []) [])) ≡ 0
    none true = refl
    none false = refl
