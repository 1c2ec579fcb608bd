-- The statistics of no states.
use Rattle.std.proofs.Common.{◌≡◌, ℕ, ◌<◌, ◌≤◌, List, [], length, None, get_or, refl, sym, ap, subst, ◌∙◌, All, arith}
use Rattle.std.specs.Prelude.{count_by, replicate, slice_index, slice_index_or}
use Rattle.std.proofs.lemmas.List.{get_or-replicate, length-replicate}
use Rattle.std.proofs.lemmas.Grind.{common_steps}
use Rattle.kc_profile.specs.declared.sight.Way.TheVariants.{Taken, Passed}
use Rattle.kc_profile.specs.declared.waits.Waits.{Waits}
use Rattle.kc_profile.specs.Waits.{AreFewWaits, AreWaitsOf, came, latencies, no_waits, services}
use Rattle.kc_profile.specs.Spreads.{spread_of}
use Rattle.kc_profile.specs.Statistics.{Statistics, AreAllFew, AreStatisticsOf, deepest}

none-at : (n x : ℕ) → slice_index (replicate n 0) x ≡ 0
none-at n x = grind (arith, common_steps)

waits-none : (n life : ℕ) → AreWaitsOf n life [] no_waits
unfolding came latencies services spread_of
waits-none n life = record { pending = refl; handed = refl; latency = refl; served = refl; missed = refl }

empty : ℕ → Statistics
empty life = record { life = life; waits = replicate 16 no_waits; deepest = None; hits = replicate 65536 0; taken = replicate 65536 0; passed = replicate 65536 0 }

statistics-none : (life : ℕ) → AreStatisticsOf life [] (empty life)
unfolding empty deepest
statistics-none life = record {
  whole = record { waits = length-replicate 16 no_waits; hits = length-replicate {A = ℕ} 65536 0; taken = length-replicate {A = ℕ} 65536 0; passed = length-replicate {A = ℕ} 65536 0 };
  waits = λ n below. subst (AreWaitsOf n life []) (sym (get_or-replicate 16 n no_waits no_waits below)) (waits-none n life);
  deepest = refl;
  hits = λ addr. none-at 65536 addr;
  taken = λ addr. none-at 65536 addr;
  passed = λ addr. none-at 65536 addr;
}

numbers-none : (n : ℕ) → All (λ x. x ≤ 0) (replicate n 0)
numbers-none n = λ k d within. let e = get_or-replicate {A = ℕ} n k 0 d (let long = length-replicate {A = ℕ} n 0 in omega (arith, within, long)) in omega (arith, e)

few-none : (life : ℕ) → AreAllFew 0 (empty life)
unfolding empty
few-none life = record {
  waits = λ k d within. subst (AreFewWaits 0) (sym (get_or-replicate 16 k no_waits d (let long = length-replicate 16 no_waits in omega (arith, within, long)))) (record { latency = tt; served = tt; missed = omega arith });
  hits = numbers-none 65536;
  taken = numbers-none 65536;
  passed = numbers-none 65536;
}

same-as-empty : (life : ℕ) (t : Statistics) → t.life ≡ life → t.waits ≡ replicate 16 no_waits → t.deepest ≡ None → t.hits ≡ replicate 65536 0 → t.taken ≡ replicate 65536 0 → t.passed ≡ replicate 65536 0 → t ≡ empty life
unfolding empty
same-as-empty life t a b c d e f = λ j. record { life = a j; waits = b j; deepest = c j; hits = d j; taken = e j; passed = f j }

pub empty_statistics : (life : ℕ) (t : Statistics) → t.life ≡ life → t.waits ≡ replicate 16 no_waits → t.deepest ≡ None → t.hits ≡ replicate 65536 0 → t.taken ≡ replicate 65536 0 → t.passed ≡ replicate 65536 0 → AreStatisticsOf life [] t
empty_statistics life t a b c d e f = subst (AreStatisticsOf life []) (sym (same-as-empty life t a b c d e f)) (statistics-none life)

pub empty_few : (life : ℕ) (t : Statistics) → t.life ≡ life → t.waits ≡ replicate 16 no_waits → t.deepest ≡ None → t.hits ≡ replicate 65536 0 → t.taken ≡ replicate 65536 0 → t.passed ≡ replicate 65536 0 → AreAllFew 0 t
empty_few life t a b c d e f = subst (AreAllFew 0) (sym (same-as-empty life t a b c d e f)) (few-none life)
