-- No count of statistics is more than a limit.
use Rattle.std.proofs.Common.{◌≡◌, ℕ, zero, suc, ◌+◌, ◌-◌, ◌<◌, ◌≤◌, ◌⊎◌, inl, inr, Bool, true, false, cond, List, [], ◌∷◌, length, get_or, Option, Some, None, All, refl, sym, ap, subst, ◌∙◌, arith}
use Rattle.std.specs.Prelude.{slice_index, slice_index_or, slice_set}
use Rattle.std.proofs.lemmas.Bool.{cases_lt}
use Rattle.std.proofs.lemmas.List.{get_or_default}
use Rattle.std.proofs.lemmas.Grind.{common_steps}
use Rattle.kc_profile.specs.declared.sight.Sight.{Sight}
use Rattle.kc_profile.specs.declared.sight.Way.TheVariants.{Taken, Passed}
use Rattle.kc_profile.specs.declared.spread.Moment.{Moment}
use Rattle.kc_profile.specs.declared.spread.Spread.{Spread}
use Rattle.kc_profile.specs.declared.waits.Waits.{Waits}
use Rattle.kc_profile.specs.Sights.{hits, way, enters, sets_up}
use Rattle.kc_profile.specs.Spreads.{AreFew, with_number, together}
use Rattle.kc_profile.specs.Waits.{AreFewWaits, added, is_missed, moment, no_waits, one_if, see, time_since, wait_of_entry}
use Rattle.kc_profile.specs.Statistics.{Statistics, AreAllFew, HaveSeen, IsWhole, all_added, counted_at, goes, waits_at, with_instructions, with_life, with_stack, with_waits}
use Rattle.kc_profile.specs.Tally.{sums}
use Rattle.kc_profile.proofs.Added.{sums-long, sums-at, all-long, all-at, set-there, set-else, set-long}

-- ---- a limit that is greater

spread-more : (n m : ℕ) (o : Option Spread) → n ≤ m → AreFew n o → AreFew m o
spread-more n m None less few = tt
spread-more n m (Some s) less few = omega (arith, less, few)

waits-more : (n m : ℕ) (w : Waits) → n ≤ m → AreFewWaits n w → AreFewWaits m w
waits-more n m w less few = record { latency = spread-more n m w.latency less few.latency; served = spread-more n m w.served less few.served; missed = omega (arith, less, few.missed) }

numbers-more : (n m : ℕ) (xs : List ℕ) → n ≤ m → All (λ x. x ≤ n) xs → All (λ x. x ≤ m) xs
numbers-more n m xs less few = λ k d within. let x = few k d within in omega (arith, less, x)

pub few-more : (n m : ℕ) (t : Statistics) → n ≤ m → AreAllFew n t → AreAllFew m t
few-more n m t less few = record {
  waits = λ k d within. waits-more n m _ less (few.waits k d within);
  hits = numbers-more n m t.hits less few.hits;
  taken = numbers-more n m t.taken less few.taken;
  passed = numbers-more n m t.passed less few.passed;
}

-- of a run that goes on by a state or more
pub few-further : (first now next n : ℕ) (t : Statistics) → first ≤ now → now < next → AreAllFew (n + (now - first) + 1) t → AreAllFew (n + (next - first)) t
few-further first now next n t forward further few = few-more (n + (now - first) + 1) (n + (next - first)) t (omega (arith, forward, further)) few

-- ---- one state more

with-one : (n number : ℕ) (when : Moment) (o : Option Spread) → AreFew n o → AreFew (n + 1) (Some (with_number number when o))
with-one n number when None few = omega arith
with-one n number when (Some s) few = omega (arith, few)

if-one : (b : Bool) (n number : ℕ) (when : Moment) (o : Option Spread) → AreFew n o → AreFew (n + 1) (cond b (Some (with_number number when o)) o)
if-one true n number when o few = with-one n number when o few
if-one false n number when o few = spread-more n (n + 1) o (omega arith) few

missed-one : (b : Bool) (n m : ℕ) → m ≤ n → m + one_if b ≤ n + 1
missed-one true n m few = omega (arith, few)
missed-one false n m few = omega (arith, few)

see-few : (limit n life : ℕ) (s : Sight) (w : Waits) → AreFewWaits limit w → AreFewWaits (limit + 1) (see n life s w)
see-few limit n life s w few = record {
  latency = if-one (enters n s) limit (wait_of_entry n s w.waiting) (moment life s) w.latency few.latency;
  served = if-one (sets_up n s) limit (time_since w.waiting.pending s.at) (moment life s) w.served few.served;
  missed = missed-one (is_missed n s) limit w.missed few.missed;
}

count-few : (b : Bool) (n addr : ℕ) (xs : List ℕ) → addr < length xs → All (λ x. x ≤ n) xs → All (λ x. x ≤ n + 1) (counted_at b addr xs)
count-few false n addr xs inside few = numbers-more n (n + 1) xs (omega arith) few
count-few true n addr xs inside few = λ k d within. by k d (let long = set-long (λ (x y : ℕ). x) xs addr (slice_index xs addr + 1) in omega (arith, within, long)) (cases_lt k addr) (cases_lt addr k)
  where
    new : List ℕ
    new = slice_set xs addr (slice_index xs addr + 1)

    by : (k d : ℕ) → k < length xs → (k < addr) ⊎ (addr ≤ k) → (addr < k) ⊎ (k ≤ addr) → get_or (slice_set xs addr (slice_index xs addr + 1)) k d ≤ n + 1
    by k d within (inl less) more =
        let e = set-else (λ (x y : ℕ). x) xs addr (slice_index xs addr + 1) k d (λ same. omega (arith, same, less)) in
        let x = few k d within in
        omega (arith, e, x)
    by k d within (inr past) (inl more) =
        let e = set-else (λ (x y : ℕ). x) xs addr (slice_index xs addr + 1) k d (λ same. omega (arith, same, more)) in
        let x = few k d within in
        omega (arith, e, x)
    by k d within (inr past) (inr here) =
        let e = set-there (λ (x y : ℕ). x) xs addr (slice_index xs addr + 1) k d (omega (arith, past, here)) inside in
        let x = few addr 0 inside in
        omega (arith, e, x)

counted-long : (b : Bool) (addr : ℕ) (xs : List ℕ) → length (counted_at b addr xs) ≡ length xs
counted-long false addr xs = refl
counted-long true addr xs = set-long (λ (x y : ℕ). x) xs addr (slice_index xs addr + 1)

whole-before : (s : Sight) (t v : Statistics) → v ≡ with_stack s (with_instructions s t) → IsWhole v → IsWhole t
whole-before s t v stack whole = record {
  waits = sym (ap (λ (x : Statistics). length x.waits) stack) ∙ whole.waits;
  hits = sym (ap (λ (x : Statistics). length x.hits) stack ∙ counted-long (hits s) s.pc t.hits) ∙ whole.hits;
  taken = sym (ap (λ (x : Statistics). length x.taken) stack ∙ counted-long (goes (way s) Taken) s.pc t.taken) ∙ whole.taken;
  passed = sym (ap (λ (x : Statistics). length x.passed) stack ∙ counted-long (goes (way s) Passed) s.pc t.passed) ∙ whole.passed;
}

pub few-seen : (n : ℕ) (s : Sight) (t u v w : Statistics) → s.pc < 65536 → IsWhole v → u ≡ with_instructions s t → v ≡ with_stack s u → HaveSeen v.life s v.waits w.waits → w ≡ with_waits w.waits v → AreAllFew n t → AreAllFew (n + 1) w
few-seen n s t u v w inside later i k seen rest few =
    let stack : v ≡ with_stack s (with_instructions s t) = k ∙ ap (with_stack s) i in
    let same : v.waits ≡ t.waits = ap (λ (x : Statistics). x.waits) stack in
    let whole : IsWhole t = whole-before s t v stack later in
    record {
      waits = λ j d within.
          let below : j < 16 = omega (arith, within, seen.many, later.waits) in
          let at : get_or w.waits j d ≡ see j v.life s (waits_at v j) = get_or_default w.waits j d no_waits within ∙ seen.each j below in
          let old : AreFewWaits n (get_or t.waits j no_waits) = few.waits j no_waits (omega (arith, below, whole.waits)) in
          let old-v : AreFewWaits n (waits_at v j) = subst (λ l. AreFewWaits n (get_or l j no_waits)) (sym same) old in
          subst (AreFewWaits (n + 1)) (sym at) (see-few n j v.life s (waits_at v j) old-v);
      hits = subst (All (λ x. x ≤ n + 1)) (sym (ap (λ (x : Statistics). x.hits) rest ∙ ap (λ (x : Statistics). x.hits) stack)) (count-few (hits s) n s.pc t.hits (omega (arith, inside, whole.hits)) few.hits);
      taken = subst (All (λ x. x ≤ n + 1)) (sym (ap (λ (x : Statistics). x.taken) rest ∙ ap (λ (x : Statistics). x.taken) stack)) (count-few (goes (way s) Taken) n s.pc t.taken (omega (arith, inside, whole.taken)) few.taken);
      passed = subst (All (λ x. x ≤ n + 1)) (sym (ap (λ (x : Statistics). x.passed) rest ∙ ap (λ (x : Statistics). x.passed) stack)) (count-few (goes (way s) Passed) n s.pc t.passed (omega (arith, inside, whole.passed)) few.passed);
    }

-- ---- a life more

together-few : (n m : ℕ) (o p : Option Spread) → AreFew n o → AreFew m p → AreFew (n + m) (together o p)
together-few n m None None h k = tt
together-few n m None (Some p) h k = omega (arith, k)
together-few n m (Some o) None h k = omega (arith, h)
together-few n m (Some o) (Some p) h k = omega (arith, h, k)

added-few : (n m : ℕ) (w v : Waits) → AreFewWaits n w → AreFewWaits m v → AreFewWaits (n + m) (added w v)
added-few n m w v h k = record {
  latency = together-few n m w.latency v.latency h.latency k.latency;
  served = together-few n m w.served v.served h.served k.served;
  missed = omega (arith, h.missed, k.missed);
}

sums-few : (n m : ℕ) (xs ys : List ℕ) → length xs ≡ length ys → All (λ x. x ≤ n) xs → All (λ x. x ≤ m) ys → All (λ x. x ≤ n + m) (sums xs ys)
sums-few n m xs ys same h k = λ i d within.
    let below : i < length xs = (let long = sums-long xs ys same in omega (arith, within, long)) in
    let e : get_or (sums xs ys) i d ≡ get_or xs i 0 + get_or ys i 0 = get_or_default (sums xs ys) i d 0 within ∙ sums-at xs ys i same below in
    let x = h i 0 below in
    let y = k i 0 (omega (arith, below, same)) in
    omega (arith, e, x, y)

pub few-added : (n m : ℕ) (t later u : Statistics) → IsWhole t → IsWhole later → u ≡ with_life t later → AreAllFew n t → AreAllFew m later → AreAllFew (n + m) u
few-added n m t later u whole other is h k = subst (AreAllFew (n + m)) (sym is) (record {
  waits = λ i d within.
      let same : length t.waits ≡ length later.waits = whole.waits ∙ sym other.waits in
      let below : i < length t.waits = (let long = all-long t.waits later.waits same in omega (arith, within, long)) in
      subst (AreFewWaits (n + m)) (sym (all-at t.waits later.waits i d same below)) (added-few n m _ _ (h.waits i d below) (k.waits i d (omega (arith, below, same))));
  hits = sums-few n m t.hits later.hits (whole.hits ∙ sym other.hits) h.hits k.hits;
  taken = sums-few n m t.taken later.taken (whole.taken ∙ sym other.taken) h.taken k.taken;
  passed = sums-few n m t.passed later.passed (whole.passed ∙ sym other.passed) h.passed k.passed;
})
