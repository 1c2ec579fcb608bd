-- The longest time without interrupts, by the activities of a pass one after the other.
use Rattle.std.proofs.Common.{◌≡◌, ℕ, zero, suc, Bool, true, false, ◌+◌, ◌-◌, ◌*◌, ◌<◌, ◌≤◌, ◌==◌, inl, inr, if◌then◌else◌, Option, Some, None, List, [], ◌∷◌, refl, sym, ◌∙◌, ap, subst, arith}
use Rattle.std.proofs.lemmas.Bool.{cases_lt}
use Rattle.std.proofs.Math.Nat.{mul-le-mul_left}
use Rattle.std.specs.Prelude.{Contains}
use Rattle.kc_extra.specs.Further.{Further}
use Rattle.kc_machine_spec.specs.declared.doing.Activity.{Activity}
use Rattle.kc_machine_spec.specs.declared.doing.Activity.TheVariants.{Enters}
use Rattle.kc_machine_spec.specs.declared.doing.Going.{Going}
use Rattle.kc_machine_spec.specs.Machine.{Machine, Stepped, current}
use Rattle.kc_machine_spec.specs.Run.{run_for}
use Rattle.kc_machine_spec.proofs.Runs.{run-none}
use Rattle.kc_bound.specs.declared.notes.Loop.{Loop}
use Rattle.kc_bound.specs.declared.notes.Notes.{Notes}
use Rattle.kc_bound.specs.Notes.{is_among, turns_at, turns_at_first}
use Rattle.kc_bound.specs.Passes.{is_own, begun, after_activity, moment, calls_at, is_over}
use Rattle.kc_bound.specs.Premises.{turns_after, turns_left}
use Rattle.kc_bound.specs.Certified.{priced, begins_at}
use Rattle.kc_bound.specs.Bounded.{IsImage, IsPassFrom}
use Rattle.kc_bound.specs.Steps.{StatesAreMost, StatesAreSome, FoundIsDecoded, TurnIsPaid}
use Rattle.kc_bound.proofs.Activities.{own-passes}
use Rattle.kc_bound.proofs.Paid.{at-most}
use Rattle.kc_bound.proofs.Prices.{of_each, priced-more}
use Rattle.kc_bound_requests.specs.declared.certificate.EnabledSet.{EnabledSet}
use Rattle.kc_bound_requests.specs.Enabled.{enabled_in}
use Rattle.kc_bound_requests.specs.Closed.{is_in, implies}
use Rattle.kc_bound_requests.proofs.Sets.{each-passes}
use Rattle.kc_bound_requests.proofs.Passes.{on-way}
use Rattle.kc_bound_requests.specs.declared.latency_certificate.LatencyCertificate.{LatencyCertificate}
use Rattle.kc_bound_requests.specs.Asking.{asks, HighestIsEntered}
use Rattle.kc_bound_requests.specs.Latency.{shut_at, all_turns, most_turns, is_first_most, ShowsShut}
use Rattle.kc_bound_requests.specs.Gaps.{GapsAreShort, WaitsAreShort}
use Rattle.kc_bound_requests.proofs.Owes.{so}
use Rattle.kc_bound_requests.proofs.Goes.{since_of, Account, Has, Counted, Behaves, behaves}

no-time : (a b k : ℕ) → a ≡ b → k ≡ 0 → a ≡ b + k
no-time a b k e none = omega (arith, e, none)

some-of : (n k : ℕ) → n ≡ suc k → 0 < n
some-of n k e = omega (arith, e)

-- ---- what loops have left

turns-few : (l : Loop) (o : Option ℕ) (turns : ℕ) → turns ≤ l.most → turns_after l o turns ≤ l.most
turns-few l None turns few = few
turns-few l (Some a) turns few = by (is_among l.per.items a) (l.head == a)
  where
    by : (among head : Bool) → (if among then l.most else if head then turns - 1 else turns) ≤ l.most
    by true head = omega arith
    by false true = omega (arith, few)
    by false false = few

first-few : (l : Loop) → turns_at_first l ≤ l.most
first-few l = by l.per.items
  where
    by : (ps : List ℕ) → (elim ps [ [] ↦ l.most | p ∷ more ↦ 0 ]) ≤ l.most
    by [] = omega arith
    by (p ∷ more) = omega arith

priced-few : (u v : Loop → ℕ) (loops : List Loop) (prices : List ℕ) → ((l : Loop) → u l ≤ v l) → priced u loops prices ≤ priced v loops prices
priced-few u v [] prices h = omega arith
priced-few u v (l ∷ loops) [] h = omega arith
priced-few u v (l ∷ loops) (p ∷ prices) h =
    let here : p * u l ≤ p * v l = mul-le-mul_left p (h l) in
    let rest : priced u loops prices ≤ priced v loops prices = priced-few u v loops prices h in
    sum_of p (u l) (v l) (priced u loops prices) (priced v loops prices) here rest
  where
    sum_of : (p u v a b : ℕ) → p * u ≤ p * v → a ≤ b → u * p + a ≤ v * p + b
    sum_of p u v a b here rest = omega arith

module _ {X : Type 0} (f : Further X) where
  left-few : (l : Loop) (k : ℕ) (m : Machine X) → turns_left f l k m ≤ l.most
  unfolding turns_left
  left-few l zero m = first-few l
  left-few l (suc k) m = turns-few l (begun (moment f k m)) (turns_left f l k m) (left-few l k m)

  -- all states of an own activity have gone by
  after-time : (m : Machine X) → m.ended ≡ None → is_own (current m).doing ≡ true → (after_activity f m).time ≡ m.time + (current m).left
  after-time m lives own = by (current m).left refl
    where
      by : (k : ℕ) → (current m).left ≡ k → (after_activity f m).time ≡ m.time + (current m).left
      by zero e =
          let none : (after_activity f m).time ≡ m.time = ap (λ k. (run_for f k m).machine.time) e ∙ ap (λ (s : Stepped X). s.machine.time) (run-none f m) in
          no-time (after_activity f m).time m.time (current m).left none e
      by (suc k) e = (own-passes f m lives (some-of (current m).left k e) own).time

  -- how many states ago interrupts were last asked for before a moment, or how many the pass has taken
  unfoldable waited : ℕ → Machine X → ℕ
  waited zero m = 0
  waited (suc k) m = since_of (asks (moment f k m)) (waited k m) + (current (moment f k m)).left

  abbrev since_at : ℕ → Machine X → ℕ
  since_at k m = since_of (asks (moment f k m)) (waited k m)

-- ---- the moments of a pass

asked-first : (p t turns total : ℕ) → p + t ≤ total → turns ≤ t → (0 + turns) + p ≤ total
asked-first p t turns total h few = omega (arith, h, few)

nothing-waited : (asking : Bool) → since_of asking 0 ≡ 0
nothing-waited true = refl
nothing-waited false = refl

module _ {X : Type 0} (decoded : FoundIsDecoded X) (most : StatesAreMost) (some : StatesAreSome) (paid : TurnIsPaid) (f : Further X) (image : List ℕ) (notes : Notes) (from : ℕ) (first : EnabledSet) (c : LatencyCertificate) (total : ℕ) where
  -- what the loops have left after so many activities
  abbrev turns_of : ℕ → Machine X → ℕ
  turns_of k m = priced (λ l. turns_left f l k m) notes.loops.items c.prices.items

  turns-of-few : (k : ℕ) (m : Machine X) → turns_of k m ≤ all_turns notes c
  turns-of-few k m = priced-few (λ l. turns_left f l k m) most_turns notes.loops.items c.prices.items (λ l. left-few f l k m)

  counted-by : (k : ℕ) (m : Machine X) (o : Option ℕ) → begun (moment f k m) ≡ o → ((l : Loop) → Contains notes.loops.items l → begun (moment f k m) ≡ Some l.head → 0 < turns_left f l k m) → Counted notes c o (turns_of k m) (turns_of (suc k) m)
  unfolding turns_left
  counted-by k m None e still = ap (λ (o : Option ℕ). priced (λ l. turns_after l o (turns_left f l k m)) notes.loops.items c.prices.items) e
  counted-by k m (Some a) e still =
      priced-more (λ l. turns_left f l (suc k) m) (λ l. turns_left f l k m) (begins_at a) (turns_at a) notes.loops.items c.prices.items
      (of_each (λ l. turns_left f l (suc k) m + begins_at a l ≤ turns_left f l k m + turns_at a l) notes.loops.items
      (λ l there. subst (λ (o : Option ℕ). turns_after l o (turns_left f l k m) + begins_at a l ≤ turns_left f l k m + turns_at a l) (sym e)
      (paid l a (turns_left f l k m) (λ same. still l there (e ∙ ap (λ x. Some x) (sym same))))))

  -- after so many activities
  record IsAt (k : ℕ) (m : Machine X) : Type 0 where
    pub few : waited f k m ≤ total
    pub goes : is_over f notes k m ≡ false → (moment f k m).ended ≡ None → Has image notes from c total (moment f k m) (calls_at f k m) (since_at f k m) (turns_of k m)

  at-first : (m : Machine X) → ShowsShut image notes from first c total → is_in first (enabled_in m) ≡ true → m.cpu.pc ≡ from → m.going ≡ None → IsAt 0 m
  unfolding moment calls_at waited
  at-first m shows there pc going = record {
    few = omega arith;
    goes = λ on lives.
        let most_first : shut_at c from (enabled_in m) + all_turns notes c ≤ total = at-most (shut_at c from (enabled_in m) + all_turns notes c) total (so (is_in first (enabled_in m)) (is_first_most notes c total from (enabled_in m)) (each-passes (λ e. implies (is_in first e) (is_first_most notes c total from e)) shows.first_most (enabled_in m)) there) in
        let sum : (0 + turns_of 0 m) + shut_at c from (enabled_in m) ≤ total = asked-first (shut_at c from (enabled_in m)) (all_turns notes c) (turns_of 0 m) total most_first (turns-of-few 0 m) in
        subst (λ (g : Option Going). Account image notes from c total g m.cpu.pc [] (enabled_in m) (since_of (asks m) 0) (turns_of 0 m)) (sym going)
        (tt, (subst (λ s. (s + turns_of 0 m) + shut_at c m.cpu.pc (enabled_in m) ≤ total) (sym (nothing-waited (asks m))) (subst (λ a. (0 + turns_of 0 m) + shut_at c a (enabled_in m) ≤ total) (sym pc) sum), tt));
  }

  is-at : (k n : ℕ) (m : Machine X) → IsImage image → ShowsShut image notes from first c total → IsPassFrom f image notes from n m → is_in first (enabled_in m) ≡ true → k ≤ n → IsAt k m
  unfolding moment calls_at waited is_over
  is-at zero n m is shows p there less = at-first m shows there p.begins p.pass.stretch.begins
  is-at (suc k) n m is shows p there less =
      let in_time : k < n = omega (arith, less) in
      let within : k ≤ n = omega (arith, less) in
      let goes_on : is_over f notes k m ≡ false = p.pass.goes_on k in_time in
      let lives : (moment f k m).ended ≡ None = p.pass.stretch.lives k in_time in
      let so_far : IsAt k m = is-at k n m is shows p there within in
      let b : Behaves decoded most some f image notes from c total (moment f k m) (calls_at f k m) (since_at f k m) (turns_of (suc k) m) =
      behaves decoded most some f image notes from c total (record { image_is = is; sound = shows.sound; each_most = shows.each_most }) (moment f k m) (calls_at f k m) (since_at f k m) (turns_of k m) (turns_of (suc k) m)
      (record {
        allowed = on-way decoded some f image notes from first c.requests k n m is shows.closed p there within goes_on lives;
        lives = lives;
        own = p.pass.stretch.own k in_time;
        assumed = record {
          returns = λ is_so back more opens after. p.returns k back more in_time is_so opens after;
          goes = λ is_so targets noted after. p.keeps.goes k targets in_time is_so noted after;
          words = λ i w most going noted. p.keeps.words (suc k) i w most less going noted;
        };
        counted = counted-by k m (begun (moment f k m)) refl (λ l in_notes begins. p.keeps.loops k l in_time in_notes begins);
        few = turns-of-few (suc k) m;
      })
      (so_far.goes goes_on lives) in
      record {
        few = b.most_there;
        goes = λ on after. b.goes after on (on-way decoded some f image notes from first c.requests (suc k) n m is shows.closed p there less on after);
      }

  -- ---- gaps

  waited-more : (i k n : ℕ) (m : Machine X) → IsPassFrom f image notes from n m → i ≤ k → suc k ≤ n → ((j : ℕ) → i < j → j < suc k → asks (moment f j m) ≡ false)
      → (i < k → (moment f k m).time ≤ (moment f i m).time + waited f k m) → (moment f (suc k) m).time ≤ (moment f i m).time + waited f (suc k) m
  unfolding moment waited
  waited-more i k n m p from_there less shut before =
      let in_time : k < n = omega (arith, less) in
      let time : (after_activity f (moment f k m)).time ≡ (moment f k m).time + (current (moment f k m)).left = after-time f (moment f k m) (p.pass.stretch.lives k in_time) (p.pass.stretch.own k in_time) in
      elim (cases_lt i k) [
        | inl later ↦
            let none : asks (moment f k m) ≡ false = shut k later (omega arith) in
            let so_far : (moment f k m).time ≤ (moment f i m).time + waited f k m = before later in
            subst (λ b. (after_activity f (moment f k m)).time ≤ (moment f i m).time + (since_of b (waited f k m) + (current (moment f k m)).left)) (sym none) (omega (arith, time, so_far))
        | inr same ↦
            let here : k ≡ i = omega (arith, from_there, same) in
            subst (λ x. (after_activity f (moment f k m)).time ≤ (moment f x m).time + (since_of (asks (moment f k m)) (waited f k m) + (current (moment f k m)).left)) here (omega (arith, time))
      ]

  waited-before : (i k n : ℕ) (m : Machine X) → IsPassFrom f image notes from n m → i < k → k ≤ n → ((j : ℕ) → i < j → j < k → asks (moment f j m) ≡ false) → (moment f k m).time ≤ (moment f i m).time + waited f k m
  waited-before i zero n m p later less shut = absurd (omega (arith, later))
  waited-before i (suc k) n m p later less shut = waited-more i k n m p (omega (arith, later)) less shut (λ sooner. waited-before i k n m p sooner (omega (arith, less)) (λ j more few. shut j more (omega (arith, few))))

pub gaps-short : {X : Type 0} → FoundIsDecoded X → StatesAreMost → StatesAreSome → TurnIsPaid → GapsAreShort X
gaps-short decoded most some paid f image notes from first c total is shows n i j m p there less gap =
    let time : (moment f j m).time ≤ (moment f i m).time + waited f j m = waited-before decoded most some paid f image notes from first c total i j n m p gap.later less gap.shut in
    let at : IsAt decoded most some paid f image notes from first c total j m = is-at decoded most some paid f image notes from first c total j n m is shows p there less in
    let few : waited f j m ≤ total = at.few in
    omega (arith, time, few)

-- ---- a request that waits

not-own : (d : Activity) (number : ℕ) → d ≡ Enters number → is_own d ≡ true → ⊥
not-own d number is own = let no : false ≡ true = sym (ap is_own is) ∙ own in cc no

pub waits-short : {X : Type 0} → HighestIsEntered X → GapsAreShort X → WaitsAreShort X
waits-short entered short f image notes from first c total is shows number i n m p there w =
    short f image notes from first c total is shows n i n m p there (omega arith) (record { later = w.later; shut = λ k later before. none k later before (asks (moment f k m)) refl })
  where
    none : (k : ℕ) → i < k → k < n → (asking : Bool) → asks (moment f k m) ≡ asking → asks (moment f k m) ≡ false
    none k later before false e = e
    none k later before true e = absurd (not-own (current (moment f k m)).doing number (entered number (moment f k m) e (w.requested k later before) (w.highest k later before e)) (p.pass.stretch.own k before))
