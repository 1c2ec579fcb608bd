-- A pass keeps to the bound that a certificate shows, by its activities one after the other.
use Rattle.std.proofs.Common.{◌≡◌, ℕ, zero, suc, Bool, true, false, not, ◌+◌, ◌*◌, ◌<◌, ◌≤◌, ◌==◌, ◌&&◌, ◌||◌, Option, Some, None, List, [], ◌∷◌, length, refl, sym, ◌∙◌, ap, subst, arith}
use Rattle.std.proofs.lemmas.Grind.{common_steps}
use Rattle.std.specs.Prelude.{Contains}
use Rattle.kc_isa.specs.declared.insn.Insn.{Insn}
use Rattle.kc_exec_spec.specs.declared.cpu.Words.{Words}
use Rattle.kc_extra.specs.Further.{Further}
use Rattle.kc_machine_spec.specs.declared.doing.Going.{Going}
use Rattle.kc_machine_spec.specs.declared.doing.Going.TheVariants.{Moving}
use Rattle.kc_machine_spec.specs.Machine.{Machine, Stepped, current}
use Rattle.kc_machine_spec.specs.Run.{run_for}
use Rattle.kc_machine_spec.proofs.Runs.{run-none}
use Rattle.kc_bound.specs.declared.notes.Loop.{Loop}
use Rattle.kc_bound.specs.declared.notes.Notes.{Notes}
use Rattle.kc_bound.specs.declared.certificate.Standing.{Standing}
use Rattle.kc_bound.specs.declared.certificate.Certificate.{Certificate}
use Rattle.kc_bound.specs.declared.certificate.Bound.{Bound}
use Rattle.kc_bound.specs.Notes.{is_end, turns_at, turns_at_first}
use Rattle.kc_bound.specs.Passes.{is_own, begun, is_last, is_at_end, opened, after_activity, moment, calls_at, is_over, IsPass}
use Rattle.kc_bound.specs.Premises.{turns_after, turns_left, ReturnsProperly, KeepsNotes}
use Rattle.kc_bound.specs.Certified.{standing_at, priced, begins_at, prepaid, Certified, Shows}
use Rattle.kc_bound.specs.Bounded.{IsImage, HoldsImage, IsPassFrom, Bounded, CertifiedIsBounded}
use Rattle.kc_bound.proofs.Prices.{OfEach, of_each, priced-more, turn}
use Rattle.kc_bound.proofs.Activities.{own-passes}
use Rattle.kc_bound.proofs.Ahead.{potential_of, potential_at, ready-most, Ready}
use Rattle.kc_bound.proofs.Keeps.{IsAsked, Account, IsOnWay, Keeps}
use Rattle.kc_bound.proofs.Steps.{Counted, Assumed, activity-keeps}

asked-first : (b : Bool) (a : ℕ) → (b && not (a == a)) ≡ false
asked-first false a = refl
asked-first true a = let e : (a == a) ≡ true = grind (arith, common_steps) in rw e refl

none-more : (n : ℕ) → 0 + n ≤ n
none-more n = omega arith

plus-none : (n : ℕ) → n ≡ n + 0
plus-none n = omega arith

first-paid : (p q r : ℕ) → p ≡ q → 0 + p + 0 + r ≤ (q + r) + 0
first-paid p q r e = omega (arith, e)

no-time : (a b k : ℕ) → a ≡ b → k ≡ 0 → a ≡ b + k
no-time a b k e none = omega (arith, e, none)

sum-time : (a b c d e : ℕ) → a ≡ b + c → b ≡ d + e → a ≡ d + (e + c)
sum-time a b c d e x y = omega (arith, x, y)

some-of : (n k : ℕ) → n ≡ suc k → 0 < n
some-of n k e = omega (arith, e)

module _ {X : Type 0} (f : Further X) (image : List ℕ) (notes : Notes) (from : ℕ) (c : Certificate) (first : Standing) where
  -- all states of an own activity have gone by
  after-time : (m : Machine X) → m.ended ≡ None → is_own (current m).doing ≡ true → (after_activity f m).time ≡ m.time + (current m).left
  after-time m lives own = by (current m).left refl
    where
      by : (k : ℕ) → (current m).left ≡ k → (after_activity f m).time ≡ m.time + (current m).left
      by zero e =
          let none : (after_activity f m).time ≡ m.time = ap (λ k. (run_for f k m).machine.time) e ∙ ap (λ (s : Stepped X). s.machine.time) (run-none f m) in
          no-time (after_activity f m).time m.time (current m).left none e
      by (suc k) e = (own-passes f m lives (some-of (current m).left k e) own).time

  abbrev total : ℕ
  total = first.potential + prepaid notes c

  -- what the loops have left after so many activities
  abbrev turns_of : ℕ → Machine X → ℕ
  turns_of k m = priced (λ l. turns_left f l k m) notes.loops.items c.prices.items

  counted-by : (k : ℕ) (m : Machine X) (o : Option ℕ) → begun (moment f k m) ≡ o → ((l : Loop) → Contains notes.loops.items l → begun (moment f k m) ≡ Some l.head → 0 < turns_left f l k m) → Counted notes c o (turns_of k m) (turns_of (suc k) m)
  unfolding turns_left
  counted-by k m None e still = ap (λ (o : Option ℕ). priced (λ l. turns_after l o (turns_left f l k m)) notes.loops.items c.prices.items) e
  counted-by k m (Some a) e still =
      priced-more (λ l. turns_left f l (suc k) m) (λ l. turns_left f l k m) (begins_at a) (turns_at a) notes.loops.items c.prices.items
      (of_each (λ l. turns_left f l (suc k) m + begins_at a l ≤ turns_left f l k m + turns_at a l) notes.loops.items
      (λ l there. subst (λ (o : Option ℕ). turns_after l o (turns_left f l k m) + begins_at a l ≤ turns_left f l k m + turns_at a l) (sym e)
      (turn l a (turns_left f l k m) (λ same. still l there (e ∙ ap (λ x. Some x) (sym same))))))

  -- after so many activities so many states have gone by
  record IsAt (k : ℕ) (m : Machine X) : Type 0 where
    pub spent : ℕ
    pub time : (moment f k m).time ≡ m.time + spent
    pub keeps : Keeps image notes from c first.rank total (is_over f notes k m) (moment f k m) (calls_at f k m) spent (turns_of k m)

  starts : (m : Machine X) → Certified image notes from c first → HoldsImage image m → m.cpu.pc ≡ from → m.under_way ≡ None → m.going ≡ None → IsOnWay image notes from c first.rank total m [] 0 (prepaid notes c)
  starts m certified holds pc between going = record {
    is = record { between = between; holds = holds };
    free = λ held. going;
    account = subst (λ (g : Option Going). Account image notes from c first.rank total g m.cpu.pc [] 0 (prepaid notes c)) (sym going)
        (subst (λ a. IsAsked notes from a × Ready notes c first.rank total a [] 0 (prepaid notes c)) (sym pc) (
          asked-first (is_end notes from) from,
          record {
            here = record { standing = first; is_there = certified.begins; few = none-more first.rank; leaves = λ yes. none-more 0 };
            open_calls = tt;
            paid = first-paid (potential_at c from) first.potential (prepaid notes c) (ap potential_of certified.begins);
          },
        ));
  }

  at-first : (m : Machine X) → Certified image notes from c first → HoldsImage image m → m.cpu.pc ≡ from → m.under_way ≡ None → m.going ≡ None → IsAt 0 m
  unfolding moment calls_at is_over turns_left
  at-first m certified holds pc between going = record {
    spent = 0;
    time = plus-none m.time;
    keeps = record { at_end = λ yes. absurd (cc yes); always = omega arith; goes = λ no lives. starts m certified holds pc between going };
  }

  at-next : (k : ℕ) (m : Machine X) → IsImage image → Certified image notes from c first → (at : IsAt k m) → is_over f notes k m ≡ false → (moment f k m).ended ≡ None → is_own (current (moment f k m)).doing ≡ true
      → ((l : Loop) → Contains notes.loops.items l → begun (moment f k m) ≡ Some l.head → 0 < turns_left f l k m)
      → Assumed notes (current (moment f k m)).doing (moment f k m).cpu.pc (calls_at f k m) (after_activity f (moment f k m)) → IsAt (suc k) m
  unfolding moment calls_at is_over
  at-next k m is certified at goes_on lives own still assumed = record {
    spent = at.spent + (current (moment f k m)).left;
    time = (let one : (after_activity f (moment f k m)).time ≡ (moment f k m).time + (current (moment f k m)).left = after-time (moment f k m) lives own in
        let so_far : (moment f k m).time ≡ m.time + at.spent = at.time in
        sum-time (after_activity f (moment f k m)).time (moment f k m).time (current (moment f k m)).left m.time at.spent one so_far);
    keeps = activity-keeps f image notes from c first.rank total (moment f k m) (calls_at f k m) at.spent (turns_of k m) (turns_of (suc k) m) is (at.keeps.goes goes_on lives) lives own certified.sound
        (counted-by k m (begun (moment f k m)) refl still) assumed;
  }

  -- at each moment of a pass
  is-at : (k n : ℕ) (m : Machine X) → IsImage image → Certified image notes from c first → IsPassFrom f image notes from n m → k ≤ n → IsAt k m
  unfolding moment
  is-at zero n m is certified p less = at-first m certified p.rom p.begins p.pass.stretch.between p.pass.stretch.begins
  is-at (suc k) n m is certified p less =
      let in_time : k < n = omega (arith, less) in
      at-next k m is certified (is-at k n m is certified p (omega (arith, less))) (p.pass.goes_on k in_time) (p.pass.stretch.lives k in_time) (p.pass.stretch.own k in_time)
      (λ l there begins. p.keeps.loops k l in_time there begins)
      (record {
        returns = λ yes back more calls lives. p.returns k back more in_time yes calls lives;
        goes = λ yes targets noted lives. p.keeps.goes k targets in_time yes noted lives;
        words = λ i w most going noted. p.keeps.words (suc k) i w most less going noted;
      })

-- what a certificate shows is so
pub certified-bounded : {X : Type 0} → CertifiedIsBounded X
certified-bounded f image notes from c b is shows = record {
  over = λ n m p over.
      let at = is-at f image notes from c shows.first n n m is shows.certified p (omega arith) in
      let paid : at.spent + c.floor ≤ shows.first.potential + prepaid notes c = at.keeps.at_end over in
      let time : (moment f n m).time ≡ m.time + at.spent = at.time in
      let shown : b.over + c.floor ≡ shows.first.potential + prepaid notes c = shows.over in
      omega (arith, paid, time, shown);
  always = λ n m p.
      let at = is-at f image notes from c shows.first n n m is shows.certified p (omega arith) in
      let most : at.spent ≤ shows.first.potential + prepaid notes c + c.floor * shows.first.rank = at.keeps.always in
      let time : (moment f n m).time ≡ m.time + at.spent = at.time in
      let shown : b.always ≡ shows.first.potential + prepaid notes c + c.floor * shows.first.rank = shows.always in
      omega (arith, most, time, shown);
}
