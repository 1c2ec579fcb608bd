-- Where the states of a run go: in two parts, within an activity, and while a machine idles.
use Rattle.std.proofs.Common.{◌≡◌, ℕ, zero, suc, ◌+◌, ◌-◌, ◌<◌, ◌≤◌, inl, inr, [], ◌∷◌, ◌++◌, Option, Some, None, refl, sym, ap, subst, ◌∙◌, zero-add, arith}
use Rattle.std.specs.Prelude.{replicate, if◌then◌else◌}
use Rattle.std.proofs.lemmas.Bool.{cases_lt}
use Rattle.std.proofs.lemmas.List.{replicate_more}
use Rattle.kc_extra.specs.Further.{Further}
use Rattle.kc_intc.specs.declared.requests.Choice.TheVariants.{Go}
use Rattle.kc_machine_spec.specs.declared.doing.Activity.TheVariants.{Idles}
use Rattle.kc_machine_spec.specs.declared.doing.End.{End}
use Rattle.kc_machine_spec.specs.declared.doing.UnderWay.{UnderWay}
use Rattle.kc_machine_spec.specs.Machine.{Machine, Stepped, current, current_of, chosen, asked, serves, goes_on, goes_first, fetches}
use Rattle.kc_machine_spec.specs.Passing.{passed, activity_end, IsIdle}
use Rattle.kc_machine_spec.specs.Run.{run_for, run_to}
use Rattle.kc_machine_spec.proofs.Runs.{run_for-ended, run_for-cut, waits, run-none, machine-add, machine-suc}
use Rattle.kc_machine_spec.proofs.Idle.{one_more}
use Rattle.kc_machine.specs.Stepping.{IdlesFor}
use Rattle.kc_profile.specs.declared.spot.Spot.{Spot}
use Rattle.kc_profile.specs.declared.spot.Spot.TheVariants.{Idle}
use Rattle.kc_profile.specs.Spots.{spot_of, coming_spot, unless_over, spots_for}
use Rattle.kc_profile.specs.Passing.{LastsFor}

module _ {X : Type 0} (f : Further X) where
  -- ---- spots

  pub spots-none : (m : Machine X) → spots_for f 0 m ≡ []
  unfolding spots_for
  spots-none m = refl

  spots-suc : (k : ℕ) (m : Machine X) → spots_for f (suc k) m ≡ unless_over m.ended (coming_spot m ∷ spots_for f k (run_for f 1 m).machine)
  unfolding spots_for
  spots-suc k m = refl

  -- no state goes anywhere behind the end
  pub spots-ended : (k : ℕ) (m : Machine X) (how : End) → m.ended ≡ Some how → spots_for f k m ≡ []
  spots-ended zero m how over = spots-none m
  spots-ended (suc k) m how over = spots-suc k m ∙ ap (λ o. unless_over o (coming_spot m ∷ spots_for f k (run_for f 1 m).machine)) over

  spots-lives : (k : ℕ) (m : Machine X) → m.ended ≡ None → spots_for f (suc k) m ≡ coming_spot m ∷ spots_for f k (run_for f 1 m).machine
  spots-lives k m lives = spots-suc k m ∙ ap (λ o. unless_over o (coming_spot m ∷ spots_for f k (run_for f 1 m).machine)) lives

  pub spots-one : (m : Machine X) → m.ended ≡ None → spots_for f 1 m ≡ coming_spot m ∷ []
  spots-one m lives = spots-lives 0 m lives ∙ ap (λ xs. coming_spot m ∷ xs) (spots-none (run_for f 1 m).machine)

  -- in two parts
  pub spots-add : (a b : ℕ) (m : Machine X) → spots_for f (a + b) m ≡ spots_for f a m ++ spots_for f b (run_for f a m).machine
  spots-add zero b m =
      ap (λ n. spots_for f n m) (zero-add b)
      ∙ ap (λ (s : Stepped X). spots_for f b s.machine) (sym (run-none f m))
      ∙ ap (λ xs. xs ++ spots_for f b (run_for f 0 m).machine) (sym (spots-none m))
  spots-add (suc a) b m = by_end m.ended refl (spots-add a b (run_for f 1 m).machine)
    where
      by_end : (ended : Option End) → m.ended ≡ ended → spots_for f (a + b) (run_for f 1 m).machine ≡ spots_for f a (run_for f 1 m).machine ++ spots_for f b (run_for f a (run_for f 1 m).machine).machine → spots_for f (suc a + b) m ≡ spots_for f (suc a) m ++ spots_for f b (run_for f (suc a) m).machine
      by_end (Some how) e rest =
          spots-ended (suc a + b) m how e
          ∙ sym (spots-ended b m how e)
          ∙ ap (λ (s : Stepped X). spots_for f b s.machine) (sym (run_for-ended f (suc a) m how e))
          ∙ ap (λ xs. xs ++ spots_for f b (run_for f (suc a) m).machine) (sym (spots-ended (suc a) m how e))
      by_end None e rest =
          let n : suc a + b ≡ suc (a + b) = omega arith in
          let next : Machine X = (run_for f 1 m).machine in
          ap (λ i. spots_for f i m) n
          ∙ spots-lives (a + b) m e
          ∙ ap (λ xs. coming_spot m ∷ xs) rest
          ∙ ap (λ xs. xs ++ spots_for f b (run_for f a next).machine) (sym (spots-lives a m e))
          ∙ ap (λ k. spots_for f (suc a) m ++ spots_for f b k) (sym (machine-suc f a m))

  -- ---- one activity

  -- all states of an activity that is under way go to one spot
  spots-waits : (k : ℕ) (m : Machine X) (a : UnderWay) → m.ended ≡ None → m.under_way ≡ Some a → k ≤ a.left → spots_for f k m ≡ replicate k (spot_of a.doing m.cpu.pc)
  spots-waits zero m a lives busy few = spots-none m
  spots-waits (suc k) m a lives busy few =
      let n : suc k ≡ k + 1 = omega arith in
      let there : run_for f k m ≡ passed f m a k = waits f k m a lives busy (omega arith) in
      let mid : Machine X = (passed f m a k).machine in
      let s : Spot = spot_of a.doing m.cpu.pc in
      ap (λ i. spots_for f i m) n
      ∙ spots-add k 1 m
      ∙ ap (λ xs. xs ++ spots_for f 1 (run_for f k m).machine) (spots-waits k m a lives busy (omega arith))
      ∙ ap (λ (t : Stepped X). replicate k s ++ spots_for f 1 t.machine) there
      ∙ ap (λ xs. replicate k s ++ xs) (spots-one mid lives)
      ∙ replicate_more k s
      ∙ ap (λ i. replicate i s) (sym n)

  -- and so do those of one that begins
  pub spots-activity : (n : ℕ) (m : Machine X) → m.ended ≡ None → n ≤ (current m).left → spots_for f n m ≡ replicate n (coming_spot m)
  spots-activity zero m lives few = spots-none m
  spots-activity (suc zero) m lives few = spots-one m lives
  spots-activity (suc (suc k)) m lives few =
      let next : run_for f 1 m ≡ passed f m (current m) 1 = run_for-cut f 1 m (current m) lives refl (omega arith) (omega arith) in
      let mid : Machine X = (passed f m (current m) 1).machine in
      spots-lives (suc k) m lives
      ∙ ap (λ (s : Stepped X). coming_spot m ∷ spots_for f (suc k) s.machine) next
      ∙ ap (λ xs. coming_spot m ∷ xs) (spots-waits (suc k) mid (record (current m) { left = (current m).left - 1 }) lives refl (omega arith))

  -- a machine does not end before the last state of an activity
  pub lasts-activity : (n : ℕ) (m : Machine X) → m.ended ≡ None → n < (current m).left → LastsFor f n m
  lasts-activity n m lives few zero within =
      let e : m.time ≡ m.time + 0 = omega arith in
      ap (λ (s : Stepped X). s.machine.time) (run-none f m) ∙ e
  lasts-activity n m lives few (suc k) within = ap (λ (s : Stepped X). s.machine.time) (run_for-cut f (suc k) m (current m) lives refl (omega arith) (omega arith))

  -- where an activity ends is reported in each of its states
  pub end-stays : (began : ℕ) (m : Machine X) → m.ended ≡ None → m.time ≤ began → began < activity_end m → activity_end (run_to f began m).machine ≡ activity_end m
  end-stays began m lives from before = elim (cases_lt m.time began) [
    | inl more ↦
        let n : ℕ = began - m.time in
        ap (λ (s : Stepped X). activity_end s.machine) (run_for-cut f n m (current m) lives refl (omega arith) (omega arith))
        ∙ (let e : (m.time + n) + ((current m).left - n) ≡ activity_end m = omega arith in e)
    | inr same ↦
        let e : began - m.time ≡ 0 = omega arith in
        ap (λ i. activity_end (run_for f i m).machine) e ∙ ap (λ (s : Stepped X). activity_end s.machine) (run-none f m)
  ]

  -- ---- idle states

  pub current-idle : (m : Machine X) → IsIdle m → asked m ≡ Go → current m ≡ record { doing = Idles; left = 1 }
  unfolding chosen
  current-idle m idle none =
      ap (current_of m) idle.between
      ∙ ap (λ g. if goes_first g then goes_on m g else if m.held then fetches m else serves m (asked m)) idle.idling
      ∙ ap (λ h. if h then fetches m else serves m (asked m)) idle.free
      ∙ ap (serves m) none
      ∙ ap (goes_on m) idle.idling

  coming-idle : (m : Machine X) → IsIdle m → asked m ≡ Go → coming_spot m ≡ Idle
  coming-idle m idle none = ap (λ (a : UnderWay). spot_of a.doing m.cpu.pc) (current-idle m idle none)

  pub lasts-idle : (n : ℕ) (m : Machine X) → IdlesFor f n m → LastsFor f n m
  lasts-idle n m idles zero within =
      let e : m.time ≡ m.time + 0 = omega arith in
      ap (λ (s : Stepped X). s.machine.time) (run-none f m) ∙ e
  lasts-idle n m idles (suc k) within =
      let before = lasts-idle n m idles k (omega arith) in
      let here = idles k (omega arith) in
      let mid : Machine X = (run_for f k m).machine in
      let e : suc k ≡ k + 1 = omega arith in
      let time : mid.time + 1 ≡ m.time + suc k = omega (arith, before) in
      ap (λ i. (run_for f i m).machine.time) e
      ∙ ap (λ (x : Machine X). x.time) (machine-add f k 1 m)
      ∙ ap (λ (s : Stepped X). s.machine.time) (one_more f mid here.0 here.1)
      ∙ time

  pub idle-first : (n : ℕ) (m : Machine X) → IdlesFor f n m → 0 < n → IsIdle m × (asked m ≡ Go)
  idle-first n m idles some = subst (λ (x : Machine X). IsIdle x × (asked x ≡ Go)) (ap (λ (s : Stepped X). s.machine) (run-none f m)) (idles 0 some)

  pub lives-idle : (n : ℕ) (m : Machine X) → IdlesFor f n m → 0 < n → m.ended ≡ None
  lives-idle n m idles some = (idle-first n m idles some).0.lives

  -- the states in which a machine idles go to no activity
  spots-idle-each : (n k : ℕ) (m : Machine X) → IdlesFor f n m → k ≤ n → spots_for f k m ≡ replicate k Idle
  spots-idle-each n zero m idles within = spots-none m
  spots-idle-each n (suc k) m idles within =
      let here = idles k (omega arith) in
      let mid : Machine X = (run_for f k m).machine in
      let e : suc k ≡ k + 1 = omega arith in
      ap (λ i. spots_for f i m) e
      ∙ spots-add k 1 m
      ∙ ap (λ xs. xs ++ spots_for f 1 mid) (spots-idle-each n k m idles (omega arith))
      ∙ ap (λ xs. replicate k Idle ++ xs) (spots-one mid here.0.lives ∙ ap (λ s. s ∷ []) (coming-idle mid here.0 here.1))
      ∙ replicate_more k Idle
      ∙ ap (λ i. replicate i Idle) (sym e)

  pub spots-idle : (n k : ℕ) (m : Machine X) → IdlesFor f n m → 0 < k → k ≤ n → spots_for f k m ≡ replicate k (coming_spot m)
  spots-idle n k m idles some within =
      let first = idle-first n m idles (omega arith) in
      spots-idle-each n k m idles within ∙ ap (λ s. replicate k s) (sym (coming-idle m first.0 first.1))

  -- an idle state is over behind it
  pub end-idle : (began end : ℕ) (m : Machine X) → IdlesFor f (end - m.time) m → m.time ≤ began → began < end → activity_end (run_to f began m).machine ≡ began + 1
  end-idle began end m idles from before =
      let k : ℕ = began - m.time in
      let here = idles k (omega arith) in
      let mid : Machine X = (run_for f k m).machine in
      let time = lasts-idle (end - m.time) m idles k (omega arith) in
      ap (λ (a : UnderWay). mid.time + a.left) (current-idle mid here.0 here.1)
      ∙ (let e : mid.time + 1 ≡ began + 1 = omega (arith, time) in e)
