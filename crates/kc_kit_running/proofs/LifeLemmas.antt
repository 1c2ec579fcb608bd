-- A life that is run in spans while its states are counted.
use Rattle.std.proofs.Common.{◌≡◌, ◌⊎◌, ℕ, zero, suc, ◌+◌, ◌-◌, ◌*◌, ◌<◌, ◌≤◌, true, false, List, [], ◌++◌, length, Some, None, refl, sym, ◌∙◌, ap, subst, length-append, arith}
use Rattle.kc_trace.specs.Out.{Out, Puts}
use Rattle.kc_trace.specs.Text.{text_of}
use Rattle.kc_machine_spec.specs.declared.doing.End.{End}
use Rattle.kc_machine_spec.specs.declared.doing.End.TheVariants as end
use Rattle.kc_machine_spec.specs.Machine.{Machine}
use Rattle.kc_machine_spec.specs.Run.{run_for, run_to, end_of}
use Rattle.kc_machine_spec.specs.Text.{HasRun}
use Rattle.kc_profile.specs.declared.sight.Sight.{Sight}
use Rattle.kc_profile.specs.declared.spot.Spot.{Spot}
use Rattle.kc_profile.specs.Passing.{CountsOn}
use Rattle.kc_profile.specs.Sights.{history, Begins}
use Rattle.kc_profile.specs.Spots.{spots_for}
use Rattle.kc_profile.specs.Statistics.{Statistics, AreAllFew, AreStatisticsOf}
use Rattle.kc_profile.specs.Tally.{Tally, IsTallyOf}
use Rattle.kc_profile.proofs.Spotted.{spots-add, spots-none}
use Rattle.kc_cycles.specs.Life.{is_at}
use Rattle.kc_cycles.specs.Making.{deadline_of}
use Rattle.kc_cycles.proofs.Fitted.{pair-feeds}
use Rattle.kc_cycles.proofs.Going.{Along, Feeds, IsAhead, IsLeft, Spanned, ahead-none, along-first, along-next, along-lines, cut-lines, ends-bitten, ends-lines, ends-over, left-at, left-first, ran-over, spanned-ahead, spanned-time}
use Rattle.kc_kit_running.specs.Counting.{IsCount}
use Rattle.kc_kit_running.specs.Fitted.{fitted_further}
use Rattle.kc_kit_running.specs.Passing.{HasBroken, HasLived}
use Rattle.kc_kit_running.specs.Watched.{WatchedUnit, watched_further}

-- feedings alone move the deadline
pub watched-feeds : Feeds deadline_of watched_further
watched-feeds = pair-feeds watched_further fitted_further.readable fitted_further.writable (λ t l e d. refl) (λ t d. refl) (λ w s t d. refl) (λ w s v t d. refl)

-- what is counted of the first states of a machine
pub record IsCounted (life now : ℕ) (m : Machine WatchedUnit) (tally : Tally) (statistics : Statistics) : Type 0 where
  pub count : IsCount life (spots_for watched_further now m) (history watched_further now m) tally statistics
  pub all : length (spots_for watched_further now m) ≡ now

-- a life on its way
pub record OnWay (until life : ℕ) (m0 : Machine WatchedUnit) (o0 : Out) (s0 : ℕ) (m : Machine WatchedUnit) (o : Out) (s : ℕ) (tally : Tally) (statistics : Statistics) : Type 0 where
  pub along : Along watched_further m0 o0 s0 m.time m o s
  pub lives : m.ended ≡ None
  pub within : m.time ≤ until
  pub ahead : IsAhead (deadline_of m.board.units.further) m.time
  pub left : IsLeft watched_further deadline_of until m0 m.time m.time
  pub unbroken : o.failed ≡ false
  pub counted : IsCounted life m.time m0 tally statistics

none-shown : (m : Machine WatchedUnit) → history watched_further 0 m ≡ []
unfolding history
none-shown m = refl

none-counted : (life : ℕ) (m : Machine WatchedUnit) (tally : Tally) (statistics : Statistics) → m.time ≡ 0 → IsCount life [] [] tally statistics → IsCounted life m.time m tally statistics
none-counted life m tally statistics start none =
    let spots : spots_for watched_further m.time m ≡ [] = ap (λ t. spots_for watched_further t m) start ∙ spots-none watched_further m in
    let sights : history watched_further m.time m ≡ [] = ap (λ t. history watched_further t m) start ∙ none-shown m in
    record {
      count = subst (λ (ss : List Spot). IsCount life ss (history watched_further m.time m) tally statistics) (sym spots) (subst (λ (hs : List Sight). IsCount life [] hs tally statistics) (sym sights) none);
      all = ap length spots ∙ sym start;
    }

pub way-begins : (until life : ℕ) (m : Machine WatchedUnit) (o : Out) (s : ℕ) (tally : Tally) (statistics : Statistics) → Begins m → m.ended ≡ None → deadline_of m.board.units.further ≡ None → o.failed ≡ false → IsCount life [] [] tally statistics →
    OnWay until life m o s m o s tally statistics
way-begins until life m o s tally statistics begins lives unfed unbroken none = record {
  along = subst (λ t. Along watched_further m o s t m o s) (sym begins.time) (along-first watched_further m o s);
  lives = lives;
  within = omega (arith, begins.time);
  ahead = ahead-none deadline_of m.board.units.further m.time unfed;
  left = subst (λ t. IsLeft watched_further deadline_of until m t m.time) (sym begins.time) (left-first watched_further deadline_of until m begins.time);
  unbroken = unbroken;
  counted = none-counted life m tally statistics begins.time none;
}

-- some states of it have passed and are counted
pub record HasGone (number : ℕ) (m0 m : Machine WatchedUnit) (t : Tally) (s : Statistics) (n : Machine WatchedUnit) (later : Tally) (more : Statistics) : Type 0 where
  pub forward : m.time ≤ n.time
  pub tally : (before : List Spot) → IsTallyOf before t → IsTallyOf (before ++ spots_for watched_further (n.time - m.time) m) later
  pub passed : length (spots_for watched_further (n.time - m.time) m) ≡ n.time - m.time
  pub life : more.life ≡ s.life
  pub statistics : AreStatisticsOf number (history watched_further n.time m0) more
  pub few : (k : ℕ) → AreAllFew k s → AreAllFew (k + (n.time - m.time)) more

pub more-counted : (life : ℕ) (m0 m : Machine WatchedUnit) (tally : Tally) (statistics : Statistics) (n : Machine WatchedUnit) (later : Tally) (more : Statistics) → m ≡ (run_for watched_further m.time m0).machine → IsCounted life m.time m0 tally statistics →
    HasGone life m0 m tally statistics n later more → IsCounted life n.time m0 later more
more-counted life m0 m tally statistics n later more is counted gone =
    let sum : n.time ≡ m.time + (n.time - m.time) = omega (arith, gone.forward) in
    let spots : spots_for watched_further m.time m0 ++ spots_for watched_further (n.time - m.time) m ≡ spots_for watched_further n.time m0 =
    ap (λ (k : Machine WatchedUnit). spots_for watched_further m.time m0 ++ spots_for watched_further (n.time - m.time) k) is ∙ sym (spots-add watched_further m.time (n.time - m.time) m0) ∙ ap (λ t. spots_for watched_further t m0) (sym sum) in
    let all : length (spots_for watched_further n.time m0) ≡ n.time =
    ap length (sym spots) ∙ length-append (spots_for watched_further m.time m0) (spots_for watched_further (n.time - m.time) m) ∙ (let e : length (spots_for watched_further m.time m0) + length (spots_for watched_further (n.time - m.time) m) ≡ n.time = omega (arith, counted.all, gone.passed, gone.forward) in e) in
    record {
      count = record {
        tally = subst (λ (ss : List Spot). IsTallyOf ss later) spots (gone.tally (spots_for watched_further m.time m0) counted.count.tally);
        life = gone.life ∙ counted.count.life;
        statistics = gone.statistics;
        few = subst (λ k. AreAllFew k more) (let e : length (spots_for watched_further m.time m0) + (n.time - m.time) ≡ length (spots_for watched_further n.time m0) = omega (arith, counted.all, all, gone.forward) in e) (gone.few (length (spots_for watched_further m.time m0)) counted.count.few);
      };
      all = all;
    }

-- a span of it, at whose end it goes on
module _
    (until life : ℕ) (m0 : Machine WatchedUnit) (o0 : Out) (s0 : ℕ) (m : Machine WatchedUnit) (o : Out) (s : ℕ) (tally : Tally) (statistics : Statistics) (way : OnWay until life m0 o0 s0 m o s tally statistics)
    (stop : ℕ) (span : Spanned watched_further deadline_of watched-feeds until m0 m.time m stop) (n : Machine WatchedUnit) (p : Out) (t : ℕ) (later : Tally) (more : Statistics) where
  pub way-next : n ≡ (run_for watched_further (stop - m.time) m).machine → Puts o (text_of (run_for watched_further (stop - m.time) m).records) p → n.time ≤ stop → t ≤ s + 4 * (run_for watched_further (n.time - m.time) m).touch → p.failed ≡ false →
      HasGone life m0 m tally statistics n later more → n.ended ≡ None → is_at (deadline_of n.board.units.further) stop ≡ false → OnWay until life m0 o0 s0 n p t later more
  way-next is lines within spent unbroken gone lives none =
      let time : n.time ≡ stop = spanned-time watched_further deadline_of watched-feeds until m0 m.time m stop n span is lives in
      let on = along-next watched_further m0 o0 s0 m.time (stop - m.time) (n.time - m.time) m o s n p t way.along is lines (omega (arith, within, span.forward)) spent in
      let sum : m.time + (stop - m.time) ≡ n.time = omega (arith, span.forward, time) in
      record {
        along = subst (λ k. Along watched_further m0 o0 s0 k n p t) sum on;
        lives = lives;
        within = omega (arith, time, span.fits);
        ahead = spanned-ahead watched_further deadline_of watched-feeds until m0 m.time m stop n span way.ahead is time none;
        left = subst (λ k. IsLeft watched_further deadline_of until m0 k n.time) sum (left-at watched_further deadline_of until m0 (m.time + (stop - m.time)) stop n.time (sym time) span.left);
        unbroken = unbroken;
        counted = more-counted life m0 m tally statistics n later more way.along.machine way.counted gone;
      }

  -- the machine has ended, or the states are spent
  pub way-over : (how : End) → n ≡ (run_for watched_further (stop - m.time) m).machine → Puts o (text_of (run_for watched_further (stop - m.time) m).records) p → n.time ≤ stop → t ≤ s + 4 * (run_for watched_further (n.time - m.time) m).touch → p.failed ≡ false →
      m0.ended ≡ None → how ≡ end_of n → ((how : End) × (n.ended ≡ Some how)) ⊎ (until ≤ stop) → HasLived until m0 o0 how false n p
  way-over how is lines within spent unbroken first e over =
      let on = along-next watched_further m0 o0 s0 m.time (stop - m.time) (n.time - m.time) m o s n p t way.along is lines (omega (arith, within, span.forward)) spent in
      let ends = ends-over watched_further deadline_of until m0 (m.time + (stop - m.time)) stop n span.left on.machine over in
      record {
        how = e ∙ ends.how;
        by_watchdog = ends.by_watchdog;
        machine = ends.machine;
        lines = ends-lines watched_further deadline_of until m0 (m.time + (stop - m.time)) n (end_of n) false o0 p ends on.lines;
        ran = subst (λ (w : End). HasRun w n.time) (sym e) (ran-over watched_further deadline_of until m0 (m.time + (stop - m.time)) n on.machine first);
        within = omega (arith, within, span.fits);
        written = unbroken;
      }

  -- its deadline has come
  pub way-bitten : n ≡ (run_for watched_further (stop - m.time) m).machine → Puts o (text_of (run_for watched_further (stop - m.time) m).records) p → n.time ≤ stop → t ≤ s + 4 * (run_for watched_further (n.time - m.time) m).touch → p.failed ≡ false →
      n.ended ≡ None → stop < until → 0 < stop → is_at (deadline_of n.board.units.further) stop ≡ true → HasLived until m0 o0 end.Reset true n p
  way-bitten is lines within spent unbroken lives short some due =
      let time : n.time ≡ stop = spanned-time watched_further deadline_of watched-feeds until m0 m.time m stop n span is lives in
      let on = along-next watched_further m0 o0 s0 m.time (stop - m.time) (n.time - m.time) m o s n p t way.along is lines (omega (arith, within, span.forward)) spent in
      let at : is_at (deadline_of n.board.units.further) n.time ≡ true = ap (λ k. is_at (deadline_of n.board.units.further) k) time ∙ due in
      let ends = ends-bitten watched_further deadline_of until m0 (m.time + (stop - m.time)) stop n span.left on.machine short lives at in
      record {
        how = ends.how;
        by_watchdog = ends.by_watchdog;
        machine = ends.machine;
        lines = ends-lines watched_further deadline_of until m0 (m.time + (stop - m.time)) n end.Reset true o0 p ends on.lines;
        ran = omega (arith, time, some);
        within = omega (arith, within, span.fits);
        written = unbroken;
      }

  -- the sink has failed in the span
  pub way-broken : Puts o (text_of (run_for watched_further (stop - m.time) m).records) p → p.failed ≡ true → HasBroken until m0 o0 p
  way-broken lines failed =
      let put = along-lines watched_further m0 o0 s0 m.time (stop - m.time) m o s p way.along lines in
      record { lines = cut-lines watched_further deadline_of until m0 (m.time + (stop - m.time)) stop o0 p span.left failed put; failed = failed }

-- ---- what is known of a span that was run

run-none : (m : Machine WatchedUnit) → (run_for watched_further 0 m).machine ≡ m
unfolding run_for
run-none m = refl

pub gone-forward : (m n : Machine WatchedUnit) (stop : ℕ) → m.time ≤ stop → (m.time < stop → m.time < n.time) → n ≡ (run_for watched_further (stop - m.time) m).machine → m.time ≤ n.time
gone-forward m n stop le goes is = by (stop - m.time) refl
  where
    by : (k : ℕ) → stop - m.time ≡ k → m.time ≤ n.time
    by zero e =
        let same : n ≡ m = is ∙ ap (λ k. (run_for watched_further k m).machine) e ∙ run-none m in
        let time : n.time ≡ m.time = ap (λ (k : Machine WatchedUnit). k.time) same in
        omega (arith, time)
    by (suc k) e = let up = goes (omega (arith, e)) in omega (arith, up)

pub gone-of : (life : ℕ) (m0 m : Machine WatchedUnit) (tally : Tally) (statistics : Statistics) (n : Machine WatchedUnit) (later : Tally) (more : Statistics) → Begins m0 → m ≡ (run_for watched_further m.time m0).machine → IsCounted life m.time m0 tally statistics → m.time ≤ n.time →
    ((before : List Spot) → IsTallyOf before tally → IsTallyOf (before ++ spots_for watched_further (n.time - m.time) m) later) → length (spots_for watched_further (n.time - m.time) m) ≡ n.time - m.time → more.life ≡ statistics.life →
    CountsOn watched_further statistics.life m statistics n more → ((k : ℕ) → AreAllFew k statistics → AreAllFew (k + (n.time - m.time)) more) → HasGone life m0 m tally statistics n later more
gone-of life m0 m tally statistics n later more begins is counted forward tallied passed same counts few =
    let from : m.time ≡ m.time - m0.time = omega (arith, begins.time) in
    let there : m ≡ (run_to watched_further m.time m0).machine = is ∙ ap (λ k. (run_for watched_further k m0).machine) from in
    let own : AreStatisticsOf statistics.life (history watched_further m.time m0) statistics = subst (λ (l : ℕ). AreStatisticsOf l (history watched_further m.time m0) statistics) (sym counted.count.life) counted.count.statistics in
    record {
      forward = forward;
      tally = tallied;
      passed = passed;
      life = same;
      statistics = subst (λ (l : ℕ). AreStatisticsOf l (history watched_further n.time m0) more) counted.count.life (counts m0 begins there own);
      few = few;
    }
