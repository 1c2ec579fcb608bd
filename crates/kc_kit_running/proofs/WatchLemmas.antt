-- Lives of a board that are run one after the other and counted.
use Rattle.std.proofs.Common.{◌≡◌, ℕ, zero, suc, ◌+◌, ◌-◌, ◌<◌, ◌≤◌, ◌^◌, Bool, true, false, ◌&&◌, List, [], ◌∷◌, ◌++◌, length, length-append, append_assoc, Option, Some, None, Ok, Err, refl, sym, ◌∙◌, ap, subst, arith}
use Rattle.std.specs.Prelude.{flat_map, nat_lt}
use Rattle.std.specs.List.{Any}
use Rattle.std.proofs.lemmas.List.{get_or-append-add}
use Rattle.std.proofs.lemmas.List.FromFn.{length-map-range_with_len, get_or-map-range_with_len}
use Rattle.kc_base.specs.Limits.{max_states}
use Rattle.kc_stim.specs.Drives.{driven_from}
use Rattle.kc_extra.specs.Further.{Further}
use Rattle.kc_extra.proofs.Pairs.{same_pair}
use Rattle.kc_trace.specs.Out.{Out, Puts}
use Rattle.kc_trace.specs.Text.{text_of}
use Rattle.kc_machine_spec.specs.declared.doing.End.{End}
use Rattle.kc_machine_spec.specs.Machine.{Machine, start}
use Rattle.kc_machine_spec.specs.Run.{run_for}
use Rattle.kc_machine_spec.specs.Text.{finals}
use Rattle.kc_cycles.specs.declared.lives.LivesFault.TheVariants as fault
use Rattle.kc_cycles.specs.Life.{Life}
use Rattle.kc_cycles.specs.Lives.{is_reset, life_from, lives_from, restart_line, text_before, AreReported}
use Rattle.kc_cycles.specs.Making.{IsWatched, deadline_of}
use Rattle.kc_cycles.proofs.Following.{Reported, reported-first, reported-next, reported-wanting, reported-cut, reported-cut_line, reported-last, reported-cut_last, lives-some, lives-followed, lives-last}
use Rattle.kc_profile.specs.declared.spot.Spot.{Spot}
use Rattle.kc_profile.specs.Sights.{history, Begins}
use Rattle.kc_profile.specs.Spots.{spots_for, unless_over, coming_spot}
use Rattle.kc_profile.specs.Statistics.{Statistics, AreAllFew}
use Rattle.kc_profile.specs.Tally.{Tally, total}
use Rattle.kc_profile.proofs.Few.{few-more}
use Rattle.kc_kit_inputs.specs.declared.driving.Driving.{Driving}
use Rattle.kc_kit_running.specs.Counting.{IsCount, IsSum}
use Rattle.kc_kit_running.specs.Fitted.{fitted_for}
use Rattle.kc_kit_running.specs.Lives.{board_lives}
use Rattle.kc_kit_running.specs.Passing.{HasBroken, HasFailed, HasLived, HasPassed, life_of}
use Rattle.kc_kit_running.specs.Profiled.{Counted, Known, Run, Texts, counted_for, counted_from, lives_cover, lives_profile, lives_texts, over_lives, pauses_of}
use Rattle.kc_kit_running.specs.Watched.{WatchedUnit, watched_further, watched_for}
use Rattle.kc_kit_running.proofs.RunLemmas.{any-left, last-pause}
use Rattle.kc_kit_running.proofs.SumLemmas.{spots-more}

-- ---- the machine of a life

abbrev pub machine_at : Driving → List ℕ → ℕ → Machine WatchedUnit
machine_at driving image from = start image (driven_from from driving.stimuli) (watched_for driving.values driving.stimuli from)

pub born-is : (driving : Driving) (image : List ℕ) (from : ℕ) (m : Machine WatchedUnit) → IsWatched (fitted_for driving.values driving.stimuli from) m.board.units.further → m ≡ start image (driven_from from driving.stimuli) m.board.units.further →
    m ≡ machine_at driving image from
born-is driving image from m is e =
    e ∙ ap (start image (driven_from from driving.stimuli)) (same_pair m.board.units.further (watched_for driving.values driving.stimuli from) is.first is.second is.moves)

pub born-begins : (driving : Driving) (image : List ℕ) (from : ℕ) (m : Machine WatchedUnit) → m ≡ machine_at driving image from → Begins m
born-begins driving image from m e = subst Begins (sym e) (record { time = refl; pending = refl; handed = refl })

pub born-lives : (driving : Driving) (image : List ℕ) (from : ℕ) (m : Machine WatchedUnit) → m ≡ machine_at driving image from → m.ended ≡ None
born-lives driving image from m e = ap (λ (m : Machine WatchedUnit). m.ended) e

pub born-unfed : (driving : Driving) (image : List ℕ) (from : ℕ) (m : Machine WatchedUnit) → m ≡ machine_at driving image from → deadline_of m.board.units.further ≡ None
born-unfed driving image from m e = ap (λ (m : Machine WatchedUnit). deadline_of m.board.units.further) e

-- it has no more spots than states
unless-few : (o : Option End) (n : ℕ) (s : Spot) (spots : List Spot) → length spots ≤ n → length (unless_over o (s ∷ spots)) ≤ suc n
unless-few (Some how) n s spots h = omega arith
unless-few None n s spots h = omega (arith, h)

pub spots-few : {X : Type 0} (f : Further X) (n : ℕ) (m : Machine X) → length (spots_for f n m) ≤ n
unfolding spots_for
spots-few f zero m = omega arith
spots-few f (suc n) m = unless-few m.ended n (coming_spot m) (spots_for f n (run_for f 1 m).machine) (spots-few f n (run_for f 1 m).machine)

-- ---- lives that were counted

-- what each life of a board counts
counted-none : (driving : Driving) (image : List ℕ) (from : ℕ) → counted_from driving image from [] ≡ []
unfolding counted_from
counted-none driving image from = refl

counted-more : (driving : Driving) (image : List ℕ) (from : ℕ) (life : Life WatchedUnit) (more : List (Life WatchedUnit)) →
    counted_from driving image from (life ∷ more) ≡ counted_for watched_further life.ran.machine.time (machine_at driving image from) ∷ counted_from driving image (from + life.ran.machine.time) more
unfolding counted_from
counted-more driving image from life more = refl

no-profile : (k : Known) → [] ≡ lives_profile k 1 []
unfolding lives_profile
no-profile k = refl

no-cover : (k : Known) → [] ≡ lives_cover k 1 []
unfolding lives_cover
no-cover k = refl

-- behind other pauses, in the text
pause-of : (run : Run) (o p : Out) → Any (λ text. Puts o text p) run.pauses → Any (λ text. Puts o text p) (pauses_of run)
pause-of run o p h =
    let all = any-left (λ text. Puts o text p) run.pauses (run.text ∷ []) h in
    (1 + all.0, all.1, omega (arith, all.2), get_or-append-add ([] ∷ []) (run.pauses ++ run.text ∷ []) all.0 all.1 ∙ all.3, all.4)

module _ (states most : ℕ) (k : Known) (driving : Driving) (image : List ℕ) (o0 : Out) where
  abbrev pub all_lives : List (Life WatchedUnit)
  all_lives = board_lives most states driving image

  abbrev pub run : Run
  run = over_lives all_lives k driving image

  -- the lives from a state on
  abbrev pub left_lives : ℕ → ℕ → List (Life WatchedUnit)
  left_lives left from = lives_from watched_further deadline_of image driving.stimuli (watched_for driving.values driving.stimuli) states left from

  -- memory runs out for one of them
  paused : (p : Out) → AreReported all_lives o0 (Err fault.NoMemory) p → HasFailed run o0 fault.NoMemory p
  paused p h =
      let prefix : ℕ → List ℕ = λ n. text_before n all_lives in
      let there = get_or-map-range_with_len prefix 0 (length all_lives) h.0 h.0 (prefix h.0) h.1 (omega arith) in
      (pause-of run o0 p (h.0, prefix h.0, omega (arith, h.1, length-map-range_with_len prefix 0 (length all_lives)), there, h.2), h.3)

  -- some lives are reported and counted, and there are others
  pub record Watching (left from life : ℕ) (o : Out) (profile cover : List ℕ) (t : Tally) (s : Statistics) : Type 0 where
    pub lives : List Counted
    pub reported : Reported all_lives o0 0 (left_lives left from) o 0
    pub counted : counted_from driving image 0 all_lives ≡ lives ++ counted_from driving image from (left_lives left from)
    pub number : life ≡ 1 + length lives
    pub profiles : profile ≡ lives_profile k 1 lives
    pub covers : cover ≡ lives_cover k 1 lives
    pub sum : IsSum lives t s
    pub passed : length (flat_map (λ (c : Counted). c.spots) lives) ≤ from
    pub some : 1 ≤ left
    pub within : from ≤ states
    pub all : life + left ≡ most + 1
    pub unbroken : o.failed ≡ false

  pub watching-first : (profile cover : List ℕ) (t : Tally) (s : Statistics) → profile ≡ [] → cover ≡ [] → IsSum [] t s → 1 ≤ most → o0.failed ≡ false → Watching most 0 1 o0 profile cover t s
  watching-first profile cover t s p c sum some unbroken = record {
    lives = [];
    reported = reported-first all_lives o0 0;
    counted = refl;
    number = refl;
    profiles = p ∙ no-profile k;
    covers = c ∙ no-cover k;
    sum = sum;
    passed = omega arith;
    some = some;
    within = omega arith;
    all = omega arith;
    unbroken = unbroken;
  }

  module _ (left from life : ℕ) (o : Out) (profile cover : List ℕ) (t : Tally) (s : Statistics) (way : Watching left from life o profile cover t s) where
    -- the life that begins there
    abbrev pub this_life : Life WatchedUnit
    this_life = life_from watched_further deadline_of image driving.stimuli (watched_for driving.values driving.stimuli) states from

    others : (more : List (Life WatchedUnit)) × (left_lives left from ≡ this_life ∷ more)
    others = lives-some watched_further deadline_of image driving.stimuli (watched_for driving.values driving.stimuli) states left from way.some

    -- memory runs out for it
    pub watching-none : (p : Out) → p ≡ o → HasFailed run o0 fault.NoMemory p
    watching-none p same =
        paused p (subst (λ q. AreReported all_lives o0 (Err fault.NoMemory) q) (sym same)
        (reported-wanting all_lives o0 0 this_life others.0 o 0 (subst (λ xs. Reported all_lives o0 0 xs o 0) others.1 way.reported) way.unbroken))

    module _ (m : Machine WatchedUnit) (is : m ≡ machine_at driving image from) where
      same : life_of (states - from) m ≡ this_life
      same = ap (life_of (states - from)) is

      -- the sink fails in it
      pub watching-cut : (mid : Out) → HasBroken (states - from) m o mid → HasFailed run o0 fault.WriteFault mid
      watching-cut mid h =
          reported-cut all_lives o0 0 this_life others.0 o 0 mid (subst (λ xs. Reported all_lives o0 0 xs o 0) others.1 way.reported)
          (subst (λ (l : Life WatchedUnit). Puts o (text_of l.ran.records) mid) same h.lines) h.failed

      -- it was run
      module _ (how : End) (late : Bool) (n : Machine WatchedUnit) (mid : Out) (lived : HasLived (states - from) m o how late n mid) where
        own_lines : Puts o (text_of this_life.ran.records) mid
        own_lines = subst (λ (l : Life WatchedUnit). Puts o (text_of l.ran.records) mid) same lived.lines

        own_how : how ≡ this_life.how
        own_how = lived.how ∙ ap (λ (l : Life WatchedUnit). l.how) same

        own_late : late ≡ this_life.by_watchdog
        own_late = lived.by_watchdog ∙ ap (λ (l : Life WatchedUnit). l.by_watchdog) same

        own_machine : n ≡ this_life.ran.machine
        own_machine = lived.machine ∙ ap (λ (l : Life WatchedUnit). l.ran.machine) same

        own_time : n.time ≡ this_life.ran.machine.time
        own_time = ap (λ (m : Machine WatchedUnit). m.time) own_machine

        -- what it counts
        abbrev pub own_counted : Counted
        own_counted = counted_for watched_further n.time m

        own_same : own_counted ≡ counted_for watched_further this_life.ran.machine.time (machine_at driving image from)
        own_same = λ i. counted_for watched_further (own_time i) (is i)

        -- no other follows
        module _ (none : (is_reset how && nat_lt 1 left) ≡ false) where
          last_is : left_lives left from ≡ this_life ∷ []
          last_is = lives-last watched_further deadline_of image driving.stimuli (watched_for driving.values driving.stimuli) states left from way.some (ap (λ w. is_reset w && nat_lt 1 left) (sym own_how) ∙ none)

          last_reported : Reported all_lives o0 0 (this_life ∷ []) o 0
          last_reported = subst (λ xs. Reported all_lives o0 0 xs o 0) last_is way.reported

          own_finals : (p : Out) → Puts mid (text_of (finals how n)) p → Puts mid (text_of (finals this_life.how this_life.ran.machine)) p
          own_finals p put = subst (λ text. Puts mid text p) (λ i. text_of (finals (own_how i) (own_machine i))) put

          pub watching-cut_last : (p : Out) → Puts mid (text_of (finals how n)) p → p.failed ≡ true → HasFailed run o0 fault.WriteFault p
          watching-cut_last p put failed = reported-cut_last all_lives o0 0 this_life o 0 mid p last_reported own_lines (own_finals p put) failed

          whole : (p : Out) → Puts mid (text_of (finals how n)) p → p.failed ≡ false → AreReported all_lives o0 (Ok how) p
          whole p put unbroken = reported-last all_lives o0 0 this_life o 0 mid p how last_reported own_lines (own_finals p put) unbroken own_how

          -- memory runs out behind the text
          pub watching-wanting : (p : Out) → Puts mid (text_of (finals how n)) p → p.failed ≡ false → HasFailed run o0 fault.NoMemory p
          watching-wanting p put unbroken =
              let reported = whole p put unbroken in
              (last-pause (λ text. Puts o0 text p) ([] ∷ run.pauses) run.text reported.1, unbroken)

          pub watching-last : (p : Out) (texts : Texts) → Puts mid (text_of (finals how n)) p → p.failed ≡ false → texts ≡ lives_texts k (way.lives ++ own_counted ∷ []) → HasPassed run o0 how texts p
          watching-last p texts put unbroken e =
              let reported = whole p put unbroken in
              let ends : counted_from driving image from (left_lives left from) ≡ own_counted ∷ [] =
              ap (counted_from driving image from) last_is ∙ counted-more driving image from this_life []
              ∙ (λ i. sym own_same i ∷ counted-none driving image (from + this_life.ran.machine.time) i) in
              let counts : counted_from driving image 0 all_lives ≡ way.lives ++ own_counted ∷ [] = way.counted ∙ ap (λ xs. way.lives ++ xs) ends in
              record { how = reported.0; lines = reported.1; written = unbroken; texts = e ∙ ap (lives_texts k) (sym counts) }

        -- another follows
        module _ (reset : is_reset how ≡ true) (more : 1 < left) (p : Out) (line : Puts mid (restart_line (n.time - 1) late) p) where
          next_is : left_lives left from ≡ this_life ∷ left_lives (left - 1) (from + this_life.ran.machine.time)
          next_is = lives-followed watched_further deadline_of image driving.stimuli (watched_for driving.values driving.stimuli) states left from (ap is_reset (sym own_how) ∙ reset) more

          own_line : Puts mid (restart_line (this_life.ran.machine.time - 1) this_life.by_watchdog) p
          own_line = subst (λ text. Puts mid text p) (λ i. restart_line (own_time i - 1) (own_late i)) line

          next_reported : Reported all_lives o0 0 (left_lives (left - 1) (from + this_life.ran.machine.time)) p 0
          next_reported =
              reported-next all_lives o0 0 this_life (left_lives (left - 1) (from + this_life.ran.machine.time)) o 0 mid p 0
              (subst (λ xs. Reported all_lives o0 0 xs o 0) next_is way.reported) own_lines own_line (omega arith)

          following : (others : List (Life WatchedUnit)) × (left_lives (left - 1) (from + this_life.ran.machine.time) ≡
              life_from watched_further deadline_of image driving.stimuli (watched_for driving.values driving.stimuli) states (from + this_life.ran.machine.time) ∷ others)
          following = lives-some watched_further deadline_of image driving.stimuli (watched_for driving.values driving.stimuli) states (left - 1) (from + this_life.ran.machine.time) (omega (arith, more))

          pub watching-cut_line : p.failed ≡ true → HasFailed run o0 fault.WriteFault p
          watching-cut_line failed =
              reported-cut_line all_lives o0 0 this_life (life_from watched_further deadline_of image driving.stimuli (watched_for driving.values driving.stimuli) states (from + this_life.ran.machine.time)) following.0 o 0 mid p
              (subst (λ xs. Reported all_lives o0 0 xs o 0) (next_is ∙ ap (λ xs. this_life ∷ xs) following.1) way.reported) own_lines own_line failed

          -- memory runs out for what it counts
          pub watching-wanting_next : p.failed ≡ false → HasFailed run o0 fault.NoMemory p
          watching-wanting_next unbroken =
              paused p
              (reported-wanting all_lives o0 0 (life_from watched_further deadline_of image driving.stimuli (watched_for driving.values driving.stimuli) states (from + this_life.ran.machine.time)) following.0 p 0
              (subst (λ xs. Reported all_lives o0 0 xs p 0) following.1 next_reported) unbroken)

          watching-next : (texts covers : List ℕ) (u : Tally) (v : Statistics) → p.failed ≡ false → texts ≡ lives_profile k 1 (way.lives ++ own_counted ∷ []) → covers ≡ lives_cover k 1 (way.lives ++ own_counted ∷ []) →
              IsSum (way.lives ++ own_counted ∷ []) u v → Watching (left - 1) (from + n.time) (life + 1) p texts covers u v
          watching-next texts covers u v unbroken e f sum =
              let there : this_life.ran.machine.time ≡ n.time = sym own_time in
              let spots : List Spot = flat_map (λ (c : Counted). c.spots) way.lives in
              let own : List Spot = spots_for watched_further n.time m in
              let few = spots-few watched_further n.time m in
              let many = ap length (spots-more way.lives own_counted) ∙ length-append spots own in
              let long = length-append way.lives (own_counted ∷ []) in
              let rest : List Counted = counted_from driving image (from + this_life.ran.machine.time) (left_lives (left - 1) (from + this_life.ran.machine.time)) in
              let counts : counted_from driving image 0 all_lives ≡ (way.lives ++ own_counted ∷ []) ++ rest =
              way.counted
              ∙ ap (λ xs. way.lives ++ xs)
              (ap (counted_from driving image from) next_is ∙ counted-more driving image from this_life (left_lives (left - 1) (from + this_life.ran.machine.time)) ∙ ap (λ c. c ∷ rest) (sym own_same))
              ∙ sym (append_assoc way.lives (own_counted ∷ []) rest) in
              record {
                lives = way.lives ++ own_counted ∷ [];
                reported = subst (λ j. Reported all_lives o0 0 (left_lives (left - 1) (from + j)) p 0) there next_reported;
                counted = counts ∙ ap (λ j. (way.lives ++ own_counted ∷ []) ++ counted_from driving image (from + j) (left_lives (left - 1) (from + j))) there;
                number = omega (arith, way.number, long);
                profiles = e;
                covers = f;
                sum = sum;
                passed = omega (arith, way.passed, few, many);
                some = omega (arith, more);
                within = omega (arith, way.within, lived.within);
                all = omega (arith, way.all, way.some);
                unbroken = unbroken;
              }

          pub watching-on : (time : ℕ) (texts covers : List ℕ) (u : Tally) (v : Statistics) → time ≡ n.time → p.failed ≡ false → texts ≡ lives_profile k 1 (way.lives ++ own_counted ∷ []) → covers ≡ lives_cover k 1 (way.lives ++ own_counted ∷ []) →
              IsSum (way.lives ++ own_counted ∷ []) u v → Watching (left - 1) (from + time) (life + 1) p texts covers u v
          watching-on time texts covers u v at unbroken e f sum = subst (λ j. Watching (left - 1) (from + j) (life + 1) p texts covers u v) (sym at) (watching-next texts covers u v unbroken e f sum)

-- ---- what is counted is within its limits

pub sums-few : (from : ℕ) (lives : List Counted) (t : Tally) (s : Statistics) → IsSum lives t s → length (flat_map (λ (c : Counted). c.spots) lives) ≤ from → from ≤ max_states → AreAllFew (2 ^ 63 - 1) s
sums-few from lives t s sum passed within = few-more (length (flat_map (λ (c : Counted). c.spots) lives)) (2 ^ 63 - 1) s (omega (arith, passed, within)) sum.few

pub count-few : (life n : ℕ) (m : Machine WatchedUnit) (t : Tally) (s : Statistics) → IsCount life (spots_for watched_further n m) (history watched_further n m) t s → n ≤ max_states → AreAllFew (2 ^ 63 - 1) s
count-few life n m t s count within =
    let few = spots-few watched_further n m in
    few-more (length (spots_for watched_further n m)) (2 ^ 63 - 1) s (omega (arith, few, within)) count.few

pub both-fit : (from life n : ℕ) (lives : List Counted) (m : Machine WatchedUnit) (t own : Tally) (s its : Statistics) → IsSum lives t s → length (flat_map (λ (c : Counted). c.spots) lives) ≤ from → IsCount life (spots_for watched_further n m) (history watched_further n m) own its →
    from + n ≤ max_states → total t + total own < 2 ^ 64
both-fit from life n lives m t own s its sum passed count within =
    let few = spots-few watched_further n m in
    omega (arith, sum.tally.sum, passed, count.tally.sum, few, within)
