-- What all rules of a file have known of all lives of a run.
use Rattle.std.proofs.Common.{◌≡◌, ℕ, suc, ◌+◌, ◌<◌, ◌≤◌, ◌^◌, List, [], ◌∷◌, length, get_or, map, Option, Some, None, refl, sym, ap, subst, ◌∙◌, arith}
use Rattle.std.specs.Prelude.{IfSome}
use Rattle.std.proofs.Math.Nat.{mod-eq_of_lt}
use Rattle.kc_base.specs.declared.types.Level.{Level}
use Rattle.kc_trace.specs.declared.life.Signal.{Signal}
use Rattle.kc_trace.specs.Lives.{State, level_after}
use Rattle.kc_trace.specs.Tables.{level_in}
use Rattle.kc_rules.specs.declared.mark.Mark.{Mark}
use Rattle.kc_rules.specs.declared.mark.MarkForm.{MarkForm}
use Rattle.kc_rules.specs.declared.mark.MarkForm.TheVariants as marks
use Rattle.kc_rules.specs.declared.rule.Rule.{Rule}
use Rattle.kc_monitor_forms.specs.declared.obligation.Answer.{Answer}
use Rattle.kc_monitor_forms.specs.declared.obligation.Answer.TheVariants.{Good, Bad, Open}
use Rattle.kc_monitor_forms.specs.declared.obligation.Obligation.{Obligation}
use Rattle.kc_monitor_forms.specs.declared.tally.Tally.{Tally}
use Rattle.kc_monitor_forms.specs.declared.tally.Found.{Found}
use Rattle.kc_monitor_forms.specs.Tallies.{with_one, with_all, answered, first_of, found}
use Rattle.kc_monitor.specs.declared.marks.Marking.{Marking}
use Rattle.kc_monitor.specs.declared.monitor.Monitor.{Monitor}
use Rattle.kc_monitor.specs.declared.watch.Watch.{Watch}
use Rattle.kc_monitor.specs.Marked.{Hit, since}
use Rattle.kc_monitor.specs.Marking.{fresh, IsKept}
use Rattle.kc_monitor.specs.Rules.{times_one, times_other, obligations}
use Rattle.kc_monitor.specs.Rows.{seens_in, hists_over, IsTrack}
use Rattle.kc_monitor.specs.Verdicts.{tally_from, tally_of, verdict_of}
use Rattle.kc_monitor.specs.Watching.{Moment, AllThree, IsStart, IsStep, IsFinish}
use Rattle.kc_monitor.specs.Runs.{Runs, IsLifeSeen}
use Rattle.kc_monitor.specs.Reported.{levels_after, moments_by, unseen, moments_of}
use Rattle.kc_monitor.specs.Watches.{IsNew, IsBegin, IsOver}
use Rattle.kc_monitor.specs.AllLives.{ReportedLife, life_reported, IsReportedLife, AreReportedLives, Sees, SeesAll}
use Rattle.kc_monitor.proofs.RowLemmas.{three_at, three_third}
use Rattle.kc_monitor.proofs.RunLemmas as runs
use Rattle.kc_monitor.proofs.ReportedLemmas.{obligations_reported, fitting_reported, moments_from, moments_upto}

-- ---- marks as a life begins

kept_fresh : (form : MarkForm) → IsKept form [] fresh
unfolding since
kept_fresh (marks.Same es) = tt
kept_fresh (marks.QuietFor es least) = refl
kept_fresh (marks.QuietShare es share) = (refl, refl)
kept_fresh (marks.Every k es) = λ some. sym (mod-eq_of_lt some)
kept_fresh (marks.From k es first) = refl

tracks_fresh : (ms : List Mark) (ks : List Marking) → length ks ≡ length ms → ((i : ℕ) → i < length ks → (d : Marking) → get_or ks i d ≡ fresh) → AllThree IsTrack ms (unseen ms) ks
unfolding AllThree
tracks_fresh [] [] same all = tt
tracks_fresh [] (k ∷ ks) same all = absurd (omega arith)
tracks_fresh (m ∷ ms) [] same all = absurd (omega arith)
tracks_fresh (m ∷ ms) (k ∷ ks) same all =
    (subst (λ x. IsKept m.form [] x) (sym (all 0 (omega arith) k)) (kept_fresh m.form), tracks_fresh ms ks (omega arith) (λ i less d. all (suc i) (omega arith) d))

-- ---- state by state

-- what one monitor has seen, and what all keep
record Goes (marks : List Mark) (hists : List (List Hit)) (levels : Signal → Level) (states : List State) (rule : Rule) (m n : Monitor) (v w : Watch) : Type 0 where
  run : Runs rule (moments_by marks hists levels states) m n
  rules : w.rules ≡ v.rules
  monitors : length w.monitors.items ≡ length v.monitors.items
  markings : length w.markings.items ≡ length v.markings.items

sees_runs : (states : List State) (v w : Watch) (marks : List Mark) (rules : List Rule) (hists : List (List Hit)) (levels : Signal → Level) (k : ℕ) (r : Rule) (d : Monitor) →
    v.rules.marks ≡ marks → v.rules.rules ≡ rules → length rules ≡ length v.monitors.items → AllThree IsTrack marks hists v.markings.items →
    ((signal : Signal) → level_in v.levels signal ≡ levels signal) → k < length rules → Sees states v w →
    Goes marks hists levels states (get_or rules k r) (get_or v.monitors.items k d) (get_or w.monitors.items k d) v w
unfolding Sees Runs moments_by
sees_runs [] v w marks rules hists levels k r d m_eq r_eq len tracks same less sees = record {
  run = ap (λ x. get_or x.monitors.items k d) sees;
  rules = sym (ap (λ x. x.rules) sees);
  monitors = sym (ap (λ x. length x.monitors.items) sees);
  markings = sym (ap (λ x. length x.markings.items) sees);
}
sees_runs (s ∷ states) v w marks rules hists levels k r d m_eq r_eq len tracks same less sees =
    let u = sees.0 in
    let st = sees.1 in
    let after = levels_after levels s.whats in
    let now : level_in u.levels ≡ after = λ i signal. (st.levels signal ∙ ap (λ l. level_after signal l s.whats) (same signal)) i in
    let seen = hists_over after s.at marks hists s.whats in
    let reported : AllThree IsTrack v.rules.marks hists v.markings.items = subst (λ ms. AllThree IsTrack ms hists v.markings.items) (sym m_eq) tracks in
    let kept : AllThree IsTrack marks seen u.markings.items =
    subst (λ l. AllThree IsTrack marks (hists_over l s.at marks hists s.whats) u.markings.items) now
    (subst (λ ms. AllThree IsTrack ms (hists_over (level_in u.levels) s.at ms hists s.whats) u.markings.items) m_eq (st.markings hists reported)) in
    let many : length v.rules.rules ≡ length v.monitors.items = ap length r_eq ∙ len in
    let steps : AllThree (IsStep s.at after (seens_in after s.at marks hists s.whats)) rules v.monitors.items u.monitors.items =
    subst (λ rs. AllThree (IsStep s.at after (seens_in after s.at marks hists s.whats)) rs v.monitors.items u.monitors.items) r_eq
    (subst (λ l. AllThree (IsStep s.at l (seens_in l s.at marks hists s.whats)) v.rules.rules v.monitors.items u.monitors.items) now
    (subst (λ ms. AllThree (IsStep s.at (level_in u.levels) (seens_in (level_in u.levels) s.at ms hists s.whats)) v.rules.rules v.monitors.items u.monitors.items) m_eq
    (st.monitors hists reported many))) in
    let step = three_at (IsStep s.at after (seens_in after s.at marks hists s.whats)) rules v.monitors.items u.monitors.items k r d d steps less in
    let third : length u.monitors.items ≡ length rules = three_third (IsStep s.at after (seens_in after s.at marks hists s.whats)) rules v.monitors.items u.monitors.items steps in
    let rest = sees_runs states u w marks rules seen after k r d (ap (λ x. x.marks) st.rules ∙ m_eq) (ap (λ x. x.rules) st.rules ∙ r_eq) (sym third) kept
    (λ signal i. now i signal) less sees.2 in
    record {
      run = (get_or u.monitors.items k d, step, rest.run);
      rules = rest.rules ∙ st.rules;
      monitors = rest.monitors ∙ third ∙ len;
      markings = rest.markings ∙ three_third IsTrack marks seen u.markings.items kept ∙ sym (three_third IsTrack marks hists v.markings.items tracks);
    }

runs_life : (rule : Rule) (moments : List Moment) (m n : Monitor) → Runs rule moments m n → n.life ≡ m.life
unfolding Runs
runs_life rule [] m n run = sym (ap (λ x. x.life) run)
runs_life rule (mo ∷ moments) m n run = let step = run.1 in runs_life rule moments run.0 n run.2 ∙ step.life

-- ---- the life of the first bad obligation

bad_by : (bound life : ℕ) (o : Obligation) (a : Answer) (tally : Tally) → life ≤ bound → IfSome tally.first_bad (λ f. f.life ≤ bound) →
    IfSome (answered life o a tally).first_bad (λ f. f.life ≤ bound)
bad_by bound life o Good tally le h = h
bad_by bound life o Open tally le h = h
bad_by bound life o Bad tally le h = first_by bound life o tally.first_bad le h
  where
    first_by : (bound life : ℕ) (o : Obligation) (first : Option Found) → life ≤ bound → IfSome first (λ f. f.life ≤ bound) →
        IfSome (first_of first (found life o)) (λ f. f.life ≤ bound)
    first_by bound life o None le h = le
    first_by bound life o (Some f) le h = h

bad_all : (bound life : ℕ) (os : List Obligation) (tally : Tally) → life ≤ bound → IfSome tally.first_bad (λ f. f.life ≤ bound) →
    IfSome (with_all life tally os).first_bad (λ f. f.life ≤ bound)
unfolding with_all
bad_all bound life [] tally le h = h
bad_all bound life (o ∷ os) tally le h = bad_all bound life os (with_one life tally o) le (bad_by bound life o o.answer tally le h)

-- ---- one life

record Lived (marks : List Mark) (rule : Rule) (reported : ReportedLife) (m q : Monitor) (v c : Watch) : Type 0 where
  life : q.life ≡ m.life + 1
  tally : q.tally ≡ with_all (m.life + 1) m.tally (obligations marks rule (life_reported reported))
  rules : c.rules ≡ v.rules
  monitors : length c.monitors.items ≡ length v.monitors.items
  markings : length c.markings.items ≡ length v.markings.items

lived : (reported : ReportedLife) (v a b c : Watch) (marks : List Mark) (rules : List Rule) (k : ℕ) (r : Rule) (d : Monitor) →
    IsBegin reported.start v a → Sees reported.states a b → IsOver reported.last b c → IsReportedLife reported → v.rules.marks ≡ marks → v.rules.rules ≡ rules →
    length rules ≡ length v.monitors.items → length v.markings.items ≡ length marks → k < length rules → (get_or v.monitors.items k d).life < 2 ^ 63 →
    IfSome (get_or v.monitors.items k d).tally.first_bad (λ f. f.life ≤ (get_or v.monitors.items k d).life) →
    Lived marks (get_or rules k r) reported (get_or v.monitors.items k d) (get_or c.monitors.items k d) v c
lived reported v a b c marks rules k r d begin sees over is m_eq r_eq len tracked less few earlier =
    let m = get_or v.monitors.items k d in
    let rule = get_or rules k r in
    let many : length v.rules.rules ≡ length v.monitors.items = ap length r_eq ∙ len in
    let starts : AllThree (IsStart reported.start) rules v.monitors.items a.monitors.items =
    subst (λ rs. AllThree (IsStart reported.start) rs v.monitors.items a.monitors.items) r_eq (begin.monitors many) in
    let start = three_at (IsStart reported.start) rules v.monitors.items a.monitors.items k r d d starts less in
    let a_len : length a.monitors.items ≡ length rules = three_third (IsStart reported.start) rules v.monitors.items a.monitors.items starts in
    let fresh_tracks : AllThree IsTrack marks (unseen marks) a.markings.items = tracks_fresh marks a.markings.items (begin.many ∙ tracked) begin.markings in
    let goes = sees_runs reported.states a b marks rules (unseen marks) reported.start k r d (ap (λ x. x.marks) begin.rules ∙ m_eq) (ap (λ x. x.rules) begin.rules ∙ r_eq) (sym a_len)
    fresh_tracks begin.levels_are less sees in
    let b_rules : b.rules.rules ≡ rules = ap (λ x. x.rules) (goes.rules ∙ begin.rules) ∙ r_eq in
    let b_len : length b.rules.rules ≡ length b.monitors.items = ap length b_rules ∙ sym a_len ∙ sym goes.monitors in
    let finishes : AllThree (IsFinish reported.last) rules b.monitors.items c.monitors.items =
    subst (λ rs. AllThree (IsFinish reported.last) rs b.monitors.items c.monitors.items) b_rules (over.monitors b_len) in
    let finish = three_at (IsFinish reported.last) rules b.monitors.items c.monitors.items k r d d finishes less in
    let c_len : length c.monitors.items ≡ length rules = three_third (IsFinish reported.last) rules b.monitors.items c.monitors.items finishes in
    let moments = moments_of marks reported.start reported.states in
    let seen : IsLifeSeen rule reported.start moments reported.last m (get_or a.monitors.items k d) (get_or b.monitors.items k d) (get_or c.monitors.items k d) = record {
      start = start;
      runs = goes.run;
      finish = finish;
      order = moments_from marks (unseen marks) reported.start reported.states 0 is.order;
      within = moments_upto marks (unseen marks) reported.start reported.states reported.last is.within;
      short = is.short;
      few = few;
      earlier = earlier;
    } in
    let life = life_reported reported in
    let begun_life : (get_or a.monitors.items k d).life ≡ m.life + 1 = start.life ∙ omega (arith, few) in
    record {
      life = finish.life ∙ runs_life rule moments (get_or a.monitors.items k d) (get_or b.monitors.items k d) goes.run ∙ begun_life;
      tally =
          runs.life_reported rule reported.start moments reported.last m (get_or a.monitors.items k d) (get_or b.monitors.items k d) (get_or c.monitors.items k d)
          (times_one life rule.form) (times_other life rule.form) seen (fitting_reported marks rule.form reported.start reported.states reported.last is.order)
          ∙ ap (λ os. with_all (m.life + 1) m.tally os) (obligations_reported marks rule reported.start reported.states reported.last is.order);
      rules = over.rules ∙ goes.rules ∙ begin.rules;
      monitors = c_len ∙ len;
      markings = over.many ∙ goes.markings ∙ begin.many;
    }

-- ---- all lives

lives_seen : (lives : List ReportedLife) (v w : Watch) (marks : List Mark) (rules : List Rule) (k : ℕ) (r : Rule) (d : Monitor) → SeesAll lives v w → AreReportedLives lives →
    v.rules.marks ≡ marks → v.rules.rules ≡ rules → length rules ≡ length v.monitors.items → length v.markings.items ≡ length marks → k < length rules →
    (get_or v.monitors.items k d).life + length lives < 2 ^ 63 → IfSome (get_or v.monitors.items k d).tally.first_bad (λ f. f.life ≤ (get_or v.monitors.items k d).life) →
    ((get_or w.monitors.items k d).life ≡ (get_or v.monitors.items k d).life + length lives)
    × ((get_or w.monitors.items k d).tally
    ≡ tally_from marks (get_or rules k r) ((get_or v.monitors.items k d).life + 1) (get_or v.monitors.items k d).tally (map life_reported lives))
    × (w.rules ≡ v.rules) × (length w.monitors.items ≡ length v.monitors.items)
unfolding SeesAll AreReportedLives tally_from
lives_seen [] v w marks rules k r d sees are m_eq r_eq len tracked less few earlier =
    let same = ap (λ x. get_or x.monitors.items k d) (sym sees) in
    (ap (λ m. m.life) same ∙ omega arith, ap (λ m. m.tally) same, sym (ap (λ x. x.rules) sees), sym (ap (λ x. length x.monitors.items) sees))
lives_seen (reported ∷ lives) v w marks rules k r d sees are m_eq r_eq len tracked less few earlier =
    let c = sees.2 in
    let m = get_or v.monitors.items k d in
    let q = get_or c.monitors.items k d in
    let rule = get_or rules k r in
    let one = lived reported v sees.0 sees.1 c marks rules k r d sees.3 sees.4 sees.5 are.0 m_eq r_eq len tracked less (omega arith) earlier in
    let os = obligations marks rule (life_reported reported) in
    let bound : IfSome q.tally.first_bad (λ f. f.life ≤ q.life) =
    subst (λ t. IfSome t.first_bad (λ f. f.life ≤ q.life)) (sym one.tally)
    (subst (λ n. IfSome (with_all (m.life + 1) m.tally os).first_bad (λ f. f.life ≤ n)) (sym one.life)
    (bad_all (m.life + 1) (m.life + 1) os m.tally (omega arith) (weaker m.life m.tally.first_bad earlier))) in
    let rest = lives_seen lives c w marks rules k r d sees.6 are.1 (ap (λ x. x.marks) one.rules ∙ m_eq) (ap (λ x. x.rules) one.rules ∙ r_eq) (len ∙ sym one.monitors)
    (one.markings ∙ tracked) less (omega (arith, one.life)) bound in (
      rest.0 ∙ omega (arith, one.life),
      rest.1 ∙ (λ i. tally_from marks rule (one.life i + 1) (one.tally i) (map life_reported lives)),
      rest.2 ∙ one.rules,
      rest.3 ∙ one.monitors,
    )
  where
    weaker : (n : ℕ) (first : Option Found) → IfSome first (λ f. f.life ≤ n) → IfSome first (λ f. f.life ≤ n + 1)
    weaker n None h = tt
    weaker n (Some f) h = omega arith

-- what the lives have left of the monitor of a rule
seen_new : (lives : List ReportedLife) (v w : Watch) (marks : List Mark) (rules : List Rule) (k : ℕ) (r : Rule) (d : Monitor) → IsNew marks rules v → SeesAll lives v w → AreReportedLives lives →
    length lives < 2 ^ 63 → k < length rules →
    ((get_or w.monitors.items k d).life ≡ length lives) × ((get_or w.monitors.items k d).tally ≡ tally_of marks (get_or rules k r) (map life_reported lives))
    × (w.rules ≡ v.rules) × (length w.monitors.items ≡ length v.monitors.items)
seen_new lives v w marks rules k r d new sees are few less =
    let m = get_or v.monitors.items k d in
    let in_monitors : k < length v.monitors.items = omega (arith, new.monitors) in
    let unbegun = new.unbegun k in_monitors d in
    let seen = lives_seen lives v w marks rules k r d sees are new.marks_are new.rules_are (sym new.monitors) new.markings less (omega (arith, unbegun.0))
    (subst (λ t. IfSome t.first_bad (λ f. f.life ≤ m.life)) (sym unbegun.1) tt) in (
      seen.0 ∙ omega (arith, unbegun.0),
      seen.1 ∙ (λ i. tally_from marks (get_or rules k r) (unbegun.0 i + 1) (unbegun.1 i) (map life_reported lives)),
      seen.2,
      seen.3,
    )

pub all_reported : (lives : List ReportedLife) (v w : Watch) (marks : List Mark) (rules : List Rule) (k : ℕ) (r : Rule) (d : Monitor) → IsNew marks rules v → SeesAll lives v w → AreReportedLives lives →
    length lives < 2 ^ 63 → k < length rules →
    ((get_or w.monitors.items k d).life ≡ length lives) × ((get_or w.monitors.items k d).tally ≡ tally_of marks (get_or rules k r) (map life_reported lives))
    × (verdict_of (get_or rules k r) (get_or w.monitors.items k d).life (get_or w.monitors.items k d).tally
    ≡ verdict_of (get_or rules k r) (length lives) (tally_of marks (get_or rules k r) (map life_reported lives)))
all_reported lives v w marks rules k r d new sees are few less =
    let seen = seen_new lives v w marks rules k r d new sees are few less in
    (seen.0, seen.1, λ i. verdict_of (get_or rules k r) (seen.0 i) (seen.1 i))

-- the rules stay, and each has its monitor
pub all_kept : (lives : List ReportedLife) (v w : Watch) (marks : List Mark) (rules : List Rule) → IsNew marks rules v → SeesAll lives v w → AreReportedLives lives → length lives < 2 ^ 63 → 0 < length rules →
    (w.rules ≡ v.rules) × (length w.monitors.items ≡ length rules)
all_kept lives v w marks [] new sees are few some = absurd (omega (arith, some))
all_kept lives v w marks (rule ∷ rules) new sees are few some = by v.monitors.items refl
  where
    by : (monitors : List Monitor) → v.monitors.items ≡ monitors → (w.rules ≡ v.rules) × (length w.monitors.items ≡ length (rule ∷ rules))
    by [] none = absurd (omega (arith, new.monitors, ap length none))
    by (m ∷ monitors) is =
        let seen = seen_new lives v w marks (rule ∷ rules) 0 rule m new sees are few some in
        (seen.2, seen.3 ∙ new.monitors)
