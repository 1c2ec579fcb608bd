-- The response of a run whose states are counted.
use Rattle.std.proofs.Common.{◌≡◌, ◌≢◌, ◌⊎◌, inl, inr, ℕ, ◌-◌, ◌≤◌, false, true, List, [], ◌∷◌, ◌++◌, None, refl, sym, ◌∙◌, ap, subst, arith}
use Rattle.std.specs.Prelude.{max}
use Rattle.std.specs.List.{Any}
use Rattle.kc_base.specs.Causes.{Grew}
use Rattle.kc_trace.specs.Out.{Out, Puts}
use Rattle.kc_trace.specs.Text.{text_of}
use Rattle.kc_trace.proofs.Outs.{Puts-longer, Puts-nothing}
use Rattle.kc_trace.proofs.Printed.{text_of-append}
use Rattle.kc_machine_spec.specs.declared.doing.End.{End}
use Rattle.kc_machine_spec.specs.declared.doing.End.TheVariants as end
use Rattle.kc_machine_spec.specs.Machine.{Machine, Stepped}
use Rattle.kc_machine_spec.specs.Run.{run_for, run_to, end_of}
use Rattle.kc_machine_spec.specs.Text.{finals, trace_of}
use Rattle.kc_cycles.specs.declared.lives.LivesFault.TheVariants as fault
use Rattle.kc_profile.specs.declared.sight.Sight.{Sight}
use Rattle.kc_profile.specs.declared.statistics_text.Scope.TheVariants as scope
use Rattle.kc_profile.specs.Passing.{CountsOn}
use Rattle.kc_profile.specs.Sights.{history, Begins}
use Rattle.kc_profile.specs.Spots.{spots_for}
use Rattle.kc_profile.specs.Statistics.{Statistics, AreStatisticsOf, statistics_of}
use Rattle.kc_profile.specs.Tally.{Tally, IsTallyOf, tally_of}
use Rattle.kc_profile.proofs.Tallies.{tallies_are_one}
use Rattle.kc_profile.proofs.StatisticsOne.{statistics_are_one}
use Rattle.kc_profile.specs.Cover.{cover_text}
use Rattle.kc_kit_files.specs.declared.status.Status.{Status}
use Rattle.kc_kit_files.specs.declared.status.Status.TheVariants as status
use Rattle.kc_kit_files.specs.declared.ended.Ended.{Ended}
use Rattle.kc_kit_files.specs.declared.ended.Said.{Said}
use Rattle.kc_kit_files.specs.declared.ended.Said.TheVariants as said
use Rattle.kc_kit_files.specs.Response.{Response, Write}
use Rattle.kc_kit_files.specs.Ended.{said_in, EndsBy, Unwritten}
use Rattle.kc_kit_files.specs.Outside.{Kept, Shown, IsGiven, Wrote, WroteByPart, OthersStay}
use Rattle.kc_kit_words.specs.Commands.{Behind}
use Rattle.kc_kit_inputs.specs.declared.driving.Driving.{Driving}
use Rattle.kc_kit_running.specs.Counting.{IsCount}
use Rattle.kc_kit_running.specs.Fitted.{FittedUnit, fitted_further}
use Rattle.kc_kit_running.specs.Passing.{HasFailed, HasFinished, HasPassed}
use Rattle.kc_kit_running.specs.Profiled.{Known, Run, Texts, counted_for, counted_text, once, pauses_of, profiled, run_texts, writes_of}
use Rattle.kc_kit_running.specs.Running.{machine_of, status_of, IsEndOf}
use Rattle.kc_kit_running.specs.Writing.{AreWritten, AreWrittenBy, IsRefusedAt}
use Rattle.kc_kit_running.proofs.CountLemmas.{history-all}
use Rattle.kc_kit_running.proofs.RunLemmas.{last-pause, run-failed, run-paused}

-- ---- files that are all written, and memory that runs out behind them

wrote-part : (old new : Kept) (w : Write) (ws : List Write) → Wrote old (w ∷ ws) new → WroteByPart old (w ∷ ws) new
wrote-part old new w [] h = inl (subst (λ (k : Kept). OthersStay old.held w.name k.held) (sym h.2) h.1.1)
wrote-part old new w (u ∷ us) h = inr (h.0, h.1, wrote-part h.0 new u us h.2)

files-behind : (response : Response) (may : Response → Type 0) (old new : Kept) (ws : List Write) → may response → response.writes ≡ ws → Wrote old ws new → (new ≡ old) ⊎ ((response : Response) × may response × WroteByPart old response.writes new)
files-behind response may old new [] m e h = inl h
files-behind response may old new (w ∷ ws) m e h = inr (response, m, subst (λ us. WroteByPart old us new) (sym e) (wrote-part old new w ws h))

-- ---- a run whose files are written

given-end : (may : Response → Type 0) (old : Kept) (before : Shown) (given : Status) (what : Said) (new : Kept) (now : Shown) (how : End) → given ≡ status_of how → IsGiven (λ response. may response × (response.diagnostic ≡ said_in what)) given old before new now →
    EndsBy may old before given what new now
given-end may old before given what new now how e h = subst (λ (s : Status). EndsBy may old before s what new now) (sym e) (by how (subst (λ (s : Status). IsGiven (λ response. may response × (response.diagnostic ≡ said_in what)) s old before new now) e h))
  where
    by : (w : End) → IsGiven (λ response. may response × (response.diagnostic ≡ said_in what)) (status_of w) old before new now → EndsBy may old before (status_of w) what new now
    by end.Spent k = k
    by end.Powerdown k = k
    by end.Reset k = k
    by (end.Undefined what access) k = k

-- the text is printed whole, and a write fails, or memory is wanted
writing-part : (response : Response) (may : Response → Type 0) (old new : Kept) (before now : Shown) (ended : Ended) → may response → Any (λ prefix. Grew before.written prefix now.written) response.pauses → ended.status ≢ status.Done →
    Grew before.written response.text now.written → AreWritten old response.writes ended new → EndsBy may old before ended.status ended.said new now
writing-part response may old new before now ended m p un g h = by ended.status ended.said un h.written
  where
    refused : (what : Said) → IsRefusedAt what old response.writes new → Unwritten may old before what new now
    refused (said.File name) k = record { response = response; is_answer = m; files = k.1; cause = k.0; text = g }
    refused said.Nothing k = absurd k
    refused (said.Refusal diagnostic) k = absurd k

    by : (s : Status) (what : Said) → s ≢ status.Done → AreWrittenBy old response.writes s what new → EndsBy may old before s what new now
    by status.Done what un k = absurd (un refl)
    by status.WriteFault what un k = refused what k
    by status.NoMemory what un k = record { text = inr (response, m, p); files = inr (response, m, k) }
    by status.Usage what un k = absurd k
    by status.Missing what un k = absurd k
    by status.Source what un k = absurd k
    by status.Input what un k = absurd k
    by status.Link what un k = absurd k
    by status.Undefined what un k = absurd k
    by status.ReadFault what un k = absurd k
    by status.Broken what un k = absurd k

module _ (behind : Behind) (k : Known) (run : Run) (may : Response → Type 0) (old new : Kept) (before now : Shown) (ended : Ended) (is : may (profiled behind k run)) where
  pub profiled-finished : (how : End) (texts : Texts) → how ≡ run.how → texts ≡ run.texts → HasFinished k.lines how (writes_of behind texts) old ended new → Grew before.written run.text now.written → EndsBy may old before ended.status ended.said new now
  profiled-finished how texts e f h g = by (subst (λ (w : End). HasFinished k.lines w (writes_of behind run.texts) old ended new) e (subst (λ (t : Texts). HasFinished k.lines how (writes_of behind t) old ended new) f h))
    where
      pause : Any (λ prefix. Grew before.written prefix now.written) (pauses_of run)
      pause = last-pause (λ prefix. Grew before.written prefix now.written) ([] ∷ run.pauses) run.text g

      finished : IsEndOf k.lines run.how ended → Wrote old (writes_of behind run.texts) new → EndsBy may old before ended.status ended.said new now
      finished (inl said) wrote =
          given-end may old before ended.status ended.said new now run.how said.0
          (record { response = profiled behind k run; is_answer = (is, sym said.1); status = said.0; text = g; files = wrote })
      finished (inr cut) wrote =
          subst (λ (s : Status). EndsBy may old before s ended.said new now) (sym cut.0)
          (record { text = inr (profiled behind k run, is, pause); files = files-behind (profiled behind k run) may old new (writes_of behind run.texts) is refl wrote })

      by : HasFinished k.lines run.how (writes_of behind run.texts) old ended new → EndsBy may old before ended.status ended.said new now
      by (inl all) = finished all.0 all.1
      by (inr part) = writing-part (profiled behind k run) may old new before now ended is pause part.0 g part.1

-- a run that was not passed: no file is written
module _ (behind : Behind) (k : Known) (run : Run) (may : Response → Type 0) (files : Kept) (old new : Out) (ended : Ended) (is : may (profiled behind k run)) where
  pub profiled-broken : HasFailed run old fault.WriteFault new → old.failed ≡ false → ended.status ≡ status.WriteFault → ended.said ≡ said.Nothing →
      EndsBy may files (record { written = old.written; faults = old.faults }) ended.status ended.said files (record { written = new.written; faults = new.faults })
  profiled-broken h ready e f =
      run-failed (profiled behind k run) may files (record { written = old.written; faults = old.faults }) (record { written = new.written; faults = new.faults }) ended is e f h.0.part (h.0.cause ready h.1)

  pub profiled-paused : HasFailed run old fault.NoMemory new → ended.status ≡ status.NoMemory →
      EndsBy may files (record { written = old.written; faults = old.faults }) ended.status ended.said files (record { written = new.written; faults = new.faults })
  profiled-paused h e =
      run-paused (profiled behind k run) may files (record { written = old.written; faults = old.faults }) (record { written = new.written; faults = new.faults }) ended is e
      (h.0.0, h.0.1, h.0.2, h.0.3, h.0.4.whole h.1)

-- ---- a run up to a reset at most

-- memory is wanted before it
pub never-begun : (run : Run) (o : Out) → o.failed ≡ false → HasFailed run o fault.NoMemory o
never-begun run o ready = ((0, [], omega arith, refl, Puts-nothing o), ready)

-- the texts behind it
pub once-texts : (states now : ℕ) (k : Known) (m : Machine FittedUnit) (begun tally : Tally) (first statistics : Statistics) (profile cover : List ℕ) → m.time ≡ 0 → IsCount 1 [] [] begun first →
    IsTallyOf ([] ++ spots_for fitted_further now m) tally → spots_for fitted_further (states - m.time) m ≡ spots_for fitted_further now m → statistics.life ≡ 1 → AreStatisticsOf 1 (history fitted_further now m) statistics →
    history fitted_further states m ≡ history fitted_further now m → profile ≡ counted_text scope.Life k.entries tally statistics → cover ≡ cover_text None statistics k.sources →
    record { profile = profile; cover = cover } ≡ run_texts k (counted_for fitted_further states m)
once-texts states now k m begun tally first statistics profile cover start none counted all life are shown p c =
    let from : states - m.time ≡ states = omega (arith, start) in
    let spots : spots_for fitted_further now m ≡ spots_for fitted_further states m = sym all ∙ ap (λ n. spots_for fitted_further n m) from in
    let sights : history fitted_further now m ≡ history fitted_further states m = sym shown in
    let one : tally ≡ tally_of (spots_for fitted_further states m) = tallies_are_one (spots_for fitted_further now m) tally counted ∙ ap tally_of spots in
    let other : statistics ≡ statistics_of 1 (history fitted_further states m) = statistics_are_one 1 (history fitted_further now m) statistics life are ∙ ap (statistics_of 1) sights in
    λ i. record {
      profile = (p ∙ (λ j. counted_text scope.Life k.entries (one j) (other j))) i;
      cover = (c ∙ ap (λ t. cover_text None t k.sources) other) i;
    }

-- before its first state
still-there : (m : Machine FittedUnit) → m ≡ (run_to fitted_further m.time m).machine
unfolding run_for
still-there m = let none : m.time - m.time ≡ 0 = omega arith in ap (λ n. (run_for fitted_further n m).machine) (sym none)

-- over the machine that it starts with
pub once-of : ℕ → Known → Machine FittedUnit → Run
once-of states k m =
    let ran : Stepped FittedUnit = run_to fitted_further states m in
    record { how = end_of ran.machine; text = trace_of ran; pauses = []; texts = run_texts k (counted_for fitted_further states m) }

pub once-start : (states : ℕ) (k : Known) (driving : Driving) (image : List ℕ) (m : Machine FittedUnit) → m ≡ machine_of driving image → once-of states k m ≡ once states k driving image
unfolding once-of
once-start states k driving image m e = ap (once-of states k) e

pub machine-begins : (driving : Driving) (image : List ℕ) (m : Machine FittedUnit) → m ≡ machine_of driving image → Begins m
machine-begins driving image m e = subst Begins (sym e) (record { time = refl; pending = refl; handed = refl })

none-shown : (m : Machine FittedUnit) → history fitted_further 0 m ≡ []
unfolding history
none-shown m = refl

-- in what it was counted
pub once-statistics : (m n : Machine FittedUnit) (first statistics : Statistics) → m.time ≡ 0 → Begins m → first.life ≡ 1 → AreStatisticsOf 1 [] first → CountsOn fitted_further first.life m first n statistics →
    AreStatisticsOf 1 (history fitted_further (n.time - m.time) m) statistics
once-statistics m n first statistics start begins life none counted =
    let zero : history fitted_further m.time m ≡ [] = ap (λ t. history fitted_further t m) start ∙ none-shown m in
    let there : AreStatisticsOf first.life (history fitted_further m.time m) first =
    subst (λ (sights : List Sight). AreStatisticsOf first.life sights first) (sym zero) (subst (λ (l : ℕ). AreStatisticsOf l [] first) (sym life) none) in
    let all : AreStatisticsOf first.life (history fitted_further n.time m) statistics = counted m begins (still-there m) there in
    let till : n.time ≡ n.time - m.time = omega (arith, start) in
    subst (λ (t : ℕ). AreStatisticsOf 1 (history fitted_further t m) statistics) till (subst (λ (l : ℕ). AreStatisticsOf l (history fitted_further n.time m) statistics) life all)

pub once-shown : (states : ℕ) (m n : Machine FittedUnit) → m.time ≡ 0 → n ≡ (run_to fitted_further states m).machine → n ≡ (run_to fitted_further n.time m).machine → n.time ≤ max states m.time →
    history fitted_further states m ≡ history fitted_further (n.time - m.time) m
once-shown states m n start is stands within =
    let till : n.time ≡ n.time - m.time = omega (arith, start) in
    history-all fitted_further states m n start is stands (omega (arith, within, start)) ∙ ap (λ t. history fitted_further t m) till

-- what is known of it
pub once-passed : (states : ℕ) (k : Known) (m : Machine FittedUnit) (old new : Out) (how : End) (texts : Texts) → how ≡ end_of (run_to fitted_further states m).machine → Puts old (trace_of (run_to fitted_further states m)) new → new.failed ≡ false →
    texts ≡ run_texts k (counted_for fitted_further states m) → HasPassed (once-of states k m) old how texts new
unfolding once-of
once-passed states k m old new how texts e put written t = record { how = e; lines = put; written = written; texts = t }

pub once-wanting : (states : ℕ) (k : Known) (m : Machine FittedUnit) (old new : Out) → Puts old (trace_of (run_to fitted_further states m)) new → new.failed ≡ false → HasFailed (once-of states k m) old fault.NoMemory new
unfolding once-of
once-wanting states k m old new put written = (last-pause (λ text. Puts old text new) ([] ∷ []) (trace_of (run_to fitted_further states m)) put, written)

pub once-cut : (states : ℕ) (k : Known) (m : Machine FittedUnit) (old new : Out) → Puts old (trace_of (run_to fitted_further states m)) new → new.failed ≡ true → HasFailed (once-of states k m) old fault.WriteFault new
unfolding once-of
once-cut states k m old new put failed = (put, failed)

-- the sink failed in its lines, and the finals are not put
pub once-broken : (states : ℕ) (k : Known) (m : Machine FittedUnit) (old new : Out) → new.failed ≡ true → Puts old (text_of (run_to fitted_further states m).records) new → Puts old (once-of states k m).text new
unfolding once-of
once-broken states k m old new failed put =
    let ran : Stepped FittedUnit = run_to fitted_further states m in
    let last = finals (end_of ran.machine) ran.machine in
    subst (λ text. Puts old text new) (sym (text_of-append ran.records last)) (Puts-longer old (text_of ran.records) (text_of last) new failed put)
