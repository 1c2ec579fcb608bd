-- The steps of a run, as they are reported to a dump.
use Rattle.std.proofs.Common.{◌≡◌, ℕ, Option, None, Result, Ok, Err, List, [], ◌∷◌, ◌++◌, IfOk, refl, sym, ap, subst, ◌∙◌, append_assoc, append-nil}
use Rattle.std.specs.Global.{Vec}
use Rattle.kc_stim.specs.Drives.{Drives}
use Rattle.kc_convert.specs.declared.sample.Sample.{Sample}
use Rattle.kc_events.specs.declared.lives.LivesFault.{LivesFault}
use Rattle.kc_events.specs.declared.lives.LivesFault.TheVariants.{BadTrace, Failed, NoMemory}
use Rattle.kc_events.specs.Grammar.{start_place}
use Rattle.kc_events.specs.Steps.{Seen}
use Rattle.kc_events.specs.Reporting.{Reporting, AreToCome, AreStepsOf, IsBehind, IsFirstWrongIn, IsWrongAt, IfWrong}
use Rattle.kc_vcd.specs.Dump.{shown_of, dump_of}
use Rattle.kc_vcd.specs.Dumped.{IsDumped}
use Rattle.kc_vcd.specs.Writing.{Kept, shown_in, Written, start_of, with_steps, HasReported}
use Rattle.kc_vcd.proofs.Written.{reported_none, reported_more}

-- the steps that have passed were reported, and the source has not failed
pub record HasComeTo (old : Reporting) (v : Written) (new : Reporting) (w : Written) : Type 0 where
  pub going : new.stopped ≡ None
  pub faults : new.trace.faults ≡ old.trace.faults
  pub passed : List Seen
  pub behind : IsBehind old passed new
  pub reported : HasReported v passed w

pub started : (t : Reporting) (v : Written) → t.stopped ≡ None → HasComeTo t v t v
started t v going = record { going = going; faults = refl; passed = []; behind = record { steps = λ steps h. h; wrong = λ line w. w }; reported = reported_none v }

pub one_step : (old : Reporting) (v : Written) (mid : Reporting) (w : Written) (new : Reporting) (x : Written) (step : Seen) → HasComeTo old v mid w → IsBehind mid (step ∷ []) new → HasReported w (step ∷ []) x →
    new.stopped ≡ None → new.trace.faults ≡ mid.trace.faults → HasComeTo old v new x
one_step old v mid w new x step h gave now going calm = record {
  going = going;
  faults = calm ∙ h.faults;
  passed = h.passed ++ step ∷ [];
  behind = record {
    steps = λ steps t. subst (λ all. AreToCome old all) (sym (append_assoc h.passed (step ∷ []) steps)) (h.behind.steps (step ∷ steps) (gave.steps steps t));
    wrong = λ line wrong. h.behind.wrong line (gave.wrong line wrong);
  };
  reported = reported_more v w x h.passed (step ∷ []) h.reported now;
}

pub all_steps : (old : Reporting) (v : Written) (mid : Reporting) (w : Written) → HasComeTo old v mid w → AreToCome mid [] → (steps : List Seen) × AreToCome old steps × HasReported v steps w
all_steps old v mid w h none = (h.passed, subst (λ all. AreToCome old all) (append-nil h.passed) (h.behind.steps [] none), h.reported)

-- the text of a dump to which all steps were reported
pub dumped_all : (shown : Kept) (v w : Written) (steps : List Seen) (text : List ℕ) → v ≡ start_of shown → HasReported v steps w → text ≡ with_steps w [] → text ≡ dump_of (shown_in shown) steps
dumped_all shown v w steps text start reported all =
    all ∙ reported [] ∙ ap (with_steps v) (append-nil steps) ∙ ap (λ (u : Written). with_steps u steps) start

-- ---- the run of a source

pub run_dumped : (clock : ℕ) (drives : Drives) (samples : List Sample) (left : Option (List ℕ)) (t : Reporting) (shown : Kept) (result : Result (Vec ℕ) LivesFault) → shown_in shown ≡ shown_of clock drives samples →
    ((steps : List Seen) → AreToCome t steps → AreStepsOf drives left steps) → ((line : ℕ) → IsWrongAt t line → IsFirstWrongIn (start_place 0) left 0 line) →
    IfOk result (λ text. (steps : List Seen) × AreToCome t steps × (text.items ≡ dump_of (shown_in shown) steps)) → IfWrong result (IsWrongAt t) → IsDumped clock drives samples left result
run_dumped clock drives samples left t shown (Ok dump) is start wrong all fault =
    let are = start all.0 all.1 in
    record { lines = are.lines; text = are.text; run = are.run; is = all.2 ∙ (λ i. dump_of (is i) (are.is i)) }
run_dumped clock drives samples left t shown (Err (BadTrace line)) is start wrong all fault = wrong line fault
run_dumped clock drives samples left t shown (Err Failed) is start wrong all fault = tt
run_dumped clock drives samples left t shown (Err NoMemory) is start wrong all fault = tt
