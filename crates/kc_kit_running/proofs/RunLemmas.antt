-- The response of a run.
use Rattle.std.proofs.Common.{◌≡◌, inl, inr, ℕ, ◌<◌, List, [], ◌∷◌, ◌++◌, length, length-append, Option, Some, None, refl, sym, ◌∙◌, ap, subst, arith}
use Rattle.std.specs.List.{Any}
use Rattle.std.specs.Option.{unwrap_or}
use Rattle.std.proofs.lemmas.List.{get_or_push, get_or_append_left, length_push}
use Rattle.kc_base.specs.Causes.{Rose, Grew, GrewByPart}
use Rattle.kc_trace.specs.Out.{Out, Puts}
use Rattle.kc_trace.specs.Text.{text_of}
use Rattle.kc_trace.proofs.Outs.{GrewByPart-longer, Puts-append}
use Rattle.kc_trace.proofs.Printed.{text_of-append}
use Rattle.kc_machine_spec.specs.declared.doing.End.{End}
use Rattle.kc_machine_spec.specs.declared.doing.End.TheVariants as end
use Rattle.kc_machine_spec.specs.Machine.{Machine, Stepped}
use Rattle.kc_machine_spec.specs.Run.{end_of}
use Rattle.kc_machine_spec.specs.Text.{trace_of, finals, HasRun}
use Rattle.kc_machine_spec.proofs.Runs.{run_for-has_run}
use Rattle.kc_kit_files.specs.declared.status.Status.{Status}
use Rattle.kc_kit_files.specs.declared.status.Status.TheVariants as status
use Rattle.kc_trace.specs.declared.record.Record.TheVariants.{Stopped}
use Rattle.kc_trace.specs.declared.trace.Counts.{Counts}
use Rattle.kc_trace.specs.Counting.{counted_all}
use Rattle.kc_trace.specs.Text.{line_of}
use Rattle.kc_machine_spec.specs.Text.{end_state, end_number}
use Rattle.kc_kit_files.specs.declared.ended.Ended.{Ended}
use Rattle.kc_kit_files.specs.declared.ended.Said.TheVariants as said
use Rattle.kc_kit_files.specs.Ended.{said_in, EndsBy}
use Rattle.kc_kit_running.specs.Counted.{no_counts, counts_text, summary}
use Rattle.kc_kit_files.specs.Response.{Response}
use Rattle.kc_kit_files.specs.Outside.{Kept, Shown}
use Rattle.kc_kit_inputs.specs.declared.driving.Driving.{Driving}
use Rattle.kc_kit_running.specs.Fitted.{FittedUnit, fitted_further}
use Rattle.kc_kit_running.specs.Sources.{FileLines, no_lines}
use Rattle.kc_kit_running.specs.Running.{machine_of, run_of, run_response, ends_with, said_of, status_of, IsEndOf, IsUndefined}

-- ---- how a command has ended whose run has ended so

-- behind other pauses
pub last-pause : (P : List ℕ → Type 0) (pauses : List (List ℕ)) (text : List ℕ) → P text → Any P (pauses ++ text ∷ [])
last-pause P pauses text p = (length pauses, text, omega (arith, length_push pauses text), get_or_push pauses text text (length pauses) refl, p)

-- a pause of some is one of those and of more
pub any-left : (P : List ℕ → Type 0) (some more : List (List ℕ)) → Any P some → Any P (some ++ more)
any-left P some more h = (h.0, h.1, omega (arith, h.2, length-append some more), get_or_append_left some more h.1 h.0 h.2 ∙ h.3, h.4)

pub any-map : (P Q : List ℕ → Type 0) (pauses : List (List ℕ)) → ((text : List ℕ) → P text → Q text) → Any P pauses → Any Q pauses
any-map P Q pauses f h = (h.0, h.1, h.2, h.3, f h.1 h.4)

-- the text is printed whole, and nothing is written
pub run-ended : (lines : FileLines) (how : End) (text : List ℕ) (pauses : List (List ℕ)) (may : Response → Type 0) (files : Kept) (old new : Shown) (ended : Ended) → may (ends_with lines how text pauses) → IsEndOf lines how ended →
    Grew old.written text new.written → EndsBy may files old ended.status ended.said files new
run-ended lines how text pauses may files old new ended m (inl h) g = subst (λ (s : Status). EndsBy may files old s ended.said files new) (sym h.0) (whole how m h.1)
  where
    whole : (w : End) → may (ends_with lines w text pauses) → said_in ended.said ≡ said_of lines w → EndsBy may files old (status_of w) ended.said files new
    whole end.Spent k e = record { response = ends_with lines end.Spent text pauses; is_answer = (k, sym e); status = refl; text = g; files = refl }
    whole end.Powerdown k e = record { response = ends_with lines end.Powerdown text pauses; is_answer = (k, sym e); status = refl; text = g; files = refl }
    whole end.Reset k e = record { response = ends_with lines end.Reset text pauses; is_answer = (k, sym e); status = refl; text = g; files = refl }
    whole (end.Undefined what access) k e = record { response = ends_with lines (end.Undefined what access) text pauses; is_answer = (k, sym e); status = refl; text = g; files = refl }
run-ended lines how text pauses may files old new ended m (inr h) g = subst (λ (s : Status). EndsBy may files old s ended.said files new) (sym h.0) (cut how m h.1)
  where
    cut : (w : End) → may (ends_with lines w text pauses) → IsUndefined w → EndsBy may files old status.NoMemory ended.said files new
    cut end.Spent k e = absurd e
    cut end.Powerdown k e = absurd e
    cut end.Reset k e = absurd e
    cut (end.Undefined what access) k e = record {
      text = inr (ends_with lines (end.Undefined what access) text pauses, k, last-pause (λ prefix. Grew old.written prefix new.written) pauses text g);
      files = inl refl;
    }

-- the sink has failed in the text
pub run-failed : (response : Response) (may : Response → Type 0) (files : Kept) (old new : Shown) (ended : Ended) → may response → ended.status ≡ status.WriteFault → ended.said ≡ said.Nothing → GrewByPart old.written response.text new.written →
    Rose old.faults new.faults → EndsBy may files old ended.status ended.said files new
run-failed response may files old new ended m e f h c = rw (e, f) (record { response = response; is_answer = m; text = h; cause = c; files = refl })

-- memory runs out at a pause
pub run-paused : (response : Response) (may : Response → Type 0) (files : Kept) (old new : Shown) (ended : Ended) → may response → ended.status ≡ status.NoMemory → Any (λ prefix. Grew old.written prefix new.written) response.pauses →
    EndsBy may files old ended.status ended.said files new
run-paused response may files old new ended m e p = subst (λ (s : Status). EndsBy may files old s ended.said files new) (sym e) (record { text = inr (response, m, p); files = inl refl })

-- memory runs out before anything is printed
pub run-unbegun : (may : Response → Type 0) (files : Kept) (old : Shown) (ended : Ended) → ended.status ≡ status.NoMemory → EndsBy may files old ended.status ended.said files old
run-unbegun may files old ended e = subst (λ (s : Status). EndsBy may files old s ended.said files old) (sym e) (record { text = inl refl; files = inl refl })

-- the end of a run, with its text whole
pub run-whole : {X : Type 0} (lines : FileLines) (ran : Stepped X) (may : Response → Type 0) (files : Kept) (old new : Shown) (how : End) (ended : Ended) → may (run_response lines ran) → how ≡ end_of ran.machine → IsEndOf lines how ended →
    Grew old.written (trace_of ran) new.written → EndsBy may files old ended.status ended.said files new
run-whole lines ran may files old new how ended m e h g = run-ended lines (end_of ran.machine) (trace_of ran) [] may files old new ended m (subst (λ (w : End). IsEndOf lines w ended) e h) g

-- what is known of a run whose lines are counted
pub summary-is : (number : ℕ) (ran : Stepped FittedUnit) (text : List ℕ) (counts : Counts) (how : End) (now : ℕ) → text ≡ counts_text number counts ++ line_of (Stopped (end_state how now) (end_number how)) →
    counts ≡ counted_all ran.records no_counts → how ≡ end_of ran.machine → now ≡ ran.machine.time → ends_with no_lines how text [] ≡ summary number ran
summary-is number ran text counts how now t c h n = rw (t, c, h, n) refl

-- the lines of a run and its finals
pub Puts-trace : {X : Type 0} (ran : Stepped X) (old mid new : Out) (how : End) (machine : Machine X) → how ≡ end_of ran.machine → machine ≡ ran.machine → Puts old (text_of ran.records) mid → Puts mid (text_of (finals how machine)) new → Puts old (trace_of ran) new
Puts-trace ran old mid new how machine e f h k =
    let last = finals (end_of ran.machine) ran.machine in
    let written : Puts mid (text_of last) new =
    subst (λ m. Puts mid (text_of (finals (end_of ran.machine) m)) new) f (subst (λ (w : End). Puts mid (text_of (finals w machine)) new) e k) in
    subst (λ text. Puts old text new) (sym (text_of-append ran.records last)) (Puts-append old (text_of ran.records) mid (text_of last) new h written)

-- a prefix of the lines of a run
pub GrewByPart-trace : {X : Type 0} (ran : Stepped X) (old new : Option (List ℕ)) → GrewByPart old (text_of ran.records) new → GrewByPart old (trace_of ran) new
GrewByPart-trace ran old new h =
    let last = text_of (finals (end_of ran.machine) ran.machine) in
    subst (λ text. GrewByPart old text new) (sym (text_of-append ran.records (finals (end_of ran.machine) ran.machine)))
    (GrewByPart-longer old (text_of ran.records) last new h)

-- a machine of an image that was reset has run
pub HasRun-start : (states : ℕ) (driving : Driving) (image : List ℕ) (machine : Machine FittedUnit) (how : End) → machine ≡ (run_of states driving image).machine → how ≡ end_of machine → HasRun how machine.time
HasRun-start states driving image machine how e f = by_end machine.ended refl
  where
    has_run : (over : End) → machine.ended ≡ Some over → 0 < machine.time
    has_run over g = subst (λ (m : Machine FittedUnit). 0 < m.time) (sym e) (run_for-has_run fitted_further _ (machine_of driving image) over refl (ap (λ (m : Machine FittedUnit). m.ended) (sym e) ∙ g))

    of_how : (w : End) → 0 < machine.time → HasRun w machine.time
    of_how end.Spent h = tt
    of_how end.Powerdown h = h
    of_how end.Reset h = h
    of_how (end.Undefined what access) h = tt

    by_end : (ended : Option End) → machine.ended ≡ ended → HasRun how machine.time
    by_end (Some over) g = of_how how (has_run over g)
    by_end None g = subst (λ (w : End). HasRun w machine.time) (sym (f ∙ ap (λ (o : Option End). unwrap_or o end.Spent) g)) tt
