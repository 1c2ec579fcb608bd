-- The steps of a run whose trace is read line by line.
use Rattle.std.proofs.Common.{◌≡◌, ℕ, ◌+◌, ◌<◌, ◌≤◌, ◌^◌, true, false, Option, Some, None, Result, Ok, Err, List, [], ◌∷◌, refl, sym, ap, subst, ◌∙◌, arith}
use Rattle.std.specs.Prelude.{nat_le}
use Rattle.std.specs.Io.KnownBytes.{Keeps, IsAtEnd}
use Rattle.std.proofs.lemmas.Bool.{leb-true, and_parts}
use Rattle.kc_base.specs.Limits.{max_states}
use Rattle.kc_base.specs.Causes.{Rose}
use Rattle.kc_base.specs.TextLines.{text_lines}
use Rattle.kc_base.proofs.Words.{no_lines}
use Rattle.kc_byte_source.specs.Feed.{GaveLine}
use Rattle.kc_trace.specs.declared.life.Event.{Event}
use Rattle.kc_stim.specs.Drives.{Drives}
use Rattle.kc_trace.specs.declared.record.Record.TheVariants.{Pin, Entered, Served, Undef, Stopped, Pc, Psw, Wsr, Registers}
use Rattle.kc_events.specs.declared.line.Line.{Line}
use Rattle.kc_events.specs.declared.line.Line.TheVariants.{Printed, Restarted}
use Rattle.kc_events.specs.declared.reader.Stage.{Stage}
use Rattle.kc_events.specs.declared.reader.Stage.TheVariants as stage
use Rattle.kc_events.specs.declared.course.Step.{Step}
use Rattle.kc_events.specs.declared.course.Known.{Known}
use Rattle.kc_events.specs.declared.course.Known.TheVariants.{Living, Ending, Ended}
use Rattle.kc_events.specs.declared.lives.LivesFault.{LivesFault}
use Rattle.kc_events.specs.declared.lives.LivesFault.TheVariants.{BadTrace, Failed, NoMemory}
use Rattle.kc_events.specs.Lines.{line_text}
use Rattle.kc_events.specs.Grammar.{Place, start_place, may_restart, may_follow, MayFollow, after_line, AreLines, place_after, is_over, IsRun}
use Rattle.kc_events.specs.Printed.{place_in}
use Rattle.kc_events.specs.Reading.{Reading, GaveNext, IsWrong, IsWrongNext, one_more}
use Rattle.kc_events.specs.Steps.{Seen}
use Rattle.kc_events.specs.Coming.{Present, start_of, rest_by, events_ahead, rest_at, steps_to_come, AreFrom, AreDue, state_behind, MayCome, MayBeNext, IsStillIn}
use Rattle.kc_events.specs.Underway.{Underway, present_in, running_in, seen_by, needs_line, base_ahead, base_behind, IsOpen, IsEarly, Gives, ReportsNone, KeepsBase}
use Rattle.kc_events.specs.Reporting.{Reporting, HasText, AreToCome, AreStepsOf, count_with, IsFirstWrongIn, IsBehind, IsAnswer, IsInStep, reporting, HasRead}
use Rattle.kc_events.proofs.StartLemmas.{by-start}
use Rattle.kc_events.proofs.DueLemmas.{due_start}

-- ---- the text

text_more : (left now : Option (List ℕ)) (line : Line) (lines : List Line) → GaveLine left (line_text line) now → HasText now lines → HasText left (line ∷ lines)
text_more None now line lines gave h = tt
text_more (Some text) None line lines gave h = absurd gave
text_more (Some text) (Some rest) line lines gave h = gave ∙ ap (λ (texts : List (List ℕ)). line_text line ∷ texts) h

text_kept : (left now : Option (List ℕ)) (lines : List Line) → Keeps left now → HasText now lines → HasText left lines
text_kept None now lines kept h = tt
text_kept (Some text) None lines kept h = absurd kept
text_kept (Some text) (Some rest) lines kept h = ap text_lines (sym kept) ∙ h

text_over : (left : Option (List ℕ)) → IsAtEnd left → HasText left []
text_over None over = tt
text_over (Some text) over = ap text_lines over ∙ no_lines

-- ---- one line more

run_more : (p : Place) (line : Line) (lines : List Line) → MayFollow p line → IsRun (after_line p line) lines → IsRun p (line ∷ lines)
unfolding AreLines place_after
run_more p line lines fits run = record { follow = (fits, run.follow); whole = run.whole }

-- a line behind the next is behind this one
later : (count n : ℕ) → one_more (one_more count) ≤ n → one_more count ≤ n
later count n h = grind (arith, h)

one_higher : (count : ℕ) → count < 2 ^ 64 → (count ≤ one_more count) × (one_more count < 2 ^ 64)
one_higher count few = grind (arith, few)

-- lines that are counted make a number no lower
counted : (lines : List Line) (count : ℕ) → count < 2 ^ 64 → count ≤ count_with count lines
unfolding count_with
counted [] count few = omega arith
counted (line ∷ lines) count few =
    let higher = one_higher count few in
    let rest = counted lines (one_more count) higher.1 in
    omega (arith, higher.0, rest)

-- lines that are counted come behind the next
counted_behind : (lines : List Line) (count : ℕ) → one_more count ≤ one_more (count_with count lines)
unfolding count_with
counted_behind [] count = omega arith
counted_behind (line ∷ lines) count =
    let behind = counted_behind lines (one_more count) in
    later count (one_more (count_with (one_more count) lines)) behind

number_behind : (count more n : ℕ) (lines : List Line) → more ≡ count → n ≡ one_more (count_with more lines) → (one_more count ≤ n) × (n < 2 ^ 64)
number_behind count more n lines is number =
    let behind : one_more more ≤ one_more (count_with more lines) = counted_behind lines more in
    grind (arith, is, number, behind)

number_later : (count more n : ℕ) (lines : List Line) → more ≡ one_more count → n ≡ one_more (count_with more lines) → (one_more count ≤ n) × (n < 2 ^ 64)
number_later count more n lines is number =
    let low : more < 2 ^ 64 = grind (arith, is) in
    let high = counted lines more low in
    grind (arith, is, number, high, low)

wrong_more : (p q : Place) (left now : Option (List ℕ)) (count more : ℕ) (line : Line) → GaveLine left (line_text line) now → MayFollow p line → q ≡ after_line p line → more ≡ one_more count →
    (n : ℕ) → IsFirstWrongIn q now more n → IsFirstWrongIn p left count n
unfolding AreLines place_after count_with
wrong_more p q None None count more line gave fits there is n w = (later count n (subst (λ k. one_more k ≤ n) is w.0), w.1)
wrong_more p q None (Some rest) count more line gave fits there is n w = number_later count more n w.before is w.number
wrong_more p q (Some text) None count more line gave fits there is n w = absurd gave
wrong_more p q (Some text) (Some rest) count more line gave fits there is n w = record {
  before = line ∷ w.before;
  others = w.others;
  spelled = gave ∙ ap (λ (texts : List (List ℕ)). line_text line ∷ texts) w.spelled;
  follow = (fits, subst (λ r. AreLines r w.before) there w.follow);
  wrong = subst (λ r. IsWrong (place_after r w.before) w.others) there w.wrong;
  number = w.number ∙ (λ i. one_more (count_with (is i) w.before));
}

-- the first of these lines is wrong
pub wrong_first : (p : Place) (left : Option (List ℕ)) (count n : ℕ) → n ≡ one_more count → IsWrongNext p left → IsFirstWrongIn p left count n
unfolding AreLines place_after count_with
wrong_first p None count n is wrong = grind (arith, is)
wrong_first p (Some text) count n is wrong = record { before = []; others = text_lines text; spelled = refl; follow = tt; wrong = wrong; number = is }

-- a line was read, and the course was fed with it
pub has_read : (a b : Reading) (c d : Underway) (line : Line) → GaveNext a line b → b.count ≡ one_more a.count → b.faults ≡ a.faults →
    ((lines : List Line) → steps_to_come (running_in d) lines ≡ steps_to_come (running_in c) (line ∷ lines)) → HasRead (reporting a c) (reporting b d)
has_read a b c d line gave count calm fed = record {
  steps = λ steps h. record {
    lines = line ∷ h.lines;
    text = text_more a.left b.left line h.lines gave.text h.text;
    run = run_more (place_in a.reader) line h.lines gave.fits (subst (λ p. IsRun p h.lines) gave.place h.run);
    reported = h.reported ∙ fed h.lines;
  };
  wrong = λ n w. wrong_more (place_in a.reader) (place_in b.reader) a.left b.left a.count b.count line gave.text gave.fits gave.place count n w;
  calm = calm;
}

after_base : (p : Place) (line : Line) → (after_line p line).base ≡ base_behind p.base line
after_base p (Printed (Pin at edge)) = refl
after_base p (Printed (Entered at vector back)) = refl
after_base p (Printed (Served at vector mode count)) = refl
after_base p (Printed (Undef what)) = refl
after_base p (Printed (Stopped at how)) = refl
after_base p (Printed (Pc value)) = refl
after_base p (Printed (Psw value)) = refl
after_base p (Printed (Wsr value)) = refl
after_base p (Printed (Registers base bytes)) = refl
after_base p (Restarted at by_watchdog) = refl

near : (a : Reading) (c : Underway) → IsInStep (reporting a c) → c.known ≡ Living → (place_in a.reader).base ≡ c.base
near a c h lives = h.base (subst IsOpen (sym lives) tt) ∙ ap (base_ahead c.base) lives

pub fed_in_step : (a b : Reading) (c d : Underway) (line : Line) → IsInStep (reporting a c) → GaveNext a line b → ((lines : List Line) → MayBeNext (running_in c) (line ∷ lines) → MayBeNext (running_in d) lines) →
    (IsOpen d.known → base_ahead d.base d.known ≡ base_behind c.base line) → (IsOpen d.known → c.known ≡ Living) → present_in d ≡ present_in c → IsInStep (reporting b d)
fed_in_step a b c d line h gave next base lives same = record {
  still = subst IsStillIn (sym same) h.still;
  base = λ is. ap (λ (p : Place). p.base) gave.place ∙ after_base (place_in a.reader) line ∙ (λ i. base_behind (near a c h (lives is) i) line) ∙ sym (base is);
  due = λ lines run. next lines (h.due (line ∷ lines) (run_more (place_in a.reader) line lines gave.fits (subst (λ p. IsRun p lines) gave.place run)));
}

apart : true ≡ false → ⊥
apart e = absurd cc

restart_early : (p : Place) (s : Stage) (at : ℕ) → may_restart p s at ≡ true → p.base + at ≤ max_states
restart_early p stage.Living at fits = leb-true (p.base + at) max_states (and_parts (nat_le p.past (at + 1)) (nat_le (p.base + at) max_states) fits).1
restart_early p (stage.Broken t) at fits = absurd (apart (sym fits))
restart_early p (stage.Over n) at fits = absurd (apart (sym fits))

early_by : (p : Place) (base : ℕ) (known : Known) (line : Line) → (known ≡ Living → p.base ≡ base) → may_follow p line ≡ true → IsEarly base known line
early_by p base Living (Printed item) same fits = tt
early_by p base Living (Restarted at by_watchdog) same fits = subst (λ b. b + at ≤ max_states) (same refl) (restart_early p p.stage at fits)
early_by p base (Ending count is_followed) line same fits = tt
early_by p base Ended line same fits = tt

pub early_line : (a : Reading) (c : Underway) (line : Line) → IsInStep (reporting a c) → MayFollow (place_in a.reader) line → IsEarly c.base c.known line
early_line a c line h fits = early_by (place_in a.reader) c.base c.known line (near a c h) fits.fits

-- ---- no line more

none_to_come : (p : Present) (ahead : Option Event) (known : Known) → needs_line ahead known ≡ true → [] ≡ rest_at p (events_ahead ahead) known []
unfolding rest_by
none_to_come p None Living needs = refl
none_to_come p None (Ending count is_followed) needs = absurd (apart (sym needs))
none_to_come p None Ended needs = refl
none_to_come p (Some e) Living needs = absurd (apart (sym needs))
none_to_come p (Some e) (Ending count is_followed) needs = absurd (apart (sym needs))
none_to_come p (Some e) Ended needs = absurd (apart (sym needs))

run_over : (p : Place) → is_over p.stage ≡ true → IsRun p []
unfolding AreLines place_after
run_over p over = record { follow = tt; whole = over }

pub none_left : (a : Reading) (c : Underway) → IsAtEnd a.left → is_over a.reader.stage ≡ true → needs_line c.ahead c.known ≡ true → AreToCome (reporting a c) []
none_left a c over whole needs = record { lines = []; text = text_over a.left over; run = run_over (place_in a.reader) whole; reported = none_to_come (present_in c) c.ahead c.known needs }

-- nothing was read
pub same_in_step : (a b : Reading) (c : Underway) → b.reader ≡ a.reader → IsInStep (reporting a c) → IsInStep (reporting b c)
same_in_step a b c same h = record {
  still = h.still;
  base = λ is. ap (λ k. (place_in k).base) same ∙ h.base is;
  due = λ lines run. h.due lines (subst (λ k. IsRun (place_in k) lines) same run);
}

wrong_kept : (p q : Place) (left now : Option (List ℕ)) (count more : ℕ) → q ≡ p → Keeps left now → more ≡ count → (n : ℕ) → IsFirstWrongIn q now more n → IsFirstWrongIn p left count n
wrong_kept p q None None count more same kept is n w = (subst (λ k. one_more k ≤ n) is w.0, w.1)
wrong_kept p q None (Some rest) count more same kept is n w =
    number_behind count more n w.before is w.number
wrong_kept p q (Some text) None count more same kept is n w = absurd kept
wrong_kept p q (Some text) (Some rest) count more same kept is n w = record {
  before = w.before;
  others = w.others;
  spelled = ap text_lines (sym kept) ∙ w.spelled;
  follow = subst (λ r. AreLines r w.before) same w.follow;
  wrong = subst (λ r. IsWrong (place_after r w.before) w.others) same w.wrong;
  number = w.number ∙ ap (λ m. one_more (count_with m w.before)) is;
}

pub nothing_read : (a b : Reading) (c : Underway) → b.reader ≡ a.reader → Keeps a.left b.left → b.count ≡ a.count → IsBehind (reporting a c) [] (reporting b c)
nothing_read a b c same kept is = record {
  steps = λ steps h. record {
    lines = h.lines;
    text = text_kept a.left b.left h.lines kept h.text;
    run = subst (λ k. IsRun (place_in k) h.lines) same h.run;
    reported = h.reported;
  };
  wrong = λ n w. wrong_kept (place_in a.reader) (place_in b.reader) a.left b.left a.count b.count (ap place_in same) kept is n w;
}

-- ---- a step of the course

pub gave_step : (a : Reading) (c d : Underway) (step : Step) → IsInStep (reporting a c) → Gives c step d → IsBehind (reporting a c) (seen_by step d ∷ []) (reporting a d)
gave_step a c d step h gives = record {
  steps = λ steps t. record {
    lines = t.lines;
    text = t.text;
    run = t.run;
    reported = ap (λ (seen : List Seen). seen_by step d ∷ seen) t.reported ∙ sym (gives.steps t.lines (h.due t.lines t.run));
  };
  wrong = λ n w. w;
}

pub gave_in_step : (a : Reading) (c d : Underway) (step : Step) → IsInStep (reporting a c) → Gives c step d → KeepsBase c d → IsStillIn (present_in d) → IsInStep (reporting a d)
gave_in_step a c d step h gives keeps still = record {
  still = still;
  base = λ is. h.base (keeps is).0 ∙ sym (keeps is).1;
  due = λ lines run. gives.next lines (h.due lines run);
}

pub reported_none : (a : Reading) (c d : Underway) → IsInStep (reporting a c) → ReportsNone c d → HasRead (reporting a c) (reporting a d)
reported_none a c d h none = record {
  steps = λ steps t. record { lines = t.lines; text = t.text; run = t.run; reported = t.reported ∙ sym (none.steps t.lines (h.due t.lines t.run)) };
  wrong = λ n w. w;
  calm = refl;
}

pub none_in_step : (a : Reading) (c d : Underway) → IsInStep (reporting a c) → ReportsNone c d → KeepsBase c d → IsStillIn (present_in d) → IsInStep (reporting a d)
none_in_step a c d h none keeps still = record {
  still = still;
  base = λ is. h.base (keeps is).0 ∙ sym (keeps is).1;
  due = λ lines run. none.next lines (h.due lines run);
}

-- ---- one behind the other

pub read_none : (t : Reporting) → HasRead t t
read_none t = record { steps = λ steps h. h; wrong = λ n w. w; calm = refl }

pub read_after : (a b c : Reporting) → HasRead a b → HasRead b c → HasRead a c
read_after a b c first rest = record {
  steps = λ steps h. first.steps steps (rest.steps steps h);
  wrong = λ n w. first.wrong n (rest.wrong n w);
  calm = rest.calm ∙ first.calm;
}

pub answer_after : (a b c : Reporting) (result : Result (Option Step) LivesFault) → HasRead a b → IsAnswer b result c → IsAnswer a result c
answer_after a b c (Ok (Some step)) first answer = record {
  steps = λ steps h. first.steps (seen_by step c.course ∷ steps) (answer.steps steps h);
  wrong = λ n w. first.wrong n (answer.wrong n w);
}
answer_after a b c (Ok None) first answer = first.steps [] answer
answer_after a b c (Err (BadTrace line)) first answer = first.wrong line answer
answer_after a b c (Err Failed) first answer = (
  subst (λ n. Rose n c.trace.faults) first.calm answer.0,
  record { steps = λ steps h. first.steps steps (answer.1.steps steps h); wrong = λ n w. first.wrong n (answer.1.wrong n w) },
)
answer_after a b c (Err NoMemory) first answer = tt

-- ---- the start

pub start_steps : (a : Reading) (c : Underway) (d : Drives) (left : Option (List ℕ)) → place_in a.reader ≡ start_place 0 → a.left ≡ left → present_in c ≡ start_of d 0 → c.ahead ≡ None → c.known ≡ Living →
    (steps : List Seen) → AreToCome (reporting a c) steps → AreStepsOf d left steps
start_steps a c d left place text present none lives steps h = record {
  lines = h.lines;
  text = subst (λ t. HasText t h.lines) text h.text;
  run = subst (λ p. IsRun p h.lines) place h.run;
  is = h.reported ∙ (λ i. rest_at (present i) (events_ahead (none i)) (lives i) h.lines) ∙ sym (by-start d 0 [] h.lines);
}

pub start_wrong : (a : Reading) (left : Option (List ℕ)) → place_in a.reader ≡ start_place 0 → a.left ≡ left → a.count ≡ 0 → (n : ℕ) →
    IsFirstWrongIn (place_in a.reader) a.left a.count n → IsFirstWrongIn (start_place 0) left 0 n
start_wrong a left place text none n w = subst (λ m. IsFirstWrongIn (start_place 0) left m n) none (subst (λ t. IsFirstWrongIn (start_place 0) t a.count n) text (subst (λ p. IsFirstWrongIn p a.left a.count n) place w))

pub start_in_step : (a : Reading) (c : Underway) (d : Drives) → place_in a.reader ≡ start_place 0 → present_in c ≡ start_of d 0 → c.ahead ≡ None → c.known ≡ Living → IsStillIn (present_in c) → IsInStep (reporting a c)
start_in_step a c d place present none lives still = record {
  still = still;
  base = λ is. ap (λ (p : Place). p.base) place ∙ sym (ap (λ (p : Present). p.base) present) ∙ sym (ap (base_ahead c.base) lives);
  due = λ lines run. record {
    ahead = subst (λ o. AreFrom c.time (events_ahead o)) (sym none) tt;
    coming = subst (λ k. MayCome (state_behind c.time (events_ahead c.ahead)) k lines) (sym lives)
        (subst (λ o. AreDue (state_behind c.time (events_ahead o)) lines) (sym none) (subst (λ t. AreDue t lines) (sym (ap (λ (p : Present). p.now) present)) (due_start lines (subst (λ p. IsRun p lines) place run))));
  };
}
