-- The steps of a run, by what a course keeps of it.
use Rattle.std.proofs.Common.{◌≡◌, ℕ, zero, suc, ◌+◌, ◌-◌, ◌<◌, ◌≤◌, Bool, true, false, Option, Some, None, Result, Ok, Err, List, [], ◌∷◌, ◌++◌, refl, sym, ap, subst, ◌∙◌, arith}
use Rattle.std.specs.Prelude.{IfOk}
use Rattle.kc_base.specs.declared.types.Level.{Level}
use Rattle.kc_trace.specs.declared.life.Signal.{Signal}
use Rattle.kc_trace.specs.declared.life.What.{What}
use Rattle.kc_trace.specs.declared.life.Event.{Event}
use Rattle.kc_trace.specs.declared.levels.Levels.{Levels}
use Rattle.kc_trace.specs.Lives.{level_after}
use Rattle.kc_trace.specs.Tables.{level_in}
use Rattle.kc_stim.specs.Drives.{Drives, IsStill}
use Rattle.kc_events.specs.declared.line.Line.{Line}
use Rattle.kc_events.specs.declared.course.Step.{Step}
use Rattle.kc_events.specs.declared.course.Step.TheVariants as step
use Rattle.kc_events.specs.declared.course.Known.{Known}
use Rattle.kc_events.specs.declared.course.Known.TheVariants.{Living, Ending, Ended}
use Rattle.kc_events.specs.Lives.{input_edges, start_levels}
use Rattle.kc_events.specs.Steps.{Seen, Passes, Ends}
use Rattle.kc_events.specs.Coming.{Present, start_of, rest_by, events_ahead, others_of, rest_at, steps_to_come, AreFrom, state_behind, AreDueIf, MayCome, MayBeNext, behind, GoesOn, IsBeyond, HasSameRest, HasPassed, IsFed, IsStillIn}
use Rattle.kc_events.specs.Underway.{Underway, present_in, running_in, state_passed, needs_line, GoesIfAhead, Gives, ReportsNone, Stepped, IsSameLife}
use Rattle.kc_events.proofs.InputLemmas.{edges_still}
use Rattle.kc_events.proofs.CourseLemmas.{at-begun, at-pushed, last_of, at_end}
use Rattle.kc_events.proofs.StartLemmas.{by-start}
use Rattle.kc_events.proofs.PassedLemmas.{has_passed, has_skipped}

-- ---- a line is fed

apart : true ≡ false → ⊥
apart e = absurd cc

pub living : (ahead : Option Event) (known : Known) → needs_line ahead known ≡ true → (known ≡ Ended → ⊥) → (ahead ≡ None) × (known ≡ Living)
living None Living needs goes = (refl, refl)
living None (Ending count is_followed) needs goes = absurd (apart (sym needs))
living None Ended needs goes = absurd (goes refl)
living (Some e) Living needs goes = absurd (apart (sym needs))
living (Some e) (Ending count is_followed) needs goes = absurd (apart (sym needs))
living (Some e) Ended needs goes = absurd (apart (sym needs))

pub goes_if : (ahead : Option Event) (known : Known) → GoesOn known → GoesIfAhead ahead known
goes_if None known goes = tt
goes_if (Some e) known goes = goes

-- what is known of a run that takes a line
abbrev pub fed_with : Underway → Option Event → Known → Underway
fed_with u ahead known = record u { ahead = ahead; known = known }

pub fed_steps : (u : Underway) (line : Line) (ahead : Option Event) (known : Known) → (u.ahead ≡ None) × (u.known ≡ Living) → IsFed line ahead known →
    (lines : List Line) → steps_to_come (running_in (fed_with u ahead known)) lines ≡ steps_to_come (running_in u) (line ∷ lines)
fed_steps u line ahead known lives fed lines = fed.steps (present_in u) lines ∙ (λ i. rest_at (present_in u) (events_ahead (sym lives.0 i)) (sym lives.1 i) (line ∷ lines))

pub fed_next : (u : Underway) (line : Line) (ahead : Option Event) (known : Known) → (u.ahead ≡ None) × (u.known ≡ Living) → IsFed line ahead known →
    (lines : List Line) → MayBeNext (running_in u) (line ∷ lines) → MayBeNext (running_in (fed_with u ahead known)) lines
fed_next u line ahead known lives fed lines h =
    let first = subst (λ a. MayCome (state_behind u.time (events_ahead a)) u.known (line ∷ lines)) lives.0 h.coming in
    let due = subst (λ k. MayCome u.time k (line ∷ lines)) lives.1 first in
    let now = fed.next u.time lines due in
    record { ahead = now.0; coming = now.1 }

-- where the run has ended, a line changes nothing
pub ended_steps : (u : Underway) (line : Line) → u.known ≡ Ended → (lines : List Line) → steps_to_come (running_in u) lines ≡ steps_to_come (running_in u) (line ∷ lines)
ended_steps u line over lines =
    (λ i. rest_at (present_in u) (events_ahead u.ahead) (over i) lines) ∙ (λ i. rest_at (present_in u) (events_ahead u.ahead) (sym over i) (line ∷ lines))

pub ended_next : (u : Underway) (line : Line) → u.known ≡ Ended → (lines : List Line) → MayBeNext (running_in u) (line ∷ lines) → MayBeNext (running_in u) lines
ended_next u line over lines h = record {
  ahead = h.ahead;
  coming = subst (λ k. MayCome (state_behind u.time (events_ahead u.ahead)) k lines) (sym over) tt;
}

-- ---- steps

pub after_none : (a b c : Underway) (next : Option Step) → ReportsNone a b → Stepped b next c → Stepped a next c
after_none a b c None first rest = record {
  steps = λ lines h. first.steps lines h ∙ rest.steps lines (first.next lines h);
  next = λ lines h. rest.next lines (first.next lines h);
}
after_none a b c (Some s) first rest = record {
  steps = λ lines h. first.steps lines h ∙ rest.steps lines (first.next lines h);
  next = λ lines h. rest.next lines (first.next lines h);
}

pub after_none_ok : {E : Type 0} (a b c : Underway) (r : Result (Option Step) E) → ReportsNone a b → IfOk r (λ next. Stepped b next c) → IfOk r (λ next. Stepped a next c)
after_none_ok a b c (Ok next) first rest = after_none a b c next first rest
after_none_ok a b c (Err e) first rest = rest

pub reports_none : (u : Underway) → ReportsNone u u
reports_none u = record { steps = λ lines h. refl; next = λ lines h. h }

-- a life begins
pub begins : (u : Underway) → u.has_begun ≡ false → GoesOn u.known → Gives u step.Begins (record u { has_begun = true })
begins u none goes = record {
  steps = λ lines h. at-begun (present_in u) (events_ahead u.ahead) (state_behind u.time (events_ahead u.ahead)) u.known lines none goes h.coming;
  next = λ lines h. record { ahead = h.ahead; coming = h.coming };
}

-- ---- an event is ahead

-- lines that may come behind it
coming_at : (u : Underway) (e : Event) (lines : List Line) → u.ahead ≡ Some e → MayBeNext (running_in u) lines → MayCome e.at u.known lines
coming_at u e lines is h = subst (λ a. MayCome (state_behind u.time (events_ahead a)) u.known lines) is h.coming

time_ahead : (u : Underway) (e : Event) (lines : List Line) → u.ahead ≡ Some e → MayBeNext (running_in u) lines → u.time ≤ e.at
time_ahead u e lines is h = (subst (λ a. AreFrom u.time (events_ahead a)) is h.ahead).0

beyond : (u : Underway) (e : Event) (lines : List Line) → u.ahead ≡ Some e → GoesOn u.known → MayBeNext (running_in u) lines → IsBeyond e.at (e ∷ []) u.known lines
beyond u e lines is goes h = record { goes = goes; events = (omega arith, tt); coming = coming_at u e lines is h }

-- a state passes on the way to it
pub event_passes : (u w : Underway) (e : Event) → u.ahead ≡ Some e → GoesOn u.known → HasPassed e.at (present_in u) (state_passed w) (present_in w) → w.time ≤ e.at → IsSameLife u w →
    Gives u (step.Passes (w.time - 1)) w
event_passes u w e is goes passed within life = record { steps = steps; next = next }
  where
    same : w.ahead ≡ Some e
    same = life.ahead ∙ is

    steps : (lines : List Line) → MayBeNext (running_in u) lines → steps_to_come (running_in u) lines ≡ Passes (state_passed w) ∷ steps_to_come (running_in w) lines
    steps lines h =
        (λ i. rest_at (present_in u) (events_ahead (is i)) u.known lines)
        ∙ passed (e ∷ []) u.known lines (beyond u e lines is goes h)
        ∙ (λ i. Passes (state_passed w) ∷ rest_at (present_in w) (events_ahead (sym same i)) (sym life.known i) lines)

    next : (lines : List Line) → MayBeNext (running_in u) lines → MayBeNext (running_in w) lines
    next lines h = record {
      ahead = subst (λ a. AreFrom w.time (events_ahead a)) (sym same) (within, tt);
      coming = subst (λ k. MayCome (state_behind w.time (events_ahead w.ahead)) k lines) (sym life.known)
          (subst (λ a. MayCome (state_behind w.time (events_ahead a)) u.known lines) (sym same) (coming_at u e lines is h));
    }

-- it happens
pub event_happens : (u w : Underway) (e : Event) → u.ahead ≡ Some e → GoesOn u.known → HasSameRest e.at (present_in u) (present_in w) → (u.time ≤ e.at → w.time ≡ e.at) → IsSameLife u w →
    ReportsNone u (record w { whats = w.whats ++ e.what ∷ []; ahead = None })
event_happens u w e is goes rest there life = record { steps = steps; next = next }
  where
    steps : (lines : List Line) → MayBeNext (running_in u) lines → steps_to_come (running_in u) lines ≡ steps_to_come (running_in (record w { whats = w.whats ++ e.what ∷ []; ahead = None })) lines
    steps lines h =
        (λ i. rest_at (present_in u) (events_ahead (is i)) u.known lines)
        ∙ rest (e ∷ []) u.known lines (beyond u e lines is goes h)
        ∙ at-pushed (present_in w) e u.known lines (sym (there (time_ahead u e lines is h)))
        ∙ (λ i. rest_at (record (present_in w) { whats = w.whats ++ e.what ∷ [] }) [] (sym life.known i) lines)

    next : (lines : List Line) → MayBeNext (running_in u) lines → MayBeNext (running_in (record w { whats = w.whats ++ e.what ∷ []; ahead = None })) lines
    next lines h = record {
      ahead = tt;
      coming = subst (λ k. MayCome w.time k lines) (sym life.known) (subst (λ t. MayCome t u.known lines) (sym (there (time_ahead u e lines is h))) (coming_at u e lines is h));
    }

-- ---- the end is known

due_at_end : (u : Underway) (count : ℕ) (is_followed : Bool) (lines : List Line) → u.ahead ≡ None → u.known ≡ Ending count is_followed → MayBeNext (running_in u) lines → AreDueIf is_followed lines
due_at_end u count is_followed lines none known h =
    let first = subst (λ a. MayCome (state_behind u.time (events_ahead a)) u.known lines) none h.coming in
    (subst (λ k. MayCome u.time k lines) known first).1

time_end : (u : Underway) (count : ℕ) (is_followed : Bool) (lines : List Line) → u.ahead ≡ None → u.known ≡ Ending count is_followed → MayBeNext (running_in u) lines → u.time ≤ count
time_end u count is_followed lines none known h =
    let first = subst (λ a. MayCome (state_behind u.time (events_ahead a)) u.known lines) none h.coming in
    (subst (λ k. MayCome u.time k lines) known first).0

beyond_end : (count : ℕ) (is_followed : Bool) (lines : List Line) → AreDueIf is_followed lines → IsBeyond count [] (Ending count is_followed) lines
beyond_end count is_followed lines due = record { goes = tt; events = tt; coming = (omega arith, due) }

-- a state passes on the way to it
pub end_passes : (u w : Underway) (count : ℕ) (is_followed : Bool) → u.ahead ≡ None → u.known ≡ Ending count is_followed →
    HasPassed count (present_in u) (state_passed w) (present_in w) → w.time ≤ count → IsSameLife u w → Gives u (step.Passes (w.time - 1)) w
end_passes u w count is_followed none known passed within life = record { steps = steps; next = next }
  where
    steps : (lines : List Line) → MayBeNext (running_in u) lines → steps_to_come (running_in u) lines ≡ Passes (state_passed w) ∷ steps_to_come (running_in w) lines
    steps lines h =
        (λ i. rest_at (present_in u) (events_ahead (none i)) (known i) lines)
        ∙ passed [] (Ending count is_followed) lines (beyond_end count is_followed lines (due_at_end u count is_followed lines none known h))
        ∙ (λ i. Passes (state_passed w) ∷ rest_at (present_in w) (events_ahead (sym (life.ahead ∙ none) i)) (sym (life.known ∙ known) i) lines)

    next : (lines : List Line) → MayBeNext (running_in u) lines → MayBeNext (running_in w) lines
    next lines h = record {
      ahead = subst (λ a. AreFrom w.time (events_ahead a)) (sym (life.ahead ∙ none)) tt;
      coming = subst (λ k. MayCome (state_behind w.time (events_ahead w.ahead)) k lines) (sym (life.known ∙ known))
          (subst (λ a. MayCome (state_behind w.time (events_ahead a)) (Ending count is_followed) lines) (sym (life.ahead ∙ none)) (within, due_at_end u count is_followed lines none known h));
    }

-- it comes
module _ (u w v : Underway) (count : ℕ) (is_followed : Bool) (none : u.ahead ≡ None) (known : u.known ≡ Ending count is_followed) (same : HasSameRest count (present_in u) (present_in w))
    (there : u.time ≤ count → w.time ≡ count) (begun : w.has_begun ≡ true) (rest : (lines : List Line) → rest_at (present_in v) [] v.known lines ≡ others_of is_followed w.drives (w.base + count) lines)
    (none_then : v.ahead ≡ None) (coming : (lines : List Line) → AreDueIf is_followed lines → MayCome v.time v.known lines) where
  end_steps : (lines : List Line) → MayBeNext (running_in u) lines → steps_to_come (running_in u) lines ≡ last_of count ++ steps_to_come (running_in v) lines
  end_steps lines h =
      (λ i. rest_at (present_in u) (events_ahead (none i)) (known i) lines)
      ∙ same [] (Ending count is_followed) lines (beyond_end count is_followed lines (due_at_end u count is_followed lines none known h))
      ∙ at_end (present_in w) count is_followed lines begun (there (time_end u count is_followed lines none known h))
      ∙ ap (λ (seen : List Seen). last_of count ++ seen) (sym (rest lines))
      ∙ (λ i. last_of count ++ rest_at (present_in v) (events_ahead (sym none_then i)) v.known lines)

  end_next : (lines : List Line) → MayBeNext (running_in u) lines → MayBeNext (running_in v) lines
  end_next lines h = record {
    ahead = subst (λ a. AreFrom v.time (events_ahead a)) (sym none_then) tt;
    coming = subst (λ a. MayCome (state_behind v.time (events_ahead a)) v.known lines) (sym none_then) (coming lines (due_at_end u count is_followed lines none known h));
  }

  -- a life without a state
  pub end_none : count ≡ 0 → ReportsNone u v
  end_none is = record { steps = λ lines h. end_steps lines h ∙ ap (λ n. last_of n ++ steps_to_come (running_in v) lines) is; next = end_next }

  pub end_gives : 0 < count → Gives u (step.Ends (count - 1)) v
  end_gives some = record { steps = λ lines h. end_steps lines h ∙ ap (λ (seen : List Seen). seen ++ steps_to_come (running_in v) lines) (last_some count some); next = end_next }
    where
      last_some : (n : ℕ) → 0 < n → last_of n ≡ Ends (n - 1) ∷ []
      last_some zero some = absurd (omega (arith, some))
      last_some (suc n) some = let less : n ≡ suc n - 1 = omega arith in ap (λ t. Ends t ∷ []) less

-- ---- states

-- the present state has passed on the way to a later one
pub reach_passes : (u c w : Underway) (at : ℕ) → HasSameRest at (present_in u) (present_in c) → c.has_begun ≡ true → (c.whats ≡ [] → ⊥) → c.time < at → present_in w ≡ behind (present_in c) → w.passed ≡ c.whats →
    HasPassed at (present_in u) (state_passed w) (present_in w)
reach_passes u c w at same begun some less there passed = λ reported known lines b.
    same reported known lines b ∙ has_passed (present_in c) at begun some (omega (arith, less)) reported known lines b
    ∙ (λ i. Passes (record { at = time i; whats = sym passed i }) ∷ rest_at (sym there i) reported known lines)
  where
    time : c.time ≡ w.time - 1
    time = let later : w.time ≡ c.time + 1 = ap (λ (p : Present). p.now) there in omega (arith, later)

pub reach_same : (u c w : Underway) (at : ℕ) → HasSameRest at (present_in u) (present_in c) → HasSameRest at (present_in c) (present_in w) → HasSameRest at (present_in u) (present_in w)
reach_same u c w at first rest = λ reported known lines b. first reported known lines b ∙ rest reported known lines b

pub reach_none : (u : Underway) (at : ℕ) → HasSameRest at (present_in u) (present_in u)
reach_none u at = λ reported known lines b. refl

-- behind the present state
pub pass_behind : (u : Underway) (levels : Levels) (whats : List What) → ((signal : Signal) → level_in levels signal ≡ level_after signal (level_in u.levels signal) u.whats) →
    whats ≡ input_edges u.drives (level_in levels) (u.base + (u.time + 1)) → (w : Underway) → w ≡ record u { time = u.time + 1; levels = levels; whats = whats; passed = w.passed } → present_in w ≡ behind (present_in u)
pass_behind u levels whats all edges w is =
    let level : level_in levels ≡ (behind (present_in u)).levels = λ i signal. all signal i in
    let there = edges ∙ ap (λ (l : Signal → Level). input_edges u.drives l (u.base + (u.time + 1))) level in
    ap present_in is ∙ (λ i. record (present_in u) { now = u.time + 1; levels = level i; whats = there i })

-- in a later state, before which nothing happens
pub skip_same : (u : Underway) (at to : ℕ) (whats : List What) → u.time < to → u.has_begun ≡ true → u.whats ≡ [] → to ≤ at → IsStillIn (present_in u) →
    ((t : ℕ) → u.time < t → t < to → IsStill u.drives.stimuli (u.base + t)) → whats ≡ input_edges u.drives (level_in u.levels) (u.base + to) →
    HasSameRest at (present_in u) (present_in (record u { time = to; whats = whats }))
skip_same u at to whats later begun none within still quiet edges =
    let p = present_in u in
    let rest = has_skipped p at to later begun none within (λ t after before. edges_still u.drives (level_in u.levels) (u.base + u.time) (u.base + t) (quiet t after before) (still none)) in
    subst (λ q. HasSameRest at p q) (λ i. record p { now = to; whats = sym edges i }) rest

-- ---- the start of a life

pub start_is : (d : Drives) (base : ℕ) (levels : Levels) (whats : List What) → level_in levels ≡ start_levels d base → whats ≡ input_edges d (level_in levels) base →
    (p : Present) → p ≡ record { drives = d; base = base; now = 0; levels = level_in levels; whats = whats; has_begun = false } → p ≡ start_of d base
start_is d base levels whats level edges p is =
    let there = edges ∙ ap (λ (l : Signal → Level). input_edges d l base) level in
    is ∙ (λ i. record { drives = d; base = base; now = 0; levels = level i; whats = there i; has_begun = false })

pub start_rest : (d : Drives) (base : ℕ) (p : Present) → p ≡ start_of d base → (lines : List Line) → rest_at p [] Living lines ≡ others_of true d base lines
start_rest d base p is lines = ap (λ (q : Present). rest_by q [] lines) is ∙ sym (by-start d base [] lines)
