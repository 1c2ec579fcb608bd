-- A script over lives on its way: so many commands have been carried out.
use Rattle.std.proofs.Common.{◌≡◌, ℕ, ◌+◌, ◌*◌, ◌<◌, ◌≤◌, Bool, false, true, if◌then◌else◌, cond, List, [], ◌∷◌, ◌++◌, map, length, drop, take, Option, Some, None, Result, Ok, Err, Any, OnOk, IfSome, unwrap_or, count_by, refl, sym, ap, subst, ◌∙◌, append_assoc, append-nil, length-append, arith}
use Rattle.std.proofs.lemmas.List.{drop_all}
use Rattle.std.proofs.lemmas.List.Sums.{sum_by-append}
use Rattle.circular_buffer.specs.Buffer.{Buffer, buffer, keep_last}
use Rattle.kc_base.specs.Limits.{max_states}
use Rattle.kc_extra.specs.declared.extra.Extra as extra
use Rattle.kc_extra.specs.declared.pair.Pair.{Pair}
use Rattle.kc_extra.specs.Further.{Further}
use Rattle.kc_extra.specs.Pins.{are_apart}
use Rattle.kc_stim.specs.Drives.{Drives, driven_from}
use Rattle.kc_trace.specs.Out.{Out, Puts}
use Rattle.kc_trace.proofs.Outs.{Puts-nothing, Puts-longer}
use Rattle.kc_machine_spec.specs.declared.doing.End.{End}
use Rattle.kc_machine_spec.specs.declared.doing.End.TheVariants as end
use Rattle.kc_machine_spec.specs.Text.{HasRun}
use Rattle.kc_machine_spec.specs.Machine.{Machine, start}
use Rattle.kc_cycles.specs.Life.{Life, life_for}
use Rattle.kc_cycles.specs.Making.{IsWatched, deadline_of}
use Rattle.kc_cycles.specs.declared.lives.LivesFault.{LivesFault}
use Rattle.kc_cycles.specs.declared.lives.LivesFault.TheVariants as fault
use Rattle.kc_cycles.specs.declared.watchdog.Watchdog.{Watchdog}
use Rattle.kc_cycles.proofs.Fitted.{watched, watched-is, watched-same}
use Rattle.kc_debug_script.specs.declared.command.Command.{Command}
use Rattle.kc_debug_script.specs.declared.command.Command.TheVariants.{Step, Go, Break, Registers, Show, Write, History, Quit}
use Rattle.kc_debug_script.specs.declared.line_map.MapEntry.{MapEntry}
use Rattle.kc_debug_script.specs.Script.{is_break, AreBounded}
use Rattle.kc_debug.specs.declared.activities.Begun.{Begun}
use Rattle.kc_debug.specs.declared.past.Past.{Past}
use Rattle.kc_debug.specs.declared.life.DebuggedLife.{DebuggedLife}
use Rattle.kc_debug.specs.Debugging.{past_of, seen, kept_of, IsAnswered, IsDone, IsInTime, IsBorn, IsReady, Goes, HasAnswered}
use Rattle.kc_debug.specs.InLives.{InLife, end_in, born, first_life, lived, followed, ended_as, is_followed, settled, goes_on, gone_for, over_of, after_command, debugged, in_lives}
use Rattle.kc_debug.specs.Stops.{states_of_activities, states_of_run}
use Rattle.kc_debug.specs.Transcript.{quits}
use Rattle.kc_debug.proofs.Scripts.{GoesOn}
use Rattle.kc_debug.proofs.Going.{goes_on as may_go_on, is_quit}
use Rattle.kc_debug.proofs.Kept.{any-left, any-right, Near, near-kept, near-done, near-command}

module _ {X : Type 0} (f : Further X) (deadline : X → Option ℕ) (image : List ℕ) (drives : Drives) (unit : ℕ → X) (most : ℕ) (entries : List MapEntry) where
  debugged-nil : (l : InLife X) → debugged f deadline image drives unit most entries [] l ≡ l
  unfolding debugged
  debugged-nil l = refl

  debugged-quit : (commands : List Command) (l : InLife X) → debugged f deadline image drives unit most entries (Quit ∷ commands) l ≡ l
  unfolding debugged
  debugged-quit commands l = refl

  debugged-more : (c : Command) (commands : List Command) (l : InLife X) → GoesOn c →
      debugged f deadline image drives unit most entries (c ∷ commands) l ≡ debugged f deadline image drives unit most entries commands (after_command f deadline image drives unit most entries c l)
  unfolding debugged
  debugged-more (Step count) commands l h = refl
  debugged-more (Go until) commands l h = refl
  debugged-more (Break addr) commands l h = refl
  debugged-more Registers commands l h = refl
  debugged-more (Show from count) commands l h = refl
  debugged-more (Write addr value) commands l h = refl
  debugged-more History commands l h = refl
  debugged-more Quit commands l h = absurd h

  -- a life with more of a text and of places where memory is wanted
  pub record Grows (l n : InLife X) : Type 0 where
    pub more : List ℕ
    pub later : List (List ℕ)
    pub text : n.text ≡ l.text ++ more
    pub pauses : n.pauses ≡ l.pauses ++ later

  grows-none : (l n : InLife X) → n ≡ l → Grows l n
  grows-none l n e = record {
    more = [];
    later = [];
    text = ap (λ (x : InLife X). x.text) e ∙ sym (append-nil l.text);
    pauses = ap (λ (x : InLife X). x.pauses) e ∙ sym (append-nil l.pauses);
  }

  grows-command : (c : Command) (l n : InLife X) → Grows (after_command f deadline image drives unit most entries c l) n → Grows l n
  grows-command c l n g =
      let k : InLife X = after_command f deadline image drives unit most entries c (kept_of l) in
      let h = near-command f deadline image drives unit most entries c l in
      record {
        more = k.text ++ g.more;
        later = map (λ x. l.text ++ x) k.pauses ++ g.later;
        text = g.text ∙ ap (λ xs. xs ++ g.more) h.text ∙ append_assoc l.text k.text g.more;
        pauses = g.pauses ∙ ap (λ xs. xs ++ g.later) h.pauses ∙ append_assoc l.pauses (map (λ x. l.text ++ x) k.pauses) g.later;
      }

  grows : (commands : List Command) (l : InLife X) → Grows l (debugged f deadline image drives unit most entries commands l)
  grows [] l = grows-none l _ (debugged-nil l)
  grows (c ∷ commands) l = by_command c refl (grows commands (after_command f deadline image drives unit most entries c l))
    where
      by_goes : GoesOn c → Grows (after_command f deadline image drives unit most entries c l) (debugged f deadline image drives unit most entries commands (after_command f deadline image drives unit most entries c l)) →
          Grows l (debugged f deadline image drives unit most entries (c ∷ commands) l)
      by_goes goes rest = subst (λ n. Grows l n) (sym (debugged-more c commands l goes)) (grows-command c l _ rest)

      by_command : (e : Command) → c ≡ e → Grows (after_command f deadline image drives unit most entries c l) (debugged f deadline image drives unit most entries commands (after_command f deadline image drives unit most entries c l)) →
          Grows l (debugged f deadline image drives unit most entries (c ∷ commands) l)
      by_command Quit is rest = grows-none l _ (ap (λ x. debugged f deadline image drives unit most entries (x ∷ commands) l) is ∙ debugged-quit commands l)
      by_command (Step count) is rest = by_goes (subst GoesOn (sym is) tt) rest
      by_command (Go until) is rest = by_goes (subst GoesOn (sym is) tt) rest
      by_command (Break addr) is rest = by_goes (subst GoesOn (sym is) tt) rest
      by_command Registers is rest = by_goes (subst GoesOn (sym is) tt) rest
      by_command (Show from count) is rest = by_goes (subst GoesOn (sym is) tt) rest
      by_command (Write addr value) is rest = by_goes (subst GoesOn (sym is) tt) rest
      by_command History is rest = by_goes (subst GoesOn (sym is) tt) rest

  -- what is answered of all, where the sink has failed in a command, or memory has run out
  pub answered-early : (commands : List Command) (l : InLife X) (o p : Out) (e : LivesFault) → IsDone {A = Unit {0}} l o (Err e) p → IsAnswered (debugged f deadline image drives unit most entries commands l) o (Err e) p
  answered-early commands l o p fault.WriteFault d =
      let g = grows commands l in
      (subst (λ xs. Puts o xs p) (sym g.text) (Puts-longer o l.text g.more p d.1 d.0), d.1)
  answered-early commands l o p fault.NoMemory d =
      let g = grows commands l in
      (subst (λ xs. Any (λ x. Puts o x p) ([] ∷ xs)) (sym g.pauses) (any-right (λ x. Puts o x p) ([] ∷ []) (l.pauses ++ g.later) (any-left (λ x. Puts o x p) l.pauses g.later d.0)), d.1)

  -- a command sets one breakpoint at most
  gone-breaks : (o : Option End) (life : Life X) (l : InLife X) → (goes_on f deadline image drives unit most o life l).breaks ≡ l.breaks
  gone-breaks (Some how) life l = refl
  gone-breaks None life l = by_followed (is_followed f deadline image drives unit most life (lived f deadline image drives unit most life l)) (over_of life.how)
    where
      by_followed : (b : Bool) (o : Option End) →
          (if b then followed f deadline image drives unit most life (lived f deadline image drives unit most life l) else ended_as f deadline image drives unit most o (lived f deadline image drives unit most life l)).breaks ≡ l.breaks
      by_followed true o = refl
      by_followed false None = refl
      by_followed false (Some how) = refl

  breaks-after : (c : Command) (l : InLife X) → length (after_command f deadline image drives unit most entries c l).breaks ≤ length l.breaks + count_by is_break (c ∷ [])
  breaks-after (Step count) l = let same = ap length (gone-breaks l.over (life_for f deadline (states_of_activities f count l.machine) l.machine) l) in omega (arith, same)
  breaks-after (Go until) l = let same = ap length (gone-breaks l.over (life_for f deadline (states_of_run f l.breaks until l.machine) l.machine) l) in omega (arith, same)
  breaks-after (Break addr) l = let longer : length (l.breaks ++ addr ∷ []) ≡ length l.breaks + 1 = length-append l.breaks (addr ∷ []) in omega (arith, longer)
  breaks-after Registers l = omega arith
  breaks-after (Show from count) l = omega arith
  breaks-after (Write addr value) l = omega arith
  breaks-after History l = omega arith
  breaks-after Quit l = omega arith

module _ {X : Type 0} {dx : extra.Ghosts X} {dw : extra.Ghosts Watchdog} (f : Further (Pair X Watchdog dx dw)) (made : ℕ → X) (image : List ℕ) (drives : Drives) (most : ℕ) (entries : List MapEntry) (all : List Command) (o0 : Out) where
  abbrev Both : Type 0
  Both = Pair X Watchdog dx dw

  pub record Way (index : ℕ) (s : DebuggedLife Both) (o : Out) : Type 0 where
    pub unit : ℕ → Both
    pub is_made : (from : ℕ) → IsWatched (made from) (unit from)
    pub so_far : InLife Both
    pub rest : in_lives f deadline_of image drives unit most entries all ≡ debugged f deadline_of image drives unit most entries (drop index all) so_far
    pub kept : seen s ≡ kept_of so_far
    pub text : Puts o0 so_far.text o
    pub ready : IsReady s
    pub few : length s.breaks.items + count_by is_break (drop index all) ≤ 16
    pub time : s.machine.machine.time ≤ max_states + 255000000 * index
    pub unbroken : o.failed ≡ false

  -- before the first life there is memory for none
  pub way-none : length dx.pins + length dw.pins ≤ 4 → are_apart dx.pins dw.pins ≡ true → o0.failed ≡ false → HasAnswered f made image drives most entries all o0 (Err fault.NoMemory) o0
  way-none few apart unbroken = record {
    unit = λ at. watched few apart (made at);
    is_made = λ at. watched-is few apart (made at);
    answered = ((0, [], omega arith, refl, Puts-nothing o0), unbroken);
  }

  pub way-first : (s : DebuggedLife Both) → length dx.pins + length dw.pins ≤ 4 → are_apart dx.pins dw.pins ≡ true → o0.failed ≡ false → AreBounded all → s.number ≡ 1 → s.from ≡ 0 → IsBorn made image drives 0 s.machine.machine → s.over ≡ None →
      s.breaks.items ≡ [] → s.past ≡ buffer [] 32 → s.begun ≡ buffer [] 33 → Way 0 s o0
  way-first s few apart unbroken bounded number from b over breaks past begun =
      let unit : ℕ → Both = λ at. watched few apart (made at) in
      let made_so : (at : ℕ) → IsWatched (made at) (unit at) = λ at. watched-is few apart (made at) in
      let machine : s.machine.machine ≡ born f deadline_of image drives unit most 0 =
      b.machine ∙ ap (start image (driven_from 0 drives)) (watched-same (made 0) s.machine.machine.board.units.further (unit 0) b.unit (made_so 0)) in
      record {
        unit = unit;
        is_made = made_so;
        so_far = first_life f deadline_of image drives unit most;
        rest = refl;
        kept = λ i. record { number = number i; from = from i; machine = machine i; over = over i; breaks = breaks i; past = map past_of (past i).items; begun = (begun i).items; text = []; pauses = [] };
        text = Puts-nothing o0;
        ready = record {
          held = record {
            earlier = subst (λ (x : Buffer Past). x ≡ buffer (keep_last 32 x.items) 32) (sym past) refl;
            present = subst (λ (x : Buffer Begun). x ≡ buffer (keep_last 33 x.items) 33) (sym begun) refl;
          };
          from = omega (arith, from);
          in_time = subst (λ (k : Watchdog). IsInTime k.deadline s.machine.machine.time) (sym b.unit.second) tt;
          ran = subst (λ (m : Machine Both). IfSome m.ended (λ how. HasRun how m.time)) (sym b.machine) tt;
        };
        few = let none : length s.breaks.items ≡ 0 = ap length breaks in omega (arith, none, bounded.limited.breakpoints);
        time = let first : s.machine.machine.time ≡ 0 = ap (λ (m : Machine Both). m.time) b.machine in omega (arith, first);
        unbroken = unbroken;
      }

  module _ (index : ℕ) (s : DebuggedLife Both) (o : Out) (w : Way index s o) where
    counted : (c : Command) → drop index all ≡ c ∷ drop (index + 1) all → count_by is_break (drop index all) ≡ count_by is_break (c ∷ []) + count_by is_break (drop (index + 1) all)
    counted c here = ap (count_by is_break) here ∙ sum_by-append (λ x. cond (is_break x) 1 0) (c ∷ []) (drop (index + 1) all)

    pub way-room : (c : Command) → drop index all ≡ c ∷ drop (index + 1) all → length s.breaks.items + count_by is_break (c ∷ []) ≤ 16
    way-room c here = let sum = counted c here in omega (arith, w.few, sum)

    module _ (c : Command) (here : drop index all ≡ c ∷ drop (index + 1) all) (goes : quits c ≡ false) where
      abbrev next : InLife Both
      next = after_command f deadline_of image drives w.unit most entries c w.so_far

      abbrev kept_next : InLife Both
      kept_next = after_command f deadline_of image drives w.unit most entries c (kept_of w.so_far)

      near : Near w.so_far.text w.so_far.pauses kept_next next
      near = near-command f deadline_of image drives w.unit most entries c w.so_far

      same : after_command f deadline_of image drives w.unit most entries c (seen s) ≡ kept_next
      same = ap (after_command f deadline_of image drives w.unit most entries c) w.kept

      whole : in_lives f deadline_of image drives w.unit most entries all ≡ debugged f deadline_of image drives w.unit most entries (drop (index + 1) all) next
      whole = w.rest ∙ ap (λ cs. debugged f deadline_of image drives w.unit most entries cs w.so_far) here ∙ debugged-more f deadline_of image drives w.unit most entries c (drop (index + 1) all) w.so_far (may_go_on c goes)

      module _ (t : DebuggedLife Both) (p : Out) (r : Result (Unit {0}) LivesFault) (g : Goes made (λ unit. after_command f deadline_of image drives unit most entries c (seen s)) o r t p) where
        done : IsDone next o0 r p
        done = near-done w.so_far.text w.so_far.pauses kept_next next o0 o p r near w.text (subst (λ (l : InLife Both). IsDone l o r p) same (g.reported w.unit w.is_made))

      pub way-next : (t : DebuggedLife Both) (p : Out) → Goes {A = Unit {0}} made (λ unit. after_command f deadline_of image drives unit most entries c (seen s)) o (Ok tt) t p → t.machine.machine.time ≤ max_states + 255000000 * (index + 1) → Way (index + 1) t p
      way-next t p g time =
          let end = done t p (Ok tt) g in
          let kept : seen t ≡ kept_of next = g.kept w.unit w.is_made ∙ ap kept_of same ∙ near-kept w.so_far.text w.so_far.pauses kept_next next near in
          let breaks : length t.breaks.items ≡ length next.breaks = ap (λ (l : InLife Both). length l.breaks) kept in
          let before : length s.breaks.items ≡ length w.so_far.breaks = ap (λ (l : InLife Both). length l.breaks) w.kept in
          let few = breaks-after f deadline_of image drives w.unit most entries c w.so_far in
          let sum = counted c here in
          record {
            unit = w.unit;
            is_made = w.is_made;
            so_far = next;
            rest = whole;
            kept = kept;
            text = end.0;
            ready = g.ready;
            few = omega (arith, w.few, few, breaks, before, sum);
            time = time;
            unbroken = end.1;
          }

      pub way-cut : (t : DebuggedLife Both) (p : Out) (e : LivesFault) → Goes {A = Unit {0}} made (λ unit. after_command f deadline_of image drives unit most entries c (seen s)) o (Err e) t p → HasAnswered f made image drives most entries all o0 (Err e) p
      way-cut t p e g = record {
        unit = w.unit;
        is_made = w.is_made;
        answered = subst (λ (l : InLife Both). IsAnswered l o0 (Err e) p) (sym whole) (answered-early f deadline_of image drives w.unit most entries (drop (index + 1) all) next o0 p e (done t p (Err e) g));
      }

    way-end : (how : End) → how ≡ unwrap_or s.over end.Spent → debugged f deadline_of image drives w.unit most entries (drop index all) w.so_far ≡ w.so_far → HasAnswered f made image drives most entries all o0 (Ok how) o
    way-end how is over = record {
      unit = w.unit;
      is_made = w.is_made;
      answered = subst (λ (l : InLife Both). IsAnswered l o0 (Ok how) o) (sym (w.rest ∙ over)) (is ∙ ap (λ (l : InLife Both). end_in l) w.kept, w.text, w.unbroken);
    }

    -- the script ends here
    pub way-quit : (c : Command) (how : End) → drop index all ≡ c ∷ drop (index + 1) all → quits c ≡ true → how ≡ unwrap_or s.over end.Spent → HasAnswered f made image drives most entries all o0 (Ok how) o
    way-quit c how here ends is =
        way-end how is
        (ap (λ cs. debugged f deadline_of image drives w.unit most entries cs w.so_far) (here ∙ ap (λ x. x ∷ drop (index + 1) all) (is_quit c ends)) ∙ debugged-quit f deadline_of image drives w.unit most entries (drop (index + 1) all) w.so_far)

    pub way-done : (how : End) → length all ≤ index → how ≡ unwrap_or s.over end.Spent → HasAnswered f made image drives most entries all o0 (Ok how) o
    way-done how past is =
        way-end how is (ap (λ cs. debugged f deadline_of image drives w.unit most entries cs w.so_far) (drop_all index all past) ∙ debugged-nil f deadline_of image drives w.unit most entries w.so_far)
