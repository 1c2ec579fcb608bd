-- A script on its way: so many commands have been carried out.
use Rattle.std.proofs.Common.{◌≡◌, ℕ, suc, ◌+◌, ◌-◌, ◌*◌, ◌≤◌, Bool, false, true, ◌||◌, cond, List, [], ◌∷◌, ◌++◌, length, take, drop, refl, sym, ap, subst, ◌∙◌, arith, length-append, length-drop, length-take-le, inr}
use Rattle.std.specs.Prelude.{count_by}
use Rattle.std.specs.List.{list_any}
use Rattle.std.proofs.Math.Seq.{take-append-add}
use Rattle.std.proofs.lemmas.List.{drop_all, take-append-drop}
use Rattle.std.proofs.lemmas.List.Folds.{list_any-append}
use Rattle.std.proofs.lemmas.List.Sums.{sum_by-append}
use Rattle.kc_base.specs.Limits.{max_states}
use Rattle.circular_buffer.specs.Buffer.{buffer, keep_last}
use Rattle.kc_extra.specs.Further.{Further}
use Rattle.kc_trace.specs.Out.{Out, Puts, Prints}
use Rattle.kc_trace.specs.Text.{text_of}
use Rattle.kc_trace.proofs.Outs.{Puts-nothing, Puts-append, Puts-longer}
use Rattle.kc_trace.proofs.Printed.{Prints-nothing, text_of-nothing}
use Rattle.kc_machine_spec.specs.Machine.{Machine, Stepped}
use Rattle.kc_machine_spec.specs.Run.{run_for}
use Rattle.kc_debug_script.specs.declared.command.Command.{Command}
use Rattle.kc_debug_script.specs.declared.command.Command.TheVariants.{Step, Go, Break, Registers, Show, Write, History, Quit}
use Rattle.kc_debug_script.specs.declared.line_map.MapEntry.{MapEntry}
use Rattle.kc_debug_script.specs.Script.{is_break, AreBounded}
use Rattle.kc_debug.specs.declared.session.Sitting.{Sitting}
use Rattle.kc_debug.specs.Sitting.{seen}
use Rattle.kc_debug.specs.Stands.{at_once_in, bytes_of, bytes_shown, states_of, touch_in, touch_of, FailsIn, StandsIn}
use Rattle.kc_debug.specs.Transcript.{Debugged, untouched, after_command, debugged, quits, transcript}
use Rattle.kc_machine_spec.proofs.Runs.{run-none}
use Rattle.kc_debug.proofs.Scripts.{kept_of, GoesOn, alike, debugged-nil, debugged-quit, debugged-more, debugged-text}

pub goes_on : (c : Command) → quits c ≡ false → GoesOn c
goes_on Quit e = absurd (let t : true ≡ false = e in cc)
goes_on (Step count) e = tt
goes_on (Go until) e = tt
goes_on (Break addr) e = tt
goes_on Registers e = tt
goes_on (Show from count) e = tt
goes_on (Write addr value) e = tt
goes_on History e = tt

pub is_quit : (c : Command) → quits c ≡ true → c ≡ Quit
is_quit Quit e = refl
is_quit (Step count) e = absurd (let t : false ≡ true = e in cc)
is_quit (Go until) e = absurd (let t : false ≡ true = e in cc)
is_quit (Break addr) e = absurd (let t : false ≡ true = e in cc)
is_quit Registers e = absurd (let t : false ≡ true = e in cc)
is_quit (Show from count) e = absurd (let t : false ≡ true = e in cc)
is_quit (Write addr value) e = absurd (let t : false ≡ true = e in cc)
is_quit History e = absurd (let t : false ≡ true = e in cc)

module _ {X : Type 0} (f : Further X) where
  -- the sink has failed in what is said of a machine that has not gone on
  pub fails-said : (at_once : Machine X → ℕ) (said : List ℕ) (m : Machine X) (o : Out) (n : Machine X) (p : Out) →
      n ≡ m → o.failed ≡ false → Puts o said p → p.failed ≡ true → FailsIn f at_once 0 said m o n p
  fails-said at_once said m o n p same unbroken text failed =
      let none = run-none f m in
      let silent : [] ≡ text_of (run_for f 0 m).records = sym (ap (λ (s : Stepped X). text_of s.records) none ∙ text_of-nothing) in
      inr (record {
        mid = o;
        whole = subst (λ (s : Stepped X). Prints o s.records o) (sym none) (Prints-nothing o);
        unbroken = unbroken;
        rest = said;
        says = ap (λ xs. xs ++ said) silent;
        part = text;
        failed = failed;
        machine = same ∙ ap (λ (s : Stepped X). s.machine) (sym none);
      })

-- neither of two tests holds
neither : (a b : Bool) → (a || b) ≡ false → (a ≡ false) × (b ≡ false)
neither false b e = (refl, e)
neither true b e = absurd (let t : true ≡ false = e in cc)

-- some items, and the next one
take-here : {A : Type 0} (i : ℕ) (all : List A) (c : A) (rest : List A) → drop i all ≡ c ∷ rest → take (i + 1) all ≡ take i all ++ c ∷ []
take-here i all c rest here =
    let long : length all - i ≡ suc (length rest) = sym (length-drop i all) ∙ ap length here in
    let few : length (take i all) ≡ i = length-take-le i all (omega (arith, long)) in
    let whole : all ≡ take i all ++ c ∷ rest = sym (take-append-drop i all) ∙ ap (λ xs. take i all ++ xs) here in
    let e : i + 1 ≡ length (take i all) + 1 = omega (arith, few) in
    ap (take (i + 1)) whole ∙ ap (λ n. take n (take i all ++ c ∷ rest)) e ∙ take-append-add (take i all) (c ∷ rest) 1

module _ {X : Type 0} (f : Further X) (entries : List MapEntry) where
  -- commands of which none quits, and one more
  debugged-last : (before : List Command) (c : Command) (d : Debugged X) → list_any quits before ≡ false → GoesOn c →
      debugged f entries (before ++ c ∷ []) d ≡ after_command f entries c (debugged f entries before d)
  debugged-last [] c d none goes =
      debugged-more f entries c [] d goes ∙ debugged-nil f entries (after_command f entries c d) ∙ ap (after_command f entries c) (sym (debugged-nil f entries d))
  debugged-last (b ∷ before) c d none goes =
      let both = neither (quits b) (list_any quits before) none in
      let first = goes_on b both.0 in
      debugged-more f entries b (before ++ c ∷ []) d first
      ∙ debugged-last before c (after_command f entries b d) both.1 goes
      ∙ ap (after_command f entries c) (sym (debugged-more f entries b before d first))

  pub record Going (all : List Command) (m0 : Machine X) (o0 : Out) (index : ℕ) (m : Machine X) (s : Sitting) (o : Out) : Type 0 where
    pub so_far : Debugged X
    pub rest : transcript f entries all m0 ≡ debugged f entries (drop index all) so_far
    pub machine : m ≡ so_far.machine
    pub breaks : s.breaks.items ≡ so_far.breaks
    pub begun : s.begun ≡ buffer (keep_last 33 so_far.begun) 33
    pub text : Puts o0 so_far.text o
    pub few : length s.breaks.items + count_by is_break (drop index all) ≤ 16
    pub time : m.time ≤ max_states + 255000000 * index
    pub done : so_far ≡ transcript f entries (take index all) m0
    pub whole : list_any quits (take index all) ≡ false

  pub going-first : (all : List Command) (m : Machine X) (s : Sitting) (o : Out) → AreBounded all → s.breaks.items ≡ [] → s.begun ≡ buffer [] 33 → m.time ≤ max_states → Going all m o 0 m s o
  going-first all m s o bounded breaks begun time = record {
    so_far = untouched m;
    rest = refl;
    machine = refl;
    breaks = breaks;
    begun = begun;
    text = Puts-nothing o;
    few = let none : length s.breaks.items ≡ 0 = ap length breaks in omega (arith, none, bounded.limited.breakpoints);
    time = omega arith;
    done = sym (debugged-nil f entries (untouched m));
    whole = refl;
  }

  -- what is kept is what a session sees
  seen-kept : (all : List Command) (m0 : Machine X) (o0 : Out) (index : ℕ) (m : Machine X) (s : Sitting) (o : Out) (g : Going all m0 o0 index m s o) → seen m s ≡ kept_of g.so_far
  seen-kept all m0 o0 index m s o g = λ i. record { machine = g.machine i; breaks = g.breaks i; begun = (g.begun i).items; text = [] }

  -- a command sets one breakpoint at most
  breaks-after : (c : Command) (d : Debugged X) → length (after_command f entries c d).breaks ≤ length d.breaks + count_by is_break (c ∷ [])
  breaks-after (Step count) d = omega arith
  breaks-after (Go until) d = omega arith
  breaks-after (Break addr) d = let longer : length (d.breaks ++ addr ∷ []) ≡ length d.breaks + 1 = length-append d.breaks (addr ∷ []) in omega arith
  breaks-after Registers d = omega arith
  breaks-after (Show from count) d = omega arith
  breaks-after (Write addr value) d = omega arith
  breaks-after History d = omega arith
  breaks-after Quit d = omega arith

  -- none of some commands quits, and the next does not
  whole-next : (before : List Command) (c : Command) → list_any quits before ≡ false → quits c ≡ false → list_any quits (before ++ c ∷ []) ≡ false
  whole-next before c whole goes = list_any-append quits before (c ∷ []) ∙ ap (λ b. b || list_any quits (c ∷ [])) whole ∙ ap (λ b. b || false) goes

  transcript-next : (all : List Command) (index : ℕ) (m : Machine X) (c : Command) → drop index all ≡ c ∷ drop (index + 1) all → list_any quits (take index all) ≡ false → quits c ≡ false →
      after_command f entries c (transcript f entries (take index all) m) ≡ transcript f entries (take (index + 1) all) m
  transcript-next all index m c here whole goes =
      sym (debugged-last (take index all) c (untouched m) whole (goes_on c goes)) ∙ ap (λ cs. debugged f entries cs (untouched m)) (sym (take-here index all c (drop (index + 1) all) here))

  pub going-next : (all : List Command) (m0 : Machine X) (o0 : Out) (index : ℕ) (m : Machine X) (s : Sitting) (o : Out) (c : Command) (n : Machine X) (t : Sitting) (p : Out) →
      Going all m0 o0 index m s o → drop index all ≡ c ∷ drop (index + 1) all → quits c ≡ false →
      n ≡ (after_command f entries c (seen m s)).machine → t.breaks.items ≡ (after_command f entries c (seen m s)).breaks →
      t.begun ≡ buffer (keep_last 33 (after_command f entries c (seen m s)).begun) 33 → Puts o (after_command f entries c (seen m s)).text p →
      n.time ≤ max_states + 255000000 * (index + 1) → Going all m0 o0 (index + 1) n t p
  going-next all m0 o0 index m s o c n t p g here goes machine breaks begun text time =
      let d : Debugged X = g.so_far in
      let is : after_command f entries c (seen m s) ≡ after_command f entries c (kept_of d) = ap (after_command f entries c) (seen-kept all m0 o0 index m s o g) in
      let same = alike f entries c d in
      let counted : count_by is_break (drop index all) ≡ count_by is_break (c ∷ []) + count_by is_break (drop (index + 1) all) =
      ap (count_by is_break) here ∙ sum_by-append (λ x. cond (is_break x) 1 0) (c ∷ []) (drop (index + 1) all) in
      record {
        so_far = after_command f entries c d;
        rest = g.rest ∙ ap (λ cs. debugged f entries cs d) here ∙ debugged-more f entries c (drop (index + 1) all) d (goes_on c goes);
        machine = machine ∙ ap (λ (k : Debugged X). k.machine) is ∙ same.machine;
        breaks = breaks ∙ ap (λ (k : Debugged X). k.breaks) is ∙ same.breaks;
        begun = begun ∙ ap (λ (k : Debugged X). buffer (keep_last 33 k.begun) 33) is ∙ ap (λ xs. buffer xs 33) same.begun;
        text = subst (λ xs. Puts o0 xs p) (ap (λ (k : Debugged X). d.text ++ k.text) is ∙ sym same.text) (Puts-append o0 d.text o (after_command f entries c (seen m s)).text p g.text text);
        few = let few = breaks-after c (seen m s) in let now = ap length breaks in omega (arith, g.few, few, now, counted);
        time = time;
        done = ap (after_command f entries c) g.done ∙ transcript-next all index m0 c here g.whole goes;
        whole = ap (list_any quits) (take-here index all c (drop (index + 1) all) here) ∙ whole-next (take index all) c g.whole goes;
      }

  -- a trace that has failed in a command
  pub going-cut : (all : List Command) (m0 : Machine X) (o0 : Out) (index : ℕ) (m : Machine X) (s : Sitting) (o : Out) (c : Command) (p : Out) →
      Going all m0 o0 index m s o → drop index all ≡ c ∷ drop (index + 1) all → GoesOn c → Puts o (after_command f entries c (seen m s)).text p → p.failed ≡ true → Puts o0 (transcript f entries all m0).text p
  going-cut all m0 o0 index m s o c p g here goes text failed =
      let d : Debugged X = g.so_far in
      let is : after_command f entries c (seen m s) ≡ after_command f entries c (kept_of d) = ap (after_command f entries c) (seen-kept all m0 o0 index m s o g) in
      let same = alike f entries c d in
      let more = debugged-text f entries (drop (index + 1) all) (after_command f entries c d) in
      let whole : (transcript f entries all m0).text ≡ (d.text ++ (after_command f entries c (seen m s)).text) ++ more.0 =
      ap (λ (k : Debugged X). k.text) (g.rest ∙ ap (λ cs. debugged f entries cs d) here ∙ debugged-more f entries c (drop (index + 1) all) d goes)
      ∙ more.1 ∙ ap (λ xs. xs ++ more.0) (same.text ∙ ap (λ (k : Debugged X). d.text ++ k.text) (sym is)) in
      subst (λ xs. Puts o0 xs p) (sym whole) (Puts-longer o0 _ more.0 p failed (Puts-append o0 d.text o (after_command f entries c (seen m s)).text p g.text text))

  -- a command that is carried out has room
  pub going-room : (all : List Command) (m0 : Machine X) (o0 : Out) (index : ℕ) (m : Machine X) (s : Sitting) (o : Out) (c : Command) →
      Going all m0 o0 index m s o → drop index all ≡ c ∷ drop (index + 1) all → length s.breaks.items + count_by is_break (c ∷ []) ≤ 16
  going-room all m0 o0 index m s o c g here =
      let counted : count_by is_break (drop index all) ≡ count_by is_break (c ∷ []) + count_by is_break (drop (index + 1) all) =
      ap (count_by is_break) here ∙ sum_by-append (λ x. cond (is_break x) 1 0) (c ∷ []) (drop (index + 1) all) in
      omega (arith, g.few, counted)

  -- the end of a script
  pub record Ends (all : List Command) (m0 : Machine X) (o0 : Out) (m : Machine X) (o : Out) : Type 0 where
    pub machine : m ≡ (transcript f entries all m0).machine
    pub text : Puts o0 (transcript f entries all m0).text o

  ends : (all : List Command) (m0 : Machine X) (o0 : Out) (index : ℕ) (m : Machine X) (s : Sitting) (o : Out) (g : Going all m0 o0 index m s o) → debugged f entries (drop index all) g.so_far ≡ g.so_far → Ends all m0 o0 m o
  ends all m0 o0 index m s o g over = record {
    machine = g.machine ∙ ap (λ (k : Debugged X). k.machine) (sym (g.rest ∙ over));
    text = subst (λ (k : Debugged X). Puts o0 k.text o) (sym (g.rest ∙ over)) g.text;
  }

  pub going-quit : (all : List Command) (m0 : Machine X) (o0 : Out) (index : ℕ) (m : Machine X) (s : Sitting) (o : Out) (c : Command) →
      Going all m0 o0 index m s o → drop index all ≡ c ∷ drop (index + 1) all → c ≡ Quit → Ends all m0 o0 m o
  going-quit all m0 o0 index m s o c g here quits =
      ends all m0 o0 index m s o g (ap (λ cs. debugged f entries cs g.so_far) (here ∙ ap (λ x. x ∷ drop (index + 1) all) quits) ∙ debugged-quit f entries (drop (index + 1) all) g.so_far)

  pub going-done : (all : List Command) (m0 : Machine X) (o0 : Out) (index : ℕ) (m : Machine X) (s : Sitting) (o : Out) → Going all m0 o0 index m s o → length all ≤ index → Ends all m0 o0 m o
  going-done all m0 o0 index m s o g past =
      ends all m0 o0 index m s o g (ap (λ cs. debugged f entries cs g.so_far) (drop_all index all past) ∙ debugged-nil f entries g.so_far)

  -- ---- where the machine stands when the sink has failed

  states-kept : (c : Command) (d : Debugged X) → states_of f c (kept_of d) ≡ states_of f c d
  states-kept (Step count) d = refl
  states-kept (Go until) d = refl
  states-kept (Break addr) d = refl
  states-kept Registers d = refl
  states-kept (Show from count) d = refl
  states-kept (Write addr value) d = refl
  states-kept History d = refl
  states-kept Quit d = refl

  pub going-stands : (all : List Command) (m0 : Machine X) (o0 : Out) (index : ℕ) (m : Machine X) (s : Sitting) (o : Out) (c : Command) (n : Machine X) (p : Out) →
      Going all m0 o0 index m s o → o.failed ≡ false → drop index all ≡ c ∷ drop (index + 1) all → quits c ≡ false →
      FailsIn f (at_once_in c) (states_of f c (seen m s)) (after_command f entries c (seen m s)).text m o n p → StandsIn f entries all m0 o0 n p
  going-stands all m0 o0 index m s o c n p g unbroken here goes fails =
      let d : Debugged X = g.so_far in
      let kept = seen-kept all m0 o0 index m s o g in
      let said = (after_command f entries c (seen m s)).text in
      let says : (after_command f entries c d).text ≡ d.text ++ said =
      (alike f entries c d).text ∙ ap (λ (k : Debugged X). d.text ++ (after_command f entries c k).text) (sym kept) in
      let states : states_of f c (seen m s) ≡ states_of f c d = ap (states_of f c) kept ∙ states-kept c d in
      record {
        before = take index all;
        command = c;
        rest = drop (index + 1) all;
        all = sym (take-append-drop index all) ∙ ap (λ xs. take index all ++ xs) here;
        goes_on = whole-next (take index all) c g.whole goes;
        mid = o;
        whole = subst (λ (k : Debugged X). Puts o0 k.text o) g.done g.text;
        unbroken = unbroken;
        said = said;
        says = subst (λ (k : Debugged X). (after_command f entries c k).text ≡ k.text ++ said) g.done says;
        fails = subst (λ (k : Debugged X). FailsIn f (at_once_in c) (states_of f c k) said k.machine o n p) g.done
            (subst (λ x. FailsIn f (at_once_in c) (states_of f c d) said x o n p) g.machine
            (subst (λ i. FailsIn f (at_once_in c) i said m o n p) states fails));
      }

  -- ---- the touch of a script

  touch-kept : (c : Command) (d : Debugged X) → touch_in f c (kept_of d) ≡ touch_in f c d
  touch-kept c d = ap (λ i. (run_for f i d.machine).touch) (states-kept c d)

  touch-more : (c : Command) (commands : List Command) (d : Debugged X) → GoesOn c → touch_of f entries (c ∷ commands) d ≡ touch_in f c d + touch_of f entries commands (after_command f entries c d)
  unfolding touch_of
  touch-more (Step count) commands d h = refl
  touch-more (Go until) commands d h = refl
  touch-more (Break addr) commands d h = refl
  touch-more Registers commands d h = refl
  touch-more (Show from count) commands d h = refl
  touch-more (Write addr value) commands d h = refl
  touch-more History commands d h = refl
  touch-more Quit commands d h = absurd h

  bytes-more : (c : Command) (commands : List Command) → GoesOn c → bytes_shown (c ∷ commands) ≡ bytes_of c + bytes_shown commands
  unfolding bytes_shown
  bytes-more (Step count) commands h = refl
  bytes-more (Go until) commands h = refl
  bytes-more (Break addr) commands h = refl
  bytes-more Registers commands h = refl
  bytes-more (Show from count) commands h = refl
  bytes-more (Write addr value) commands h = refl
  bytes-more History commands h = refl
  bytes-more Quit commands h = absurd h

  -- what was spent so far, and the touch and the bytes that are left
  pub record Paid (all : List Command) (m0 : Machine X) (s0 v0 index s v : ℕ) : Type 0 where
    pub steps : s + 4 * touch_of f entries (drop index all) (transcript f entries (take index all) m0) ≤ s0 + 4 * touch_of f entries all (untouched m0)
    pub moves : v + (4 * touch_of f entries (drop index all) (transcript f entries (take index all) m0) + bytes_shown (drop index all)) ≤ v0 + (4 * touch_of f entries all (untouched m0) + bytes_shown all)

  pub paid-first : (all : List Command) (m : Machine X) (s v : ℕ) → Paid all m s v 0 s v
  paid-first all m s v =
      let same = ap (touch_of f entries all) (debugged-nil f entries (untouched m)) in
      record { steps = omega (arith, same); moves = omega (arith, same) }

  pub paid-next : (all : List Command) (m0 : Machine X) (o0 : Out) (index : ℕ) (m : Machine X) (sitting : Sitting) (o : Out) (c : Command) (s0 v0 s v t w : ℕ) →
      Going all m0 o0 index m sitting o → drop index all ≡ c ∷ drop (index + 1) all → quits c ≡ false → Paid all m0 s0 v0 index s v →
      t ≤ s + 4 * touch_in f c (seen m sitting) → w ≤ v + (4 * touch_in f c (seen m sitting) + bytes_of c) → Paid all m0 s0 v0 (index + 1) t w
  paid-next all m0 o0 index m sitting o c s0 v0 s v t w g here goes paid steps moves =
      let d : Debugged X = transcript f entries (take index all) m0 in
      let next : Debugged X = transcript f entries (take (index + 1) all) m0 in
      let one : touch_in f c (seen m sitting) ≡ touch_in f c d =
      ap (touch_in f c) (seen-kept all m0 o0 index m sitting o g) ∙ touch-kept c g.so_far ∙ ap (touch_in f c) g.done in
      let more : touch_of f entries (drop index all) d ≡ touch_in f c d + touch_of f entries (drop (index + 1) all) next =
      ap (λ cs. touch_of f entries cs d) here
      ∙ touch-more c (drop (index + 1) all) d (goes_on c goes)
      ∙ ap (λ k. touch_in f c d + touch_of f entries (drop (index + 1) all) k) (transcript-next all index m0 c here g.whole goes) in
      let bytes : bytes_shown (drop index all) ≡ bytes_of c + bytes_shown (drop (index + 1) all) = ap bytes_shown here ∙ bytes-more c (drop (index + 1) all) (goes_on c goes) in
      record { steps = omega (arith, paid.steps, steps, one, more); moves = omega (arith, paid.moves, moves, one, more, bytes) }

  pub paid-steps : (all : List Command) (m0 : Machine X) (s0 v0 index s v : ℕ) → Paid all m0 s0 v0 index s v → s ≤ s0 + 4 * touch_of f entries all (untouched m0)
  paid-steps all m0 s0 v0 index s v paid = omega (arith, paid.steps)

  pub paid-moves : (all : List Command) (m0 : Machine X) (s0 v0 index s v : ℕ) → Paid all m0 s0 v0 index s v →
      v ≤ v0 + (4 * touch_of f entries all (untouched m0) + bytes_shown all)
  paid-moves all m0 s0 v0 index s v paid = omega (arith, paid.moves)
