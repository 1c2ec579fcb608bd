-- What a call has come to, by what it has done to the life that is debugged.
use Rattle.std.proofs.Common.{◌≡◌, ℕ, ◌+◌, ◌-◌, ◌<◌, ◌≤◌, Bool, true, false, ◌&&◌, if◌then◌else◌, nat_lt, nat_le, List, [], ◌∷◌, ◌++◌, map, Option, Some, None, Result, Ok, Err, OnOk, IfErr, IfSome, refl, sym, ◌∙◌, ap, subst, append-nil, arith}
use Rattle.std.proofs.lemmas.Bool.{and_parts}
use Rattle.std.proofs.lemmas.Bool.Decides.{nat_tests}
use Rattle.std.proofs.lemmas.List.{map-append}
use Rattle.circular_buffer.specs.Buffer.{Buffer, buffer, keep_last}
use Rattle.kc_base.specs.Limits.{max_states}
use Rattle.kc_extra.specs.declared.extra.Extra as extra
use Rattle.kc_extra.specs.declared.pair.Pair.{Pair}
use Rattle.kc_extra.specs.Further.{Further}
use Rattle.kc_stim.specs.Drives.{Drives, driven_from}
use Rattle.kc_trace.specs.Out.{Out, Puts}
use Rattle.kc_trace.specs.Text.{text_of, line_of}
use Rattle.kc_trace.proofs.Outs.{Puts-nothing, Puts-append, Puts-longer}
use Rattle.kc_machine_spec.specs.declared.doing.End.{End}
use Rattle.kc_machine_spec.specs.declared.doing.End.TheVariants as end
use Rattle.kc_machine_spec.specs.Text.{HasRun}
use Rattle.kc_machine_spec.specs.Machine.{Machine, start}
use Rattle.kc_machine_spec.specs.Run.{still}
use Rattle.kc_machine_spec.proofs.Calls.{always}
use Rattle.kc_machine.specs.Board.{Whole}
use Rattle.kc_machine.specs.Stepping.{end_line}
use Rattle.kc_cycles.specs.Life.{Life, life_for}
use Rattle.kc_cycles.specs.Lives.{is_reset, restart_line}
use Rattle.kc_cycles.specs.Making.{IsWatched, deadline_of}
use Rattle.kc_cycles.specs.declared.lives.LivesFault.{LivesFault}
use Rattle.kc_cycles.specs.declared.lives.LivesFault.TheVariants as fault
use Rattle.kc_cycles.specs.declared.watchdog.Watchdog.{Watchdog}
use Rattle.kc_cycles.proofs.Fitted.{watched-same}
use Rattle.kc_debug.specs.declared.activities.Begun.{Begun}
use Rattle.kc_debug.specs.declared.past.Past.{Past}
use Rattle.kc_debug.specs.declared.life.DebuggedLife.{DebuggedLife}
use Rattle.kc_debug.specs.Activities.{begun_for, finished}
use Rattle.kc_debug.specs.Debugging.{how_of, is_spent, last_of, past_of, past_in, seen, kept_of, over_by, over_text, standing, IsDone, IsInTime, IsHeld, IsBorn, IsReady, Goes, HasLived}
use Rattle.kc_debug.specs.InLives.{InLife, says, stand_line, over_of, born, lived, followed, ended_as, settled, goes_on, gone_for}
use Rattle.kc_debug.proofs.Last.{last-same}
use Rattle.kc_debug.proofs.Passing.{ring-33}
use Rattle.kc_debug.proofs.Kept.{last-map, on-ok, Near, near-kept, near-first, near-standing, near-done, near-settled}

-- what is so in any case is so where a call is Err
pub done-of : {A X : Type 0} (l : InLife X) (old new : Out) (text : List ℕ) (r : Result A LivesFault) → Puts old text new → text ≡ l.text → OnOk r (new.failed ≡ false) → IfErr r (λ e. e ≡ fault.WriteFault) → IfErr r (λ e. new.failed ≡ true) → IsDone l old r new
done-of l old new text (Ok a) puts e written is failed = (subst (λ xs. Puts old xs new) e puts, written)
done-of l old new text (Err fault.WriteFault) puts e written is failed = (subst (λ xs. Puts old xs new) e puts, failed)
done-of l old new text (Err fault.NoMemory) puts e written is failed = absurd (let c : fault.NoMemory ≡ fault.WriteFault = is in cc)

past-map : (n : ℕ) (xs : List Begun) → map past_of (map (past_in n) xs) ≡ map (λ b. (n, b)) xs
past-map n [] = refl
past-map n (x ∷ xs) = ap (λ ys. (n, x) ∷ ys) (past-map n xs)

module _ {X : Type 0} where
  items-kept : (s : DebuggedLife X) → IsHeld s.past s.begun → map past_of s.past.items ≡ keep_last 32 (map past_of s.past.items)
  items-kept s h = ap (λ (b : Buffer Past). map past_of b.items) h.earlier ∙ sym (last-map past_of 32 s.past.items)

  begun-kept : (s : DebuggedLife X) → IsHeld s.past s.begun → s.begun.items ≡ keep_last 33 s.begun.items
  begun-kept s h = ap (λ (b : Buffer Begun). b.items) h.present

  -- what is kept is all that is seen
  pub kept-same : (s : DebuggedLife X) → IsHeld s.past s.begun → seen s ≡ kept_of (seen s)
  kept-same s h = λ i. record { number = s.number; from = s.from; machine = s.machine.machine; over = s.over; breaks = s.breaks.items; past = items-kept s h i; begun = begun-kept s h i; text = []; pauses = [] }

module _ {X : Type 0} (f : Further X) (deadline : X → Option ℕ) (image : List ℕ) (drives : Drives) (unit : ℕ → X) (most : ℕ) where
  -- the end that is noted
  ended-is : (how : End) (l : InLife X) → ended_as f deadline image drives unit most (over_of how) l ≡ record l { over = over_by how l.over; text = l.text ++ over_text how l.machine }
  ended-is end.Spent l = λ i. record l { text = sym (append-nil l.text) i }
  ended-is end.Powerdown l = refl
  ended-is end.Reset l = refl
  ended-is (end.Undefined what access) l = refl

-- ---- an end that is noted, or none

pub spent-text : {X : Type 0} (how : End) (m : Machine X) → is_spent how ≡ true → over_text how m ≡ []
spent-text end.Spent m e = refl
spent-text end.Powerdown m e = absurd (let c : false ≡ true = e in cc)
spent-text end.Reset m e = absurd (let c : false ≡ true = e in cc)
spent-text (end.Undefined what access) m e = absurd (let c : false ≡ true = e in cc)

pub spent-over : (how : End) (o : Option End) → is_spent how ≡ true → over_by how o ≡ o
spent-over end.Spent o e = refl
spent-over end.Powerdown o e = absurd (let c : false ≡ true = e in cc)
spent-over end.Reset o e = absurd (let c : false ≡ true = e in cc)
spent-over (end.Undefined what access) o e = absurd (let c : false ≡ true = e in cc)

pub over-text : {X : Type 0} (how : End) (m : Machine X) → is_spent how ≡ false → over_text how m ≡ line_of (end_line how m)
over-text end.Spent m e = absurd (let c : true ≡ false = e in cc)
over-text end.Powerdown m e = refl
over-text end.Reset m e = refl
over-text (end.Undefined what access) m e = refl

pub over-over : (how : End) (o : Option End) → is_spent how ≡ false → over_by how o ≡ Some how
over-over end.Spent o e = absurd (let c : true ≡ false = e in cc)
over-over end.Powerdown o e = refl
over-over end.Reset o e = refl
over-over (end.Undefined what access) o e = refl

-- a reset has run
pub reset-run : (how : End) (time : ℕ) → is_reset how ≡ true → HasRun how time → 0 < time
reset-run end.Reset time e h = h
reset-run end.Spent time e h = absurd (let c : false ≡ true = e in cc)
reset-run end.Powerdown time e h = absurd (let c : false ≡ true = e in cc)
reset-run (end.Undefined what access) time e h = absurd (let c : false ≡ true = e in cc)

-- where another life follows
pub followed-parts : (b : Bool) (how : End) (number most from_to limit : ℕ) → b ≡ (is_reset how && (nat_lt number most && nat_le from_to limit)) → b ≡ true → (is_reset how ≡ true) × (number < most) × (from_to ≤ limit)
followed-parts b how number most from_to limit is e =
    let one = and_parts (is_reset how) (nat_lt number most && nat_le from_to limit) (sym is ∙ e) in
    let two = and_parts (nat_lt number most) (nat_le from_to limit) one.1 in
    (one.0, less number most two.0, fits from_to limit two.1)
  where
    less : (n k : ℕ) → nat_lt n k ≡ true → n < k
    less n k h = grind (arith, nat_tests, h)

    fits : (n k : ℕ) → nat_le n k ≡ true → n ≤ k
    fits n k h = grind (arith, nat_tests, h)

-- the time of a life of which something else has changed
pub stay-time : {X A E : Type 0} (s t : DebuggedLife X) (how : End) (r : Result A E) → t ≡ record s { over = over_by how s.over } → OnOk r (t.machine.machine.time ≤ s.machine.machine.time)
stay-time {X} s t how r e = let same : t.machine.machine.time ≡ s.machine.machine.time = ap (λ (x : DebuggedLife X). x.machine.machine.time) e in always r (omega (arith, same))

module _ {X : Type 0} {dx : extra.Ghosts X} {dw : extra.Ghosts Watchdog} (f : Further (Pair X Watchdog dx dw)) (made : ℕ → X) (image : List ℕ) (drives : Drives) (most : ℕ) where
  abbrev Debugged : Type 0
  Debugged = DebuggedLife (Pair X Watchdog dx dw)

  abbrev Units : Type 0
  Units = ℕ → Pair X Watchdog dx dw

  abbrev IsMade : Units → Type 0
  IsMade unit = (from : ℕ) → IsWatched (made from) (unit from)

  -- ---- the next life

  pub follow-time : {A E : Type 0} (from : ℕ) (m : Machine (Pair X Watchdog dx dw)) (r : Result A E) → IsBorn made image drives from m → OnOk r (m.time ≡ 0)
  follow-time from m r b = always r (ap (λ (x : Machine (Pair X Watchdog dx dw)). x.time) b.machine)

  born-is : (unit : Units) → IsMade unit → (from : ℕ) (m : Machine (Pair X Watchdog dx dw)) → IsBorn made image drives from m → m ≡ born f deadline_of image drives unit most from
  born-is unit is from m b = b.machine ∙ ap (start image (driven_from from drives)) (watched-same (made from) m.board.units.further (unit from) b.unit (is from))

  abbrev pub next_of : Debugged → Whole (Pair X Watchdog dx dw) → Debugged
  next_of s w = record s {
    number = s.number + 1;
    from = s.from + s.machine.machine.time;
    machine = w;
    past = buffer (keep_last 32 (s.past.items ++ map (past_in s.number) (finished s.machine.machine.under_way s.begun.items))) 32;
    begun = buffer [] 33;
  }

  next-past : (s : Debugged) → map past_of (keep_last 32 (s.past.items ++ map (past_in s.number) (finished s.machine.machine.under_way s.begun.items))) ≡ keep_last 32 (map past_of s.past.items ++ map (λ b. (s.number, b)) (finished s.machine.machine.under_way s.begun.items))
  next-past s =
      let all : List Begun = finished s.machine.machine.under_way s.begun.items in
      sym (last-map past_of 32 (s.past.items ++ map (past_in s.number) all))
      ∙ ap (keep_last 32) (map-append past_of s.past.items (map (past_in s.number) all) ∙ ap (λ ys. map past_of s.past.items ++ ys) (past-map s.number all))

  next-seen : (s : Debugged) (w : Whole (Pair X Watchdog dx dw)) (late : Bool) (unit : Units) → IsMade unit → IsBorn made image drives (s.from + s.machine.machine.time) w.machine →
      seen (next_of s w) ≡ kept_of (followed f deadline_of image drives unit most (last_of late s.machine.machine) (seen s))
  next-seen s w late unit is b = λ i. record {
    number = s.number + 1;
    from = s.from + s.machine.machine.time;
    machine = born-is unit is (s.from + s.machine.machine.time) w.machine b i;
    over = s.over;
    breaks = s.breaks.items;
    past = next-past s i;
    begun = [];
    text = [];
    pauses = [];
  }

  next-ready : (s : Debugged) (w : Whole (Pair X Watchdog dx dw)) → s.from + s.machine.machine.time ≤ max_states → IsBorn made image drives (s.from + s.machine.machine.time) w.machine → IsReady (next_of s w)
  next-ready s w fits b = record {
    held = record { earlier = ap (λ xs. buffer xs 32) (sym (last-same 32 (s.past.items ++ map (past_in s.number) (finished s.machine.machine.under_way s.begun.items)))); present = refl };
    from = fits;
    in_time = subst (λ (k : Watchdog). IsInTime k.deadline w.machine.time) (sym b.unit.second) tt;
    ran = subst (λ (m : Machine (Pair X Watchdog dx dw)). IfSome m.ended (λ how. HasRun how m.time)) (sym b.machine) tt;
  }

  module _ (s t : Debugged) (late : Bool) (old mid : Out) (line : Puts old (restart_line (s.machine.machine.time - 1) late) mid) where
    pub follow-goes : (new : Out) (r : Result (Unit {0}) LivesFault) → t ≡ next_of s t.machine → s.from + s.machine.machine.time ≤ max_states → IsBorn made image drives (s.from + s.machine.machine.time) t.machine.machine →
        Puts mid (stand_line t.number t.machine.machine) new → OnOk r (new.failed ≡ false) → IfErr r (λ e. e ≡ fault.WriteFault) → IfErr r (λ e. new.failed ≡ true) →
        Goes made (λ unit. standing (followed f deadline_of image drives unit most (last_of late s.machine.machine) (seen s))) old r t new
    follow-goes new r e fits b stand written is failed =
        let numbers : t.number ≡ s.number + 1 = ap (λ (x : Debugged). x.number) e in
        let line_text : List ℕ = restart_line (s.machine.machine.time - 1) late in
        record {
          reported = λ unit made_so.
              done-of (standing (followed f deadline_of image drives unit most (last_of late s.machine.machine) (seen s))) old new (line_text ++ stand_line t.number t.machine.machine) r
              (Puts-append old line_text mid (stand_line t.number t.machine.machine) new line stand)
              (λ i. line_text ++ stand_line (numbers i) (born-is unit made_so (s.from + s.machine.machine.time) t.machine.machine b i)) written is failed;
          kept = always r (λ unit made_so. ap seen e ∙ next-seen s t.machine late unit made_so b);
          ready = always r (subst IsReady (sym e) (next-ready s t.machine fits b));
        }

    pub follow-fails : (e : LivesFault) → (e ≡ fault.WriteFault → mid.failed ≡ true) → (e ≡ fault.NoMemory → mid.failed ≡ false) →
        Goes {A = Unit {0}} made (λ unit. standing (followed f deadline_of image drives unit most (last_of late s.machine.machine) (seen s))) old (Err e) t mid
    follow-fails fault.WriteFault failed wanting = record {
      reported = λ unit made_so.
          (Puts-longer old (restart_line (s.machine.machine.time - 1) late) (stand_line (s.number + 1) (born f deadline_of image drives unit most (s.from + s.machine.machine.time))) mid (failed refl) line, failed refl);
      kept = tt;
      ready = tt;
    }
    follow-fails fault.NoMemory failed wanting = record {
      reported = λ unit made_so. ((0, restart_line (s.machine.machine.time - 1) late, omega arith, refl, line), wanting refl);
      kept = tt;
      ready = tt;
    }

  -- ---- no other one follows

  pub stay-goes : (s t : Debugged) (late : Bool) (how : End) (old new : Out) (r : Result (Unit {0}) LivesFault) → how ≡ how_of late s.machine.machine → IsReady s → t ≡ record s { over = over_by how s.over } →
      Puts old (over_text how s.machine.machine ++ stand_line s.number s.machine.machine) new → OnOk r (new.failed ≡ false) → IfErr r (λ e. e ≡ fault.WriteFault) → IfErr r (λ e. new.failed ≡ true) →
      Goes made (λ unit. standing (ended_as f deadline_of image drives unit most (over_of (how_of late s.machine.machine)) (seen s))) old r t new
  stay-goes s t late how old new r so ready e text written is failed = subst (λ h. Goes made (λ unit. standing (ended_as f deadline_of image drives unit most (over_of h) (seen s))) old r t new) so (record {
    reported = λ unit made_so.
        done-of (standing (ended_as f deadline_of image drives unit most (over_of how) (seen s))) old new (over_text how s.machine.machine ++ stand_line s.number s.machine.machine) r text
        (ap (λ (x : InLife (Pair X Watchdog dx dw)). (standing x).text) (sym (ended-is f deadline_of image drives unit most how (seen s)))) written is failed;
    kept = always r (λ unit made_so. ap seen e ∙ same ∙ ap (λ (x : InLife (Pair X Watchdog dx dw)). kept_of (standing x)) (sym (ended-is f deadline_of image drives unit most how (seen s))));
    ready = always r (subst IsReady (sym e) (record { held = ready.held; from = ready.from; in_time = ready.in_time; ran = ready.ran }));
  })
    where
      same : seen (record s { over = over_by how s.over }) ≡ kept_of (record (seen s) { over = over_by how s.over; text = over_text how s.machine.machine })
      same = λ i. record {
        number = s.number;
        from = s.from;
        machine = s.machine.machine;
        over = over_by how s.over;
        breaks = s.breaks.items;
        past = items-kept s ready.held i;
        begun = begun-kept s ready.held i;
        text = [];
        pauses = [];
      }

  -- ---- either

  module _ (s t : Debugged) (late : Bool) (old new : Out) (r : Result (Unit {0}) LivesFault) (followed_so : Bool) (is : followed_so ≡ (is_reset (how_of late s.machine.machine) && (nat_lt s.number most && nat_le (s.from + s.machine.machine.time) max_states))) where
    abbrev either : Bool → Units → InLife (Pair X Watchdog dx dw)
    either b unit = standing (if b then followed f deadline_of image drives unit most (last_of late s.machine.machine) (seen s) else ended_as f deadline_of image drives unit most (over_of (how_of late s.machine.machine)) (seen s))

    pub settled-followed : followed_so ≡ true → Goes made (λ unit. standing (followed f deadline_of image drives unit most (last_of late s.machine.machine) (seen s))) old r t new →
        Goes made (λ unit. standing (settled f deadline_of image drives unit most (last_of late s.machine.machine) (seen s))) old r t new
    settled-followed e g = subst (λ (b : Bool). Goes made (either b) old r t new) (sym e ∙ is) g

    pub settled-stayed : followed_so ≡ false → Goes made (λ unit. standing (ended_as f deadline_of image drives unit most (over_of (how_of late s.machine.machine)) (seen s))) old r t new →
        Goes made (λ unit. standing (settled f deadline_of image drives unit most (last_of late s.machine.machine) (seen s))) old r t new
    settled-stayed e g = subst (λ (b : Bool). Goes made (either b) old r t new) (sym e ∙ is) g

  -- ---- a command that goes on

  abbrev by_over : ℕ → Debugged → Option End → Units → InLife (Pair X Watchdog dx dw)
  by_over states s o unit = standing (goes_on f deadline_of image drives unit most o (life_for f deadline_of states s.machine.machine) (seen s))

  -- the life is over
  pub gone-over : (states : ℕ) (s : Debugged) (how : End) (old new : Out) (r : Result (Unit {0}) LivesFault) → IsReady s → s.over ≡ Some how →
      Puts old (stand_line s.number s.machine.machine) new → OnOk r (new.failed ≡ false) → IfErr r (λ e. e ≡ fault.WriteFault) → IfErr r (λ e. new.failed ≡ true) →
      Goes made (λ unit. gone_for f deadline_of image drives unit most states (seen s)) old r s new
  gone-over states s how old new r ready over text written is failed =
      subst (λ o. Goes made (by_over states s o) old r s new) (sym over) (record {
        reported = λ unit made_so. done-of (standing (seen s)) old new (stand_line s.number s.machine.machine) r text refl written is failed;
        kept = always r (λ unit made_so. kept-same s ready.held);
        ready = always r ready;
      })

  module _ (states : ℕ) (s : Debugged) (ready : IsReady s) (lives : s.over ≡ None) (old mid : Out) (lines : Puts old (text_of (life_for f deadline_of states s.machine.machine).ran.records) mid) where
    abbrev life : Life (Pair X Watchdog dx dw)
    life = life_for f deadline_of states s.machine.machine

    abbrev after : Units → InLife (Pair X Watchdog dx dw)
    after unit = lived f deadline_of image drives unit most life (seen s)

    abbrev here : Units → InLife (Pair X Watchdog dx dw) → InLife (Pair X Watchdog dx dw)
    here unit l = standing (settled f deadline_of image drives unit most life l)

    near : (unit : Units) → Near (after unit).text (after unit).pauses (here unit (kept_of (after unit))) (here unit (after unit))
    near unit =
        near-standing (after unit).text (after unit).pauses (settled f deadline_of image drives unit most life (kept_of (after unit))) (settled f deadline_of image drives unit most life (after unit))
        (near-settled f deadline_of image drives unit most (after unit).text (after unit).pauses life (kept_of (after unit)) (after unit) (near-first (after unit)))

    -- the sink has failed on the way
    pub gone-fails : (t : Debugged) → mid.failed ≡ true → Goes {A = Unit {0}} made (λ unit. gone_for f deadline_of image drives unit most states (seen s)) old (Err fault.WriteFault) t mid
    gone-fails t failed =
        subst (λ o. Goes {A = Unit {0}} made (by_over states s o) old (Err fault.WriteFault) t mid) (sym lives) (record {
          reported = λ unit made_so.
              (subst (λ xs. Puts old xs mid) (sym (near unit).text) (Puts-longer old (text_of life.ran.records) (here unit (kept_of (after unit))).text mid failed lines), failed);
          kept = tt;
          ready = tt;
        })

    module _ (late : Bool) (w : Whole (Pair X Watchdog dx dw)) (q : Buffer Begun) (h : HasLived f deadline_of states s.machine.machine s.begun late w.machine q) where
      abbrev pub gone_to : Debugged
      gone_to = record s { machine = w; begun = q }

      ring : q ≡ buffer (keep_last 33 (s.begun.items ++ begun_for f (w.machine.time - s.machine.machine.time) s.machine.machine)) 33
      ring = ring-33 s.begun q (s.begun.items ++ begun_for f (w.machine.time - s.machine.machine.time) s.machine.machine) ready.held.present h.begun

      gone-seen : (unit : Units) → seen gone_to ≡ kept_of (after unit)
      gone-seen unit = λ i. record {
        number = s.number;
        from = s.from;
        machine = h.machine i;
        over = s.over;
        breaks = s.breaks.items;
        past = items-kept s ready.held i;
        begun = begun i;
        text = [];
        pauses = [];
      }
        where
          begun : q.items ≡ keep_last 33 (s.begun.items ++ begun_for f (life.ran.machine.time - s.machine.machine.time) s.machine.machine)
          begun =
              ap (λ (b : Buffer Begun). b.items) ring
              ∙ ap (λ (m : Machine (Pair X Watchdog dx dw)). keep_last 33 (s.begun.items ++ begun_for f (m.time - s.machine.machine.time) s.machine.machine)) h.machine

      gone-settled : (unit : Units) → standing (settled f deadline_of image drives unit most (last_of late w.machine) (seen gone_to)) ≡ here unit (kept_of (after unit))
      gone-settled unit =
          (λ i. standing (settled f deadline_of image drives unit most (record { ran = still (h.machine i); how = h.how i; by_watchdog = h.by_watchdog i }) (seen gone_to)))
          ∙ ap (here unit) (gone-seen unit)

      pub gone-goes : (t : Debugged) (new : Out) (r : Result (Unit {0}) LivesFault) → Goes made (λ unit. standing (settled f deadline_of image drives unit most (last_of late w.machine) (seen gone_to))) mid r t new →
          Goes made (λ unit. gone_for f deadline_of image drives unit most states (seen s)) old r t new
      gone-goes t new r g =
          subst (λ o. Goes made (by_over states s o) old r t new) (sym lives) (record {
            reported = λ unit made_so.
                near-done (after unit).text (after unit).pauses (here unit (kept_of (after unit))) (here unit (after unit)) old mid new r (near unit) lines
                (subst (λ (l : InLife (Pair X Watchdog dx dw)). IsDone l mid r new) (gone-settled unit) (g.reported unit made_so));
            kept = on-ok r g.kept (λ kept unit made_so. kept unit made_so ∙ ap kept_of (gone-settled unit) ∙ near-kept (after unit).text (after unit).pauses (here unit (kept_of (after unit))) (here unit (after unit)) (near unit));
            ready = g.ready;
          })

      pub gone-ready : IsReady gone_to
      gone-ready = record {
        held = record { earlier = ready.held.earlier; present = kept };
        from = ready.from;
        in_time = h.in_time;
        ran = h.ran;
      }
        where
          kept : q ≡ buffer (keep_last 33 q.items) 33
          kept =
              ring
              ∙ ap (λ xs. buffer xs 33)
              (sym (last-same 33 (s.begun.items ++ begun_for f (w.machine.time - s.machine.machine.time) s.machine.machine)) ∙ ap (λ (b : Buffer Begun). keep_last 33 b.items) (sym ring))

  -- ---- a command that leaves the machine in its life

  -- nothing is printed
  pub goes-still : {A : Type 0} (s t : Debugged) (l : InLife (Pair X Watchdog dx dw)) (o : Out) (a : A) → l.text ≡ [] → seen t ≡ kept_of l → IsReady t → o.failed ≡ false → Goes made (λ unit. l) o (Ok a) t o
  goes-still s t l o a none kept ready unbroken = record {
    reported = λ unit made_so. (subst (λ xs. Puts o xs o) (sym none) (Puts-nothing o), unbroken);
    kept = λ unit made_so. kept;
    ready = ready;
  }

  pub break-kept : (s : Debugged) (breaks : List ℕ) → IsHeld s.past s.begun → (k : List ℕ) → k ≡ breaks →
      record (seen s) { breaks = k } ≡ kept_of (record (seen s) { breaks = breaks })
  break-kept s breaks h k e = λ i. record {
    number = s.number;
    from = s.from;
    machine = s.machine.machine;
    over = s.over;
    breaks = e i;
    past = items-kept s h i;
    begun = begun-kept s h i;
    text = [];
    pauses = [];
  }

  -- what is said of it
  pub goes-said : (s : Debugged) (text : List ℕ) (old new : Out) (r : Result (Unit {0}) LivesFault) → IsReady s → Puts old text new → OnOk r (new.failed ≡ false) → IfErr r (λ e. e ≡ fault.WriteFault) → IfErr r (λ e. new.failed ≡ true) →
      Goes made (λ unit. says text (seen s)) old r s new
  goes-said s text old new r ready puts written is failed = record {
    reported = λ unit made_so. done-of (says text (seen s)) old new text r puts refl written is failed;
    kept = always r (λ unit made_so. kept-same s ready.held);
    ready = always r ready;
  }

  -- a machine that stands where another does
  pub ready-with : (s : Debugged) (w : Whole (Pair X Watchdog dx dw)) (m : Machine (Pair X Watchdog dx dw)) → w.machine ≡ m → IsInTime (deadline_of m.board.units.further) m.time → IfSome m.ended (λ how. HasRun how m.time) → IsReady s →
      IsReady (record s { machine = w })
  ready-with s w m same in_time ran ready = record {
    held = ready.held;
    from = ready.from;
    in_time = subst (λ (k : Machine (Pair X Watchdog dx dw)). IsInTime (deadline_of k.board.units.further) k.time) (sym same) in_time;
    ran = subst (λ (k : Machine (Pair X Watchdog dx dw)). IfSome k.ended (λ how. HasRun how k.time)) (sym same) ran;
  }

  pub seen-with : (s : Debugged) (w : Whole (Pair X Watchdog dx dw)) (m : Machine (Pair X Watchdog dx dw)) → IsHeld s.past s.begun → w.machine ≡ m → seen (record s { machine = w }) ≡ kept_of (record (seen s) { machine = m })
  seen-with s w m h same = λ i. record {
    number = s.number;
    from = s.from;
    machine = same i;
    over = s.over;
    breaks = s.breaks.items;
    past = items-kept s h i;
    begun = begun-kept s h i;
    text = [];
    pauses = [];
  }

  -- bytes are shown
  pub goes-shown : (s : Debugged) (w : Whole (Pair X Watchdog dx dw)) (text : List ℕ) (old new : Out) (r : Result (Unit {0}) LivesFault) → IsReady s → w.machine ≡ s.machine.machine → Puts old text new → OnOk r (new.failed ≡ false) →
      IfErr r (λ e. e ≡ fault.WriteFault) → IfErr r (λ e. new.failed ≡ true) → Goes made (λ unit. says text (seen s)) old r (record s { machine = w }) new
  goes-shown s w text old new r ready same puts written is failed = record {
    reported = λ unit made_so. done-of (says text (seen s)) old new text r puts refl written is failed;
    kept = always r (λ unit made_so. seen-with s w s.machine.machine ready.held same);
    ready = always r (ready-with s w s.machine.machine same ready.in_time ready.ran ready);
  }
