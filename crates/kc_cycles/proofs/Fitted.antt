-- The watchdog beside another unit: feedings alone move its deadline, and it stands while no pin has an edge.
use Rattle.std.proofs.Common.{◌≡◌, ℕ, zero, suc, ◌+◌, ◌-◌, ◌*◌, ◌<◌, ◌≤◌, ◌==◌, Bool, true, false, ◌&&◌, List, [], ◌∷◌, length, Some, Result, Ok, Err, ◌⊎◌, inl, inr, refl, sym, ◌∙◌, ap, subst, arith}
use Rattle.std.specs.Prelude.{if◌then◌else◌, nat_lt, IfOk}
use Rattle.std.proofs.lemmas.Bool.{and_parts}
use Rattle.std.proofs.lemmas.Bool.Decides.{nat_tests}
use Rattle.kc_span.specs.Span.{Rule, after}
use Rattle.kc_span.proofs.SpanLaws.{after-zero, after-suc}
use Rattle.kc_extra.specs.declared.extra.Extra as extra
use Rattle.kc_extra.specs.declared.pair.Pair.{Pair}
use Rattle.kc_extra.specs.Further.{Further}
use Rattle.kc_extra.specs.Pins.{AreFew, are_apart}
use Rattle.kc_extra.proofs.Pairs.{same_pair}
use Rattle.kc_stim.specs.Drives.{Drives, driven_from}
use Rattle.kc_trace.specs.Out.{Out, Puts}
use Rattle.kc_trace.specs.Text.{text_of}
use Rattle.kc_machine_spec.specs.declared.doing.End.{End}
use Rattle.kc_machine_spec.specs.Machine.{Machine, start}
use Rattle.kc_machine_spec.specs.Text.{finals}
use Rattle.kc_cycles.specs.declared.lives.LivesFault.TheVariants as fault
use Rattle.kc_cycles.specs.declared.watchdog.Watchdog.{Watchdog}
use Rattle.kc_cycles.specs.Watching.{patience, is_watchdog, new_watchdog, fed}
use Rattle.kc_cycles.specs.Life.{Life, life_for}
use Rattle.kc_cycles.specs.Lives.{is_reset, life_from, lives_from, lives_of, restart_line, lives_touch, work_of_lives, AreReported}
use Rattle.kc_cycles.specs.Making.{IsWatched, deadline_of, Lived}
use Rattle.kc_cycles.proofs.Going.{Moved, Feeds}
use Rattle.kc_cycles.proofs.Works.{lives-within}
use Rattle.kc_cycles.proofs.Following.{Reported, reported-first, reported-next, reported-wanting, reported-cut, reported-cut_line, reported-last, reported-cut_last, reported-spent, reported-spent_more, lives-some, lives-followed, lives-last}

fed-moves : (value t : ℕ) (d : Watchdog) → ((fed value t d).deadline ≡ d.deadline) ⊎ ((fed value t d).deadline ≡ Some (t + patience))
fed-moves value t d = by_flag (d.half_fed && (value == 0xE1))
  where
    by_flag : (b : Bool) → ((if b then Some (t + patience) else d.deadline) ≡ d.deadline) ⊎ ((if b then Some (t + patience) else d.deadline) ≡ Some (t + patience))
    by_flag true = inr refl
    by_flag false = inl refl

either-moves : (b : Bool) (value t : ℕ) (d : Watchdog) → ((if b then fed value t d else d).deadline ≡ d.deadline) ⊎ ((if b then fed value t d else d).deadline ≡ Some (t + patience))
either-moves true value t d = fed-moves value t d
either-moves false value t d = inl refl

unless-moves : (a b : Bool) (value t : ℕ) (d : Watchdog) →
    ((if a then d else if b then fed value t d else d).deadline ≡ d.deadline) ⊎ ((if a then d else if b then fed value t d else d).deadline ≡ Some (t + patience))
unless-moves true b value t d = inl refl
unless-moves false b value t d = either-moves b value t d

same-either : (b : Bool) (d : Watchdog) → (if b then d else d).deadline ≡ d.deadline
same-either true d = refl
same-either false d = refl

module _ {A : Type 0} {da : extra.Ghosts A} {dw : extra.Ghosts Watchdog} where
  -- by what a pair's unit says of its second part
  pub pair-feeds : (f : Further (Pair A Watchdog da dw)) (readable writable : ℕ → ℕ → Bool) →
      ((t levels edges : ℕ) (d : Pair A Watchdog da dw) → (f.step t levels edges d).second ≡ d.second) →
      ((t : ℕ) (d : Pair A Watchdog da dw) → (f.started t d).second ≡ d.second) →
      ((w s t : ℕ) (d : Pair A Watchdog da dw) → (f.after_read w s t d).second ≡ (if readable w s then d.second else d.second)) →
      ((w s v t : ℕ) (d : Pair A Watchdog da dw) → (f.after_write w s v t d).second ≡ (if writable w s then d.second else if is_watchdog w s then fed v t d.second else d.second)) →
      Feeds deadline_of f
  pair-feeds f readable writable step started read write = record {
    of_tick = λ t l e d. inl (ap (λ (w : Watchdog). w.deadline) (step t l e d));
    of_start = λ t d. inl (ap (λ (w : Watchdog). w.deadline) (started t d));
    of_read = λ w s t d. inl (ap (λ (w : Watchdog). w.deadline) (read w s t d) ∙ same-either (readable w s) d.second);
    of_write = λ w s v t d. by_write w s v t d (unless-moves (writable w s) (is_watchdog w s) v t d.second);
  }
    where
      by_write : (w s v t : ℕ) (d : Pair A Watchdog da dw) →
          ((if writable w s then d.second else if is_watchdog w s then fed v t d.second else d.second).deadline ≡ d.second.deadline) ⊎ ((if writable w s then d.second else if is_watchdog w s then fed v t d.second else d.second).deadline ≡ Some (t + patience)) →
          Moved deadline_of t d (f.after_write w s v t d)
      by_write w s v t d (inl e) = inl (ap (λ (w : Watchdog). w.deadline) (write w s v t d) ∙ e)
      by_write w s v t d (inr e) = inr (ap (λ (w : Watchdog). w.deadline) (write w s v t d) ∙ e)

  pub deadline-stands : (r : Rule (Pair A Watchdog da dw)) → ((t : ℕ) (d : Pair A Watchdog da dw) → (r.step t d).second ≡ d.second) → (from n : ℕ) (d : Pair A Watchdog da dw) → deadline_of (after r from n d) ≡ deadline_of d
  deadline-stands r rests from zero d = ap deadline_of (after-zero r from d)
  deadline-stands r rests from (suc n) d =
      ap deadline_of (after-suc r from n d) ∙ ap (λ (w : Watchdog). w.deadline) (rests (from + n) (after r from n d)) ∙ deadline-stands r rests from n d

-- ---- the pair of a life

-- the watchdog moves no pin
pub room-left : (pins : List ℕ) → AreFew pins → length pins + length {A = ℕ} [] ≤ 4
room-left pins few = omega (arith, few.few)

pub apart-none : (pins : List ℕ) → are_apart pins [] ≡ true
apart-none [] = refl
apart-none (p ∷ pins) = apart-none pins

module _ {A : Type 0} {da : extra.Ghosts A} {dw : extra.Ghosts Watchdog} where
  pub watched : length da.pins + length dw.pins ≤ 4 → are_apart da.pins dw.pins ≡ true → A → Pair A Watchdog da dw
  watched few apart unit = record { first = unit; second = new_watchdog; moves = 0; few = few; apart = apart }

  pub watched-is : (few : length da.pins + length dw.pins ≤ 4) (apart : are_apart da.pins dw.pins ≡ true) (unit : A) → IsWatched unit (watched few apart unit)
  unfolding watched
  watched-is few apart unit = record { first = refl; second = refl; moves = refl }

  -- two such pairs are one
  pub watched-same : (unit : A) (p q : Pair A Watchdog da dw) → IsWatched unit p → IsWatched unit q → p ≡ q
  watched-same unit p q h k = same_pair p q (h.first ∙ sym k.first) (h.second ∙ sym k.second) (h.moves ∙ sym k.moves)

  -- the machine that is made with a unit, as what was made shows it
  pub made-unit : {W E : Type 0} (machine : W → Machine (Pair A Watchdog da dw)) (unit : A) (image : List ℕ) (drives : Drives) (p : Pair A Watchdog da dw) (r : Result W E) → IsWatched unit p → IfOk r (λ w. machine w ≡ start image drives p) →
      IfOk r (λ w. IsWatched unit (machine w).board.units.further)
  made-unit machine unit image drives p (Ok w) is e = subst (IsWatched unit) (sym (ap (λ (m : Machine (Pair A Watchdog da dw)). m.board.units.further) e)) is
  made-unit machine unit image drives p (Err x) is e = tt

  pub made-machine : {W E : Type 0} (machine : W → Machine (Pair A Watchdog da dw)) (image shown : List ℕ) (drives from : Drives) (p : Pair A Watchdog da dw) (r : Result W E) → image ≡ shown → drives ≡ from →
      IfOk r (λ w. machine w ≡ start image drives p) → IfOk r (λ w. machine w ≡ start shown from (machine w).board.units.further)
  made-machine machine image shown drives from p (Ok w) a b e =
      e ∙ ap (λ xs. start xs drives p) a ∙ ap (λ d. start shown d p) b ∙ ap (start shown from) (sym (ap (λ (m : Machine (Pair A Watchdog da dw)). m.board.units.further) e))
  made-machine machine image shown drives from p (Err x) a b e = tt

  -- ---- lives on their way

  pub record Way (f : Further (Pair A Watchdog da dw)) (made : ℕ → A) (image : List ℕ) (drives : Drives) (until most : ℕ) (o0 : Out) (s0 : ℕ) (left from : ℕ) (o : Out) (s : ℕ) : Type 0 where
    pub unit : ℕ → Pair A Watchdog da dw
    pub is_made : (at : ℕ) → IsWatched (made at) (unit at)
    pub reported : Reported (lives_of f deadline_of image drives unit until most) o0 s0 (lives_from f deadline_of image drives unit until left from) o s
    pub some : 1 ≤ left
    pub within : from ≤ until
    pub unbroken : o.failed ≡ false

  pub way-first : (f : Further (Pair A Watchdog da dw)) (made : ℕ → A) (image : List ℕ) (drives : Drives) (until most : ℕ) (o : Out) (s : ℕ) → length da.pins + length dw.pins ≤ 4 → are_apart da.pins dw.pins ≡ true →
      1 ≤ most → o.failed ≡ false → Way f made image drives until most o s most 0 o s
  way-first f made image drives until most o s few apart some unbroken = record {
    unit = λ at. watched few apart (made at);
    is_made = λ at. watched-is few apart (made at);
    reported = reported-first _ o s;
    some = some;
    within = omega arith;
    unbroken = unbroken;
  }

  -- the life that begins there, by the machine that is made for it
  module _ (f : Further (Pair A Watchdog da dw)) (made : ℕ → A) (image : List ℕ) (drives : Drives) (until most : ℕ) (o0 : Out) (s0 : ℕ) (left from : ℕ) (o : Out) (s : ℕ) (way : Way f made image drives until most o0 s0 left from o s) where
    abbrev pub all_lives : List (Life (Pair A Watchdog da dw))
    all_lives = lives_of f deadline_of image drives way.unit until most

    abbrev pub this_life : Life (Pair A Watchdog da dw)
    this_life = life_from f deadline_of image drives way.unit until from

    -- calls within the touch of all lives are within their work
    own_worked : (t : ℕ) → t ≤ s0 + 4 * lives_touch all_lives → t ≤ s0 + 16 * work_of_lives f deadline_of image drives way.unit until most
    own_worked t spent = let within = lives-within f deadline_of image drives way.unit until most 0 in omega (arith, spent, within)

    -- the machine of the life
    pub way-life : (m : Machine (Pair A Watchdog da dw)) → IsWatched (made from) m.board.units.further → m ≡ start image (driven_from from drives) m.board.units.further → life_for f deadline_of (until - from) m ≡ this_life
    way-life m is e = ap (life_for f deadline_of (until - from)) (e ∙ ap (start image (driven_from from drives)) (watched-same (made from) m.board.units.further (way.unit from) is (way.is_made from)))

    pub way-none : (p : Out) → p ≡ o → Lived f made image drives until most o0 s0 (Err fault.NoMemory) p s
    way-none p same =
        let some = lives-some f deadline_of image drives way.unit until left from way.some in
        let reported : Reported all_lives o0 s0 (this_life ∷ some.0) o s = subst (λ xs. Reported all_lives o0 s0 xs o s) some.1 way.reported in
        record {
          unit = way.unit;
          is_made = way.is_made;
          reported = subst (λ q. AreReported all_lives o0 (Err fault.NoMemory) q) (sym same) (reported-wanting all_lives o0 s0 this_life some.0 o s reported way.unbroken);
          spent = reported-spent all_lives o0 s0 (this_life ∷ some.0) o s reported;
          worked = own_worked s (reported-spent all_lives o0 s0 (this_life ∷ some.0) o s reported);
        }

    module _ (life : Life (Pair A Watchdog da dw)) (same : life ≡ this_life) (mid : Out) (t : ℕ) (lines : Puts o (text_of life.ran.records) mid) (spent : t ≤ s + 4 * life.ran.touch) where
      own_lines : Puts o (text_of this_life.ran.records) mid
      own_lines = subst (λ (l : Life (Pair A Watchdog da dw)). Puts o (text_of l.ran.records) mid) same lines

      own_spent : t ≤ s + 4 * this_life.ran.touch
      own_spent = subst (λ (l : Life (Pair A Watchdog da dw)). t ≤ s + 4 * l.ran.touch) same spent

      -- the sink fails in the life
      pub way-cut : mid.failed ≡ true → Lived f made image drives until most o0 s0 (Err fault.WriteFault) mid t
      way-cut failed =
          let some = lives-some f deadline_of image drives way.unit until left from way.some in
          let reported : Reported all_lives o0 s0 (this_life ∷ some.0) o s = subst (λ xs. Reported all_lives o0 s0 xs o s) some.1 way.reported in
          record {
            unit = way.unit;
            is_made = way.is_made;
            reported = reported-cut all_lives o0 s0 this_life some.0 o s mid reported own_lines failed;
            spent = reported-spent_more all_lives o0 s0 this_life some.0 o s t reported own_spent;
            worked = own_worked t (reported-spent_more all_lives o0 s0 this_life some.0 o s t reported own_spent);
          }

      -- no other follows
      module _ (none : (is_reset life.how && nat_lt 1 left) ≡ false) where
        last_reported : Reported all_lives o0 s0 (this_life ∷ []) o s
        last_reported =
            subst (λ xs. Reported all_lives o0 s0 xs o s)
            (lives-last f deadline_of image drives way.unit until left from way.some (ap (λ (l : Life (Pair A Watchdog da dw)). is_reset l.how && nat_lt 1 left) (sym same) ∙ none)) way.reported

        pub way-last : (p : Out) (how : End) → how ≡ life.how → Puts mid (text_of (finals life.how life.ran.machine)) p → p.failed ≡ false → Lived f made image drives until most o0 s0 (Ok how) p t
        way-last p how is last unbroken = record {
          unit = way.unit;
          is_made = way.is_made;
          reported = reported-last all_lives o0 s0 this_life o s mid p how last_reported own_lines (subst (λ (l : Life (Pair A Watchdog da dw)). Puts mid (text_of (finals l.how l.ran.machine)) p) same last) unbroken
              (is ∙ ap (λ (l : Life (Pair A Watchdog da dw)). l.how) same);
          spent = reported-spent_more all_lives o0 s0 this_life [] o s t last_reported own_spent;
          worked = own_worked t (reported-spent_more all_lives o0 s0 this_life [] o s t last_reported own_spent);
        }

        pub way-cut_last : (p : Out) → Puts mid (text_of (finals life.how life.ran.machine)) p → p.failed ≡ true → Lived f made image drives until most o0 s0 (Err fault.WriteFault) p t
        way-cut_last p last failed = record {
          unit = way.unit;
          is_made = way.is_made;
          reported = reported-cut_last all_lives o0 s0 this_life o s mid p last_reported own_lines (subst (λ (l : Life (Pair A Watchdog da dw)). Puts mid (text_of (finals l.how l.ran.machine)) p) same last) failed;
          spent = reported-spent_more all_lives o0 s0 this_life [] o s t last_reported own_spent;
          worked = own_worked t (reported-spent_more all_lives o0 s0 this_life [] o s t last_reported own_spent);
        }

      -- another follows
      module _ (reset : is_reset life.how ≡ true) (more : 1 < left) (p : Out) (line : Puts mid (restart_line (life.ran.machine.time - 1) life.by_watchdog) p) where
        next_reported : Reported all_lives o0 s0 (this_life ∷ lives_from f deadline_of image drives way.unit until (left - 1) (from + this_life.ran.machine.time)) o s
        next_reported =
            subst (λ xs. Reported all_lives o0 s0 xs o s)
            (lives-followed f deadline_of image drives way.unit until left from (ap (λ (l : Life (Pair A Watchdog da dw)). is_reset l.how) (sym same) ∙ reset) more) way.reported

        own_line : Puts mid (restart_line (this_life.ran.machine.time - 1) this_life.by_watchdog) p
        own_line = subst (λ (l : Life (Pair A Watchdog da dw)). Puts mid (restart_line (l.ran.machine.time - 1) l.by_watchdog) p) same line

        pub way-cut_line : p.failed ≡ true → Lived f made image drives until most o0 s0 (Err fault.WriteFault) p t
        way-cut_line failed =
            let following = lives-some f deadline_of image drives way.unit until (left - 1) (from + this_life.ran.machine.time) (omega arith) in
            let reported : Reported all_lives o0 s0 (this_life ∷ life_from f deadline_of image drives way.unit until (from + this_life.ran.machine.time) ∷ following.0) o s =
            subst (λ xs. Reported all_lives o0 s0 (this_life ∷ xs) o s) following.1 next_reported in
            record {
              unit = way.unit;
              is_made = way.is_made;
              reported = reported-cut_line all_lives o0 s0 this_life (life_from f deadline_of image drives way.unit until (from + this_life.ran.machine.time)) following.0 o s mid p reported own_lines own_line failed;
              spent = reported-spent_more all_lives o0 s0 this_life (life_from f deadline_of image drives way.unit until (from + this_life.ran.machine.time) ∷ following.0) o s t reported own_spent;
              worked = own_worked t (reported-spent_more all_lives o0 s0 this_life (life_from f deadline_of image drives way.unit until (from + this_life.ran.machine.time) ∷ following.0) o s t reported own_spent);
            }

        pub way-next : (time : ℕ) → time ≡ life.ran.machine.time → from + time ≤ until → p.failed ≡ false → Way f made image drives until most o0 s0 (left - 1) (from + time) p t
        way-next time is fits unbroken = record {
          unit = way.unit;
          is_made = way.is_made;
          reported = subst (λ n. Reported all_lives o0 s0 (lives_from f deadline_of image drives way.unit until (left - 1) (from + n)) p t) (sym (is ∙ ap (λ (l : Life (Pair A Watchdog da dw)). l.ran.machine.time) same))
              (reported-next all_lives o0 s0 this_life (lives_from f deadline_of image drives way.unit until (left - 1) (from + this_life.ran.machine.time)) o s mid p t next_reported own_lines own_line own_spent);
          some = omega arith;
          within = fits;
          unbroken = unbroken;
        }

-- ---- the end of a life, as it is reported

pub followed-by : (how : End) (left : ℕ) → (is_reset how && nat_lt 1 left) ≡ true → (is_reset how ≡ true) × (1 < left)
followed-by how left e =
    let both = and_parts (is_reset how) (nat_lt 1 left) e in
    (both.0, more left both.1)
  where
    more : (n : ℕ) → nat_lt 1 n ≡ true → 1 < n
    more n h = grind (arith, nat_tests)

module _ {X : Type 0} where
  pub restart-of : (mid p : Out) (t : ℕ) (b : Bool) (life : Life X) → t ≡ life.ran.machine.time → b ≡ life.by_watchdog → Puts mid (restart_line (t - 1) b) p → Puts mid (restart_line (life.ran.machine.time - 1) life.by_watchdog) p
  restart-of mid p t b life e h line = subst (λ text. Puts mid text p) (ap (λ n. restart_line (n - 1) b) e ∙ ap (restart_line (life.ran.machine.time - 1)) h) line

  pub finals-of : (mid p : Out) (how : End) (n : Machine X) (life : Life X) → how ≡ life.how → n ≡ life.ran.machine → Puts mid (text_of (finals how n)) p → Puts mid (text_of (finals life.how life.ran.machine)) p
  finals-of mid p how n life e h lines = subst (λ text. Puts mid text p) (ap (λ k. text_of (finals k n)) e ∙ ap (λ m. text_of (finals life.how m)) h) lines
