-- The frames of the port by the bytes written so far.
use Rattle.std.proofs.Common.{◌≡◌, ℕ, zero, suc, ◌+◌, ◌*◌, ◌<◌, ◌≤◌, ◌==◌, Bool, true, false, not, ◌&&◌, ◌||◌, ◌⊎◌, refl, sym, ◌∙◌, ap, subst, arith, inl, inr, Option, Some, None, List, [], ◌∷◌}
use Rattle.std.specs.Prelude.{if◌then◌else◌, nat_le}
use Rattle.std.specs.List.{list_any}
use Rattle.std.proofs.lemmas.Bool.{cases_Bool, cases_eq, and_left, and_right, and_from, or_parts, or_from, leb-true, leb-false, le-leb, ne_eqb, false≢true}
use Rattle.kc_extra.specs.Histories.{Access, accessed}
use Rattle.kc_serial.specs.Frames.{bit_length, is_over, ends, begun_of, sending_after, waiting_after}
use Rattle.kc_serial.specs.Port.{is_on, ticked}
use Rattle.kc_serial.specs.Registers.{sbuf, baud_rate, sp_con, queued}
use Rattle.kc_serial.specs.Unit.{serial_further}
use Rattle.kc_serial.specs.History.{Driven, falls, port_at}
use Rattle.kc_serial.specs.declared.sending.Frame.{Frame}
use Rattle.kc_serial.specs.declared.sending.Sending.{Sending}
use Rattle.kc_serial.specs.declared.sending.Sending.TheVariants.{Idle, Next, Busy}
use Rattle.kc_serial.specs.declared.serial.Serial.{Serial}
use Rattle.kc_serial.specs.Accesses.{Done, log, is_write_of, is_read_of, control_after, rate_before}
use Rattle.kc_serial.specs.Schedules.{end_of, IsFree, Ends, is_given, IsGiven, gives_in, BeginsAtOnce, replaces, Waits, begun_next, frames_of, FramesAreScheduled}
use Rattle.kc_serial.proofs.AccessLaws.{some_same, none_some, View, view, OfByte, OfRate, OfControl, OfStatus, OfOther, fold_holds, Registered, registered_next, young, written_before}
use Rattle.kc_serial.proofs.WaitLaws.{done, given_on, given_last, gives_at, one_first, given_replaces, one_kept, kept_on, now_waits, waits_on, waits_split}

-- the first byte of a state, whose frame begins in the next one
pub record First (accesses : List Done) (t byte : ℕ) : Type 0 where
  pub since : List Done
  pub earlier : List Done
  pub given : IsGiven accesses since earlier t byte
  pub first : gives_in t earlier ≡ false

-- a frame under way in state t, behind its Tick
pub record Under (h : Driven) (t : ℕ) (frame : Frame) : Type 0 where
  pub from : ℕ
  pub begins : frames_of h from ≡ Some frame.byte
  pub rate : frame.rate ≡ rate_before h from
  pub age : from + frame.age ≡ t
  pub young : frame.age < 10 * bit_length frame.rate
  pub alone : (g byte : ℕ) → frames_of h g ≡ Some byte → g ≤ t → (g ≡ from → ⊥) → end_of h g ≤ from

abbrev pub Sends : Driven → ℕ → List Done → Option ℕ → Sending → Type 0
Sends h t accesses waiting Idle = IsFree h (frames_of h) t × (gives_in t accesses ≡ false) × (waiting ≡ None)
Sends h t accesses waiting (Next byte) = IsFree h (frames_of h) t × First accesses t byte
Sends h t accesses waiting (Busy frame) = Under h t frame

-- what waits as state n begins
abbrev pub Holds : Driven → ℕ → List Done → Option ℕ → Type 0
Holds h n accesses None = (byte : ℕ) → Waits h (frames_of h) accesses n byte → ⊥
Holds h n accesses (Some byte) = Waits h (frames_of h) accesses n byte

-- the port in state t, behind these accesses
pub record Stands (h : Driven) (t : ℕ) (accesses : List Done) (d : Serial) : Type 0 where
  pub registers : Registered accesses d
  pub sends : Sends h t accesses d.waiting d.sending
  pub holds : Holds h (suc t) accesses d.waiting

-- how long a frame lasts
pub lasts : (h : Driven) (t : ℕ) (frame : Frame) (u : Under h t frame) → end_of h u.from ≡ u.from + 10 * bit_length frame.rate
lasts h t frame u = ap (λ r. u.from + 10 * bit_length r) (sym u.rate)

pub busy : (h : Driven) (t : ℕ) (frame : Frame) → Under h t frame → IsFree h (frames_of h) t → ⊥
busy h t frame u free =
    let over : end_of h u.from ≤ t = free u.from frame.byte u.begins (let age : u.from + frame.age ≡ t = u.age in omega arith) in
    let long : end_of h u.from ≡ u.from + 10 * bit_length frame.rate = lasts h t frame u in
    let age : u.from + frame.age ≡ t = u.age in
    let less : frame.age < 10 * bit_length frame.rate = u.young in
    omega arith

module _ (h : Driven) (t : ℕ) where
  -- an access that neither writes a byte nor replaces what waits
  sends_on : (accesses : List Done) (a : Access) (waiting : Option ℕ) (s : Sending) → is_given accesses a ≡ false → Sends h t accesses waiting s → Sends h t (done t a ∷ accesses) waiting s
  sends_on accesses a waiting Idle none was = (was.0, or_from _ _ (and_right (t == t) (is_given accesses a) none) was.1, was.2)
  sends_on accesses a waiting (Next byte) none was =
      (was.0, record { since = done t a ∷ was.1.since; earlier = was.1.earlier; given = given_on (done t a) accesses was.1.since was.1.earlier t byte was.1.given; first = was.1.first })
  sends_on accesses a waiting (Busy frame) none was = was

  -- a byte that is lost, or a port that is turned off
  sends_off : (accesses : List Done) (a : Access) (waiting : Option ℕ) (s : Sending) → is_given accesses a ≡ false → Sends h t accesses waiting s → Sends h t (done t a ∷ accesses) None s
  sends_off accesses a waiting Idle none was = (was.0, or_from _ _ (and_right (t == t) (is_given accesses a) none) was.1, refl)
  sends_off accesses a waiting (Next byte) none was =
      (was.0, record { since = done t a ∷ was.1.since; earlier = was.1.earlier; given = given_on (done t a) accesses was.1.since was.1.earlier t byte was.1.given; first = was.1.first })
  sends_off accesses a waiting (Busy frame) none was = was

  holds_on : (n : ℕ) (accesses : List Done) (a : Access) (waiting : Option ℕ) → is_given accesses a ≡ false → replaces a ≡ false → Holds h n accesses waiting → Holds h n (done t a ∷ accesses) waiting
  holds_on n accesses a None none keeps was = λ byte w. elim (waits_split h (frames_of h) t n accesses a byte w) [
    | inl now ↦ false≢true (sym none ∙ now.0)
    | inr before ↦ was byte before.1
  ]
  holds_on n accesses a (Some byte) none keeps was = waits_on h (frames_of h) t n accesses a byte keeps was

  none_holds : (n : ℕ) (accesses : List Done) (a : Access) → is_given accesses a ≡ false → replaces a ≡ true → Holds h n (done t a ∷ accesses) None
  none_holds n accesses a none replaced byte w = elim (waits_split h (frames_of h) t n accesses a byte w) [
    | inl now ↦ false≢true (sym none ∙ now.0)
    | inr before ↦ false≢true (sym before.0 ∙ replaced)
  ]

  -- where the port is off nothing waits
  off_holds : (n : ℕ) (accesses : List Done) (waiting : Option ℕ) → is_on (control_after accesses) ≡ false → Holds h n accesses waiting → waiting ≡ None
  off_holds n accesses None off was = refl
  off_holds n accesses (Some byte) off was = absurd (false≢true (sym off ∙ kept_on accesses was.since was.earlier was.written byte was.given was.kept))

  -- what keeps what is sent and what waits
  stands_on : (accesses : List Done) (a : Access) (d e : Serial) → is_given accesses a ≡ false → replaces a ≡ false → e.sending ≡ d.sending → e.waiting ≡ d.waiting →
      Registered (done t a ∷ accesses) e → Stands h t accesses d → Stands h t (done t a ∷ accesses) e
  stands_on accesses a d e none keeps sending waiting registers was = record {
    registers = registers;
    sends =
        subst (λ w. Sends h t (done t a ∷ accesses) w e.sending) (sym waiting)
        (subst (Sends h t (done t a ∷ accesses) d.waiting) (sym sending) (sends_on accesses a d.waiting d.sending none was.sends));
    holds = subst (Holds h (suc t) (done t a ∷ accesses)) (sym waiting) (holds_on (suc t) accesses a d.waiting none keeps was.holds);
  }

  -- what leaves nothing that waits
  stands_off : (accesses : List Done) (a : Access) (d e : Serial) → is_given accesses a ≡ false → replaces a ≡ true → e.sending ≡ d.sending → e.waiting ≡ None →
      Registered (done t a ∷ accesses) e → Stands h t accesses d → Stands h t (done t a ∷ accesses) e
  stands_off accesses a d e none replaced sending waiting registers was = record {
    registers = registers;
    sends =
        subst (λ w. Sends h t (done t a ∷ accesses) w e.sending) (sym waiting)
        (subst (Sends h t (done t a ∷ accesses) None) (sym sending) (sends_off accesses a d.waiting d.sending none was.sends));
    holds = subst (Holds h (suc t) (done t a ∷ accesses)) (sym waiting) (none_holds (suc t) accesses a none replaced);
  }

  -- a byte that is written to a port that is on
  stands_given : (accesses : List Done) (a : Access) (d : Serial) (s : Sending) → is_given accesses a ≡ true → d.sending ≡ s → Sends h t accesses d.waiting s →
      Holds h (suc t) accesses d.waiting → Registered (done t a ∷ accesses) (queued a.value s d) → Stands h t (done t a ∷ accesses) (queued a.value s d)
  stands_given accesses a d Idle given is was before registers = record {
    registers = registers;
    sends = (was.0, record { since = []; earlier = accesses; given = given_last t a accesses given; first = was.1 });
    holds = subst (Holds h (suc t) (done t a ∷ accesses)) (sym was.2) (λ byte w. elim (waits_split h (frames_of h) t (suc t) accesses a byte w) [
      | inl now ↦ now.1 was.1 was.0
      | inr earlier ↦ false≢true (sym earlier.0 ∙ given_replaces accesses a given)
    ]);
  }
  stands_given accesses a d (Next byte) given is was before registers = record {
    registers = registers;
    sends =
        subst (Sends h t (done t a ∷ accesses) (Some a.value)) (sym is)
        (was.0, record { since = done t a ∷ was.1.since; earlier = was.1.earlier; given = given_on (done t a) accesses was.1.since was.1.earlier t byte was.1.given; first = was.1.first });
    holds = now_waits h (frames_of h) t accesses a given (λ none free. false≢true (sym none ∙ gives_at accesses was.1.since was.1.earlier t byte was.1.given));
  }
  stands_given accesses a d (Busy frame) given is was before registers = record {
    registers = registers;
    sends = subst (Sends h t (done t a ∷ accesses) (Some a.value)) (sym is) was;
    holds = now_waits h (frames_of h) t accesses a given (λ none free. busy h t frame was free);
  }

  replaced_by : (a : Access) (byte control on : Bool) → is_write_of sbuf a ≡ byte → is_write_of sp_con a ≡ control → is_on a.value ≡ on →
      replaces a ≡ (byte || (control && not on))
  replaced_by a byte control on b c o =
      ap (λ x. x || (is_write_of sp_con a && not (is_on a.value))) b ∙ ap (λ x. byte || (x && not (is_on a.value))) c ∙ ap (λ x. byte || (control && not x)) o

  given_by : (accesses : List Done) (a : Access) (d : Serial) (byte on : Bool) → Registered accesses d → is_write_of sbuf a ≡ byte → is_on d.control ≡ on →
      is_given accesses a ≡ (byte && on)
  given_by accesses a d byte on registers b o =
      ap (λ x. x && is_on (control_after accesses)) b ∙ ap (λ c. byte && is_on c) (sym registers.control) ∙ ap (λ x. byte && x) o

  stands_next : (accesses : List Done) (d : Serial) (a : Access) → Stands h t accesses d → Stands h t (done t a ∷ accesses) (accessed serial_further t d a)
  stands_next accesses d a was = by (accessed serial_further t d a) (view t d a) (registered_next t accesses d a was.registers)
    where
      unchanged : (e : Serial) → is_write_of sbuf a ≡ false → is_write_of sp_con a ≡ false → e.sending ≡ d.sending → e.waiting ≡ d.waiting →
          Registered (done t a ∷ accesses) e → Stands h t (done t a ∷ accesses) e
      unchanged e byte control sending waiting registers =
          stands_on accesses a d e (given_by accesses a d false (is_on d.control) was.registers byte refl)
          (replaced_by a false false (is_on a.value) byte control refl) sending waiting registers was

      by : (e : Serial) → View a.value d e (is_write_of sbuf a) (is_write_of baud_rate a) (is_write_of sp_con a) (is_read_of sp_con a) →
          Registered (done t a ∷ accesses) e → Stands h t (done t a ∷ accesses) e
      by e (OfByte byte rate control read is) registers = elim (cases_Bool (is_on d.control)) [
        | inl on ↦
            let same : e ≡ queued a.value d.sending d = is ∙ ap (λ b. if b then queued a.value d.sending d else d) on in
            subst (Stands h t (done t a ∷ accesses)) (sym same)
            (stands_given accesses a d d.sending (given_by accesses a d true true was.registers byte on) refl was.sends was.holds (subst (Registered (done t a ∷ accesses)) same registers))
        | inr off ↦
            let same : e ≡ d = is ∙ ap (λ b. if b then queued a.value d.sending d else d) off in
            stands_off accesses a d e (given_by accesses a d true false was.registers byte off) (replaced_by a true false (is_on a.value) byte control refl)
            (ap (λ x. x.sending) same)
            (ap (λ x. x.waiting) same ∙ off_holds (suc t) accesses d.waiting (ap is_on (sym was.registers.control) ∙ off) was.holds)
            registers was
      ]
      by e (OfRate byte rate control read is) registers = unchanged e byte control (ap (λ x. x.sending) is) (ap (λ x. x.waiting) is) registers
      by e (OfControl byte rate control read is) registers = elim (cases_Bool (is_on a.value)) [
        | inl on ↦
            stands_on accesses a d e (given_by accesses a d false (is_on d.control) was.registers byte refl) (replaced_by a false true true byte control on)
            (ap (λ x. x.sending) is) (ap (λ x. x.waiting) is ∙ ap (λ b. if b then d.waiting else None) on) registers was
        | inr off ↦
            stands_off accesses a d e (given_by accesses a d false (is_on d.control) was.registers byte refl) (replaced_by a false true false byte control off)
            (ap (λ x. x.sending) is) (ap (λ x. x.waiting) is ∙ ap (λ b. if b then d.waiting else None) off) registers was
      ]
      by e (OfStatus byte rate control read is) registers = unchanged e byte control (ap (λ x. x.sending) is) (ap (λ x. x.waiting) is) registers
      by e (OfOther byte rate control read is) registers = unchanged e byte control (ap (λ x. x.sending) is) (ap (λ x. x.waiting) is) registers

-- nothing is written in a state before it has come
none_yet : (h : Driven) (t : ℕ) → gives_in t (log h t) ≡ false
none_yet h t = by (log h t) (young h t t (omega arith) (λ a. true))
  where
    by : (accesses : List Done) → list_any (λ d. nat_le t d.at && true) accesses ≡ false → gives_in t accesses ≡ false
    by [] none = refl
    by (d ∷ accesses) none =
        let parts = or_parts (nat_le t d.at && true) (list_any (λ x. nat_le t x.at && true) accesses) none in
        or_from _ _
        (and_left (d.at == t) (is_given accesses d.access) (ne_eqb d.at t (λ same. false≢true (sym parts.0 ∙ and_from (nat_le t d.at) true (le-leb t d.at (omega arith)) refl))))
        (by accesses parts.1)

-- the Tick of state t + 1
module _ (h : Driven) (t : ℕ) (was : Stands h t (log h (suc t)) (port_at h (suc t))) where
  abbrev d : Serial
  d = port_at h (suc t)

  abbrev accesses : List Done
  accesses = log h (suc t)

  begun_is : (s : Sending) → d.sending ≡ s → frames_of h (suc t) ≡ begun_next d s
  begun_is s is = ap (begun_next d) is

  -- the byte of state t + 1
  waits_longer : (waiting : Option ℕ) → (Ends h (frames_of h) (suc t) → ⊥) → Holds h (suc t) accesses waiting → Holds h (suc (suc t)) accesses waiting
  waits_longer None none before = λ byte w.
      before byte (record {
        written = w.written;
        since = w.since;
        earlier = w.earlier;
        given = w.given;
        behind = w.behind;
        kept = w.kept;
        still = λ e later sooner ends. w.still e later (omega arith) ends;
      })
  waits_longer (Some byte) none before = record {
    written = before.written;
    since = before.since;
    earlier = before.earlier;
    given = before.given;
    behind = before.behind;
    kept = before.kept;
    still = λ e later sooner ends. elim (cases_eq e (suc t)) [
      | inl now ↦ none (subst (Ends h (frames_of h)) now ends)
      | inr other ↦ before.still e later (omega (arith, other)) ends
    ];
  }

  -- a frame that ends takes the byte that waits
  waits_no_more : Ends h (frames_of h) (suc t) → Holds h (suc (suc t)) accesses None
  waits_no_more ends byte w =
      let past : w.written < suc t = written_before h (suc t) w.written w.since w.earlier w.given.access w.given.place in
      w.still (suc t) past (omega arith) ends

  -- where no frame is under way none ends
  pub free_ends : IsFree h (frames_of h) t → Ends h (frames_of h) (suc t) → ⊥
  free_ends free e =
      let over : end_of h e.begun ≡ suc t = e.over in
      let before : end_of h e.begun ≤ t = free e.begun e.byte e.begins (omega arith) in
      omega arith

  free_later : frames_of h (suc t) ≡ None → IsFree h (frames_of h) t → IsFree h (frames_of h) (suc t)
  free_later none free f byte begins le = elim (cases_eq f (suc t)) [
    | inl now ↦ absurd (none_some byte (sym none ∙ ap (frames_of h) (sym now) ∙ begins))
    | inr other ↦ let before : end_of h f ≤ t = free f byte begins (omega (arith, other)) in omega arith
  ]

  -- a frame begins in state t + 1, and none was under way
  begins_now : (byte : ℕ) → frames_of h (suc t) ≡ Some byte → ((g other : ℕ) → frames_of h g ≡ Some other → g ≤ t → end_of h g ≤ suc t) →
      Under h (suc t) (record { byte = byte; rate = d.rate; age = 0 })
  begins_now byte begins others = record {
    from = suc t;
    begins = begins;
    rate = was.registers.rate;
    age = omega arith;
    young = omega arith;
    alone = λ g other is le apart. others g other is (omega (arith, apart));
  }

  module _ (frame : Frame) (u : Under h t frame) where
    past : u.from ≤ t
    past = let age : u.from + frame.age ≡ t = u.age in omega arith

    -- other frames are over
    over_others : (g byte : ℕ) → frames_of h g ≡ Some byte → g ≤ t → end_of h u.from ≤ suc t → end_of h g ≤ suc t
    over_others g byte begins le over = elim (cases_eq g u.from) [
      | inl same ↦ subst (λ n. end_of h n ≤ suc t) (sym same) over
      | inr other ↦ let before : end_of h g ≤ u.from = u.alone g byte begins le other in let le' : u.from ≤ t = past in omega arith
    ]

    over_now : is_over frame ≡ true → end_of h u.from ≡ suc t
    over_now over =
        let least : 10 * bit_length frame.rate ≤ frame.age + 1 = leb-true (10 * bit_length frame.rate) (frame.age + 1) over in
        let less : frame.age < 10 * bit_length frame.rate = u.young in
        let age : u.from + frame.age ≡ t = u.age in
        let long : end_of h u.from ≡ u.from + 10 * bit_length frame.rate = lasts h t frame u in
        omega arith

    pub ends_now : is_over frame ≡ true → Ends h (frames_of h) (suc t)
    ends_now over = record { begun = u.from; byte = frame.byte; begins = u.begins; over = over_now over }

    pub not_over : is_over frame ≡ false → Ends h (frames_of h) (suc t) → ⊥
    not_over on e =
        let most : frame.age + 1 < 10 * bit_length frame.rate = leb-false (10 * bit_length frame.rate) (frame.age + 1) on in
        let age : u.from + frame.age ≡ t = u.age in
        let long : end_of h u.from ≡ u.from + 10 * bit_length frame.rate = lasts h t frame u in
        let over : end_of h e.begun ≡ suc t = e.over in
        elim (cases_eq e.begun u.from) [
          | inl same ↦ let here : end_of h e.begun ≡ end_of h u.from = ap (end_of h) same in omega arith
          | inr other ↦ let before : end_of h e.begun ≤ u.from = u.alone e.begun e.byte e.begins (omega arith) other in omega arith
        ]

    goes_on : is_over frame ≡ false → frames_of h (suc t) ≡ None → Under h (suc t) (record frame { age = frame.age + 1 })
    goes_on on none =
        let most : frame.age + 1 < 10 * bit_length frame.rate = leb-false (10 * bit_length frame.rate) (frame.age + 1) on in
        let age : u.from + frame.age ≡ t = u.age in
        record {
          from = u.from;
          begins = u.begins;
          rate = u.rate;
          age = omega arith;
          young = most;
          alone = λ g byte begins le apart. elim (cases_eq g (suc t)) [
            | inl now ↦ absurd (none_some byte (sym none ∙ ap (frames_of h) (sym now) ∙ begins))
            | inr other ↦ u.alone g byte begins (omega (arith, other)) apart
          ];
        }

    free_now : is_over frame ≡ true → frames_of h (suc t) ≡ None → IsFree h (frames_of h) (suc t)
    free_now over none f byte begins le = elim (cases_eq f (suc t)) [
      | inl now ↦ absurd (none_some byte (sym none ∙ ap (frames_of h) (sym now) ∙ begins))
      | inr other ↦ let now : end_of h u.from ≡ suc t = over_now over in over_others f byte begins (omega (arith, other)) (omega arith)
    ]

    -- a frame that is over makes room for the byte that waits
    sends_waiting : (waiting : Option ℕ) → is_over frame ≡ true → frames_of h (suc t) ≡ waiting → Sends h (suc t) accesses None (begun_of d.rate waiting)
    sends_waiting None over begins = (free_now over begins, none_yet h (suc t), refl)
    sends_waiting (Some byte) over begins =
        begins_now byte begins (λ g other is le. let now : end_of h u.from ≡ suc t = over_now over in over_others g other is le (omega arith))

  ticked_stands : (s : Sending) → d.sending ≡ s → Sends h t accesses d.waiting s →
      Sends h (suc t) accesses (waiting_after d.waiting s) (sending_after d.rate d.waiting s) × Holds h (suc (suc t)) accesses (waiting_after d.waiting s)
  ticked_stands Idle is sends =
      ((free_later (begun_is Idle is) sends.0, none_yet h (suc t), sends.2), waits_longer d.waiting (free_ends sends.0) was.holds)
  ticked_stands (Next byte) is sends = (
    begins_now byte (begun_is (Next byte) is) (λ g other begins le. let before : end_of h g ≤ t = sends.0 g other begins le in omega arith),
    waits_longer d.waiting (free_ends sends.0) was.holds,
  )
  ticked_stands (Busy frame) is u = elim (cases_Bool (is_over frame)) [
    | inl over ↦
        let begins : frames_of h (suc t) ≡ d.waiting = begun_is (Busy frame) is ∙ ap (λ b. if b then d.waiting else None) over in
        let none : waiting_after d.waiting (Busy frame) ≡ None = ap (λ b. if b then None else d.waiting) over in
        let next : sending_after d.rate d.waiting (Busy frame) ≡ begun_of d.rate d.waiting =
        ap (λ b. if b then begun_of d.rate d.waiting else Busy (record frame { age = frame.age + 1 })) over in (
          subst (λ w. Sends h (suc t) accesses w (sending_after d.rate d.waiting (Busy frame))) (sym none)
              (subst (Sends h (suc t) accesses None) (sym next) (sends_waiting frame u d.waiting over begins)),
          subst (Holds h (suc (suc t)) accesses) (sym none) (waits_no_more (ends_now frame u over)),
        )
    | inr on ↦
        let none : frames_of h (suc t) ≡ None = begun_is (Busy frame) is ∙ ap (λ b. if b then d.waiting else None) on in
        let same : waiting_after d.waiting (Busy frame) ≡ d.waiting = ap (λ b. if b then None else d.waiting) on in
        let next : sending_after d.rate d.waiting (Busy frame) ≡ Busy (record frame { age = frame.age + 1 }) =
        ap (λ b. if b then begun_of d.rate d.waiting else Busy (record frame { age = frame.age + 1 })) on in (
          subst (Sends h (suc t) accesses (waiting_after d.waiting (Busy frame))) (sym next) (goes_on frame u on none),
          subst (Holds h (suc (suc t)) accesses) (sym same) (waits_longer d.waiting (not_over frame u on) was.holds),
        )
  ]

  tick_stands : (high falls : Bool) → Stands h (suc t) accesses (ticked high falls d)
  tick_stands high falls =
      let both = ticked_stands d.sending refl was.sends in
      record { registers = record { control = was.registers.control; rate = was.registers.rate }; sends = both.0; holds = both.1 }

-- the port behind the Tick of each state
pub behind_tick : (h : Driven) (t : ℕ) → Stands h t (log h t) (ticked (h.levels t) (falls h t) (port_at h t))
unfolding log port_at
behind_tick h zero = record {
  registers = record { control = refl; rate = refl };
  sends = (λ f byte begins le. absurd (none_some byte (sym (ap (frames_of h) (let none : f ≡ 0 = omega arith in none)) ∙ begins)), refl, refl);
  holds = λ byte w. let past : w.written < 0 = written_before h 0 w.written w.since w.earlier w.given.access w.given.place in absurd (omega arith);
}
behind_tick h (suc t) =
    tick_stands h t
    (fold_holds (λ accesses d. Stands h t accesses d) t (λ accesses d a was. stands_next h t accesses d a was) (log h t) (ticked (h.levels t) (falls h t) (port_at h t)) (h.accesses t) (behind_tick h t))
    (h.levels (suc t)) (falls h (suc t))

pub stands_at : (h : Driven) (t : ℕ) → Stands h t (log h (suc t)) (port_at h (suc t))
unfolding log port_at
stands_at h t =
    fold_holds (λ accesses d. Stands h t accesses d) t (λ accesses d a was. stands_next h t accesses d a was) (log h t) (ticked (h.levels t) (falls h t) (port_at h t)) (h.accesses t) (behind_tick h t)

-- SP_CON and the rate as each state begins
pub registered_at : (h : Driven) (t : ℕ) → Registered (log h t) (port_at h t)
registered_at h t = record { control = (behind_tick h t).registers.control; rate = (behind_tick h t).registers.rate }

-- frames begin as a schedule says
module _ (h : Driven) (t : ℕ) where
  abbrev port : Serial
  port = port_at h (suc t)

  abbrev so_far : List Done
  so_far = log h (suc t)

  waiting_waits : (waiting : Option ℕ) (byte : ℕ) → waiting ≡ Some byte → Holds h (suc t) so_far waiting → Waits h (frames_of h) so_far (suc t) byte
  waiting_waits None byte is w = absurd (none_some byte is)
  waiting_waits (Some other) byte is w = subst (Waits h (frames_of h) so_far (suc t)) (some_same other byte is) w

  waits_is : (waiting : Option ℕ) (byte : ℕ) → Waits h (frames_of h) so_far (suc t) byte → Holds h (suc t) so_far waiting → waiting ≡ Some byte
  waits_is None byte w none = absurd (none byte w)
  waits_is (Some other) byte w is =
      ap (λ n. Some n) (one_kept so_far is.since is.earlier w.since w.earlier is.written w.written other byte is.given is.kept w.given w.kept)

  begins_by : (s : Sending) (byte : ℕ) → Sends h t so_far port.waiting s → Holds h (suc t) so_far port.waiting → begun_next port s ≡ Some byte →
      BeginsAtOnce h (frames_of h) t byte ⊎ (Ends h (frames_of h) (suc t) × Waits h (frames_of h) so_far (suc t) byte)
  begins_by Idle byte sends holds is = absurd (none_some byte is)
  begins_by (Next other) byte sends holds is =
      inl (subst (BeginsAtOnce h (frames_of h) t) (some_same other byte is) (record { since = sends.1.since; earlier = sends.1.earlier; given = sends.1.given; first = sends.1.first; free = sends.0 }))
  begins_by (Busy frame) byte u holds is = elim (cases_Bool (is_over frame)) [
    | inl over ↦
        inr (ends_now h t (stands_at h t) frame u over, waiting_waits port.waiting byte (sym (ap (λ b. if b then port.waiting else None) over) ∙ is) holds)
    | inr on ↦ absurd (none_some byte (sym (ap (λ b. if b then port.waiting else None) on) ∙ is))
  ]

  at_once_by : (s : Sending) (byte : ℕ) → Sends h t so_far port.waiting s → BeginsAtOnce h (frames_of h) t byte → begun_next port s ≡ Some byte
  at_once_by Idle byte sends b = absurd (false≢true (sym sends.1 ∙ gives_at so_far b.since b.earlier t byte b.given))
  at_once_by (Next other) byte sends b =
      ap (λ n. Some n) (one_first so_far sends.1.since sends.1.earlier b.since b.earlier t other byte sends.1.given sends.1.first b.given b.first)
  at_once_by (Busy frame) byte u b = absurd (busy h t frame u b.free)

  later_by : (s : Sending) (byte : ℕ) → Sends h t so_far port.waiting s → Holds h (suc t) so_far port.waiting → Ends h (frames_of h) (suc t) →
      Waits h (frames_of h) so_far (suc t) byte → begun_next port s ≡ Some byte
  later_by Idle byte sends holds ends w = absurd (free_ends h t (stands_at h t) sends.0 ends)
  later_by (Next other) byte sends holds ends w = absurd (free_ends h t (stands_at h t) sends.0 ends)
  later_by (Busy frame) byte u holds ends w = elim (cases_Bool (is_over frame)) [
    | inl over ↦ ap (λ b. if b then port.waiting else None) over ∙ waits_is port.waiting byte w holds
    | inr on ↦ absurd (not_over h t (stands_at h t) frame u on ends)
  ]

none_first : (h : Driven) → frames_of h 0 ≡ None
unfolding port_at
none_first h = refl

pub scheduled : FramesAreScheduled
scheduled h = record {
  none = none_first h;
  begins = λ t byte is. let was : Stands h t (log h (suc t)) (port_at h (suc t)) = stands_at h t in begins_by h t (port_at h (suc t)).sending byte was.sends was.holds is;
  at_once = λ t byte b. let was : Stands h t (log h (suc t)) (port_at h (suc t)) = stands_at h t in at_once_by h t (port_at h (suc t)).sending byte was.sends b;
  later = λ t byte ends w. let was : Stands h t (log h (suc t)) (port_at h (suc t)) = stands_at h t in later_by h t (port_at h (suc t)).sending byte was.sends was.holds ends w;
}
