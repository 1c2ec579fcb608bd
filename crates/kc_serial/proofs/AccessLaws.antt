-- What each access does to the port, and the accesses before a state.
use Rattle.std.proofs.Common.{◌≡◌, ℕ, zero, suc, ◌+◌, ◌*◌, ◌/◌, ◌<◌, ◌≤◌, ◌==◌, Bool, true, false, not, ◌&&◌, ◌||◌, refl, sym, ◌∙◌, ap, arith, Option, Some, None, List, [], ◌∷◌, ◌++◌}
use Rattle.std.specs.Prelude.{if◌then◌else◌, fold, nat_le}
use Rattle.std.specs.List.{list_any}
use Rattle.std.proofs.lemmas.Bool.{and_left, or_parts, or_from, eqb-true, lt-leb, leb-false}
use Rattle.kc_extra.specs.Histories.{Access, accessed}
use Rattle.kc_serial.specs.Port.{is_on}
use Rattle.kc_serial.specs.Registers.{sbuf, baud_rate, sp_con, queued, with_byte, with_rate, with_control}
use Rattle.kc_serial.specs.Unit.{serial_further}
use Rattle.kc_serial.specs.History.{Driven}
use Rattle.kc_serial.specs.declared.sending.Sending.{Sending}
use Rattle.kc_serial.specs.declared.sending.Sending.TheVariants.{Idle, Next, Busy}
use Rattle.kc_serial.specs.declared.serial.Flags.{Flags}
use Rattle.kc_serial.specs.declared.serial.Serial.{Serial}
use Rattle.kc_serial.specs.Accesses.{Done, done_by, log, is_write_of, is_read_of, control_after, rate_after}

pub some_same : {T : Type 0} (x y : T) → Some x ≡ Some y → x ≡ y
some_same x y e = cc

pub none_some : {T : Type 0} (x : T) → None ≡ Some x → ⊥
none_some x e = absurd (cc)

pub head_same : {T : Type 0} (x y : T) (xs ys : List T) → x ∷ xs ≡ y ∷ ys → x ≡ y
head_same x y xs ys e = cc

pub tail_same : {T : Type 0} (x y : T) (xs ys : List T) → x ∷ xs ≡ y ∷ ys → xs ≡ ys
tail_same x y xs ys e = cc

abbrev pub no_flags : Flags
no_flags = record { received = false; sent = false; framing = false; overrun = false }

abbrev pub cleared : Serial → Serial
cleared d = record d { flags = no_flags }

-- what an access is, and what it leaves
pub data View (value : ℕ) (d e : Serial) (byte rate control read : Bool) : Type 0 where
  OfByte : byte ≡ true → rate ≡ false → control ≡ false → read ≡ false → e ≡ with_byte value d → View value d e byte rate control read
  OfRate : byte ≡ false → rate ≡ true → control ≡ false → read ≡ false → e ≡ with_rate value d → View value d e byte rate control read
  OfControl : byte ≡ false → rate ≡ false → control ≡ true → read ≡ false → e ≡ with_control value d → View value d e byte rate control read
  OfStatus : byte ≡ false → rate ≡ false → control ≡ false → read ≡ true → e ≡ cleared d → View value d e byte rate control read
  OfOther : byte ≡ false → rate ≡ false → control ≡ false → read ≡ false → e ≡ d → View value d e byte rate control read

abbrev access_with : (w z s1 s2 s3 : Bool) → ℕ → Serial → Serial
access_with w z s1 s2 s3 value d =
    if w
    then (if z && (s1 || (s2 || s3)) then (if s1 then with_byte value d else (if s2 then with_rate value d else with_control value d)) else d)
    else (if (z && (s1 || s3)) && s3 then cleared d else d)

abbrev Apart : Bool → Bool → Bool → Type 0
Apart s1 s2 s3 = (s1 ≡ true → (s2 ≡ false) × (s3 ≡ false)) × (s2 ≡ true → s3 ≡ false)

viewed : (w z s1 s2 s3 : Bool) (value : ℕ) (d : Serial) → Apart s1 s2 s3 →
    View value d (access_with w z s1 s2 s3 value d) (w && (z && s1)) (w && (z && s2)) (w && (z && s3)) (not w && (z && s3))
viewed true true true s2 s3 value d apart = let others = apart.0 refl in OfByte refl others.0 others.1 refl refl
viewed true true false true s3 value d apart = OfRate refl refl (apart.1 refl) refl refl
viewed true true false false true value d apart = OfControl refl refl refl refl refl
viewed true true false false false value d apart = OfOther refl refl refl refl refl
viewed true false s1 s2 s3 value d apart = OfOther refl refl refl refl refl
viewed false true true s2 true value d apart = OfStatus refl refl refl refl refl
viewed false true true s2 false value d apart = OfOther refl refl refl refl refl
viewed false true false s2 true value d apart = OfStatus refl refl refl refl refl
viewed false true false s2 false value d apart = OfOther refl refl refl refl refl
viewed false false s1 s2 s3 value d apart = OfOther refl refl refl refl refl

pub view : (t : ℕ) (d : Serial) (a : Access) →
    View a.value d (accessed serial_further t d a) (is_write_of sbuf a) (is_write_of baud_rate a) (is_write_of sp_con a) (is_read_of sp_con a)
view t d a = viewed a.is_write (a.window == 0) (a.sfr == sbuf) (a.sfr == baud_rate) (a.sfr == sp_con) a.value d (
  λ is. let number = eqb-true a.sfr sbuf is in (ap (λ n. n == baud_rate) number, ap (λ n. n == sp_con) number),
  λ is. let number = eqb-true a.sfr baud_rate is in ap (λ n. n == sp_con) number,
)

-- what holds after each access holds after all
pub fold_holds : (P : List Done → Serial → Type 0) (t : ℕ) →
    ((accesses : List Done) (d : Serial) (a : Access) → P accesses d → P (record { at = t; access = a } ∷ accesses) (accessed serial_further t d a)) →
    (before : List Done) (d : Serial) (accesses : List Access) → P before d →
    P (fold (done_by t) before accesses) (fold (accessed serial_further t) d accesses)
fold_holds P t step before d [] was = was
fold_holds P t step before d (a ∷ accesses) was =
    fold_holds P t step (record { at = t; access = a } ∷ before) (accessed serial_further t d a) accesses (step before d a was)

-- a byte that is written changes what is sent or what waits
pub queued_same : {T : Type 0} (of : Serial → T) → ((s : Sending) (w : Option ℕ) (d : Serial) → of (record d { sending = s; waiting = w }) ≡ of d) →
    (byte : ℕ) (s : Sending) (d : Serial) → of (queued byte s d) ≡ of d
queued_same of same byte Idle d = same (Next byte) d.waiting d
queued_same of same byte (Next other) d = same d.sending (Some byte) d
queued_same of same byte (Busy frame) d = same d.sending (Some byte) d

pub byte_same : {T : Type 0} (of : Serial → T) → ((s : Sending) (w : Option ℕ) (d : Serial) → of (record d { sending = s; waiting = w }) ≡ of d) →
    (byte : ℕ) (d : Serial) → of (with_byte byte d) ≡ of d
byte_same of same byte d = by (is_on d.control)
  where
    by : (on : Bool) → of (if on then queued byte d.sending d else d) ≡ of d
    by true = queued_same of same byte d.sending d
    by false = refl

-- SP_CON and the rate are those that were written
pub record Registered (accesses : List Done) (d : Serial) : Type 0 where
  pub control : d.control ≡ control_after accesses
  pub rate : d.rate ≡ rate_after accesses

pub registered_next : (t : ℕ) (accesses : List Done) (d : Serial) (a : Access) → Registered accesses d →
    Registered (record { at = t; access = a } ∷ accesses) (accessed serial_further t d a)
registered_next t accesses d a was = by (accessed serial_further t d a) (view t d a)
  where
    control_of : Bool → ℕ
    control_of written = if written then a.value else control_after accesses

    rate_of : Bool → ℕ
    rate_of written = if written then rate_after accesses / 256 + 256 * a.value else rate_after accesses

    by : (e : Serial) → View a.value d e (is_write_of sbuf a) (is_write_of baud_rate a) (is_write_of sp_con a) (is_read_of sp_con a) →
        Registered (record { at = t; access = a } ∷ accesses) e
    by e (OfByte byte rate control read is) = record {
      control = ap (λ x. x.control) is ∙ byte_same (λ x. x.control) (λ s w x. refl) a.value d ∙ was.control ∙ ap control_of (sym control);
      rate = ap (λ x. x.rate) is ∙ byte_same (λ x. x.rate) (λ s w x. refl) a.value d ∙ was.rate ∙ ap rate_of (sym rate);
    }
    by e (OfRate byte rate control read is) = record {
      control = ap (λ x. x.control) is ∙ was.control ∙ ap control_of (sym control);
      rate = ap (λ x. x.rate) is ∙ ap (λ n. n / 256 + 256 * a.value) was.rate ∙ ap rate_of (sym rate);
    }
    by e (OfControl byte rate control read is) = record {
      control = ap (λ x. x.control) is ∙ ap control_of (sym control);
      rate = ap (λ x. x.rate) is ∙ was.rate ∙ ap rate_of (sym rate);
    }
    by e (OfStatus byte rate control read is) = record {
      control = ap (λ x. x.control) is ∙ was.control ∙ ap control_of (sym control);
      rate = ap (λ x. x.rate) is ∙ was.rate ∙ ap rate_of (sym rate);
    }
    by e (OfOther byte rate control read is) = record {
      control = ap (λ x. x.control) is ∙ was.control ∙ ap control_of (sym control);
      rate = ap (λ x. x.rate) is ∙ was.rate ∙ ap rate_of (sym rate);
    }

-- a test over the accesses of a state and those before it
pub any_done : (p : Done → Bool) (t : ℕ) (before : List Done) (accesses : List Access) →
    list_any p (fold (done_by t) before accesses) ≡ (list_any (λ a. p (record { at = t; access = a })) accesses || list_any p before)
any_done p t before [] = refl
any_done p t before (a ∷ accesses) =
    any_done p t (record { at = t; access = a } ∷ before) accesses
    ∙ by (list_any (λ b. p (record { at = t; access = b })) accesses) (p (record { at = t; access = a })) (list_any p before)
  where
    by : (x y z : Bool) → (x || (y || z)) ≡ ((y || x) || z)
    by true true z = refl
    by true false z = refl
    by false true z = refl
    by false false z = refl

pub any_none : (p : Done → Bool) (t : ℕ) → ((a : Access) → p (record { at = t; access = a }) ≡ false) → (accesses : List Access) →
    list_any (λ a. p (record { at = t; access = a })) accesses ≡ false
any_none p t none [] = refl
any_none p t none (a ∷ accesses) = or_from _ _ (none a) (any_none p t none accesses)

-- no access of a state comes before it
pub young : (h : Driven) (t u : ℕ) → t ≤ u → (such : Access → Bool) → list_any (λ d. nat_le u d.at && such d.access) (log h t) ≡ false
unfolding log
young h zero u le such = refl
young h (suc t) u le such =
    any_done (λ d. nat_le u d.at && such d.access) t (log h t) (h.accesses t)
    ∙ or_from _ _ (any_none (λ d. nat_le u d.at && such d.access) t (λ a. and_left (nat_le u t) (such a) (lt-leb u t (omega arith))) (h.accesses t))
    (young h t u (omega arith) such)

-- what stands in a list
pub any_at : (p : Done → Bool) (since earlier : List Done) (d : Done) → list_any p (since ++ (d ∷ earlier)) ≡ false → p d ≡ false
any_at p [] earlier d none = (or_parts (p d) (list_any p earlier) none).0
any_at p (x ∷ since) earlier d none = any_at p since earlier d (or_parts (p x) (list_any p (since ++ (d ∷ earlier))) none).1

pub written_before : (h : Driven) (t w : ℕ) (since earlier : List Done) (a : Access) → log h t ≡ since ++ (record { at = w; access = a } ∷ earlier) → w < t
written_before h t w since earlier a place =
    let none : list_any (λ d. nat_le t d.at && true) (since ++ (record { at = w; access = a } ∷ earlier)) ≡ false =
    ap (λ l. list_any (λ d. nat_le t d.at && true) l) (sym place) ∙ young h t t (omega arith) (λ b. true) in
    let late : (nat_le t w && true) ≡ false = any_at (λ d. nat_le t d.at && true) since earlier (record { at = w; access = a }) none in
    leb-false t w (by (nat_le t w) late)
  where
    by : (b : Bool) → (b && true) ≡ false → b ≡ false
    by true is = is
    by false is = refl
