-- The requests and the flags of the port by what has happened.
use Rattle.std.proofs.Common.{◌≡◌, ℕ, zero, suc, ◌<◌, ◌≤◌, Bool, true, false, not, ◌&&◌, ◌||◌, refl, sym, ◌∙◌, ap, subst, arith, inl, inr, Option, Some, None, List, [], ◌∷◌}
use Rattle.std.specs.Prelude.{if◌then◌else◌, fold, is_none}
use Rattle.std.specs.List.{list_any}
use Rattle.std.proofs.lemmas.Bool.{cases_Bool, cases_eq, and_parts, and_from, or_parts, or_from, or_left, or_right, false≢true}
use Rattle.kc_extra.specs.Histories.{Access, accessed}
use Rattle.kc_serial.specs.Frames.{is_over, ends}
use Rattle.kc_serial.specs.Samples.{completes}
use Rattle.kc_serial.specs.Port.{ticked, flags_after}
use Rattle.kc_serial.specs.Registers.{sbuf, baud_rate, sp_con}
use Rattle.kc_serial.specs.Unit.{serial_further}
use Rattle.kc_serial.specs.History.{Driven, falls, port_at}
use Rattle.kc_serial.specs.declared.sending.Sending.{Sending}
use Rattle.kc_serial.specs.declared.sending.Sending.TheVariants.{Idle, Next, Busy}
use Rattle.kc_serial.specs.declared.serial.Flags.{Flags}
use Rattle.kc_serial.specs.declared.serial.Serial.{Serial}
use Rattle.kc_serial.specs.Accesses.{Done, log, is_write_of, is_read_of, comes_since, Decides}
use Rattle.kc_serial.specs.Schedules.{Ends, Waits, end_of, frames_of}
use Rattle.kc_serial.specs.Receptions.{IsCompletion, catches_of}
use Rattle.kc_serial.specs.Known.{EndsAreRequested, IsSet, IsReceived, StatusIsByHistory}
use Rattle.kc_serial.proofs.AccessLaws.{View, view, OfByte, OfRate, OfControl, OfStatus, OfOther, no_flags, byte_same, young, written_before}
use Rattle.kc_serial.proofs.ScheduleLaws.{Sends, Holds, Stands, stands_at, free_ends, ends_now, not_over}
use Rattle.kc_serial.proofs.ReceptionLaws.{since_later, completes_at}

abbrev read : Access → Bool
read a = is_read_of sp_con a

-- a frame of the port ends where one ends
module _ (h : Driven) (t : ℕ) where
  over_is : (s : Sending) → Sends h t (log h (suc t)) (port_at h (suc t)).waiting s → ends s ≡ true → Ends h (frames_of h) (suc t)
  over_is Idle sends over = absurd (false≢true over)
  over_is (Next byte) sends over = absurd (false≢true over)
  over_is (Busy frame) u over = ends_now h t (stands_at h t) frame u over

  is_over_now : (s : Sending) → Sends h t (log h (suc t)) (port_at h (suc t)).waiting s → Ends h (frames_of h) (suc t) → ends s ≡ true
  is_over_now Idle sends over = absurd (free_ends h t (stands_at h t) sends.0 over)
  is_over_now (Next byte) sends over = absurd (free_ends h t (stands_at h t) sends.0 over)
  is_over_now (Busy frame) u over = elim (cases_Bool (is_over frame)) [
    | inl there ↦ there
    | inr going ↦ absurd (not_over h t (stands_at h t) frame u going over)
  ]

ends_at : (h : Driven) (t : ℕ) → Decides (ends (port_at h t).sending) (Ends h (frames_of h) t)
unfolding port_at
ends_at h zero = (λ over. absurd (false≢true over), λ over. let is : end_of h over.begun ≡ 0 = over.over in absurd (omega arith))
ends_at h (suc t) =
    let was : Stands h t (log h (suc t)) (port_at h (suc t)) = stands_at h t in
    (over_is h t (port_at h (suc t)).sending was.sends, is_over_now h t (port_at h (suc t)).sending was.sends)

pub ends_requested : EndsAreRequested
ends_requested h t = record {
  sent = ends (port_at h t).sending;
  received = completes (port_at h t).reception;
  raised = refl;
  ends = ends_at h t;
  completes = completes_at h t;
}

-- a read of SP_STAT clears the flags
access_flags : (t : ℕ) (d : Serial) (a : Access) → (accessed serial_further t d a).flags ≡ (if read a then no_flags else d.flags)
access_flags t d a = by (accessed serial_further t d a) (view t d a)
  where
    kept : read a ≡ false → d.flags ≡ (if read a then no_flags else d.flags)
    kept none = ap (λ b. if b then no_flags else d.flags) (sym none)

    by : (e : Serial) → View a.value d e (is_write_of sbuf a) (is_write_of baud_rate a) (is_write_of sp_con a) (is_read_of sp_con a) → e.flags ≡ (if read a then no_flags else d.flags)
    by e (OfByte byte rate control stat is) = ap (λ x. x.flags) is ∙ byte_same (λ x. x.flags) (λ s w x. refl) a.value d ∙ kept stat
    by e (OfRate byte rate control stat is) = ap (λ x. x.flags) is ∙ kept stat
    by e (OfControl byte rate control stat is) = ap (λ x. x.flags) is ∙ kept stat
    by e (OfStatus byte rate control stat is) = ap (λ x. x.flags) is ∙ ap (λ b. if b then no_flags else d.flags) (sym stat)
    by e (OfOther byte rate control stat is) = ap (λ x. x.flags) is ∙ kept stat

accesses_flags : (t : ℕ) (accesses : List Access) (d : Serial) →
    (fold (accessed serial_further t) d accesses).flags ≡ (if list_any (λ a. read a) accesses then no_flags else d.flags)
accesses_flags t [] d = refl
accesses_flags t (a ∷ accesses) d =
    accesses_flags t accesses (accessed serial_further t d a)
    ∙ ap (λ f. if list_any (λ b. read b) accesses then no_flags else f) (access_flags t d a)
    ∙ by (list_any (λ b. read b) accesses) (read a)
  where
    by : (x y : Bool) → (if x then no_flags else (if y then no_flags else d.flags)) ≡ (if y || x then no_flags else d.flags)
    by true true = refl
    by true false = refl
    by false true = refl
    by false false = refl

flags_next : (h : Driven) (t : ℕ) → (port_at h (suc t)).flags ≡ (if list_any (λ a. read a) (h.accesses t) then no_flags else flags_after (h.levels t) (port_at h t))
unfolding port_at
flags_next h t = accesses_flags t (h.accesses t) (ticked (h.levels t) (falls h t) (port_at h t))

-- a flag, a state later
module _ (h : Driven) (Sets : ℕ → Type 0) (t : ℕ) (old now : Bool) (was : Decides old (IsSet h Sets t)) (sets : Decides now (Sets t)) where
  abbrev cleared : Bool
  cleared = list_any (λ a. read a) (h.accesses t)

  later : (e : ℕ) → e ≤ t → comes_since read e (log h (suc t)) ≡ (cleared || comes_since read e (log h t))
  later e le = since_later (λ a. read a) h t e le

  set_before : cleared ≡ false → IsSet h Sets t → IsSet h Sets (suc t)
  set_before none s =
      let past : s.at < t = s.past in
      record { at = s.at; sets = s.sets; past = omega arith; unread = later s.at (omega arith) ∙ or_from _ _ none s.unread }

  set_now : cleared ≡ false → Sets t → IsSet h Sets (suc t)
  set_now none is = record { at = t; sets = is; past = omega arith; unread = later t (omega arith) ∙ or_from _ _ none (young h t t (omega arith) (λ a. read a)) }

  is_set : (gone old' now' : Bool) → cleared ≡ gone → old ≡ old' → now ≡ now' → (if gone then false else (old' || now')) ≡ true → IsSet h Sets (suc t)
  is_set true old' now' none o n is = absurd (false≢true is)
  is_set false true now' none o n is = set_before none (was.0 o)
  is_set false false true none o n is = set_now none (sets.0 n)
  is_set false false false none o n is = absurd (false≢true is)

  set_is : IsSet h Sets (suc t) → (if cleared then false else (old || now)) ≡ true
  set_is s =
      let past : s.at < suc t = s.past in
      let parts = or_parts cleared (comes_since read s.at (log h t)) (sym (later s.at (omega arith)) ∙ s.unread) in
      ap (λ b. if b then false else (old || now)) parts.0
      ∙ (elim (cases_eq s.at t) [
        | inl here ↦ or_right old now (sets.1 (subst Sets here s.sets))
        | inr before ↦ or_left old now (was.1 (record { at = s.at; sets = s.sets; past = omega (arith, before); unread = parts.1 }))
      ])

  set_next : Decides (if cleared then false else (old || now)) (IsSet h Sets (suc t))
  set_next = (is_set cleared old now refl refl refl, set_is)

none_set : (h : Driven) (Sets : ℕ → Type 0) → Decides false (IsSet h Sets 0)
none_set h Sets = (λ is. absurd (false≢true is), λ s. let past : s.at < 0 = s.past in absurd (omega arith))

both_report : {P Q : Type 0} (p q : Bool) → Decides p P → Decides q Q → Decides (p && q) (P × Q)
both_report p q tp tq =
    (λ both. let parts = and_parts p q both in (tp.0 parts.0, tq.0 parts.1), λ both. and_from p q (tp.1 both.0) (tq.1 both.1))

not_decides : (b : Bool) → Decides (not b) (b ≡ false)
not_decides true = (λ is. sym is, λ is. sym is)
not_decides false = (λ is. refl, λ is. refl)

-- each flag of the next state, by those of this one
flag_next : (h : Driven) (t : ℕ) (flag : Flags → Bool) (old now : Bool) → flag no_flags ≡ false → flag (flags_after (h.levels t) (port_at h t)) ≡ (old || now) →
    flag (port_at h (suc t)).flags ≡ (if list_any (λ a. read a) (h.accesses t) then false else (old || now))
flag_next h t flag old now none is = ap flag (flags_next h t) ∙ by (list_any (λ a. read a) (h.accesses t))
  where
    by : (gone : Bool) → flag (if gone then no_flags else flags_after (h.levels t) (port_at h t)) ≡ (if gone then false else (old || now))
    by true = none
    by false = is

module _ (h : Driven) where
  abbrev d : ℕ → Serial
  d t = port_at h t

  pub received_set : (t : ℕ) → Decides (port_at h t).flags.received (IsReceived h (catches_of h) t)
  unfolding port_at
  received_set zero = none_set h (λ c. IsCompletion h (catches_of h) c)
  received_set (suc t) =
      subst (λ b. Decides b (IsReceived h (catches_of h) (suc t))) (sym (flag_next h t (λ f. f.received) (d t).flags.received (completes (d t).reception) refl refl))
      (set_next h (λ c. IsCompletion h (catches_of h) c) t (d t).flags.received (completes (d t).reception) (received_set t) (completes_at h t))

  sent_set : (t : ℕ) → Decides (port_at h t).flags.sent (IsSet h (λ e. Ends h (frames_of h) e) t)
  unfolding port_at
  sent_set zero = none_set h (λ e. Ends h (frames_of h) e)
  sent_set (suc t) =
      subst (λ b. Decides b (IsSet h (λ e. Ends h (frames_of h) e) (suc t))) (sym (flag_next h t (λ f. f.sent) (d t).flags.sent (ends (d t).sending) refl refl))
      (set_next h (λ e. Ends h (frames_of h) e) t (d t).flags.sent (ends (d t).sending) (sent_set t) (ends_at h t))

  pub framing_set : (t : ℕ) → Decides (port_at h t).flags.framing (IsSet h (λ c. IsCompletion h (catches_of h) c × (h.levels c ≡ false)) t)
  unfolding port_at
  framing_set zero = none_set h (λ c. IsCompletion h (catches_of h) c × (h.levels c ≡ false))
  framing_set (suc t) =
      subst (λ b. Decides b (IsSet h (λ c. IsCompletion h (catches_of h) c × (h.levels c ≡ false)) (suc t)))
      (sym (flag_next h t (λ f. f.framing) (d t).flags.framing (completes (d t).reception && not (h.levels t)) refl refl))
      (set_next h (λ c. IsCompletion h (catches_of h) c × (h.levels c ≡ false)) t (d t).flags.framing (completes (d t).reception && not (h.levels t))
      (framing_set t) (both_report (completes (d t).reception) (not (h.levels t)) (completes_at h t) (not_decides (h.levels t))))

  overrun_set : (t : ℕ) → Decides (port_at h t).flags.overrun (IsSet h (λ c. IsCompletion h (catches_of h) c × IsReceived h (catches_of h) c) t)
  unfolding port_at
  overrun_set zero = none_set h (λ c. IsCompletion h (catches_of h) c × IsReceived h (catches_of h) c)
  overrun_set (suc t) =
      subst (λ b. Decides b (IsSet h (λ c. IsCompletion h (catches_of h) c × IsReceived h (catches_of h) c) (suc t)))
      (sym (flag_next h t (λ f. f.overrun) (d t).flags.overrun (completes (d t).reception && (d t).flags.received) refl refl))
      (set_next h (λ c. IsCompletion h (catches_of h) c × IsReceived h (catches_of h) c) t (d t).flags.overrun (completes (d t).reception && (d t).flags.received)
      (overrun_set t) (both_report (completes (d t).reception) (d t).flags.received (completes_at h t) (received_set t)))

-- whether a byte waits
none_waits : (h : Driven) (n : ℕ) (accesses : List Done) (waiting : Option ℕ) → Holds h n accesses waiting → Decides (is_none waiting) ((byte : ℕ) → Waits h (frames_of h) accesses n byte → ⊥)
none_waits h n accesses None none = (λ is. none, λ is. refl)
none_waits h n accesses (Some byte) w = (λ is. absurd (false≢true is), λ none. absurd (none byte w))

waits_at : (h : Driven) (t : ℕ) → Decides (is_none (port_at h t).waiting) ((byte : ℕ) → Waits h (frames_of h) (log h t) t byte → ⊥)
unfolding port_at
waits_at h zero =
    (λ is byte w. let past : w.written < 0 = written_before h 0 w.written w.since w.earlier w.given.access w.given.place in omega arith, λ none. refl)
waits_at h (suc t) =
    let was : Stands h t (log h (suc t)) (port_at h (suc t)) = stands_at h t in
    none_waits h (suc t) (log h (suc t)) (port_at h (suc t)).waiting was.holds

pub status_known : StatusIsByHistory
status_known h t = record {
  ri = (port_at h t).flags.received;
  ti = (port_at h t).flags.sent;
  fe = (port_at h t).flags.framing;
  empty = is_none (port_at h t).waiting;
  oe = (port_at h t).flags.overrun;
  value = refl;
  received = received_set h t;
  sent = sent_set h t;
  framing = framing_set h t;
  overrun = overrun_set h t;
  waits = waits_at h t;
}
