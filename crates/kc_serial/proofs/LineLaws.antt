-- What TXD shows by the frames.
use Rattle.std.proofs.Common.{◌≡◌, ℕ, zero, suc, ◌+◌, ◌-◌, ◌/◌, ◌<◌, ◌≤◌, Bool, true, false, refl, sym, ◌∙◌, ap, arith, inl, inr, Option, Some, List}
use Rattle.std.specs.Prelude.{if◌then◌else◌}
use Rattle.std.proofs.lemmas.Bool.{cases_eq}
use Rattle.kc_extra.specs.Histories.{Access, accessed}
use Rattle.kc_serial.specs.Frames.{bit_length, frame_level, shown}
use Rattle.kc_serial.specs.Port.{is_on, txd_edges, ticked}
use Rattle.kc_serial.specs.Registers.{sbuf, baud_rate, sp_con, queued}
use Rattle.kc_serial.specs.Unit.{serial_further}
use Rattle.kc_serial.specs.History.{Driven, falls, port_at}
use Rattle.kc_serial.specs.declared.sending.Sending.{Sending}
use Rattle.kc_serial.specs.declared.sending.Sending.TheVariants.{Idle, Next, Busy}
use Rattle.kc_serial.specs.declared.serial.Serial.{Serial}
use Rattle.kc_serial.specs.Accesses.{Done, log, is_write_of, is_read_of, rate_before}
use Rattle.kc_serial.specs.Schedules.{end_of, IsFree, frames_of, line_before, line_of, LinesShowFrames}
use Rattle.kc_serial.proofs.AccessLaws.{some_same, View, view, OfByte, OfRate, OfControl, OfStatus, OfOther, fold_holds}
use Rattle.kc_serial.proofs.ScheduleLaws.{Sends, Stands, busy, behind_tick}

module _ (h : Driven) (t : ℕ) where
  shows_by : (accesses : List Done) (waiting : Option ℕ) (s : Sending) → Sends h t accesses waiting s → (f byte : ℕ) → frames_of h f ≡ Some byte → f ≤ t → t < end_of h f →
      shown s ≡ frame_level byte ((t - f) / bit_length (rate_before h f))
  shows_by accesses waiting Idle sends f byte begins le lt = let over : end_of h f ≤ t = sends.0 f byte begins le in absurd (omega arith)
  shows_by accesses waiting (Next other) sends f byte begins le lt = let over : end_of h f ≤ t = sends.0 f byte begins le in absurd (omega arith)
  shows_by accesses waiting (Busy frame) u f byte begins le lt =
      let age : u.from + frame.age ≡ t = u.age in
      elim (cases_eq f u.from) [
        | inl same ↦
            let byte_is : frame.byte ≡ byte = some_same frame.byte byte (sym u.begins ∙ ap (frames_of h) (sym same) ∙ begins) in
            let age_is : frame.age ≡ t - f = omega arith in
            let rate_is : frame.rate ≡ rate_before h f = u.rate ∙ ap (rate_before h) (sym same) in
            ap (λ b. frame_level b (frame.age / bit_length frame.rate)) byte_is
            ∙ ap (λ n. frame_level byte (n / bit_length frame.rate)) age_is
            ∙ ap (λ r. frame_level byte ((t - f) / bit_length r)) rate_is
        | inr other ↦ let over : end_of h f ≤ u.from = u.alone f byte begins le other in absurd (omega arith)
      ]

  rests_by : (accesses : List Done) (waiting : Option ℕ) (s : Sending) → Sends h t accesses waiting s → IsFree h (frames_of h) t → shown s ≡ true
  rests_by accesses waiting Idle sends free = refl
  rests_by accesses waiting (Next other) sends free = refl
  rests_by accesses waiting (Busy frame) u free = absurd (busy h t frame u free)

-- no access moves TXD
queued_shown : (byte : ℕ) (s : Sending) (d : Serial) → d.sending ≡ s → shown (queued byte s d).sending ≡ shown s
queued_shown byte Idle d is = refl
queued_shown byte (Next other) d is = ap shown is
queued_shown byte (Busy frame) d is = ap shown is

access_shown : (t : ℕ) (d : Serial) (a : Access) → shown (accessed serial_further t d a).sending ≡ shown d.sending
access_shown t d a = by (accessed serial_further t d a) (view t d a)
  where
    byte_shown : (on : Bool) → shown (if on then queued a.value d.sending d else d).sending ≡ shown d.sending
    byte_shown true = queued_shown a.value d.sending d refl
    byte_shown false = refl

    by : (e : Serial) → View a.value d e (is_write_of sbuf a) (is_write_of baud_rate a) (is_write_of sp_con a) (is_read_of sp_con a) → shown e.sending ≡ shown d.sending
    by e (OfByte byte rate control read is) = ap (λ x. shown x.sending) is ∙ byte_shown (is_on d.control)
    by e (OfRate byte rate control read is) = ap (λ x. shown x.sending) is
    by e (OfControl byte rate control read is) = ap (λ x. shown x.sending) is
    by e (OfStatus byte rate control read is) = ap (λ x. shown x.sending) is
    by e (OfOther byte rate control read is) = ap (λ x. shown x.sending) is

shown_before : (h : Driven) (t : ℕ) → shown (port_at h t).sending ≡ line_before (line_of h) t
unfolding port_at log
shown_before h zero = refl
shown_before h (suc t) =
    fold_holds (λ accesses d. shown d.sending ≡ line_of h t) t (λ accesses d a was. access_shown t d a ∙ was) (log h t) (ticked (h.levels t) (falls h t) (port_at h t)) (h.accesses t) refl

pub lines_shown : LinesShowFrames
lines_shown h = (
  record {
    shows = λ t f byte begins le lt.
        let was : Stands h t (log h t) (ticked (h.levels t) (falls h t) (port_at h t)) = behind_tick h t in
        shows_by h t (log h t) (ticked (h.levels t) (falls h t) (port_at h t)).waiting (ticked (h.levels t) (falls h t) (port_at h t)).sending was.sends f byte begins le lt;
    rests = λ t free.
        let was : Stands h t (log h t) (ticked (h.levels t) (falls h t) (port_at h t)) = behind_tick h t in
        rests_by h t (log h t) (ticked (h.levels t) (falls h t) (port_at h t)).waiting (ticked (h.levels t) (falls h t) (port_at h t)).sending was.sends free;
  },
  λ t. ap (λ l. txd_edges l (line_of h t)) (shown_before h t),
)
