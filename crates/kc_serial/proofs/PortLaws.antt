-- The serial port over a span in which RXD has no edge.
use Rattle.std.proofs.Common.{◌≡◌, ℕ, suc, ◌+◌, ◌<◌, Bool, true, false, not, ◌&&◌, ◌||◌, ◌∙◌, ap, arith, Option, Some, None}
use Rattle.std.specs.Prelude.{if◌then◌else◌}
use Rattle.std.specs.Option.{option_map}
use Rattle.std.proofs.lemmas.Bool.{and_from, and_parts, and_left, and_right, not-true}
use Rattle.std.proofs.Math.Bool.{or-false}
use Rattle.kc_span.specs.Span.{Rule, after, QuietFor, IsDue, least_of}
use Rattle.kc_span.proofs.SpanLaws.{least_holds}
use Rattle.kc_extra.specs.Further.{further_rule, is_silent}
use Rattle.kc_serial.specs.declared.serial.Flags.{Flags}
use Rattle.kc_serial.specs.declared.serial.Serial.{Serial}
use Rattle.kc_serial.specs.declared.sending.Sending.{Sending}
use Rattle.kc_serial.specs.Frames.{ends}
use Rattle.kc_serial.specs.Samples.{completes}
use Rattle.kc_serial.specs.Port.{out, rested}
use Rattle.kc_serial.specs.Spans.{older, older_sending, older_reception, SendingFits, ReceptionFits}
use Rattle.kc_serial.specs.Quiet.{is_quiet_sending, Before, SendingBefore, ReceptionBefore}
use Rattle.kc_serial.proofs.Closed.{closed_quiet, ages_quiet, due_from}
use Rattle.kc_serial.proofs.FrameLaws.{ends_not, sending_next, sending_start, sending_fits, silent_is}
use Rattle.kc_serial.proofs.SampleLaws.{reception_next, reception_start, reception_fits, received_stays}

abbrev pub port_rule : Rule Serial
port_rule = further_rule (λ t d. rested d) (λ t d. out d)

flags_stay : (f : Flags) (sent received low : Bool) → sent ≡ false → received ≡ false →
    ◌≡◌ {A = Flags} (record { received = f.received || received; sent = f.sent || sent; framing = f.framing || (received && low); overrun = f.overrun || (received && f.received) }) f
flags_stay f sent received low no_end no_byte = λ i. record {
  received = (ap (λ b. f.received || b) no_byte ∙ or-false f.received) i;
  sent = (ap (λ b. f.sent || b) no_end ∙ or-false f.sent) i;
  framing = (ap (λ b. f.framing || (b && low)) no_byte ∙ or-false f.framing) i;
  overrun = (ap (λ b. f.overrun || (b && f.received)) no_byte ∙ or-false f.overrun) i;
}

module _ (d : Serial) where
  abbrev is_quiet : ℕ → Bool
  is_quiet k = is_quiet_sending (older_sending k d.sending) && not (completes (older_reception d.rxd k d.reception))

  start_is : older 0 d ≡ d
  start_is = λ i. record d { sending = sending_start d.sending i; reception = reception_start d.rxd d.reception i }

  known : (t k : ℕ) → is_silent (out (older k d)) ≡ is_quiet k
  known t k = silent_is d.rate d.waiting (older_sending k d.sending) (completes (older_reception d.rxd k d.reception))

  next : (t k : ℕ) → is_quiet k ≡ true → rested (older k d) ≡ older (suc k) d
  next t k quiet =
      let sending : Sending = older_sending k d.sending in
      let parts = and_parts (is_quiet_sending (older_sending k d.sending)) (not (completes (older_reception d.rxd k d.reception))) quiet in
      let no_end : ends (older_sending k d.sending) ≡ false = ends_not (older_sending k d.sending) parts.0 in
      let no_byte : completes (older_reception d.rxd k d.reception) ≡ false = not-true _ parts.1 in
      λ i. record {
        rate = d.rate;
        control = d.control;
        flags = flags_stay d.flags (ends (older_sending k d.sending)) (completes (older_reception d.rxd k d.reception)) (not d.rxd) no_end no_byte i;
        received = received_stays d.received (older_reception d.rxd k d.reception) no_byte i;
        waiting = (ap (λ t. if t then None else d.waiting) no_end) i;
        sending = sending_next d.rate d.waiting k d.sending parts.0 i;
        reception = reception_next d.rate d.rxd k d.reception no_byte i;
        rxd = d.rxd;
        moves = d.moves;
      }

  pub port_after : (from n : ℕ) → QuietFor port_rule from n d → after port_rule from n d ≡ older n d
  port_after from n quiet = closed_quiet port_rule older d is_quiet start_is known next from n quiet

  pub port_fits : (from n : ℕ) → QuietFor port_rule from n d → SendingFits n d.sending × ReceptionFits d.rxd n d.reception
  port_fits from n quiet =
      let each : (k : ℕ) → k < n → is_quiet k ≡ true = ages_quiet port_rule older d is_quiet start_is known next from n quiet in
      (sending_fits n d.sending (λ k lt. (and_parts _ _ (each k lt)).0), reception_fits d.rxd n d.reception (λ k lt. (and_parts _ _ (each k lt)).1))

  before_both : (x y : Option ℕ) → SendingBefore d.sending x → ReceptionBefore d.rxd d.reception y → Before is_quiet (least_of x y)
  before_both None None p q = λ k. and_from _ _ (p k) (q k)
  before_both None (Some n) p q = (λ k lt. and_from _ _ (p k) (q.0 k lt), and_right _ _ q.1)
  before_both (Some m) None p q = (λ k lt. and_from _ _ (p.0 k lt) (q k), and_left _ _ p.1)
  before_both (Some m) (Some n) p q =
      least_holds (λ at. Before is_quiet at) m n
      (λ first. (λ k lt. and_from _ _ (p.0 k lt) (q.0 k (omega arith)), and_left _ _ p.1))
      (λ second. (λ k lt. and_from _ _ (p.0 k (omega arith)) (q.0 k lt), and_right _ _ q.1))

  pub port_due : (now : ℕ) (x y : Option ℕ) → SendingBefore d.sending x → ReceptionBefore d.rxd d.reception y →
      IsDue port_rule now d (option_map (λ n. now + n) (least_of x y))
  port_due now x y p q = due_from port_rule older d is_quiet start_is known next now (least_of x y) (before_both x y p q)
