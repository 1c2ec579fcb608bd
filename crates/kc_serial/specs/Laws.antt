-- What the serial port keeps of RXD, and the pin that it moves.
use Rattle.std.proofs.Common.{◌≡◌, ℕ, zero, suc, ◌<◌, ◌==◌, Bool, true, false, ◌&&◌, [], ◌∷◌, get_or, refl, sym, ◌∙◌, ap, arith, Some, None}
use Rattle.std.specs.Prelude.{bit_xor, is_some, if◌then◌else◌}
use lib.Bits.{xor_comm, xor_assoc, xor_self, xor_zero_l, xor_zero_r}
use Rattle.kc_base.specs.Bits.{bit}
use Rattle.kc_base.specs.Levels.{is_high}
use Rattle.kc_base.specs.Pins.{IsPin, txd, rxd}
use Rattle.kc_base.specs.declared.types.Level.{Level}
use Rattle.kc_extra.specs.Pins.{AreFew, MoveSome}
use Rattle.kc_extra.specs.Two.{either_holds}
use Rattle.kc_serial.specs.declared.sending.Sending.{Sending}
use Rattle.kc_serial.specs.declared.sending.Sending.TheVariants.{Idle, Next, Busy}
use Rattle.kc_serial.specs.declared.serial.Serial.{Serial}
use Rattle.kc_serial.specs.Port.{ticked, ticked_at, rested, Keeps, txd_edges, is_on, start}
use Rattle.kc_serial.specs.Registers.{sbuf, baud_rate, is_readable, is_writable, after_read, after_write, queued, with_byte, with_rate, with_control}

xor_none : (l : ℕ) → bit_xor l 0 ≡ l
xor_none l = xor_zero_r l

xor_back : (m l : ℕ) → bit_xor m (bit_xor l m) ≡ l
xor_back m l = ap (bit_xor m) (xor_comm l m) ∙ sym (xor_assoc m m l) ∙ ap (λ n. bit_xor n l) (xor_self m) ∙ xor_zero_l l

-- without an edge a state is a rest
pub still : (l : ℕ) (d : Serial) → Keeps l 0 d → ticked_at l 0 d ≡ rested d
still l d kept = ap (λ high. ticked high false d) (ap (λ n. bit n rxd) (sym (xor_none l)) ∙ sym kept)

pub kept_on : (l e m : ℕ) (d : Serial) → Keeps m (bit_xor l m) (ticked_at l e d)
kept_on l e m d = ap (λ n. bit n rxd) (sym (xor_back m l))

-- a port keeps the level of RXD that it is made with
pub made_keeps : (level : Level) (before levels : ℕ) → bit before rxd ≡ is_high level → Keeps levels (bit_xor before levels) (start level)
made_keeps level before levels is = sym is ∙ ap (λ n. bit n rxd) (sym (xor_back levels before))

pub kept_by_read : (w s l e : ℕ) (d : Serial) → Keeps l e d → Keeps l e (after_read w s d)
kept_by_read w s l e d kept = either_holds (Keeps l e) (is_readable w s && (s == 0x11)) _ d kept kept

queued_keeps : (byte l e : ℕ) (sending : Sending) (d : Serial) → Keeps l e d → Keeps l e (queued byte sending d)
queued_keeps byte l e Idle d kept = kept
queued_keeps byte l e (Next other) d kept = kept
queued_keeps byte l e (Busy frame) d kept = kept

pub kept_by_write : (w s v l e : ℕ) (d : Serial) → Keeps l e d → Keeps l e (after_write w s v d)
kept_by_write w s v l e d kept =
    either_holds (Keeps l e) (is_writable w s) _ d
    (either_holds (Keeps l e) (s == sbuf) (with_byte v d) _
    (either_holds (Keeps l e) (is_on d.control) (queued v d.sending d) d (queued_keeps v l e d.sending d kept) kept)
    (either_holds (Keeps l e) (s == baud_rate) (with_rate v d) (with_control v d) kept kept))
    kept

pub answers_if : (there : Bool) (n : ℕ) → is_some (if there then Some n else None) ≡ there
answers_if true n = refl
answers_if false n = refl

-- a register that is not there changes nothing
pub no_read_if : (w s : ℕ) (d : Serial) → is_readable w s ≡ false → after_read w s d ≡ d
no_read_if w s d none = rw none refl

pub no_write_if : (w s v : ℕ) (d : Serial) → is_writable w s ≡ false → after_write w s v d ≡ d
no_write_if w s v d none = rw none refl

named_txd : (k d : ℕ) → k < 1 → IsPin (get_or (txd ∷ []) k d)
named_txd zero d lt = omega arith
named_txd (suc k) d lt = absurd (omega arith)

pub txd_alone : AreFew (txd ∷ [])
txd_alone = record { few = omega arith; distinct = refl; named = λ k d lt. named_txd k d lt }

pub moves_txd : (old new : Bool) → MoveSome (txd ∷ []) (txd_edges old new)
moves_txd true true = tt
moves_txd false false = tt
moves_txd true false = (omega arith, refl, tt)
moves_txd false true = (omega arith, refl, tt)
