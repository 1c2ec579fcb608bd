-- When the frames of a port begin and end, by the bytes written so far, and what TXD shows by them (80C196KC User's Manual,
-- "Serial Port"; in which state a frame begins is this kit's own).
use Rattle.std.specs.Prelude.{◌≡◌, ℕ, ◌+◌, ◌-◌, ◌*◌, ◌/◌, ◌<◌, ◌≤◌, ◌==◌, Bool, true, false, not, ◌&&◌, ◌||◌, ◌⊎◌, if◌then◌else◌, Option, Some, None, List, [], ◌∷◌, ◌++◌}
use Rattle.std.specs.List.{list_any}
use Rattle.std.proofs.Common.{zero, suc}
use Rattle.kc_extra.specs.Histories.{Access}
use Rattle.kc_serial.specs.Frames.{bit_length, frame_level, shown, is_over, sending_after}
use Rattle.kc_serial.specs.Port.{is_on, txd_edges, out}
use Rattle.kc_serial.specs.Registers.{sbuf, sp_con}
use Rattle.kc_serial.specs.History.{Driven, port_at}
use Rattle.kc_serial.specs.declared.sending.Sending.{Sending}
use Rattle.kc_serial.specs.declared.sending.Sending.TheVariants.{Idle, Next, Busy}
use Rattle.kc_serial.specs.declared.serial.Serial.{Serial}
use Rattle.kc_serial.specs.Accesses.{Done, log, is_write_of, control_after, rate_before}

-- for each state the byte whose frame begins in it, if one does
abbrev pub Frames : Type 0
Frames = ℕ → Option ℕ

-- the state in which a frame that begins in state f ends: ten bits later, at the rate with which it begins
abbrev pub end_of : Driven → ℕ → ℕ
end_of h f = f + 10 * bit_length (rate_before h f)

-- no frame is under way in state t
abbrev pub IsFree : Driven → Frames → ℕ → Type 0
IsFree h frames t = (f byte : ℕ) → frames f ≡ Some byte → f ≤ t → end_of h f ≤ t

-- a frame ends in state t
pub record Ends (h : Driven) (frames : Frames) (t : ℕ) : Type 0 where
  pub begun : ℕ
  pub byte : ℕ
  pub begins : frames begun ≡ Some byte
  pub over : end_of h begun ≡ t

-- after these accesses one writes a byte, and the port is on
abbrev pub is_given : List Done → Access → Bool
is_given earlier a = is_write_of sbuf a && is_on (control_after earlier)

-- among these accesses, the last one first, such a byte is written in state w: behind those of `earlier`, before those of `since`
pub record IsGiven (accesses since earlier : List Done) (w byte : ℕ) : Type 0 where
  pub access : Access
  pub place : accesses ≡ since ++ (record { at = w; access = access } ∷ earlier)
  pub given : is_given earlier access ≡ true
  pub value : access.value ≡ byte

-- whether one is written in state w
abbrev pub gives_in : ℕ → List Done → Bool
gives_in w [] = false
gives_in w (d ∷ earlier) = ((d.at == w) && is_given earlier d.access) || gives_in w earlier

-- The first byte of state w, in which no frame is under way: its frame begins in the next state.
pub record BeginsAtOnce (h : Driven) (frames : Frames) (w byte : ℕ) : Type 0 where
  pub since : List Done
  pub earlier : List Done
  pub given : IsGiven (log h (suc w)) since earlier w byte
  pub first : gives_in w earlier ≡ false
  pub free : IsFree h frames w

-- what waits is replaced by a later byte, and lost where the port is turned off
abbrev pub replaces : Access → Bool
replaces a = is_write_of sbuf a || (is_write_of sp_con a && not (is_on a.value))

-- The byte that waits as state t begins, behind these accesses: it has not begun at once, nothing has replaced it, and no frame
-- has ended since it was written.
pub record Waits (h : Driven) (frames : Frames) (accesses : List Done) (t byte : ℕ) : Type 0 where
  pub written : ℕ
  pub since : List Done
  pub earlier : List Done
  pub given : IsGiven accesses since earlier written byte
  pub behind : gives_in written earlier ≡ false → IsFree h frames written → ⊥
  pub kept : list_any (λ d. replaces d.access) since ≡ false
  pub still : (e : ℕ) → written < e → e < t → Ends h frames e → ⊥

-- A frame begins exactly where a byte is written and none is under way, and else at the end of the one that is.
pub record IsSchedule (h : Driven) (frames : Frames) : Type 0 where
  pub none : frames 0 ≡ None
  pub begins : (t byte : ℕ) → frames (suc t) ≡ Some byte → BeginsAtOnce h frames t byte ⊎ (Ends h frames (suc t) × Waits h frames (log h (suc t)) (suc t) byte)
  pub at_once : (t byte : ℕ) → BeginsAtOnce h frames t byte → frames (suc t) ≡ Some byte
  pub later : (t byte : ℕ) → Ends h frames (suc t) → Waits h frames (log h (suc t)) (suc t) byte → frames (suc t) ≡ Some byte

-- what is written determines all frames
abbrev pub SchedulesAreOne : Type 0
SchedulesAreOne = (h : Driven) (frames others : Frames) → IsSchedule h frames → IsSchedule h others → (t : ℕ) → frames t ≡ others t

-- the byte whose frame a port begins in its next state
abbrev pub begun_next : Serial → Sending → Option ℕ
begun_next d Idle = None
begun_next d (Next byte) = Some byte
begun_next d (Busy frame) = if is_over frame then d.waiting else None

-- the frames of the port
abbrev pub frames_of : Driven → Frames
frames_of h t = begun_next (port_at h t) (port_at h t).sending

abbrev pub FramesAreScheduled : Type 0
FramesAreScheduled = (h : Driven) → IsSchedule h (frames_of h)

-- TXD shows the levels of a frame under way, each for the length of a bit, and else 1
pub record IsLine (h : Driven) (frames : Frames) (line : ℕ → Bool) : Type 0 where
  pub shows : (t f byte : ℕ) → frames f ≡ Some byte → f ≤ t → t < end_of h f → line t ≡ frame_level byte ((t - f) / bit_length (rate_before h f))
  pub rests : (t : ℕ) → IsFree h frames t → line t ≡ true

abbrev pub line_before : (ℕ → Bool) → ℕ → Bool
line_before line zero = true
line_before line (suc t) = line t

-- the level of the port's TXD in state t
abbrev pub line_of : Driven → ℕ → Bool
line_of h t = shown (sending_after (port_at h t).rate (port_at h t).waiting (port_at h t).sending)

-- the edges of each state lead from the level of the state before to its own
abbrev pub LinesShowFrames : Type 0
LinesShowFrames = (h : Driven) → IsLine h (frames_of h) (line_of h)
    × ((t : ℕ) → (out (port_at h t)).moved ≡ txd_edges (line_before (line_of h) t) (line_of h t))
