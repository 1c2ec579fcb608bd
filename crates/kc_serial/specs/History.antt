-- The serial port over all states, from the accesses so far and the levels of RXD (this kit's own).
use Rattle.std.specs.Prelude.{◌≡◌, ℕ, ◌+◌, ◌*◌, ◌/◌, ◌<◌, Bool, true, false, not, ◌&&◌, if◌then◌else◌, Some, List, [], ◌∷◌, map, fold}
use Rattle.std.proofs.Common.{zero, suc}
use Rattle.kc_base.specs.Levels.{is_high}
use Rattle.kc_base.specs.declared.types.Level.{Level}
use Rattle.kc_extra.specs.Histories.{Access, accessed}
use Rattle.kc_serial.specs.Frames.{bit_length, frame_level, shown, ends, begun}
use Rattle.kc_serial.specs.Samples.{half_bit, is_complete}
use Rattle.kc_serial.specs.Port.{ticked, receives, start}
use Rattle.kc_serial.specs.Unit.{serial_further}
use Rattle.kc_serial.specs.declared.receiving.Reception.{Reception}
use Rattle.kc_serial.specs.declared.serial.Serial.{Serial}

-- the levels of RXD before state 0 and in each state, and the accesses of each state in their order
pub record Driven : Type 0 where
  pub before : Level
  pub levels : ℕ → Bool
  pub accesses : ℕ → List Access

abbrev pub level_before : Driven → ℕ → Bool
level_before h zero = is_high h.before
level_before h (suc t) = h.levels t

abbrev pub falls : Driven → ℕ → Bool
falls h t = level_before h t && not (h.levels t)

-- the port as state t begins; in each state the accesses come after the Tick
unfoldable pub port_at : Driven → ℕ → Serial
port_at h zero = start h.before
port_at h (suc t) = fold (accessed serial_further t) (ticked (h.levels t) (falls h t) (port_at h t)) (h.accesses t)

-- the level that the port keeps is that of the state before
abbrev pub LevelsAreKept : Type 0
LevelsAreKept = (h : Driven) (t : ℕ) → (port_at h t).rxd ≡ level_before h t

-- the state of sample k, where the edge came in state e: half a bit and k bits later
abbrev pub sample_state : ℕ → ℕ → ℕ → ℕ
sample_state e rate k = e + half_bit rate + k * bit_length rate

-- the number with these bits, the lowest first
abbrev pub number_of : List Bool → ℕ
number_of [] = 0
number_of (b ∷ bits) = (if b then 1 else 0) + 2 * number_of bits

-- the levels at samples 1 to 8
abbrev pub byte_levels : (ℕ → Bool) → ℕ → ℕ → List Bool
byte_levels levels e rate = map (λ k. levels (sample_state e rate k)) (1 ∷ 2 ∷ 3 ∷ 4 ∷ 5 ∷ 6 ∷ 7 ∷ 8 ∷ [])

-- A byte that is received in state t: RXD fell in a state in which the port might receive, at the rate of that moment; the
-- start bit was 0, the byte is the levels at its eight sample states, and sample 9 comes in state t.
pub record IsReceived (h : Driven) (t : ℕ) (r : Reception) : Type 0 where
  pub edge : ℕ
  pub fell : falls h edge ≡ true
  pub allowed : receives (port_at h edge).control ≡ true
  pub rate : r.rate ≡ (port_at h edge).rate
  pub start_bit : h.levels (sample_state edge r.rate 0) ≡ false
  pub byte : r.register ≡ number_of (byte_levels h.levels edge r.rate)
  pub last : sample_state edge r.rate 9 ≡ t

abbrev pub ReceivedBytesAreSamples : Type 0
ReceivedBytesAreSamples = (h : Driven) (t : ℕ) (r : Reception) → (port_at h t).reception ≡ Some r → is_complete r ≡ true → IsReceived h t r

-- A frame that begins in state f shows its ten levels, each for the length of a bit, whatever comes meanwhile, and ends ten
-- bits later.
pub record IsShown (h : Driven) (f byte rate : ℕ) : Type 0 where
  pub levels : (n : ℕ) → n < 10 * bit_length rate → shown (port_at h (suc (f + n))).sending ≡ frame_level byte (n / bit_length rate)
  pub end : ends (port_at h (f + 10 * bit_length rate)).sending ≡ true

abbrev pub FramesAreShown : Type 0
FramesAreShown = (h : Driven) (f byte rate : ℕ) → (port_at h (suc f)).sending ≡ begun rate byte → IsShown h f byte rate
