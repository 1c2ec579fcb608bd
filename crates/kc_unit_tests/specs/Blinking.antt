-- A beacon, a further unit that is made for tests: two lamps on the pins HSO2 and HSO3 that count how often a period has
-- ended, request 6, and HSI3, which holds it while it is high (this kit's own).
use Rattle.std.specs.Prelude.{◌≡◌, ℕ, ◌+◌, ◌-◌, ◌*◌, ◌/◌, ◌%◌, ◌==◌, Bool, true, false, not, ◌&&◌, ◌||◌, if◌then◌else◌, Option, Some, None, List, [], ◌∷◌, bit_xor}
use Rattle.kc_base.specs.Bits.{bit}
use Rattle.kc_base.specs.declared.types.Edge.{Edge}
use Rattle.kc_base.specs.declared.types.Level.TheVariants.{Low, High}
use Rattle.kc_span.specs.Span.{Counted}
use Rattle.kc_extra.specs.declared.outcome.ExtraOut.{ExtraOut}
use Rattle.kc_extra.specs.Further.{Further}

pub record Blinking : Type 0 where
  -- how many units of time a period has, and whether a unit has 2^32 states or one
  pub count : ℕ
  pub coarse : Bool
  -- how many states of the period are left, 0 where there is no period
  pub left : ℕ
  -- the lamps
  pub first : Bool
  pub second : Bool
  -- whether a period has ended since that was last read
  pub ended : Bool
  -- the level of HSI3
  pub held : Bool

abbrev pub unit_of : Blinking → ℕ
unit_of d = if d.coarse then 4294967296 else 1

-- a new period
abbrev pub begun : Blinking → Blinking
begun d = record d { left = d.count * unit_of d }

-- this state is the last of its period
abbrev pub ends : Blinking → Bool
ends d = not d.held && (d.left == 1)

-- The end of a period turns the first lamp, and the second where the first goes out; the next period begins.
abbrev pub turned : Blinking → Blinking
turned d = record (begun d) { first = not d.first; second = if d.first then not d.second else d.second; ended = true }

-- one state at the level of HSI3 that is kept
abbrev pub gone_on : Blinking → Blinking
gone_on d = if ends d then turned d else record d { left = if d.held then d.left else d.left - 1 }

abbrev pub edge_to : ℕ → Bool → Edge
edge_to pin lit = record { pin = record { 0 = pin }; level = if lit then High else Low }

abbrev pub lamps_turned : Blinking → List Edge
lamps_turned d = edge_to 2 (not d.first) ∷ (if d.first then edge_to 3 (not d.second) ∷ [] else [])

abbrev pub out_of : Blinking → ExtraOut
out_of d = record { raised = record { 0 = if ends d then 64 else 0 }; moved = if ends d then lamps_turned d else [] }

-- at these levels of the inputs
abbrev pub at_levels : ℕ → Blinking → Blinking
at_levels levels d = record d { held = bit levels 21 }

-- 02H of window 0 has the count; 16H of window 1 the unit (bit 0), the lamps (bits 1 and 2), and whether a period has
-- ended (bit 7), which a read takes away. A write of either begins a period.
abbrev pub is_count : ℕ → ℕ → Bool
is_count window sfr = (window == 0) && (sfr == 0x02)

abbrev pub is_state : ℕ → ℕ → Bool
is_state window sfr = (window == 1) && (sfr == 0x16)

abbrev pub is_register : ℕ → ℕ → Bool
is_register window sfr = is_count window sfr || is_state window sfr

abbrev pub bit_if : Bool → ℕ → ℕ
bit_if b n = if b then n else 0

abbrev pub state_of : Blinking → ℕ
state_of d = bit_if d.coarse 1 + bit_if d.first 2 + bit_if d.second 4 + bit_if d.ended 128

-- 02H reads how many whole units are left
abbrev pub answer_of : ℕ → ℕ → Blinking → Option ℕ
answer_of window sfr d =
    if is_count window sfr then Some ((d.left / unit_of d) % 256)
    else if is_state window sfr then Some (state_of d)
    else None

abbrev pub read_by : ℕ → ℕ → Blinking → Blinking
read_by window sfr d = if is_state window sfr then record d { ended = false } else d

abbrev pub written_by : ℕ → ℕ → ℕ → Blinking → Blinking
written_by window sfr value d =
    if is_count window sfr then begun (record d { count = value })
    else if is_state window sfr then begun (record d { coarse = bit value 0 })
    else d

-- a beacon that has no period yet
abbrev pub new_beacon : Blinking
new_beacon = record { count = 0; coarse = false; left = 0; first = false; second = false; ended = false; held = false }

-- the data of a counted beacon, changed
abbrev pub within : (Blinking → Blinking) → Counted Blinking → Counted Blinking
within change d = record { inner = change d.inner; moves = d.moves }

-- all that a beacon says of itself
abbrev pub beacon_further : Further (Counted Blinking)
beacon_further = record {
  step = λ t levels edges d. within (λ b. gone_on (at_levels levels b)) d;
  out = λ t levels edges d. out_of (at_levels levels d.inner);
  rest = λ t d. within gone_on d;
  rest_out = λ t d. out_of d.inner;
  readable = is_register;
  answer = λ window sfr t d. answer_of window sfr d.inner;
  after_read = λ window sfr t d. within (read_by window sfr) d;
  writable = is_register;
  after_write = λ window sfr value t d. within (written_by window sfr value) d;
  started = λ t d. within begun d;
}

-- the kept level of HSI3 is that before these edges to these levels
abbrev pub beacon_agrees : ℕ → ℕ → Counted Blinking → Type 0
beacon_agrees levels edges d = bit (bit_xor levels edges) 21 ≡ d.inner.held

abbrev pub beacon_pins : List ℕ
beacon_pins = 2 ∷ 3 ∷ []
