-- The levels of pins as masks, bit n pin n (80C196KC User's Manual, "Pin Descriptions", "I/O Ports"; that a wired input
-- takes the level that its output had as the state begins is this kit's own).
use Rattle.std.specs.Prelude.{ℕ, zero, suc, ◌+◌, ◌*◌, ◌^◌, Bool, false, ◌&&◌, if◌then◌else◌, Option, Some, None, List, [], ◌∷◌, ◌++◌, bit_and, bit_or, bit_xor}
use Rattle.kc_base.specs.Bits.{bit, weight}
use Rattle.kc_base.specs.Levels.{level_of, is_high}
use Rattle.kc_base.specs.Pins.{pin_count}
use Rattle.kc_base.specs.declared.types.Edge.{Edge}
use Rattle.kc_stim.specs.Drives.{Drives, level_at, level_before, wire_to}
use Rattle.kc_stim.specs.Proper.{is_driven}
use Rattle.kc_hso.specs.Cam.{Cam, latch_bits}
use Rattle.kc_block_spec.specs.declared.board_registers.BoardRegisters.{BoardRegisters}
use Rattle.kc_block_spec.specs.Units.{Units}

-- the pins below a number that pass a test
unfoldable pub mask_of : (ℕ → Bool) → ℕ → ℕ
mask_of test zero = 0
mask_of test (suc n) = bit_or (mask_of test n) (weight (test n) (2 ^ n))

-- HSO0 to HSO5 on their pins: HSO4 and HSO5 only where IOC1.4 and IOC1.6 are 1
abbrev pub outputs : BoardRegisters → Cam → ℕ
outputs board_registers cam = bit_and (latch_bits cam.latches) (15 + weight (bit board_registers.ioc1 4) 16 + weight (bit board_registers.ioc1 6) 32)

-- the pins that are printed: the outputs, port 1, and P20, P25, P26, P27
abbrev pub printed : BoardRegisters → Cam → ℕ
printed board_registers cam =
    outputs board_registers cam + 64 * board_registers.port1
    + weight (bit board_registers.port2 0) 0x4000 + weight (bit board_registers.port2 5) 0x8000
    + weight (bit board_registers.port2 6) 0x10000 + weight (bit board_registers.port2 7) 0x20000

-- the inputs without a wire that are high in a state
abbrev pub stimulated : Drives → ℕ → ℕ
stimulated drives t = mask_of (λ pin. is_driven drives pin && is_high (level_at drives.stimuli pin t)) pin_count

-- the inputs without a wire that were high in the state before
abbrev pub stimulated_before : Drives → ℕ → ℕ
stimulated_before drives t = mask_of (λ pin. is_driven drives pin && is_high (level_before drives.stimuli pin t)) pin_count

abbrev pub follows : Option ℕ → ℕ → Bool
follows None outs = false
follows (Some output) outs = bit outs output

-- the inputs whose wires come from high outputs
abbrev pub wired : Drives → ℕ → ℕ
wired drives outs = mask_of (λ pin. follows (wire_to drives.wires pin) outs) pin_count

-- the levels of the inputs in state t, from the outputs as it begins
abbrev pub levels_at : {X : Type 0} → ℕ → Units X → ℕ
levels_at t u = bit_or (stimulated u.drives t) (wired u.drives (outputs u.board_registers u.hso))

abbrev pub edge_at : ℕ → ℕ → ℕ → List Edge
edge_at old new n = if bit (bit_xor old new) n then record { pin = record { 0 = n }; level = level_of (bit new n) } ∷ [] else []

-- the edges of the pins below a number, in the order of the pins
unfoldable pub edges_below : ℕ → ℕ → ℕ → List Edge
edges_below old new zero = []
edges_below old new (suc n) = edges_below old new n ++ edge_at old new n

-- the edges of the printed pins
abbrev pub edges_between : ℕ → ℕ → List Edge
edges_between old new = edges_below old new 18
