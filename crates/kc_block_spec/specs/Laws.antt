-- What a Tick that does nothing leaves (this kit's own).
use Rattle.std.specs.Prelude.{◌≡◌, ℕ, Bool, true, false, not, ◌&&◌, ◌||◌, [], ◌≤◌, length}
use Rattle.kc_base.specs.Bits.{bit}
use Rattle.kc_span.specs.Span.{Rule}
use Rattle.kc_timers.specs.T2 as t2
use Rattle.kc_hso.specs.Cam as cam
use Rattle.kc_hsi.specs.Input as hsi
use Rattle.kc_extra.specs.Further.{Further, is_silent}
use Rattle.kc_block_spec.specs.Units.{Units}
use Rattle.kc_block_spec.specs.Levels.{edges_between}
use Rattle.kc_block_spec.specs.Control.{control_of}
use Rattle.kc_block_spec.specs.Tick.{passes, edges_at, tick}
use Rattle.kc_block_spec.specs.Touch.{worked, touched}

-- bit 5 of IOS1 by itself; where IOC1.2 is 1, Timer 1's overflow raises a request and so is not quiet
abbrev pub flag_rule : Bool → Rule Bool
flag_rule raises = record { step = λ t flag. flag || passes t; quiet = λ t flag. not (passes t && raises) }

-- each unit by itself, and what stands beside them as it was
abbrev pub rested : {X : Type 0} → Further X → ℕ → Units X → Units X
rested f t u = record {
  drives = u.drives;
  board_registers = u.board_registers;
  overflowed = (flag_rule (bit u.board_registers.ioc1 2)).step t u.overflowed;
  timer2 = (t2.timer2_rule (control_of u.board_registers u.board_registers.levels)).step t u.timer2;
  hso = (cam.cam_rule (λ s. u.timer2.value)).step t u.hso;
  hsi = hsi.hsi_rule.step t u.hsi;
  further = f.step t u.board_registers.levels 0 u.further;
}

-- a Tick that lets each unit go on by itself, gives no edge and touches nothing
pub record IsQuietTick {X : Type 0} (f : Further X) (t : ℕ) (u : Units X) : Type 0 where
  pub same : tick f t u ≡ record { units = rested f t u; edges = [] }
  pub untouched : touched f t u ≡ 0

abbrev pub QuietTicksAreRests : Type 0 → Type 0
QuietTicksAreRests X = (f : Further X) (t : ℕ) (u : Units X) → worked f t u ≡ false → IsQuietTick f t u

-- such a Tick keeps all data beside the units
abbrev pub QuietTicksKeepBoardRegisters : Type 0 → Type 0
QuietTicksKeepBoardRegisters X = (f : Further X) (t : ℕ) (u : Units X) → worked f t u ≡ false → (tick f t u).units.board_registers ≡ u.board_registers

-- no input has an edge, and each unit by itself is quiet
pub record IsCalm {X : Type 0} (f : Further X) (t : ℕ) (u : Units X) : Type 0 where
  pub inputs : edges_at t u ≡ 0
  pub flag : (flag_rule (bit u.board_registers.ioc1 2)).quiet t u.overflowed ≡ true
  pub timer2 : (t2.timer2_rule (control_of u.board_registers u.board_registers.levels)).quiet t u.timer2 ≡ true
  pub hso : (cam.cam_rule (λ s. u.timer2.value)).quiet t u.hso ≡ true
  pub hsi : hsi.hsi_rule.quiet t u.hsi ≡ true
  pub further : is_silent (f.out t u.board_registers.levels 0 u.further) ≡ true

-- exactly such a Tick is not worked
abbrev pub CalmTicksAreNotWorked : Type 0 → Type 0
CalmTicksAreNotWorked X = (f : Further X) (t : ℕ) (u : Units X) → IsCalm f t u → worked f t u ≡ false

abbrev pub UnworkedTicksAreCalm : Type 0 → Type 0
UnworkedTicksAreCalm X = (f : Further X) (t : ℕ) (u : Units X) → worked f t u ≡ false → IsCalm f t u

-- a change of the printed pins gives at most eighteen edges
abbrev pub EighteenEdges : Type 0
EighteenEdges = (old new : ℕ) → length (edges_between old new) ≤ 18

-- a Tick touches at most four units
abbrev pub FourTouched : Type 0 → Type 0
FourTouched X = (f : Further X) (t : ℕ) (u : Units X) → touched f t u ≤ 4
