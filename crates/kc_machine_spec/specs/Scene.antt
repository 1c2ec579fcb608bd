-- One access to the common memory (80C196KC User's Manual, "Memory Map" and "Special Function Registers").
use Rattle.std.specs.Prelude.{ℕ, ◌+◌, ◌*◌, ◌/◌, ◌%◌, nat_lt, Bool, true, false, is_some, if◌then◌else◌, Option, Some, None, Result, Ok, Err, List, [], ◌++◌, slice_index, slice_set}
use Rattle.kc_base.specs.declared.types.Edge.{Edge}
use Rattle.kc_base.specs.declared.types.Kind.{Kind}
use Rattle.kc_base.specs.declared.types.Kind.TheVariants.{BadWindow}
use Rattle.kc_exec_spec.specs.declared.access.Master.{Master}
use Rattle.kc_exec_spec.specs.declared.access.Access.{Access}
use Rattle.kc_exec_spec.specs.declared.access.Access.TheVariants.{ReadByte, ReadWord, WriteByte, WriteWord, SetMasks}
use Rattle.kc_exec_spec.specs.Effect.{Meaning}
use Rattle.kc_exec_spec.specs.Window.{is_wsr}
use Rattle.kc_exec_spec.specs.Memory.{if_even, reads, writes}
use Rattle.kc_extra.specs.Further.{Further}
use Rattle.kc_block_spec.specs.declared.registers.Window.{Window}
use Rattle.kc_block_spec.specs.declared.registers.ReadableByte.{ReadableByte}
use Rattle.kc_block_spec.specs.declared.registers.ReadableByte.TheVariants.{Zeros}
use Rattle.kc_block_spec.specs.Units.{Units}
use Rattle.kc_block_spec.specs.Registers.{window_seen, bytes_read_everywhere, bytes_written_everywhere, row_at}
use Rattle.kc_block_spec.specs.Accesses.{byte_read, after_byte_read, byte_written, word_read, after_word_read, word_written, latch_edges, ◌>>=◌}
use Rattle.kc_machine_spec.specs.Board.{Board, masks_of, with_masks}

-- the board in a state, after its Tick; the edges of pins that accesses have made in that state, how many of their bytes have
-- reached a unit, and the access that was refused
pub record Scene (X : Type 0) : Type 0 where
  pub time : ℕ
  pub board : Board X
  pub edges : List Edge
  pub reached : ℕ
  pub refused : Option Access

-- before the first access
abbrev pub opened : {X : Type 0} → ℕ → Board X → Scene X
opened time board = record { time = time; board = board; edges = []; reached = 0; refused = None }

-- how edges and accesses are kept
pub record Keeping : Type 0 where
  pub note : List Edge → List Edge → List Edge
  pub count : ℕ → ℕ → ℕ

abbrev pub all_kept : Keeping
all_kept = record { note = λ old more. old ++ more; count = λ a b. a + b }

-- the scene with other units: where a latch has changed, its pin has an edge
unfoldable pub with_units : {X : Type 0} → Keeping → Scene X → Units X → ℕ → Scene X
with_units keeping s u reached = record {
  time = s.time;
  board = record { units = u; memory = s.board.memory };
  edges = keeping.note s.edges (latch_edges s.board.units u);
  reached = keeping.count s.reached reached;
  refused = s.refused;
}

-- a refused access changes nothing else
abbrev pub refusing : {X : Type 0} → Scene X → Access → Scene X
refusing s r = record s { refused = Some r }

abbrev pub byte : {X : Type 0} → Scene X → ℕ → ℕ
byte s addr = slice_index s.board.memory addr

abbrev pub put : {X : Type 0} → Scene X → ℕ → ℕ → Scene X
put s addr n = record s { board = record s.board { memory = slice_set s.board.memory addr n } }

-- a byte register that each window has stands beside the units: an access to it reaches none
abbrev pub byte_weight : {R : Type 0} → List (ℕ × R) → ℕ → ℕ
byte_weight everywhere addr = if is_some (row_at everywhere addr) then 0 else 1

abbrev pub is_zero_register : Option ReadableByte → Bool
is_zero_register (Some Zeros) = true
is_zero_register _ = false

-- the word of the zero register reaches nothing; another is two bytes, whether a word register or not
abbrev pub word_weight : ℕ → ℕ
word_weight addr = if is_zero_register (row_at bytes_read_everywhere addr) then 0 else 2

-- the window in which an access is made
abbrev pub window_at : {X : Type 0} → Scene X → Master → Window
window_at s by = window_seen by s.board.units.board_registers.wsr

abbrev pub accepted : {X : Type 0} → Result (Units X) Kind → Result ℕ Kind
accepted r = r >>= λ u. Ok 0

abbrev pub kept : {X : Type 0} → Units X → Result (Units X) Kind → Units X
kept u (Ok new) = new
kept u (Err k) = u

module _ {X : Type 0} (f : Further X) where
  abbrev pub scene_answer : Scene X → Access → Result ℕ Kind
  scene_answer s (ReadByte by addr) = if nat_lt addr 24 then byte_read f s.time (window_at s by) s.board.units addr else reads addr (byte s addr)
  scene_answer s (ReadWord by addr) = if_even addr (if nat_lt addr 24 then word_read f s.time (window_at s by) s.board.units addr else reads addr (byte s addr + 256 * byte s (addr + 1)))
  scene_answer s (WriteByte by addr n) = if nat_lt addr 24 then accepted (byte_written f s.time (window_at s by) s.board.units addr n) else writes addr
  scene_answer s (WriteWord by addr n) = if_even addr (if nat_lt addr 24 then accepted (word_written f s.time (window_at s by) s.board.units addr n) else writes addr)
  scene_answer s (SetMasks m) = if is_wsr m.wsr then Ok 0 else Err BadWindow

  abbrev pub after_by : Keeping → Scene X → Access → Scene X
  after_by keeping s (ReadByte by addr) = if nat_lt addr 24 then with_units keeping s (after_byte_read f s.time (window_at s by) s.board.units addr) (byte_weight bytes_read_everywhere addr) else s
  after_by keeping s (ReadWord by addr) = if nat_lt addr 24 then with_units keeping s (after_word_read f s.time (window_at s by) s.board.units addr) (word_weight addr) else s
  after_by keeping s (WriteByte by addr n) = if nat_lt addr 24 then with_units keeping s (kept s.board.units (byte_written f s.time (window_at s by) s.board.units addr n)) (byte_weight bytes_written_everywhere addr) else put s addr n
  after_by keeping s (WriteWord by addr n) = if nat_lt addr 24 then with_units keeping s (kept s.board.units (word_written f s.time (window_at s by) s.board.units addr n)) (word_weight addr) else put (put s addr (n % 256)) (addr + 1) (n / 256)
  after_by keeping s (SetMasks m) = with_units keeping s (with_masks s.board.units m) 0

  abbrev pub meaning_by : Keeping → Meaning (Scene X)
  meaning_by keeping = record { answer = scene_answer; after = after_by keeping; refused = refusing; masks = λ s. masks_of s.board.units }

  abbrev pub scene_meaning : Meaning (Scene X)
  scene_meaning = meaning_by all_kept
