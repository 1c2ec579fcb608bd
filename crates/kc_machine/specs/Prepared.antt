-- Instructions of ROM that were prepared (this kit's own).
use Rattle.std.specs.Prelude.{◌≡◌, ℕ, ◌+◌, ◌<◌, ◌≤◌, List, length, Option, Some, None, slice_index_or, false}
use Rattle.kc_base.specs.Limits.{image_start}
use Rattle.kc_intc.specs.declared.requests.Choice.TheVariants.{Go}
use Rattle.kc_isa.specs.declared.insn.Insn.{Insn}
use Rattle.kc_code.specs.declared.reader.Decoded.{Decoded}
use Rattle.kc_code.specs.declared.reader.Decoded.TheVariants.{Insn as Whole}
use Rattle.kc_code.specs.Reading.{decode_of}
use Rattle.kc_exec_predecode.specs.declared.predecoded.Predecoded.{Predecoded}
use Rattle.kc_exec_predecode.specs.Predecoding.{is_blank, IsPredecoded}
use Rattle.kc_machine_spec.specs.declared.doing.Activity.TheVariants.{Executes}
use Rattle.kc_machine_spec.specs.declared.doing.UnderWay.{UnderWay}
use Rattle.kc_machine_spec.specs.Machine.{Machine, fetched, asked}

-- the instruction that was read
abbrev pub insn_of : Decoded → Option Insn
insn_of (Whole insn length) = Some insn
insn_of _ = None

-- the instruction that stands at an address is this
pub record IsRead (memory : List ℕ) (at : ℕ) (r : Predecoded) : Type 0 where
  pub predecoded : IsPredecoded r
  pub read : insn_of (decode_of (fetched 7 memory at)) ≡ Some r.insn

-- what is known at an address: nothing, or the instruction that stands there
abbrev pub IsSlot : List ℕ → ℕ → Predecoded → Type 0
IsSlot memory at r = is_blank r ≡ false → IsRead memory at r

-- slot k is that of the address 2000H + k: seven bytes of ROM stand from each of these addresses on
abbrev pub IsTable : List Predecoded → List ℕ → Type 0
IsTable table memory = (k : ℕ) (d : Predecoded) → k < 0x3FFA → k < length table → IsSlot memory (image_start + k) (slice_index_or table k d)

abbrev pub HasSlot : ℕ → Type 0
HasSlot addr = (image_start ≤ addr) × (addr < 0x5FFA)

-- the machine lives, nothing is under way or goes on, and no instruction is held for
pub record IsFree {X : Type 0} (m : Machine X) : Type 0 where
  pub begun : m.under_way ≡ None
  pub alone : m.going ≡ None
  pub unheld : m.held ≡ false
  pub lives : m.ended ≡ None

-- nothing is under way, nothing goes on, and no request is served, or none may be since an instruction is held for: the
-- instruction at PC comes next
pub record IsBetween {X : Type 0} (m : Machine X) : Type 0 where
  pub begun : m.under_way ≡ None
  pub alone : m.going ≡ None
  pub none : m.held ≡ false → asked m ≡ Go

-- a prepared instruction with all its states ahead
abbrev pub executing : Predecoded → ℕ → UnderWay
executing r states = record { doing = Executes r.insn; left = states }
