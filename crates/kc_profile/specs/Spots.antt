-- Where the states of a run go: to an address, to an entry, to the transfer server, or to idling (this kit's own).
use Rattle.std.specs.Prelude.{ℕ, zero, suc, ◌==◌, Bool, true, false, List, [], ◌∷◌, Option, Some, None, count_by}
use Rattle.kc_extra.specs.Further.{Further}
use Rattle.kc_machine_spec.specs.declared.doing.Activity.{Activity}
use Rattle.kc_machine_spec.specs.declared.doing.Activity.TheVariants.{Executes, MovesWord, Traps, Enters, SetsUp, Transfers, Idles, Breaks}
use Rattle.kc_machine_spec.specs.declared.doing.End.{End}
use Rattle.kc_machine_spec.specs.Machine.{Machine, current}
use Rattle.kc_machine_spec.specs.Run.{run_for}
use Rattle.kc_profile.specs.declared.spot.Spot.{Spot}
use Rattle.kc_profile.specs.declared.spot.Spot.TheVariants.{At, Entry, Server, Idle}

-- where a state of an activity goes, with the program counter at an address
abbrev pub spot_of : Activity → ℕ → Spot
spot_of (Executes insn) pc = At pc
spot_of (MovesWord insn words) pc = At pc
spot_of Traps pc = At pc
spot_of (Breaks kind) pc = At pc
spot_of (Enters number) pc = Entry number
spot_of (SetsUp number) pc = Server number
spot_of (Transfers number cycle) pc = Server number
spot_of Idles pc = Idle

-- where the coming state goes
abbrev pub coming_spot : {X : Type 0} → Machine X → Spot
coming_spot m = spot_of (current m).doing m.cpu.pc

-- a machine that has ended has no more states
abbrev pub unless_over : Option End → List Spot → List Spot
unless_over (Some how) spots = []
unless_over None spots = spots

module _ {X : Type 0} (f : Further X) where
  -- where the first so many states go, one after the other
  unfoldable pub spots_for : ℕ → Machine X → List Spot
  spots_for zero m = []
  spots_for (suc more) m = unless_over m.ended (coming_spot m ∷ spots_for more (run_for f 1 m).machine)

abbrev pub is_spot : Spot → Spot → Bool
is_spot (At addr) (At other) = addr == other
is_spot (Entry number) (Entry other) = number == other
is_spot (Server number) (Server other) = number == other
is_spot Idle Idle = true
is_spot _ _ = false

-- how many of some states go to a spot
abbrev pub spent_at : Spot → List Spot → ℕ
spent_at spot spots = count_by (is_spot spot) spots
