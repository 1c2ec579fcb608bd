-- One life of a board with a watchdog (80C196KC User's Manual, "Reset", "Watchdog Timer"; that each life has states of its
-- own from 0 on is this kit's own).
use Rattle.std.specs.Prelude.{ℕ, zero, suc, ◌==◌, Bool, true, false, if◌then◌else◌, Option, Some, None}
use Rattle.kc_extra.specs.Further.{Further}
use Rattle.kc_machine_spec.specs.declared.doing.End.{End}
use Rattle.kc_machine_spec.specs.declared.doing.End.TheVariants as end
use Rattle.kc_machine_spec.specs.Machine.{Machine, Stepped, step}
use Rattle.kc_machine_spec.specs.Run.{still, and_then, end_of}

-- what was run, how it ended, and whether the watchdog has ended it
pub record Life (X : Type 0) : Type 0 where
  pub ran : Stepped X
  pub how : End
  pub by_watchdog : Bool

-- a life that goes no further: its machine has ended, or its states are spent
abbrev pub over : {X : Type 0} → Machine X → Life X
over machine = record { ran = still machine; how = end_of machine; by_watchdog = false }

-- the watchdog resets a machine that lives: what is under way makes no access
abbrev pub bitten : {X : Type 0} → Machine X → Life X
bitten machine = record { ran = still machine; how = end.Reset; by_watchdog = true }

abbrev pub is_at : Option ℕ → ℕ → Bool
is_at None t = false
is_at (Some deadline) t = deadline == t

-- a step, and then the rest of the life
abbrev pub goes_on : {X : Type 0} → Stepped X → (Machine X → Life X) → Life X
goes_on stepped rest =
    let life = rest stepped.machine in
    record life { ran = and_then stepped (λ machine. life.ran) }

-- a machine that has ended, one whose deadline has come, or the next step
abbrev pub lives_on : {X : Type 0} → Option End → Bool → Machine X → Life X → Life X
lives_on (Some how) late machine rest = over machine
lives_on None late machine rest = if late then bitten machine else rest

module _ {X : Type 0} (f : Further X) (deadline : X → Option ℕ) where
  -- so many state times, or up to an end, or to the start of the state that is the deadline
  unfoldable pub life_for : ℕ → Machine X → Life X
  life_for zero machine = over machine
  life_for (suc more) machine =
      lives_on machine.ended (is_at (deadline machine.board.units.further) machine.time) machine
      (goes_on (step f machine) (life_for more))
