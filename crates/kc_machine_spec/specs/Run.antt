-- Whole runs of the machine (this kit's own).
use Rattle.std.specs.Prelude.{ℕ, zero, suc, ◌-◌, [], Option, Some, None}
use Rattle.std.specs.Option.{unwrap_or}
use Rattle.kc_extra.specs.Further.{Further}
use Rattle.kc_machine_spec.specs.declared.doing.End.{End}
use Rattle.kc_machine_spec.specs.declared.doing.End.TheVariants as end
use Rattle.kc_machine_spec.specs.Machine.{Machine, Stepped, step, before}

-- a machine that stands still
abbrev pub still : {X : Type 0} → Machine X → Stepped X
still machine = record { machine = machine; records = []; touch = 0 }

-- a machine that has ended does nothing more
abbrev pub unless_ended : {X : Type 0} → Option End → Machine X → (Machine X → Stepped X) → Stepped X
unless_ended (Some how) machine rest = still machine
unless_ended None machine rest = rest machine

-- a step, and then the rest
abbrev pub and_then : {X : Type 0} → Stepped X → (Machine X → Stepped X) → Stepped X
and_then stepped rest = before stepped.records stepped.touch (rest stepped.machine)

-- how a run has ended
abbrev pub end_of : {X : Type 0} → Machine X → End
end_of machine = unwrap_or machine.ended end.Spent

module _ {X : Type 0} (f : Further X) where
  -- so many state times, or up to the end
  unfoldable pub run_for : ℕ → Machine X → Stepped X
  run_for zero machine = still machine
  run_for (suc more) machine =
      unless_ended machine.ended machine (λ living. and_then (step f living) (λ next. run_for more next))

  -- up to this state, or to the end before it
  abbrev pub run_to : ℕ → Machine X → Stepped X
  run_to until machine = run_for (until - machine.time) machine
