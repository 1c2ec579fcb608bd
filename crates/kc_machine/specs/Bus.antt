-- What the machine's bus holds (this kit's own).
use Rattle.std.specs.Prelude.{◌-◌}
use Rattle.kc_exec_spec.specs.Effect.{Meaning}
use Rattle.kc_extra.specs.Further.{Further}
use Rattle.kc_extra.specs.declared.extra.Extra as extra
use Rattle.kc_machine_spec.specs.Scene.{Scene, meaning_by}
use Rattle.kc_machine.specs.Keeping.{fitting}
use Rattle.kc_machine.specs.declared.common.Common.{Common}

abbrev pub bus_meaning : {X : Type 0} → Further X → Meaning (Scene X)
bus_meaning f = meaning_by f fitting

-- the accesses of a state come when the units have gone past its Tick
abbrev pub held_of : {X : Type 0} {d : extra.Ghosts X} → Common X d → Scene X
held_of bus = record { time = bus.block.time - 1; board = record { units = bus.block.units; memory = bus.memory.items }; edges = bus.edges; reached = bus.reached; refused = bus.refused }
