-- What a machine shows of itself (this kit's own).
use Rattle.kc_extra.specs.declared.extra.Extra as extra
use Rattle.kc_machine_spec.specs.Machine.{Machine}
use Rattle.kc_machine.specs.declared.parts.Core.{Core}

-- the machine that the parts of a core make
abbrev pub machine_of : {X : Type 0} {d : extra.Ghosts X} → Core X d → Machine X
machine_of core = record {
  time = core.time;
  board = record { units = core.bus.block.units; memory = core.bus.memory.items };
  cpu = core.cpu;
  held = core.held;
  going = core.going;
  under_way = core.under_way;
  ended = core.ended;
}
