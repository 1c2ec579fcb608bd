use Rattle.std.proofs.Common.{◌≡◌, ◌-◌, ◌≤◌, true, length, drop}
use Rattle.std.specs.List.{list_all}
use Rattle.kc_obj_module.specs.Contents.{contents_in_order}
use Rattle.kc_obj_module.specs.Fixups.{fixups_in_order, has_room}
use Rattle.kc_obj_module.proofs.fixups.have_room.Given as goal

abbrev pub invariant-loop-i : goal.invariant-loop-i
invariant-loop-i l = record {
  within : l.i ≤ length l.fixups;
  contents : contents_in_order l.ahead ≡ true;
  fixups : fixups_in_order (drop l.i l.fixups) ≡ true;
  kept : list_all (has_room l.ahead) (drop l.i l.fixups) ≡ list_all (has_room l.contents) l.fixups;
}

abbrev pub decreases-loop-i : goal.decreases-loop-i
decreases-loop-i l = length l.fixups - l.i
