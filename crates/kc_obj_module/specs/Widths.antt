-- The numbers of a module have the room of their fields: 16 bits, the line of an entry 32 (this kit's own format).
use Rattle.std.specs.Prelude.{Bool, true, ◌&&◌, nat_lt, Option, Some, None, List}
use Rattle.std.specs.List.{list_all}
use Rattle.kc_obj_module.specs.declared.parts.Segment.{Segment}
use Rattle.kc_obj_module.specs.declared.parts.Given.{Given}
use Rattle.kc_obj_module.specs.declared.parts.Content.{Content}
use Rattle.kc_obj_module.specs.declared.parts.Fixup.{Fixup}
use Rattle.kc_obj_module.specs.declared.parts.Lines.{Lines}
use Rattle.kc_obj_module.specs.declared.parts.Target.{Target}
use Rattle.kc_obj_module.specs.declared.parts.Target.TheVariants as targets
use Rattle.kc_obj_module.specs.Object.{Object}

abbrev pub length_fits : Segment → Bool
length_fits s = nat_lt s.length 0x10000

abbrev pub value_fits : Given → Bool
value_fits g = nat_lt g.value 0x10000

abbrev pub content_fits : Content → Bool
content_fits c = nat_lt c.piece 0x10000 && nat_lt c.offset 0x10000

abbrev pub target_fits : Target → Bool
target_fits (targets.Piece piece) = nat_lt piece 0x10000
target_fits (targets.External external) = nat_lt external 0x10000
target_fits targets.Number = true

abbrev pub fixup_fits : Fixup → Bool
fixup_fits f = nat_lt f.piece 0x10000 && nat_lt f.offset 0x10000 && target_fits f.target && nat_lt f.addend 0x10000

abbrev pub line_fits : Lines → Bool
line_fits l = nat_lt l.piece 0x10000 && nat_lt l.offset 0x10000 && nat_lt l.line 0x100000000

abbrev pub lines_fit : Option (List Lines) → Bool
lines_fit None = true
lines_fit (Some lines) = list_all line_fits lines

abbrev pub numbers_fit : Object → Bool
numbers_fit m =
    list_all length_fits m.segments
    && list_all value_fits m.publics
    && list_all content_fits m.contents
    && list_all fixup_fits m.fixups
    && lines_fit m.lines
