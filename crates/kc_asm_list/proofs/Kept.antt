-- What the rules of a module say of the order of its runs and its relocations.
use Rattle.std.proofs.Common.{◌≡◌, Bool, true, ◌&&◌, length}
use Rattle.std.specs.List.{list_all}
use Rattle.std.proofs.lemmas.Bool.{and_parts}
use Rattle.kc_obj_module.specs.Object.{Object}
use Rattle.kc_obj_module.specs.Names.{is_name}
use Rattle.kc_obj_module.specs.Contents.{content_is_sound, contents_in_order}
use Rattle.kc_obj_module.specs.Fixups.{fixup_is_sound, fixups_in_order, has_room}
use Rattle.kc_obj_module.specs.LineEntries.{lines_are_sound}
use Rattle.kc_obj_module.specs.Rules.{is_module, segments_are_sound, externals_are_sound, publics_are_sound, contents_are_sound, fixups_are_sound}

last_two : (rest contents fixups lines : Bool) → (rest && contents && fixups && lines) ≡ true → (contents ≡ true) × (fixups ≡ true)
last_two rest contents fixups lines h =
    let prefix = (and_parts (rest && contents && fixups) lines h).0 in
    let parts = and_parts (rest && contents) fixups prefix in
    ((and_parts rest contents parts.0).1, parts.1)

both_parts : (m : Object) → is_module m ≡ true → (contents_are_sound m.segments m.contents ≡ true) × (fixups_are_sound m.segments m.externals m.contents m.fixups ≡ true)
both_parts m h =
    last_two (is_name m.name && segments_are_sound m.segments m.publics m.fixups && externals_are_sound m.externals && publics_are_sound (length m.segments) m.publics)
    (contents_are_sound m.segments m.contents) (fixups_are_sound m.segments m.externals m.contents m.fixups) (lines_are_sound m.segments m.lines) h

pub runs_rise : (m : Object) → is_module m ≡ true → contents_in_order m.contents ≡ true
runs_rise m h = (and_parts (list_all (content_is_sound m.segments) m.contents) (contents_in_order m.contents) (both_parts m h).0).1

pub fixups_rise : (m : Object) → is_module m ≡ true → fixups_in_order m.fixups ≡ true
fixups_rise m h =
    let ordered = (and_parts (list_all (fixup_is_sound m.segments m.externals) m.fixups && fixups_in_order m.fixups) (list_all (has_room m.contents) m.fixups) (both_parts m h).1).0 in
    (and_parts (list_all (fixup_is_sound m.segments m.externals) m.fixups) (fixups_in_order m.fixups) ordered).1
