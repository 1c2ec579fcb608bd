-- What the rules of a module say, part by part.
use Rattle.std.proofs.Common.{◌≡◌, Bool, true, ◌&&◌, length}
use Rattle.std.specs.List.{list_all}
use Rattle.std.proofs.lemmas.Bool.{and_parts}
use Rattle.kc_obj_module.specs.Object.{Object}
use Rattle.kc_obj_module.specs.Names.{is_name}
use Rattle.kc_obj_module.specs.Pieces.{is_placed, segments_in_order, all_kept}
use Rattle.kc_obj_module.specs.Contents.{content_is_sound, contents_in_order}
use Rattle.kc_obj_module.specs.Fixups.{fixup_is_sound, fixups_in_order, has_room}
use Rattle.kc_obj_module.specs.Rules.{is_module, segments_are_sound, externals_are_sound, publics_are_sound, contents_are_sound, fixups_are_sound}
use Rattle.kc_obj_module.specs.LineEntries.{lines_are_sound}

pub record IsKept (m : Object) : Type 0 where
  pub placed : list_all is_placed m.segments ≡ true
  pub segments_ordered : segments_in_order m.segments ≡ true
  pub contents : list_all (content_is_sound m.segments) m.contents ≡ true
  pub contents_ordered : contents_in_order m.contents ≡ true
  pub fixups_ordered : fixups_in_order m.fixups ≡ true
  pub rooms : list_all (has_room m.contents) m.fixups ≡ true
  pub lines : lines_are_sound m.segments m.lines ≡ true

module _ (a b c d e f g : Bool) where
  seven : (((((a && b) && c) && d) && e) && f) && g ≡ true → (b ≡ true) × ((e ≡ true) × ((f ≡ true) × (g ≡ true)))
  seven h =
      let p = and_parts (((((a && b) && c) && d) && e) && f) g h in
      let q = and_parts ((((a && b) && c) && d) && e) f p.0 in
      let r = and_parts (((a && b) && c) && d) e q.0 in
      let s = and_parts ((a && b) && c) d r.0 in
      let t = and_parts (a && b) c s.0 in
      let u = and_parts a b t.0 in
      (u.1, (r.1, (q.1, p.1)))

pub kept : (m : Object) → is_module m ≡ true → IsKept m
kept m h =
    let all = seven (is_name m.name) (segments_are_sound m.segments m.publics m.fixups) (externals_are_sound m.externals) (publics_are_sound (length m.segments) m.publics)
    (contents_are_sound m.segments m.contents) (fixups_are_sound m.segments m.externals m.contents m.fixups) (lines_are_sound m.segments m.lines) h in
    let segments = and_parts (list_all is_placed m.segments && segments_in_order m.segments) (all_kept m.publics m.fixups 0 m.segments) all.0 in
    let contents = and_parts (list_all (content_is_sound m.segments) m.contents) (contents_in_order m.contents) all.1.0 in
    let fixups = and_parts (list_all (fixup_is_sound m.segments m.externals) m.fixups && fixups_in_order m.fixups) (list_all (has_room m.contents) m.fixups) all.1.1.0 in
    record {
      placed = (and_parts (list_all is_placed m.segments) (segments_in_order m.segments) segments.0).0;
      segments_ordered = (and_parts (list_all is_placed m.segments) (segments_in_order m.segments) segments.0).1;
      contents = contents.0;
      contents_ordered = contents.1;
      fixups_ordered = (and_parts (list_all (fixup_is_sound m.segments m.externals) m.fixups) (fixups_in_order m.fixups) fixups.0).1;
      rooms = fixups.1;
      lines = all.1.1.1;
    }
