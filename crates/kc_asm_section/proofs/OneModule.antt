-- An unlinked module has at most one module.
use Rattle.std.proofs.Common.{◌≡◌, true, ◌&&◌, length, sym, subst, ◌∙◌, List, map}
use Rattle.std.specs.List.{list_all}
use Rattle.std.proofs.lemmas.Bool.{and_parts}
use Rattle.kc_obj_module.specs.declared.parts.Segment.{Segment}
use Rattle.kc_obj_module.specs.Object.{Object, object_of}
use Rattle.kc_obj_module.specs.Names.{is_name}
use Rattle.kc_obj_module.specs.Contents.{content_is_sound, contents_in_order}
use Rattle.kc_obj_module.specs.Fixups.{fixup_is_sound, fixups_in_order, has_room}
use Rattle.kc_obj_module.specs.LineEntries.{lines_are_sound}
use Rattle.kc_obj_module.specs.Rules.{given_is_sound, publics_in_order, segments_are_sound, externals_are_sound, publics_are_sound, contents_are_sound, fixups_are_sound, is_module}
use Rattle.kc_asm_section.specs.Order.{number_of}
use Rattle.kc_asm_section.specs.Publics.{given_of}
use Rattle.kc_asm_section.specs.ModuleOf.{kept_in}
use Rattle.kc_asm_section.specs.OneModule.{OneModule}
use Rattle.kc_asm_section.proofs.OneContents.{one_contents}
use Rattle.kc_asm_section.proofs.OneFixups.{one_fixups, one_publics}

record Rules (m : Object) : Type 0 where
  pub publics : publics_in_order m.publics ≡ true
  pub sound : list_all (content_is_sound m.segments) m.contents ≡ true
  pub contents : contents_in_order m.contents ≡ true
  pub fixups : fixups_in_order m.fixups ≡ true

rules : (m : Object) → is_module m ≡ true → Rules m
rules m h =
    let lines = and_parts (is_name m.name && segments_are_sound m.segments m.publics m.fixups && externals_are_sound m.externals && publics_are_sound (length m.segments) m.publics && contents_are_sound m.segments m.contents && fixups_are_sound m.segments m.externals m.contents m.fixups) (lines_are_sound m.segments m.lines) h in
    let fixups = and_parts (is_name m.name && segments_are_sound m.segments m.publics m.fixups && externals_are_sound m.externals && publics_are_sound (length m.segments) m.publics && contents_are_sound m.segments m.contents) (fixups_are_sound m.segments m.externals m.contents m.fixups) lines.0 in
    let contents = and_parts (is_name m.name && segments_are_sound m.segments m.publics m.fixups && externals_are_sound m.externals && publics_are_sound (length m.segments) m.publics) (contents_are_sound m.segments m.contents) fixups.0 in
    let publics = and_parts (is_name m.name && segments_are_sound m.segments m.publics m.fixups && externals_are_sound m.externals) (publics_are_sound (length m.segments) m.publics) contents.0 in
    let runs = and_parts (list_all (content_is_sound m.segments) m.contents) (contents_in_order m.contents) contents.1 in
    let numbers = and_parts (list_all (fixup_is_sound m.segments m.externals) m.fixups && fixups_in_order m.fixups) (list_all (has_room m.contents) m.fixups) fixups.1 in
    record {
      publics = (and_parts (list_all (given_is_sound (length m.segments)) m.publics) (publics_in_order m.publics) publics.1).1;
      sound = runs.0;
      contents = runs.1;
      fixups = (and_parts (list_all (fixup_is_sound m.segments m.externals) m.fixups) (fixups_in_order m.fixups) numbers.0).1;
    }

pub at_most_one : OneModule
at_most_one d m n a b =
    let first : Rules m = rules m a.rules in
    let second : Rules n = rules n b.rules in
    let segments : n.segments ≡ m.segments = b.segments ∙ sym a.segments in
    let sound : list_all (content_is_sound m.segments) n.contents ≡ true = subst (λ (ss : List Segment). list_all (content_is_sound ss) n.contents ≡ true) segments second.sound in
    let contents : m.contents ≡ n.contents = one_contents m.segments m.contents n.contents first.sound first.contents sound second.contents (λ p o. a.contents p o ∙ sym (b.contents p o)) in
    let fixups : m.fixups ≡ n.fixups = one_fixups m.fixups n.fixups first.fixups second.fixups (λ p o. a.fixups p o ∙ sym (b.fixups p o)) in
    let publics : m.publics ≡ n.publics = one_publics (map (given_of (number_of (kept_in d))) d.publics.items) m.publics n.publics a.publics b.publics first.publics second.publics in
    let names : m.name ≡ n.name = a.name ∙ sym b.name in
    let pieces : m.segments ≡ n.segments = a.segments ∙ sym b.segments in
    let externals : m.externals ≡ n.externals = a.externals ∙ sym b.externals in
    let lines = a.lines ∙ sym b.lines in
    (λ i. object_of (names i) (pieces i) (externals i) (publics i) (contents i) (fixups i) (lines i))
