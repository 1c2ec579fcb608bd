use Rattle.std.proofs.Common.{◌≡◌, ◌<◌, true, List, [], ap, ◌∙◌, refl, sym, subst, arith}
use Rattle.std.specs.List.{list_all}
use Rattle.kc_obj_module.specs.Object.{Object}
use Rattle.kc_asm_section.specs.Section.{Section, is_section}
use Rattle.kc_asm_section.specs.declared.puts.Put.{Put}
use Rattle.kc_asm_section.specs.Order.{kept_of, number_of, pieces_of}
use Rattle.kc_asm_section.specs.ModuleContents.{AreAddable, added_all, empty}
use Rattle.kc_asm_section.specs.Runs.{runs, fixups_of}
use Rattle.kc_asm_section.specs.ModuleOf.{kept_in, IsModuleOf}
use Rattle.kc_asm_section.proofs.Collecting.{parts_addable}
use Rattle.kc_asm_section.proofs.Whole.{checked_whole, module_whole}
use Rattle.kc_asm_section.proofs.making.module_of.Goals as goal

pub gather-requires-clause-parts : goal.gather-requires-clause-parts
gather-requires-clause-parts c = subst (λ (ts : List Section). AreAddable ts) (sym c.deref-3.ensures.value) (parts_addable _ c.args.unlinked.parts.items c.requires.places c.requires.parts)

pub unwrap-requires : goal.unwrap-requires
unwrap-requires c =
    let short : c.args.unlinked.stack < 65536 = omega arith in
    let kept : c.kept_of-kept.result ≡ kept_in c.args.unlinked = c.kept_of-kept.ensures ∙ (λ i. kept_of (c.deref.ensures.value i) (c.deref-2.ensures.value i)) in
    let sections : list_all is_section c.args.unlinked.parts.items ≡ true = rw c.deref-3.ensures.value at c.in_ok-gathered.ensures.sections in
    let gathered : c.in_ok-gathered.gathered ≡ added_all (number_of c.kept_of-kept.result) (pieces_of c.kept_of-kept.result c.args.unlinked.parts.items c.args.unlinked.stack) empty = rw c.deref-3.ensures.value at c.in_ok-gathered.ensures.pieces in
    let contents : c.in_ok-contents.contents.items ≡ runs [] 0 0 c.in_ok-gathered.gathered.puts = c.in_ok-contents.ensures ∙ ap (λ (qs : List Put). runs [] 0 0 qs) c.puts.ensures in
    let fixups : c.in_ok-fixups.fixups.items ≡ fixups_of c.in_ok-gathered.gathered.puts = c.in_ok-fixups.ensures ∙ ap fixups_of c.puts-2.ensures in
    let made = c.new-module.ensures ∙ checked_whole c.args.unlinked c.requires short c.kept_of-kept.result c.in_ok-gathered.gathered c.into_lists-segments.result.0.items c.into_lists-segments.result.1.items c.in_ok-contents.contents.items c.in_ok-fixups.fixups.items c.in_ok-givens.givens.items
    kept sections gathered c.into_lists-segments.ensures.segments c.into_lists-segments.ensures.lines contents fixups c.in_ok-givens.ensures.same c.in_ok-givens.ensures.sorted in
    rw made refl

pub returns : goal.returns
returns c =
    let short : c.args.unlinked.stack < 65536 = omega arith in
    let kept : c.kept_of-kept.result ≡ kept_in c.args.unlinked = c.kept_of-kept.ensures ∙ (λ i. kept_of (c.deref.ensures.value i) (c.deref-2.ensures.value i)) in
    let sections : list_all is_section c.args.unlinked.parts.items ≡ true = rw c.deref-3.ensures.value at c.in_ok-gathered.ensures.sections in
    let gathered : c.in_ok-gathered.gathered ≡ added_all (number_of c.kept_of-kept.result) (pieces_of c.kept_of-kept.result c.args.unlinked.parts.items c.args.unlinked.stack) empty = rw c.deref-3.ensures.value at c.in_ok-gathered.ensures.pieces in
    let contents : c.in_ok-contents.contents.items ≡ runs [] 0 0 c.in_ok-gathered.gathered.puts = c.in_ok-contents.ensures ∙ ap (λ (qs : List Put). runs [] 0 0 qs) c.puts.ensures in
    let fixups : c.in_ok-fixups.fixups.items ≡ fixups_of c.in_ok-gathered.gathered.puts = c.in_ok-fixups.ensures ∙ ap fixups_of c.puts-2.ensures in
    let made = c.new-module.ensures ∙ checked_whole c.args.unlinked c.requires short c.kept_of-kept.result c.in_ok-gathered.gathered c.into_lists-segments.result.0.items c.into_lists-segments.result.1.items c.in_ok-contents.contents.items c.in_ok-fixups.fixups.items c.in_ok-givens.givens.items
    kept sections gathered c.into_lists-segments.ensures.segments c.into_lists-segments.ensures.lines contents fixups c.in_ok-givens.ensures.same c.in_ok-givens.ensures.sorted in
    let is = module_whole c.args.unlinked c.requires short c.kept_of-kept.result c.in_ok-gathered.gathered c.into_lists-segments.result.0.items c.into_lists-segments.result.1.items c.in_ok-contents.contents.items c.in_ok-fixups.fixups.items c.in_ok-givens.givens.items
    kept sections gathered c.into_lists-segments.ensures.segments c.into_lists-segments.ensures.lines contents fixups c.in_ok-givens.ensures.same c.in_ok-givens.ensures.sorted in
    let same = sym made ∙ c.unwrap.ensures in
    subst (λ (m : Object). IsModuleOf c.args.unlinked m) (cc same) is
