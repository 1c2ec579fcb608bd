use Rattle.std.proofs.Common.{◌<◌, ◌≤◌, List, length, drop, rules, sym, subst, arith}
use Rattle.std.specs.Prelude.{string_bytes}
use Rattle.std.proofs.lemmas.List.{length-map}
use Rattle.kc_link_place.specs.BaseLists.{BaseLists}
use Rattle.kc_asm.specs.Assembled.{IsModule}
use Rattle.kc_kit_messages.proofs.Words.{names_in, texts_in, short-at}
use Rattle.kc_kit_answer.specs.Cover.{AreOf, AreSources}
use Rattle.kc_kit_answer.proofs.CoverSources.{ahead_end, as_many, made_at, one_more}
use Rattle.kc_kit_answer.proofs.cover.sources_at.Goals as goal

pub offset_bounds-modules-i : goal.offset_bounds-modules-i
offset_bounds-modules-i c =
    let p = c.args.placement.now in
    let many = as_many c.args.names.now c.args.texts.now c.args.modules.now p.bases.items p.places c.requires.count c.requires.made c.requires.placed.placement.1 in
    let within : c.loop-i.i < length c.args.modules.now = omega (arith, c.loop-i-test.true, many.modules) in
    search (rules, within, c.well_formed)

pub bounds-modules-i : goal.bounds-modules-i
bounds-modules-i c =
    let p = c.args.placement.now in
    let many = as_many c.args.names.now c.args.texts.now c.args.modules.now p.bases.items p.places c.requires.count c.requires.made c.requires.placed.placement.1 in
    omega (arith, c.loop-i-test.true, many.modules)

pub index-requires : goal.index-requires
index-requires c =
    let p = c.args.placement.now in
    let many = as_many c.args.names.now c.args.texts.now c.args.modules.now p.bases.items p.places c.requires.count c.requires.made c.requires.placed.placement.1 in
    let within : c.loop-i.i < length p.bases.items = omega (arith, c.loop-i-test.true, many.bases) in
    subst (λ n. c.loop-i.i < n) (sym p.bases.ok.0) within

pub instructions_of-requires-clause-short : goal.instructions_of-requires-clause-short
instructions_of-requires-clause-short c =
    subst (λ b. length b ≤ 1048576) (sym c.deref.ensures.value)
    (short-at c.args.texts.now c.loop-i.i c.index-texts-i.result c.requires.short (omega (arith, c.loop-i-test.true, c.requires.count)) c.index-texts-i.is)

pub instructions_of-requires-clause-made : goal.instructions_of-requires-clause-made
instructions_of-requires-clause-made c =
    subst (λ b. IsModule b c.index-modules-i.result) (sym c.deref.ensures.value)
    (made_at c.args.texts.now c.args.modules.now c.loop-i.i c.index-texts-i.result c.index-modules-i.result c.requires.made (omega (arith, c.loop-i-test.true, c.requires.count)) c.index-texts-i.is c.index-modules-i.is)

pub loop-i-preserved : goal.loop-i-preserved
loop-i-preserved c =
    let p = c.args.placement.now in
    let many = as_many c.args.names.now c.args.texts.now c.args.modules.now p.bases.items p.places c.requires.count c.requires.made c.requires.placed.placement.1 in
    let own = subst (λ t. AreOf t c.args.image.now c.index-modules-i.result c.index.result.now c.in_ok-own.own.items) c.deref.ensures.value c.in_ok-own.ensures in
    rw c.in_ok-push.ensures.items
    (one_more c.args.names.now c.args.texts.now c.args.image.now c.args.modules.now p.bases.items c.loop-i.sources.items c.loop-i.i c.index-names-i.result c.index-texts-i.result c.index-modules-i.result c.index.result.now
    (record { name = c.as_str.result; instructions = c.in_ok-own.own }) many (omega (arith, c.loop-i-test.true)) c.index-names-i.is c.index-texts-i.is c.index-modules-i.is c.index.ensures (record { named = c.as_str.ensures.value; instructions = own })
    c.loop-i.invariant)

pub returns : goal.returns
returns c =
    let names = names_in c.args.names.now in
    let texts = texts_in c.args.texts.now in
    let ms = c.args.modules.now in
    let image = c.args.image.now in
    let p = c.args.placement.now in
    let i = c.loop-i.i in
    let sources = c.loop-i.sources.items in
    subst (λ (bs : List BaseLists). AreSources names texts image ms bs sources) c.requires.placed.placement.1
    (ahead_end names texts image ms p.bases.items sources i (drop i texts) (drop i ms) (drop i p.bases.items) (omega (arith, c.loop-i-test.false, length-map c.args.names.now string_bytes)) c.loop-i.invariant)
