use Rattle.std.proofs.Common.{◌≡◌, ◌∙◌, length, Some, Ok, Err, ap, arith}
use Rattle.std.proofs.lemmas.List.{length-map}
use Rattle.kc_source_laws.proofs.Counts.{line_count, lines_numbered}
use Rattle.kc_macro.specs.Expansion.{AreNumbered, expanded}
use Rattle.kc_asm_origin.specs.Written.{marked, marked_line}
use Rattle.kc_asm_origin.specs.Origin.{IsOriginAmong}
use Rattle.kc_asm_origin.proofs.Between.{of_expansions, no_text, no_marks}
use Rattle.kc_asm_origin.proofs.finding.origin.Goals as goal

pub returns : goal.returns
returns c =
    let read = c.in-Ok.read.items in
    let text = c.in-Ok-expand.text.items in
    let other = c.in-Ok-expand-2.other.items in
    let marks : c.in_ok-marks.marks.items ≡ marked read = c.in_ok-marks.ensures ∙ ap marked c.deref.ensures.value in
    let as_many : length c.in_ok-marks.marks.items ≡ length read = ap length marks ∙ length-map read marked_line in
    let numbered : AreNumbered c.in_ok-marks.marks.items = omega (arith, as_many, c.requires, line_count c.args.source.now read c.in-Ok.ensures) in
    let expanded_marks : expanded (marked read) ≡ Some (Ok other) = rw (← marks) (c.in-Ok-expand-2.ensures.lines numbered) in
    let among : IsOriginAmong (c.args.line, c.args.code) text other c.in_ok-found.found = rw (c.deref-2.ensures.value, c.deref-3.ensures.value) at c.in_ok-found.ensures in
    of_expansions c.args.source.now c.args.line c.args.code read text other c.in_ok-found.found c.in-Ok.ensures (c.in-Ok-expand.ensures.lines (lines_numbered c.args.source.now read c.requires c.in-Ok.ensures)) expanded_marks among

pub returns-in-Err-At-expand : goal.returns-in-Err-At-expand
returns-in-Err-At-expand c =
    let read = c.in-Ok.read.items in
    no_text c.args.source.now c.args.line c.args.code read c.in-Err-At-expand.field-0 c.in-Err-At-expand.field-0-is c.in-Ok.ensures (c.in-Err-At-expand.ensures.lines (lines_numbered c.args.source.now read c.requires c.in-Ok.ensures))

pub returns-in-Err-At-expand-2 : goal.returns-in-Err-At-expand-2
returns-in-Err-At-expand-2 c =
    let read = c.in-Ok.read.items in
    let text = c.in-Ok-expand.text.items in
    let marks : c.in_ok-marks.marks.items ≡ marked read = c.in_ok-marks.ensures ∙ ap marked c.deref.ensures.value in
    let as_many : length c.in_ok-marks.marks.items ≡ length read = ap length marks ∙ length-map read marked_line in
    let numbered : AreNumbered c.in_ok-marks.marks.items = omega (arith, as_many, c.requires, line_count c.args.source.now read c.in-Ok.ensures) in
    no_marks c.args.source.now c.args.line c.args.code read text c.in-Err-At-expand-2.field-0 c.in-Err-At-expand-2.field-0-is c.in-Ok.ensures
    (c.in-Ok-expand.ensures.lines (lines_numbered c.args.source.now read c.requires c.in-Ok.ensures)) (rw (← marks) (c.in-Err-At-expand-2.ensures.lines numbered))
