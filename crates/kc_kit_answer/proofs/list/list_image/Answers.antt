use Rattle.std.proofs.Common.{◌+◌, ◌∙◌, ap, refl, sym, inl, arith}
use Rattle.kc_code.specs.Listing.{listing}
use Rattle.kc_kit_files.specs.declared.status.Status.TheVariants as status
use Rattle.kc_kit_files.specs.Response.{says}
use Rattle.kc_kit_answer.proofs.Listed.{IsListed-start, IsListed-next, IsListed-whole}
use Rattle.kc_kit_answer.proofs.list.list_image.Goals as goal

pub loop-at-init : goal.loop-at-init
loop-at-init g c = rw c.from-at.ensures (IsListed-start c.args.image.now c.args.first c.args.last _ c.requires.first c.requires.order (omega (arith, c.ranges.last.fits)))

pub loop-at-preserved : goal.loop-at-preserved
loop-at-preserved g c =
    let step = c.line_at-line.ensures in
    let moved = ap (λ n. c.loop-at.at + n) c.from-at-in-loop-at.ensures in
    IsListed-next c.args.image.now c.args.first c.args.last c.loop-at.at _ _ _ _ (omega (arith, c.loop-at-test.true, c.from.ensures)) (moved ∙ step.next)
    (omega (arith, moved, step.count)) (omega (arith, moved, step.within)) _ (c.as_slice.ensures.value ∙ step.line) c.put_text.ensures.text c.loop-at.invariant

pub returns-then-failed : goal.returns-then-failed
returns-then-failed g c = λ files.
    let all = IsListed-whole c.args.image.now c.args.first c.args.last c.loop-at.at _ _ (omega (arith, c.loop-at-test.false, c.from.ensures)) c.loop-at.invariant in
    inl (record { response = says status.Done (listing c.args.image.now c.args.first c.args.last); is_answer = refl; text = all.part; cause = all.cause c.requires.ready (sym c.if-failed.ensures); files = refl })

pub returns-else-failed : goal.returns-else-failed
returns-else-failed g c = λ files.
    let all = IsListed-whole c.args.image.now c.args.first c.args.last c.loop-at.at _ _ (omega (arith, c.loop-at-test.false, c.from.ensures)) c.loop-at.invariant in
    record { response = says status.Done (listing c.args.image.now c.args.first c.args.last); is_answer = refl; status = refl; text = all.whole (sym c.if-failed.ensures); files = refl }
