use Rattle.std.proofs.Common.{◌∙◌, sym, ap, arith, length}
use Rattle.std.specs.Prelude.{slice_set}
use Rattle.kc_bound_walk.specs.Walks.{with_spent}
use Rattle.kc_bound_walk.proofs.Spending.{put_found, put_new}
use Rattle.kc_bound_walk.proofs.lines.add.Goals as goal

pub returns-then-is_alike : goal.returns-then-is_alike
returns-then-is_alike c = λ yes.
    let line = c.index-line.result.now in
    ap (λ n. slice_set c.loop-k.lines.items c.loop-k.k (record { at = line.at; states = line.states; times = n })) c.in-Some.ensures.1
    ∙ sym (put_found c.loop-k.lines.items c.args.s line c.loop-k.k (omega (arith, c.loop-k-test.true, c.len-k-end.ensures, ap length c.loop-k.invariant.0)) (sym c.index-line.ensures) c.loop-k.invariant.1 (sym c.if-is_alike.ensures))
    ∙ ap (λ ls. with_spent ls c.args.s) c.loop-k.invariant.0

pub returns : goal.returns
returns c = λ yes.
    c.in_ok-push.ensures.items
    ∙ sym (put_new c.loop-k.lines.items c.args.s (λ j d less. c.loop-k.invariant.1 j d (omega (arith, less, c.loop-k-test.false, c.len-k-end.ensures))))
    ∙ ap (λ ls. with_spent ls c.args.s) c.loop-k.invariant.0
