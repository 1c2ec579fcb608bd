use Rattle.std.proofs.Common.{◌∷◌, [], length, ap, sym, ◌∙◌, arith, length-append}
use Rattle.kc_macro_input.specs.Cuts.{cut_at}
use Rattle.kc_macro_input.proofs.CutLemmas.{after_prefix, cut_goes_on, cut_stops, cut_none}
use Rattle.kc_macro_input.proofs.cutting.cut_off.Goals as goal

pub returns-then-ends_here : goal.returns-then-ends_here
returns-then-ends_here c =
    let text = rw c.in-Some.is at c.in_ok-piece.ensures in
    sym c.loop-prefix.invariant.kept ∙ ap (λ ps. after_prefix c.loop-prefix.prefix.items (cut_at c.args.extent c.loop-prefix.depth ps)) text
    ∙ cut_stops c.args.extent c.loop-prefix.depth c.loop-prefix.prefix.items c.in-Some.piece c.next.new.self (sym c.if-ends_here.ensures)

pub loop-prefix-preserved : goal.loop-prefix-preserved
loop-prefix-preserved c =
    let text = rw c.in-Some.is at c.in_ok-piece.ensures in
    record {
      few = omega (arith, c.depth_after-depth.ensures.small, c.loop-prefix.invariant.few, ap length c.in_ok-push.ensures.items, length-append c.loop-prefix.prefix.items (c.in-Some.piece ∷ []));
      kept = rw (c.in_ok-push.ensures.items, c.depth_after-depth.ensures.value) (sym (cut_goes_on c.args.extent c.loop-prefix.depth c.loop-prefix.prefix.items c.in-Some.piece c.next.new.self (sym c.if-ends_here.ensures))
          ∙ ap (λ ps. after_prefix c.loop-prefix.prefix.items (cut_at c.args.extent c.loop-prefix.depth ps)) (sym text) ∙ c.loop-prefix.invariant.kept);
    }

pub returns : goal.returns
returns c =
    let text = rw c.in_default.is at c.in_ok-piece.ensures in
    sym c.loop-prefix.invariant.kept ∙ ap (λ ps. after_prefix c.loop-prefix.prefix.items (cut_at c.args.extent c.loop-prefix.depth ps)) text ∙ cut_none c.args.extent c.loop-prefix.depth c.loop-prefix.prefix.items
