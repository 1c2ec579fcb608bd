use Rattle.kc_macro_input.proofs.AheadLemmas.{mapped_popped}
use Rattle.kc_macro_input.specs.declared.piece.Mark.{Mark}
use Rattle.kc_macro_input.specs.Pieces.{marked}
use Rattle.std.proofs.Common.{◌∷◌, ap, ◌∙◌}
use Rattle.kc_macro_input.proofs.ahead.put_marked_pieces.Goals as goal

pub loop-piece-preserved : goal.loop-piece-preserved
loop-piece-preserved c =
    let from = c.in_ok-from.ensures.marks ∙ ap (λ (m : Mark). m ∷ c.in-Some.piece.from) c.loop-piece.invariant.same in
    record {
      same = c.in_ok-from.ensures.kept ∙ c.loop-piece.invariant.same;
      kept = mapped_popped (marked c.args.mark) c.loop-piece.pieces.items c.pop.new.self.items c.in-Some.piece c.loop-piece.stack.items c.push.new.self.items _ c.in-Some.ensures.items c.in_ok-push.ensures.items from ∙ c.loop-piece.invariant.kept;
    }
