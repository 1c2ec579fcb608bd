use Rattle.std.proofs.Common.{◌≡◌, List, [], ◌∷◌, ◌++◌, sym, ap, ◌∙◌, append_assoc}
use Rattle.kc_macro_input.specs.declared.piece.Piece.{Piece}
use Rattle.kc_macro_input.specs.Ahead.{flat}
use Rattle.kc_macro_input.proofs.AheadLemmas.{flat_popped}
use Rattle.kc_macro_input.proofs.ahead.put_pieces.Goals as goal

pub loop-piece-preserved : goal.loop-piece-preserved
loop-piece-preserved c =
    let left = c.pop.new.self.items in
    let text = flat c.loop-piece.stack.items in
    let popped : c.loop-piece.pieces.items ≡ left ++ c.in-Some.piece ∷ [] = c.in-Some.ensures.items in
    ap (λ (ps : List Piece). left ++ ps) (flat_popped _ _ _ c.in_ok-push.ensures.items) ∙ sym (append_assoc left (c.in-Some.piece ∷ []) text) ∙ ap (λ (ps : List Piece). ps ++ text) (sym popped) ∙ c.loop-piece.invariant
