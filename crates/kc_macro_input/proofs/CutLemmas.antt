-- What a loop has cut off so far, in front of what the definition cuts off the rest.
use Rattle.std.proofs.Common.{◌≡◌, ℕ, true, false, ◌&&◌, ◌==◌, List, [], ◌∷◌, ◌++◌, Option, Some, None, refl, sym, ap, append_assoc}
use Rattle.std.proofs.lemmas.List.{append-nil}
use Rattle.kc_macro_input.specs.declared.piece.Piece.{Piece}
use Rattle.kc_macro_input.specs.declared.piece.Extent.{Extent}
use Rattle.kc_macro_input.specs.Pieces.{word_at}
use Rattle.kc_macro_input.specs.Cuts.{ends, depth_after, Cut, cut_at, after_piece}

abbrev pub after_prefix : List Piece → Option Cut → Option Cut
after_prefix prefix None = None
after_prefix prefix (Some cut) = Some (record cut { prefix = prefix ++ cut.prefix })

regroup : (prefix : List Piece) (p : Piece) (o : Option Cut) → after_prefix prefix (after_piece p o) ≡ after_prefix (prefix ++ p ∷ []) o
regroup prefix p None = refl
regroup prefix p (Some cut) = ap (λ (ps : List Piece). Some (record cut { prefix = ps })) (sym (append_assoc prefix (p ∷ []) cut.prefix))

pub cut_start : (o : Option Cut) → after_prefix [] o ≡ o
cut_start None = refl
cut_start (Some cut) = refl

pub cut_goes_on : (e : Extent) (depth : ℕ) (prefix : List Piece) (p : Piece) (ps : List Piece) → (ends e (word_at p.tokens) && (depth == 0)) ≡ false
    → after_prefix prefix (cut_at e depth (p ∷ ps)) ≡ after_prefix (prefix ++ p ∷ []) (cut_at e (depth_after e (word_at p.tokens) depth) ps)
unfolding cut_at
cut_goes_on e depth prefix p ps h = rw h (regroup prefix p (cut_at e (depth_after e (word_at p.tokens) depth) ps))

pub cut_stops : (e : Extent) (depth : ℕ) (prefix : List Piece) (p : Piece) (ps : List Piece) → (ends e (word_at p.tokens) && (depth == 0)) ≡ true
    → after_prefix prefix (cut_at e depth (p ∷ ps)) ≡ Some (record { prefix = prefix; ender = p; rest = ps })
unfolding cut_at
cut_stops e depth prefix p ps h = rw h (ap (λ (xs : List Piece). Some (record { prefix = xs; ender = p; rest = ps })) (append-nil prefix))

pub cut_none : (e : Extent) (depth : ℕ) (prefix : List Piece) → after_prefix prefix (cut_at e depth []) ≡ None
unfolding cut_at
cut_none e depth prefix = refl
