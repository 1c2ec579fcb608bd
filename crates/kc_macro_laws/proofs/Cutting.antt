-- What constructs take off texts whose lines are alike, and off whole texts.
use Rattle.std.proofs.Common.{ℕ, ◌==◌, Bool, true, false, ◌&&◌, cond, List, [], ◌∷◌, ◌++◌, Option, Some, None, sym, subst}
use Rattle.kc_lex.specs.declared.token.Token.{Token}
use Rattle.kc_macro_input.specs.declared.piece.Piece.{Piece}
use Rattle.kc_macro_input.specs.declared.piece.Extent.{Extent}
use Rattle.kc_macro_input.specs.declared.piece.Extent.TheVariants.{Part, Condition}
use Rattle.kc_macro_body.specs.Words.{is_endif}
use Rattle.kc_macro_input.specs.Pieces.{word_at}
use Rattle.kc_macro_input.specs.Cuts.{ends, depth_after, Cut, cut_at, after_piece, kept_before, second_part, else_part, kept_of, kept}
use Rattle.kc_macro_laws.proofs.Pairs.{Pairs, SameTokens, pairs_append}

abbrev pub CutPairs : (Piece → Piece → Type 0) → Option Cut → Option Cut → Type 0
CutPairs R None None = Unit {0}
CutPairs R None (Some b) = ⊥
CutPairs R (Some a) None = ⊥
CutPairs R (Some a) (Some b) = Pairs R a.prefix b.prefix × (R a.ender b.ender × Pairs R a.rest b.rest)

after_pairs : (R : Piece → Piece → Type 0) (p q : Piece) (a b : Option Cut) → R p q → CutPairs R a b → CutPairs R (after_piece p a) (after_piece q b)
after_pairs R p q None None h k = tt
after_pairs R p q None (Some b) h k = absurd k
after_pairs R p q (Some a) None h k = absurd k
after_pairs R p q (Some a) (Some b) h k = ((h, k.0), k.1)

cut_choice : (R : Piece → Piece → Type 0) (p q : Piece) (ps qs : List Piece) (b : Bool) (c d : Option Cut) → R p q → Pairs R ps qs → CutPairs R c d →
    CutPairs R (cond b (Some (record { prefix = []; ender = p; rest = ps })) (after_piece p c)) (cond b (Some (record { prefix = []; ender = q; rest = qs })) (after_piece q d))
cut_choice R p q ps qs true c d h k l = (tt, (h, k))
cut_choice R p q ps qs false c d h k l = after_pairs R p q c d h l

pub cut_pairs : (R : Piece → Piece → Type 0) (e : Extent) (d : ℕ) (ps qs : List Piece) → SameTokens R → Pairs R ps qs → CutPairs R (cut_at e d ps) (cut_at e d qs)
unfolding cut_at
cut_pairs R e d [] [] same h = tt
cut_pairs R e d [] (q ∷ qs) same h = absurd h
cut_pairs R e d (p ∷ ps) [] same h = absurd h
cut_pairs R e d (p ∷ ps) (q ∷ qs) same h =
    let later : CutPairs R (cut_at e (depth_after e (word_at p.tokens) d) ps) (cut_at e (depth_after e (word_at p.tokens) d) qs) =
    cut_pairs R e (depth_after e (word_at p.tokens) d) ps qs same h.1 in
    subst (λ (o : Option (List Token)). CutPairs R (cut_at e d (p ∷ ps)) (cond (ends e (word_at o) && (d == 0)) (Some (record { prefix = []; ender = q; rest = qs })) (after_piece q (cut_at e (depth_after e (word_at o) d) qs)))) (sym (same p q h.0))
    (cut_choice R p q ps qs (ends e (word_at p.tokens) && (d == 0)) (cut_at e (depth_after e (word_at p.tokens) d) ps) (cut_at e (depth_after e (word_at p.tokens) d) qs) h.0 h.1 later)

-- ---- the part that an IF keeps

abbrev pub KeptPairs : (Piece → Piece → Type 0) → Option (List Piece × List Piece) → Option (List Piece × List Piece) → Type 0
KeptPairs R None None = Unit {0}
KeptPairs R None (Some b) = ⊥
KeptPairs R (Some a) None = ⊥
KeptPairs R (Some a) (Some b) = Pairs R a.0 b.0 × Pairs R a.1 b.1

before_pairs : (R : Piece → Piece → Type 0) (prefix other : List Piece) (a b : Option Cut) → Pairs R prefix other → CutPairs R a b → KeptPairs R (kept_before prefix a) (kept_before other b)
before_pairs R prefix other None None h k = tt
before_pairs R prefix other None (Some b) h k = absurd k
before_pairs R prefix other (Some a) None h k = absurd k
before_pairs R prefix other (Some a) (Some b) h k = (h, k.1.1)

second_choice : (R : Piece → Piece → Type 0) (prefix other : List Piece) (a c : Cut) (b : Bool) (d f : Option Cut) → Pairs R prefix other → R a.ender c.ender → Pairs R a.rest c.rest → CutPairs R d f →
    KeptPairs R (cond b (Some (prefix, a.rest)) (kept_before (prefix ++ a.ender ∷ []) d)) (cond b (Some (other, c.rest)) (kept_before (other ++ c.ender ∷ []) f))
second_choice R prefix other a c true d f h k l m = (h, l)
second_choice R prefix other a c false d f h k l m = before_pairs R (prefix ++ a.ender ∷ []) (other ++ c.ender ∷ []) d f (pairs_append R prefix other (a.ender ∷ []) (c.ender ∷ []) h (k, tt)) m

second_pairs : (R : Piece → Piece → Type 0) (prefix other : List Piece) (a b : Option Cut) → SameTokens R → Pairs R prefix other → CutPairs R a b → KeptPairs R (second_part prefix a) (second_part other b)
second_pairs R prefix other None None same h k = tt
second_pairs R prefix other None (Some b) same h k = absurd k
second_pairs R prefix other (Some a) None same h k = absurd k
second_pairs R prefix other (Some a) (Some b) same h k =
    subst (λ (o : Option (List Token)). KeptPairs R (second_part prefix (Some a)) (cond (is_endif (word_at o)) (Some (other, b.rest)) (kept_before (other ++ b.ender ∷ []) (cut_at Condition 0 b.rest)))) (sym (same a.ender b.ender k.1.0))
    (second_choice R prefix other a b (is_endif (word_at a.ender.tokens)) (cut_at Condition 0 a.rest) (cut_at Condition 0 b.rest) h k.1.0 k.1.1 (cut_pairs R Condition 0 a.rest b.rest same k.1.1))

else_pairs : (R : Piece → Piece → Type 0) (a b : Option Cut) → CutPairs R a b → KeptPairs R (else_part a) (else_part b)
else_pairs R None None k = tt
else_pairs R None (Some b) k = absurd k
else_pairs R (Some a) None k = absurd k
else_pairs R (Some a) (Some b) k = (k.0, k.1.1)

of_choice : (R : Piece → Piece → Type 0) (b : Bool) (x y : List Piece × List Piece) (c d : Option (List Piece × List Piece)) → Pairs R x.0 y.0 → Pairs R x.1 y.1 → KeptPairs R c d →
    KeptPairs R (cond b (Some x) c) (cond b (Some y) d)
of_choice R true x y c d h k l = (h, k)
of_choice R false x y c d h k l = l

of_pairs : (R : Piece → Piece → Type 0) (holds : Bool) (a b : Option Cut) → SameTokens R → CutPairs R a b → KeptPairs R (kept_of holds a) (kept_of holds b)
of_pairs R holds None None same k = tt
of_pairs R holds None (Some b) same k = absurd k
of_pairs R holds (Some a) None same k = absurd k
of_pairs R true (Some a) (Some b) same k =
    rw (same a.ender b.ender k.1.0) (of_choice R (is_endif (word_at a.ender.tokens)) (a.prefix, a.rest) (b.prefix, b.rest) _ _ k.0 k.1.1
    (second_pairs R a.prefix b.prefix (cut_at Part 0 a.rest) (cut_at Part 0 b.rest) same k.0 (cut_pairs R Part 0 a.rest b.rest same k.1.1)))
of_pairs R false (Some a) (Some b) same k =
    rw (same a.ender b.ender k.1.0) (of_choice R (is_endif (word_at a.ender.tokens)) ([], a.rest) ([], b.rest) _ _ tt k.1.1
    (else_pairs R (cut_at Condition 0 a.rest) (cut_at Condition 0 b.rest) (cut_pairs R Condition 0 a.rest b.rest same k.1.1)))

pub kept_pairs : (R : Piece → Piece → Type 0) (holds : Bool) (ps qs : List Piece) → SameTokens R → Pairs R ps qs → KeptPairs R (kept holds ps) (kept holds qs)
unfolding kept
kept_pairs R holds ps qs same h = of_pairs R holds (cut_at Part 0 ps) (cut_at Part 0 qs) same (cut_pairs R Part 0 ps qs same h)
