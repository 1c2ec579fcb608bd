-- With as many of its first lines as it has of a number, a text is whole.
use Rattle.std.proofs.Common.{◌≡◌, ◌∙◌, arith, ℕ, suc, ◌-◌, Bool, true, false, eqb, ltb, ◌&&◌, if◌then◌else◌, List, [], ◌∷◌, length, Option, refl, ap, sym, subst}
use Rattle.std.proofs.lemmas.Bool.{eqb-true, lt-ltb}
use Rattle.kc_lex.specs.declared.token.Line.{Line}
use Rattle.kc_asm_origin.specs.Written.{places_of, elsewhere, written_at}
use Rattle.kc_asm_origin.specs.Alike.{are_alike, is_line_alike, are_lines_alike}
use Rattle.kc_asm_origin.specs.First.{placed, with_first}

both_first : (a b : Bool) → (a && b) ≡ true → a ≡ true
both_first true b e = refl
both_first false b e = e

both_second : (a b : Bool) → (a && b) ≡ true → b ≡ true
both_second true b e = e
both_second false b e = absurd (cc e)

-- one line more, of this number or not
one_more : (number : ℕ) (b : Bool) (p : Option ℕ) (ps : List (Option ℕ)) (m : Line) (ms : List Line) → with_first number (length ps) ms ≡ ms
    → (if b then placed (ltb 0 (length (if b then p ∷ ps else ps))) m ∷ with_first number (length (if b then p ∷ ps else ps) - 1) ms else m ∷ with_first number (length (if b then p ∷ ps else ps)) ms) ≡ m ∷ ms
one_more number true p ps m ms h =
    let keeps : ltb 0 (suc (length ps)) ≡ true = lt-ltb 0 (suc (length ps)) (omega arith) in
    let fewer : suc (length ps) - 1 ≡ length ps = omega arith in
    (λ i. placed (keeps i) m ∷ with_first number (fewer i) ms) ∙ ap (λ (xs : List Line). m ∷ xs) h
one_more number false p ps m ms h = ap (λ (xs : List Line). m ∷ xs) h

pub whole : (number : ℕ) (other text : List Line) → are_lines_alike other text ≡ true → with_first number (length (places_of number other)) text ≡ text
unfolding places_of are_lines_alike with_first
whole number [] [] e = refl
whole number [] (m ∷ ms) e = absurd (cc e)
whole number (l ∷ ls) [] e = absurd (cc e)
whole number (l ∷ ls) (m ∷ ms) e =
    let line : is_line_alike l m ≡ true = both_first (is_line_alike l m) (are_lines_alike ls ms) e in
    let same : l.number ≡ m.number = eqb-true l.number m.number (both_first (eqb l.number m.number) (are_alike l.tokens m.tokens) line) in
    let rest : with_first number (length (places_of number ls)) ms ≡ ms = whole number ls ms (both_second (is_line_alike l m) (are_lines_alike ls ms) e) in
    let p = elsewhere number (written_at l.tokens) in
    subst (λ (v : ℕ). with_first number (length (if eqb v number then p ∷ places_of number ls else places_of number ls)) (m ∷ ms) ≡ m ∷ ms) (sym same)
    (one_more number (eqb m.number number) p (places_of number ls) m ms rest)
