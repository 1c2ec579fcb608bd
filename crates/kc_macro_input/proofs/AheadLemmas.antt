-- The flat text of a stack after a push or a pop.
use Rattle.std.proofs.Common.{◌≡◌, Bool, true, false, ◌&&◌, ℕ, zero, suc, ◌+◌, ◌-◌, ◌<◌, ◌≤◌, sub-one, Option, Some, None, Ok, Err, List, [], ◌∷◌, ◌++◌, length, get_or, drop, drop_of_length-le, map, refl, sym, ap, ◌∙◌, append_assoc, arith}
use Rattle.std.specs.List.{list_all}
use Rattle.std.proofs.lemmas.List.{append-nil, map-append}
use Rattle.kc_lex.specs.declared.token.Token.{Token}
use Rattle.kc_macro_body.specs.declared.macros.Formals.{Formals}
use Rattle.kc_macro_body.specs.Filling.{filled}
use Rattle.kc_macro_input.specs.declared.piece.Piece.{Piece}
use Rattle.kc_macro_input.specs.declared.piece.Mark.{Mark}
use Rattle.kc_macro_input.specs.declared.ahead.Held.{Held}
use Rattle.kc_macro_input.specs.declared.ahead.Held.TheVariants as held
use Rattle.kc_macro_input.specs.Ahead.{flat, pieces_of}
use Rattle.kc_macro_input.specs.Filled.{Filled, together, all_together, single, with_tokens, fill_text, fill_piece, fill_body, lines_of, turns_over}
use Rattle.kc_macro_input.proofs.FilledLemmas.{prefix_of}
use Rattle.kc_macro_input.specs.Pieces.{repeated, comes_from}
use Rattle.kc_macro_input.specs.Pieces.{left_out}

pub flat_push : (hs : List Held) (h : Held) → flat (hs ++ h ∷ []) ≡ pieces_of h ++ flat hs
unfolding flat
flat_push [] h = sym (append-nil (pieces_of h))
flat_push (x ∷ hs) h = ap (λ ps. ps ++ pieces_of x) (flat_push hs h) ∙ append_assoc (pieces_of h) (flat hs) (pieces_of x)

pub flat_none : flat [] ≡ []
unfolding flat
flat_none = refl

-- as the loops use it
pub flat_popped : (hs ks : List Held) (h : Held) → hs ≡ ks ++ h ∷ [] → flat hs ≡ pieces_of h ++ flat ks
flat_popped hs ks h e = ap flat e ∙ flat_push ks h

pub no_turn : (p : Piece) (body rest : List Piece) (n : ℕ) → n ≤ 0 → repeated n (p ∷ body) ++ rest ≡ rest
unfolding repeated
no_turn p body rest zero h = refl
no_turn p body rest (suc n) h = absurd (omega arith)

pub one_turn : (p : Piece) (body rest : List Piece) (n : ℕ) → 0 < n → p ∷ (body ++ (repeated (n - 1) (p ∷ body) ++ rest)) ≡ repeated n (p ∷ body) ++ rest
unfolding repeated
one_turn p body rest zero h = absurd (omega arith)
one_turn p body rest (suc n) h = ap (λ (ps : List Piece). p ∷ ps) (rw sub-one (sym (append_assoc body (repeated n (p ∷ body)) rest)))

-- the last of some things, taken off and put on the stack as a piece
pub mapped_popped : {A : Type 0} (f : A → Piece) (xs ys : List A) (x : A) (hs ks : List Held) (from : List Mark) → xs ≡ ys ++ x ∷ [] → ks ≡ hs ++ held.One (record (f x) { from = from }) ∷ [] → from ≡ (f x).from
    → map f ys ++ flat ks ≡ map f xs ++ flat hs
mapped_popped f xs ys x hs ks from popped pushed same =
    ap (λ (ps : List Piece). map f ys ++ ps) (flat_popped ks hs _ pushed ∙ ap (λ (m : List Mark). record (f x) { from = m } ∷ flat hs) same)
    ∙ sym (append_assoc (map f ys) (f x ∷ []) (flat hs)) ∙ ap (λ (ps : List Piece). ps ++ flat hs) (sym (map-append f ys (x ∷ []))) ∙ ap (λ zs. map f zs ++ flat hs) (sym popped)

pub leave_more : (m : Mark) (p : Piece) (ps all : List Piece) → all ≡ p ∷ ps → comes_from m p ≡ true → left_out m ps ≡ left_out m all
unfolding left_out
leave_more m p ps all e h = sym (ap (left_out m) e ∙ rw h refl)

pub leave_none : (m : Mark) (p : Piece) (ps all : List Piece) → all ≡ p ∷ ps → comes_from m p ≡ false → p ∷ ps ≡ left_out m all
unfolding left_out
leave_none m p ps all e h = sym (ap (left_out m) e ∙ rw h refl)

pub leave_end : (m : Mark) → left_out m [] ≡ []
unfolding left_out
leave_end m = refl

and_both : (a b : Bool) → (a && b) ≡ true → (a ≡ true) × (b ≡ true)
and_both true true h = (refl, refl)
and_both true false h = absurd (cc)
and_both false b h = absurd (cc)

pub leave_all : (m : Mark) (ps qs : List Piece) → list_all (comes_from m) ps ≡ true → left_out m (ps ++ qs) ≡ left_out m qs
unfolding left_out
leave_all m [] qs h = refl
leave_all m (p ∷ ps) qs h =
    let both = and_both (comes_from m p) (list_all (comes_from m) ps) h in
    rw both.0 (leave_all m ps qs both.1)

both_and : (a b : Bool) → a ≡ true → b ≡ true → (a && b) ≡ true
both_and a b h k = rw (h, k) refl

all_append : (m : Mark) (ps qs : List Piece) → list_all (comes_from m) ps ≡ true → list_all (comes_from m) qs ≡ true → list_all (comes_from m) (ps ++ qs) ≡ true
all_append m [] qs h k = k
all_append m (p ∷ ps) qs h k =
    let both = and_both (comes_from m p) (list_all (comes_from m) ps) h in
    both_and (comes_from m p) (list_all (comes_from m) (ps ++ qs)) both.0 (all_append m ps qs both.1 k)

pub all_turns : (m : Mark) (n : ℕ) (ps : List Piece) → list_all (comes_from m) ps ≡ true → list_all (comes_from m) (repeated n ps) ≡ true
unfolding repeated
all_turns m zero ps h = refl
all_turns m (suc n) ps h = all_append m ps (repeated n ps) h (all_turns m n ps h)

-- ---- turns over some arguments

pub no_over : (f : Formals) (head : Piece) (body rest : List Piece) (args : List (List Token)) (n : ℕ) → length args ≤ n → turns_over f head body (drop n args) ++ rest ≡ rest
unfolding turns_over
no_over f head body rest args n h = ap (λ (left : List (List Token)). turns_over f head body left ++ rest) (drop_of_length-le args {i = n} h)

pub one_over : (f : Formals) (head : Piece) (body rest : List Piece) (args : List (List Token)) (n : ℕ) (arg : List Token) → n < length args → arg ≡ get_or args n arg →
    head ∷ (lines_of (fill_body f (arg ∷ []) 0 body) ++ (turns_over f head body (drop (n + 1) args) ++ rest)) ≡ turns_over f head body (drop n args) ++ rest
unfolding turns_over
one_over f head body rest args n arg less is =
    ap (λ (ps : List Piece). head ∷ ps) (sym (append_assoc (lines_of (fill_body f (arg ∷ []) 0 body)) (turns_over f head body (drop (n + 1) args)) rest))
    ∙ ap (λ (left : List (List Token)). turns_over f head body left ++ rest) (sym (prefix_of args n arg less is))

lines_together : (m : Mark) (x y : Filled) → list_all (comes_from m) (lines_of x) ≡ true → list_all (comes_from m) (lines_of y) ≡ true → list_all (comes_from m) (lines_of (together x y)) ≡ true
lines_together m (Ok ps) (Ok qs) h k = all_append m ps qs h k
lines_together m (Ok ps) (Err g) h k = refl
lines_together m (Err f) (Ok qs) h k = refl
lines_together m (Err f) (Err g) h k = refl

-- a line that is filled comes from what it came from
line_filled : (m : Mark) (f : Formals) (args : List (List Token)) (p : Piece) (o : Option (List Token)) → comes_from m p ≡ true → list_all (comes_from m) (lines_of (single (fill_text f args 0 p o))) ≡ true
line_filled m f args p None h = both_and (comes_from m p) true h refl
line_filled m f args p (Some ts) h = elim (filled f args 0 ts) as (λ r. list_all (comes_from m) (lines_of (single (with_tokens p r))) ≡ true) [
  | Ok us ↦ both_and (comes_from m p) true h refl
  | Err code ↦ refl
]

all_filled : (m : Mark) (f : Formals) (args : List (List Token)) (ps : List Piece) → list_all (comes_from m) ps ≡ true → list_all (comes_from m) (lines_of (fill_body f args 0 ps)) ≡ true
unfolding all_together
all_filled m f args [] h = refl
all_filled m f args (p ∷ ps) h =
    let both = and_both (comes_from m p) (list_all (comes_from m) ps) h in
    lines_together m (single (fill_piece f args 0 p)) (fill_body f args 0 ps) (line_filled m f args p p.tokens both.0) (all_filled m f args ps both.1)

pub all_over : (m : Mark) (f : Formals) (head : Piece) (body : List Piece) (args : List (List Token)) → list_all (comes_from m) (head ∷ body) ≡ true → list_all (comes_from m) (turns_over f head body args) ≡ true
unfolding turns_over
all_over m f head body [] h = refl
all_over m f head body (arg ∷ args) h =
    let both = and_both (comes_from m head) (list_all (comes_from m) body) h in
    both_and (comes_from m head) (list_all (comes_from m) (lines_of (fill_body f (arg ∷ []) 0 body) ++ turns_over f head body args)) both.0
    (all_append m (lines_of (fill_body f (arg ∷ []) 0 body)) (turns_over f head body args) (all_filled m f (arg ∷ []) body both.1) (all_over m f head body args h))
