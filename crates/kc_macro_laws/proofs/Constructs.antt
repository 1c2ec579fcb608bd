-- What stands for repetitions, calls and conditions.
use Rattle.std.proofs.Common.{◌≡◌, ℕ, zero, suc, ◌+◌, ◌-◌, ◌<◌, ◌==◌, Bool, true, false, not, cond, List, [], ◌∷◌, ◌++◌, length, map, drop, Some, None, Ok, Err, ◌⊎◌, inl, inr, refl, sym, ap, ◌∙◌, subst, arith, append_assoc}
use Rattle.std.specs.Prelude.{count_by, nat_le, nat_lt}
use Rattle.std.specs.List.{list_all, filter}
use Rattle.std.specs.FinMap as fm
use Rattle.std.proofs.lemmas.Bool.{and_parts, le-ltb, not-true, ne_eqb}
use Rattle.kc_lex.specs.declared.token.Token.{Token}
use Rattle.kc_lex.specs.Kinds.{has_label}
use Rattle.kc_lex.specs.Codes.{lesser_number}
use Rattle.kc_macro_body.specs.declared.words.Word.{Word}
use Rattle.kc_macro_body.specs.declared.words.Word.TheVariants as words
use Rattle.kc_macro_body.specs.declared.macros.Formals.{Formals}
use Rattle.kc_macro_body.specs.declared.macros.Macro.{Macro}
use Rattle.kc_macro_body.specs.Words.{unlabelled, behind_label}
use Rattle.kc_macro_body.specs.Arguments.{arguments, over_arguments}
use Rattle.kc_macro_body.specs.Bodies.{macro_of, only}
use Rattle.kc_macro_input.specs.declared.piece.Mark.{Mark}
use Rattle.kc_macro_input.specs.declared.piece.Mark.TheVariants.{Call, Turns, If}
use Rattle.kc_macro_input.specs.declared.piece.Piece.{Piece}
use Rattle.kc_macro_input.specs.declared.piece.Extent.TheVariants.{Body}
use Rattle.kc_macro_input.specs.Pieces.{is_call, is_if, innermost, marked, body_line, is_line, texts_of, word_at, repeated}
use Rattle.kc_macro_input.specs.Cuts.{cut_at, kept}
use Rattle.kc_macro_input.specs.Filled.{Filled, together, all_together, fill_body, fill_turns}
use Rattle.kc_macro.specs.declared.state.State.{State}
use Rattle.kc_macro.specs.Operands.{operand}
use Rattle.kc_macro.specs.Steps.{Fault, Counted, counted, code_if, turn_lines, turn_head, rept_next, irp_next, begun, if_next, call_text, names_run_out, call_next, word_step, line_step, labelled_step, step}
use Rattle.kc_macro.specs.Expansion.{run_out}
use Rattle.kc_macro_laws.specs.Course.{at_text, on_text, matched, one_counted, is_older, HasOldMarks, IsTooDeep}
use Rattle.kc_macro_laws.specs.Constructs.{is_exitm, has_no_exitm, Block, text_of, IsBlock, IsJoined, ReptIsCopies, IrpIsCopies, MacroIsDefined, IsCall, CallIsItsBody, IfElseIsItsPart, IfIsItsPart}
use Rattle.kc_macro_laws.proofs.Marks.{alike_same, alike_less}
use Rattle.kc_macro_laws.proofs.Pairs.{Pairs, Twin, Calm, pairs_append, pairs_repeated}
use Rattle.kc_macro_laws.proofs.Filling.{FilledPairs, Fills, body_pairs, turns_pairs}
use Rattle.kc_macro_laws.proofs.Wholes.{body_is_cut, kept_whole, kept_else}
use Rattle.kc_macro_laws.proofs.Simulation.{prefix_of, never_if}
use Rattle.kc_macro_laws.proofs.Answers.{AnswerPairs, answers_alike, after_quiet, after_counted, after_fault}

-- ---- the first line

pub matched_step : (s : State) (labelled : Bool) (number : ℕ) (from : List Mark) (ts : List Token) (w : Word) → matched labelled ts ≡ Some w → line_step s labelled number from ts ≡ word_step s number from ts w
unfolding line_step
matched_step s true number from ts w e = ap (word_step s number from ts) (the_word (behind_label ts) w e)
  where
    the_word : (v w : Word) → Some v ≡ Some w → v ≡ w
    the_word v w f = cc
matched_step s false number from ts w e = choice (has_label ts) e
  where
    the_word : (v w : Word) → Some v ≡ Some w → v ≡ w
    the_word v w f = cc

    choice : (b : Bool) → cond b None (Some (unlabelled ts)) ≡ Some w → cond b (labelled_step s number from ts) (word_step s number from ts (unlabelled ts)) ≡ word_step s number from ts w
    choice true f = absurd (cc)
    choice false f = ap (word_step s number from ts) (the_word (unlabelled ts) w f)

-- the rewriting of a line that is matched as a word
pub word_first : (s : State) (number : ℕ) (from : List Mark) (ts : List Token) (rest : List Piece) (w : Word) → matched s.labelled ts ≡ Some w → step (at_text s (body_line number from ts ∷ rest)) ≡ word_step (on_text s rest) number from ts w
word_first s number from ts rest w e = matched_step (on_text s rest) s.labelled number from ts w e

-- ---- one more line on both sides

pub counted_both : (x : Mark) (a c s : State) (number : ℕ) (qs : List Piece) → step a ≡ counted number s → step c ≡ counted number (record s { ahead = qs }) →
    (0 < s.left → AnswerPairs x (run_out (record s { left = s.left - 1 })) (run_out (record s { ahead = qs; left = s.left - 1 }))) → AnswerPairs x (run_out a) (run_out c)
counted_both x a c s number qs e f later = choice (s.left == 0) refl e f
  where
    some_left : (n : ℕ) → (n == 0) ≡ false → 0 < n
    some_left n g = grind arith

    choice : (b : Bool) → (s.left == 0) ≡ b → step a ≡ cond b (Fault number 4) (Counted (record s { left = s.left - 1 })) → step c ≡ cond b (Fault number 4) (Counted (record s { ahead = qs; left = s.left - 1 })) → AnswerPairs x (run_out a) (run_out c)
    choice true is g h = inl (after_fault c number 4 h ∙ sym (after_fault a number 4 g))
    choice false is g h = rw (after_counted a (record s { left = s.left - 1 }) g, after_counted c (record s { ahead = qs; left = s.left - 1 }) h) (later (some_left s.left is))

-- ---- marks

not_new : (left : ℕ) (x : Mark) (xs : List Mark) → is_older left x ≡ false → list_all (is_older left) xs ≡ true → innermost xs ≡ Some x → ⊥
not_new left x [] new old e = cc
not_new left x (Call n ∷ xs) new old e = let both : (is_older left (Call n) ≡ true) × (list_all (is_older left) xs ≡ true) = and_parts _ _ old in let same : Call n ≡ x = cc in no_both (subst (λ (y : Mark). is_older left y ≡ true) same both.0) new
  where
    no_both : is_older left x ≡ true → is_older left x ≡ false → ⊥
    no_both g h = cc
not_new left x (Turns n ∷ xs) new old e = let both : (is_older left (Turns n) ≡ true) × (list_all (is_older left) xs ≡ true) = and_parts _ _ old in let same : Turns n ≡ x = cc in no_both (subst (λ (y : Mark). is_older left y ≡ true) same both.0) new
  where
    no_both : is_older left x ≡ true → is_older left x ≡ false → ⊥
    no_both g h = cc
not_new left x (If ∷ xs) new old e = let both : (is_older left If ≡ true) × (list_all (is_older left) xs ≡ true) = and_parts _ _ old in not_new left x xs new both.1 e

twin_same : (x : Mark) (p : Piece) → Twin x p p
twin_same x p = record { number = refl; tokens = refl; marks = alike_same x p.from }

-- a text with older marks alone
pub old_pairs : (left : ℕ) (x : Mark) (ps : List Piece) → is_older left x ≡ false → list_all (λ p. list_all (is_older left) p.from) ps ≡ true → Pairs (Calm x) ps ps
old_pairs left x [] new old = tt
old_pairs left x (p ∷ ps) new old =
    let both : (list_all (is_older left) p.from ≡ true) × (list_all (λ q. list_all (is_older left) q.from) ps ≡ true) = and_parts _ _ old in
    (record { twin = twin_same x p; calm = λ e. absurd (not_new left x p.from new both.0 e) }, old_pairs left x ps new both.1)

pub all_append : {A : Type 0} (test : A → Bool) (xs ys : List A) → list_all test (xs ++ ys) ≡ true → (list_all test xs ≡ true) × (list_all test ys ≡ true)
all_append test [] ys h = (refl, h)
all_append test (x ∷ xs) ys h =
    let both : (test x ≡ true) × (list_all test (xs ++ ys) ≡ true) = and_parts _ _ h in
    let later : (list_all test xs ≡ true) × (list_all test ys ≡ true) = all_append test xs ys both.1 in
    (rw (both.0, later.0) refl, later.1)

-- the mark x given to lines of which none is an EXITM
pub marked_pairs : (x : Mark) (ps : List Piece) → has_no_exitm ps ≡ true → Pairs (Calm x) (map (marked x) ps) ps
marked_pairs x [] h = tt
marked_pairs x (p ∷ ps) h =
    let both : (not (is_exitm (word_at p.tokens)) ≡ true) × (has_no_exitm ps ≡ true) = and_parts _ _ h in
    (record { twin = record { number = refl; tokens = refl; marks = alike_less x p.from }; calm = λ _. not-true _ both.0 }, marked_pairs x ps both.1)

head_pairs : (x : Mark) (number : ℕ) (from : List Mark) → Calm x (marked x (one_counted number from)) (one_counted number from)
head_pairs x number from = record { twin = record { number = refl; tokens = refl; marks = alike_less x from }; calm = λ _. refl }

-- ---- lines with a mark are filled as they are without it

abbrev IsMarked : Mark → Piece → Piece → Type 0
IsMarked m p q = p ≡ marked m q

mark_fills : (m : Mark) → Fills (IsMarked m) (IsMarked m)
mark_fills m = record {
  number = λ p q h. sym (ap (λ (r : Piece). r.number) h);
  tokens = λ p q h. sym (ap (λ (r : Piece). r.tokens) h);
  kept = λ p q h. h;
  put = λ p q ts h. ap (λ (r : Piece). record r { tokens = Some ts }) h;
}

map_pairs : (m : Mark) (ps : List Piece) → Pairs (IsMarked m) (map (marked m) ps) ps
map_pairs m [] = tt
map_pairs m (p ∷ ps) = (refl, map_pairs m ps)

pairs_are : (m : Mark) (ps qs : List Piece) → Pairs (IsMarked m) ps qs → ps ≡ map (marked m) qs
pairs_are m [] [] h = refl
pairs_are m [] (q ∷ qs) h = absurd h
pairs_are m (p ∷ ps) [] h = absurd h
pairs_are m (p ∷ ps) (q ∷ qs) h = rw (h.0, pairs_are m ps qs h.1) refl

marked_result : (m : Mark) (a : Filled) (copy : List Piece) → FilledPairs (IsMarked m) a (Ok copy) → a ≡ Ok (map (marked m) copy)
marked_result m (Ok ps) copy h = ap (λ (rs : List Piece). Ok rs) (pairs_are m ps copy h)
marked_result m (Err f) copy h = absurd h

pub body_marked : (m : Mark) (f : Formals) (args : List (List Token)) (given : ℕ) (ps copy : List Piece) → fill_body f args given ps ≡ Ok copy → fill_body f args given (map (marked m) ps) ≡ Ok (map (marked m) copy)
body_marked m f args given ps copy e =
    marked_result m (fill_body f args given (map (marked m) ps)) copy (subst (λ r. FilledPairs (IsMarked m) (fill_body f args given (map (marked m) ps)) r) e
    (body_pairs (IsMarked m) (IsMarked m) f args given (map (marked m) ps) ps (mark_fills m) (map_pairs m ps)))

turns_marked : (m : Mark) (f : Formals) (head : Piece) (ps copies : List Piece) (args : List (List Token)) → fill_turns f head ps args ≡ Ok copies → fill_turns f (marked m head) (map (marked m) ps) args ≡ Ok (map (marked m) copies)
turns_marked m f head ps copies args e =
    marked_result m (fill_turns f (marked m head) (map (marked m) ps) args) copies (subst (λ r. FilledPairs (IsMarked m) (fill_turns f (marked m head) (map (marked m) ps) args) r) e
    (turns_pairs (IsMarked m) (IsMarked m) f (marked m head) head (map (marked m) ps) ps args (mark_fills m) refl (map_pairs m ps)))

-- ---- blocks

-- what stands behind a block
pub rest_old : (s : State) (b : Block) → HasOldMarks (at_text s (text_of b)) → list_all (λ p. list_all (is_older s.left) p.from) b.rest ≡ true
rest_old s b h =
    let later : (list_all (is_older s.left) b.from ≡ true) × (list_all (λ p. list_all (is_older s.left) p.from) (b.body ++ b.last ∷ b.rest) ≡ true) = and_parts _ _ h in
    let parts : (list_all (λ p. list_all (is_older s.left) p.from) b.body ≡ true) × (list_all (λ p. list_all (is_older s.left) p.from) (b.last ∷ b.rest) ≡ true) = all_append (λ p. list_all (is_older s.left) p.from) b.body (b.last ∷ b.rest) later.1 in
    (and_parts _ _ parts.1).1

pub turns_are_new : (left : ℕ) → is_older left (Turns left) ≡ false
turns_are_new left = le-ltb left left (omega arith)

pub call_is_new : (left : ℕ) → is_older left (Call left) ≡ false
call_is_new left = le-ltb left left (omega arith)

above_turns : (left : ℕ) → 0 < left → left - 1 < left
above_turns left h = omega arith

-- where the mark is not counted, one answer
pub one_answer : (left : ℕ) (a c : State) → AnswerPairs (Turns left) (run_out a) (run_out c) → run_out a ≡ run_out c
one_answer left a c (inl e) = sym e
one_answer left a c (inr h) = let no : false ≡ true = h.0 in absurd (cc)

-- a block is cut off
pub block_cut : (s : State) (w : Word) (b : Block) → IsBlock s w b → cut_at Body 0 (b.body ++ b.last ∷ b.rest) ≡ Some (record { prefix = b.body; ender = b.last; rest = b.rest })
block_cut s w b is = body_is_cut b.body b.last b.rest is.body is.last

-- ---- REPT

pub rept_first : (s : State) (b : Block) (n : ℕ) → IsBlock s words.Rept b → operand (drop 1 b.tokens) s.values ≡ Ok n →
    step (at_text s (text_of b)) ≡ rept_next (on_text s (b.body ++ b.last ∷ b.rest)) b.number b.from (Ok n) (Some (record { prefix = b.body; ender = b.last; rest = b.rest }))
rept_first s b n is value =
    word_first s b.number b.from b.tokens (b.body ++ b.last ∷ b.rest) words.Rept is.first ∙ rw (value, block_cut s words.Rept b is) refl

pub rept_some : (s : State) (b : Block) (k : ℕ) (copy : List Piece) → IsBlock s words.Rept b → operand (drop 1 b.tokens) s.values ≡ Ok (suc k) → IsJoined b.body copy →
    step (at_text s (text_of b)) ≡ counted b.number (on_text s (map (marked (Turns s.left)) copy ++ (repeated k (turn_head s.left b.number b.from ∷ map (marked (Turns s.left)) copy) ++ b.rest)))
rept_some s b k copy is value joined =
    let text : fill_body (only []) [] 0 (turn_lines s.left b.body) ≡ Ok (map (marked (Turns s.left)) copy) = body_marked (Turns s.left) (only []) [] 0 (filter is_line b.body) copy joined in
    let less : suc k - 1 ≡ k = omega arith in
    let some : (suc k == 0) ≡ false = ne_eqb (suc k) 0 (λ e. omega (arith, e)) in
    rept_first s b (suc k) is value ∙ rw (some, text, less) refl

rept_copies : (s : State) (b : Block) (n : ℕ) (copy : List Piece) → IsBlock s words.Rept b → HasOldMarks (at_text s (text_of b)) → operand (drop 1 b.tokens) s.values ≡ Ok n → (0 < n → IsJoined b.body copy) → has_no_exitm copy ≡ true →
    run_out (at_text s (text_of b)) ≡ run_out (on_text s (repeated n (one_counted b.number b.from ∷ copy) ++ b.rest))
unfolding repeated
rept_copies s b zero copy is old value joined calm = after_quiet (at_text s (text_of b)) (on_text s b.rest) (rept_first s b 0 is value)
rept_copies s b (suc k) copy is old value joined calm =
    one_answer s.left (at_text s (text_of b)) (on_text s ((one_counted b.number b.from ∷ (copy ++ repeated k (one_counted b.number b.from ∷ copy))) ++ b.rest))
    (counted_both (Turns s.left) (at_text s (text_of b)) (on_text s ((one_counted b.number b.from ∷ (copy ++ repeated k (one_counted b.number b.from ∷ copy))) ++ b.rest))
    (on_text s (map (marked (Turns s.left)) copy ++ (repeated k (turn_head s.left b.number b.from ∷ map (marked (Turns s.left)) copy) ++ b.rest))) b.number ((copy ++ repeated k (one_counted b.number b.from ∷ copy)) ++ b.rest)
    (rept_some s b k copy is value (joined (omega arith))) refl
    (λ some. answers_alike (Turns s.left) (record (on_text s (map (marked (Turns s.left)) copy ++ (repeated k (turn_head s.left b.number b.from ∷ map (marked (Turns s.left)) copy) ++ b.rest))) { left = s.left - 1 })
    ((copy ++ repeated k (one_counted b.number b.from ∷ copy)) ++ b.rest) (record { pairs = prefix_of (Turns s.left) false _ _ text; above = above_turns s.left some })))
  where
    text : Pairs (Calm (Turns s.left)) (map (marked (Turns s.left)) copy ++ (repeated k (turn_head s.left b.number b.from ∷ map (marked (Turns s.left)) copy) ++ b.rest)) ((copy ++ repeated k (one_counted b.number b.from ∷ copy)) ++ b.rest)
    text = rw append_assoc (pairs_append (Calm (Turns s.left)) (map (marked (Turns s.left)) copy) copy _ _ (marked_pairs (Turns s.left) copy calm)
        (pairs_append (Calm (Turns s.left)) (repeated k (turn_head s.left b.number b.from ∷ map (marked (Turns s.left)) copy)) (repeated k (one_counted b.number b.from ∷ copy)) b.rest b.rest
        (pairs_repeated (Calm (Turns s.left)) k (turn_head s.left b.number b.from ∷ map (marked (Turns s.left)) copy) (one_counted b.number b.from ∷ copy) (head_pairs (Turns s.left) b.number b.from, marked_pairs (Turns s.left) copy calm))
        (old_pairs s.left (Turns s.left) b.rest (turns_are_new s.left) (rest_old s b old))))

pub rept_is_copies : ReptIsCopies
rept_is_copies = rept_copies

-- ---- IRP

irp_first : (s : State) (b : Block) (f : List ℕ × List (List Token)) → IsBlock s words.Irp b → over_arguments (drop 1 b.tokens) ≡ Some f →
    step (at_text s (text_of b)) ≡ irp_next (on_text s (b.body ++ b.last ∷ b.rest)) b.number b.from (Some f) (Some (record { prefix = b.body; ender = b.last; rest = b.rest }))
irp_first s b f is over =
    word_first s b.number b.from b.tokens (b.body ++ b.last ∷ b.rest) words.Irp is.first ∙ rw (over, block_cut s words.Irp b is) refl

irp_begun : (s : State) (b : Block) (name : List ℕ) (args : List (List Token)) (copies : List Piece) → IsBlock s words.Irp b → over_arguments (drop 1 b.tokens) ≡ Some (name, args) →
    fill_turns (only (name ∷ [])) (one_counted b.number b.from) (filter is_line b.body) args ≡ Ok copies →
    step (at_text s (text_of b)) ≡ begun (on_text s b.rest) b.number (Ok (map (marked (Turns s.left)) copies))
irp_begun s b name args copies is over filled =
    let text : fill_turns (only (name ∷ [])) (turn_head s.left b.number b.from) (turn_lines s.left b.body) args ≡ Ok (map (marked (Turns s.left)) copies) =
    turns_marked (Turns s.left) (only (name ∷ [])) (one_counted b.number b.from) (filter is_line b.body) copies args filled in
    irp_first s b (name, args) is over ∙ rw text refl

-- the first of some turns is a place that counts
place_first : (f : Formals) (head : Piece) (ps : List Piece) (args : List (List Token)) (p : Piece) (copies : List Piece) → fill_turns f head ps args ≡ Ok (p ∷ copies) → p ≡ head
unfolding all_together
place_first f head ps [] p copies e = absurd (cc)
place_first f head ps (arg ∷ args) p copies e = parts (fill_body f (arg ∷ []) 0 ps) (fill_turns f head ps args) e
  where
    parts : (a c : Filled) → together (together (Ok (head ∷ [])) a) c ≡ Ok (p ∷ copies) → p ≡ head
    parts (Ok xs) (Ok ys) h = cc
    parts (Ok xs) (Err g) h = absurd (cc)
    parts (Err g) (Ok ys) h = absurd (cc)
    parts (Err g) (Err u) h = absurd (cc)

irp_copies : (s : State) (b : Block) (name : List ℕ) (args : List (List Token)) (copies : List Piece) → IsBlock s words.Irp b → HasOldMarks (at_text s (text_of b)) → over_arguments (drop 1 b.tokens) ≡ Some (name, args) →
    fill_turns (only (name ∷ [])) (one_counted b.number b.from) (filter is_line b.body) args ≡ Ok copies → has_no_exitm copies ≡ true → run_out (at_text s (text_of b)) ≡ run_out (on_text s (copies ++ b.rest))
irp_copies s b name args [] is old over filled calm = after_quiet (at_text s (text_of b)) (on_text s b.rest) (irp_begun s b name args [] is over filled)
irp_copies s b name args (p ∷ copies) is old over filled calm =
    let place : p ≡ one_counted b.number b.from = place_first (only (name ∷ [])) (one_counted b.number b.from) (filter is_line b.body) args p copies filled in
    let rest_calm : has_no_exitm copies ≡ true = (and_parts _ _ calm).1 in
    one_answer s.left (at_text s (text_of b)) (on_text s (p ∷ (copies ++ b.rest)))
    (counted_both (Turns s.left) (at_text s (text_of b)) (on_text s (p ∷ (copies ++ b.rest))) (on_text s (map (marked (Turns s.left)) copies ++ b.rest)) b.number (copies ++ b.rest)
    (irp_begun s b name args (p ∷ copies) is over filled) (ap (λ q. step (on_text s (q ∷ (copies ++ b.rest)))) place)
    (λ some. answers_alike (Turns s.left) (record (on_text s (map (marked (Turns s.left)) copies ++ b.rest)) { left = s.left - 1 }) (copies ++ b.rest) (record {
      pairs = prefix_of (Turns s.left) false _ _ (pairs_append (Calm (Turns s.left)) (map (marked (Turns s.left)) copies) copies b.rest b.rest (marked_pairs (Turns s.left) copies rest_calm)
          (old_pairs s.left (Turns s.left) b.rest (turns_are_new s.left) (rest_old s b old)));
      above = above_turns s.left some;
    })))

pub irp_is_copies : IrpIsCopies
irp_is_copies = irp_copies

-- ---- MACRO

pub macro_is_defined : MacroIsDefined
macro_is_defined s b name params is e =
    after_quiet (at_text s (text_of b)) (record (on_text s b.rest) { macros = fm.insert s.macros name (macro_of params (texts_of b.body)) })
    (word_first s b.number b.from b.tokens (b.body ++ b.last ∷ b.rest) words.Macro is.first ∙ rw (e, block_cut s words.Macro b is) refl)

-- ---- calls

body_lines : (m : Mark) (number : ℕ) (from : List Mark) (ls : List (List Token)) → map (body_line number (m ∷ from)) ls ≡ map (marked m) (map (body_line number from) ls)
body_lines m number from [] = refl
body_lines m number from (l ∷ ls) = ap (λ ps. body_line number (m ∷ from) l ∷ ps) (body_lines m number from ls)

call_first : (s : State) (number : ℕ) (from : List Mark) (tokens : List Token) (rest : List Piece) (m : Macro) (copy : List Piece) → IsCall s tokens m → names_run_out s.given m.formals.locals.count ≡ false →
    fill_body m.formals (arguments (drop 1 tokens)) s.given (map (body_line number from) m.body) ≡ Ok copy →
    step (at_text s (body_line number from tokens ∷ rest))
    ≡ call_next (on_text s rest) number m.formals.locals.count (lesser_number (code_if (s.left == 0) 4) (lesser_number (code_if (nat_le 16 (count_by is_call from)) 5) None)) (Ok (map (marked (Call s.left)) copy))
call_first s number from tokens rest m copy is names filled =
    let text : call_text s.left s.given number from m (arguments (drop 1 tokens)) ≡ Ok (map (marked (Call s.left)) copy) =
    rw (body_lines (Call s.left) number from m.body) (body_marked (Call s.left) m.formals (arguments (drop 1 tokens)) s.given (map (body_line number from) m.body) copy filled) in
    let few : nat_lt (length m.formals.params) (length (arguments (drop 1 tokens))) ≡ false = le-ltb (length m.formals.params) (length (arguments (drop 1 tokens))) is.few in
    word_first s number from tokens rest words.Other is.first ∙ rw (is.named, text, is.sound, few, names) refl

-- the place behind a call
abbrev pub called_on : State → List Piece → Macro → State
called_on s ps m = record (on_text s ps) { left = s.left - 1; given = s.given + m.formals.locals.count }

pub call_copy : (s : State) (number : ℕ) (from : List Mark) (tokens : List Token) (rest : List Piece) (m : Macro) (copy qs : List Piece) → IsCall s tokens m → names_run_out s.given m.formals.locals.count ≡ false →
    fill_body m.formals (arguments (drop 1 tokens)) s.given (map (body_line number from) m.body) ≡ Ok copy →
    (0 < s.left → AnswerPairs (Call s.left) (run_out (called_on s (map (marked (Call s.left)) copy ++ rest) m)) (run_out (called_on s qs m))) →
    (run_out (at_text s (body_line number from tokens ∷ rest)) ≡ run_out (record (on_text s (one_counted number from ∷ qs)) { given = s.given + m.formals.locals.count }))
    ⊎ IsTooDeep (run_out (at_text s (body_line number from tokens ∷ rest)))
call_copy s number from tokens rest m copy qs is names filled later = choice (s.left == 0) (nat_le 16 (count_by is_call from)) refl (call_first s number from tokens rest m copy is names filled) refl
  where
    a : State
    a = at_text s (body_line number from tokens ∷ rest)

    c : State
    c = record (on_text s (one_counted number from ∷ qs)) { given = s.given + m.formals.locals.count }

    t : State
    t = called_on s (map (marked (Call s.left)) copy ++ rest) m

    some_left : (n : ℕ) → (n == 0) ≡ false → 0 < n
    some_left n g = grind arith

    turned : AnswerPairs (Call s.left) (run_out t) (run_out (called_on s qs m)) → run_out a ≡ run_out t → run_out c ≡ run_out (called_on s qs m) → (run_out a ≡ run_out c) ⊎ IsTooDeep (run_out a)
    turned (inl e) f g = inl (f ∙ sym e ∙ sym g)
    turned (inr h) f g = inr (h.1.0, f ∙ h.1.1)

    choice : (b d : Bool) → (s.left == 0) ≡ b → step a ≡ call_next (on_text s rest) number m.formals.locals.count (lesser_number (code_if b 4) (lesser_number (code_if d 5) None)) (Ok (map (marked (Call s.left)) copy)) →
        step c ≡ counted number (record (on_text s qs) { given = s.given + m.formals.locals.count }) → (run_out a ≡ run_out c) ⊎ IsTooDeep (run_out a)
    choice true true e f g = inl (after_fault a number 4 f ∙ sym (after_fault c number 4 (g ∙ rw e refl)))
    choice true false e f g = inl (after_fault a number 4 f ∙ sym (after_fault c number 4 (g ∙ rw e refl)))
    choice false true e f g = inr (number, after_fault a number 5 f)
    choice false false e f g = turned (later (some_left s.left e)) (after_counted a t f) (after_counted c (called_on s qs m) (g ∙ rw e refl))

call_body : (s : State) (number : ℕ) (from : List Mark) (tokens : List Token) (rest : List Piece) (m : Macro) (copy : List Piece) → IsCall s tokens m → names_run_out s.given m.formals.locals.count ≡ false → HasOldMarks (at_text s (body_line number from tokens ∷ rest)) →
    fill_body m.formals (arguments (drop 1 tokens)) s.given (map (body_line number from) m.body) ≡ Ok copy → has_no_exitm copy ≡ true →
    (run_out (at_text s (body_line number from tokens ∷ rest)) ≡ run_out (record (on_text s (one_counted number from ∷ (copy ++ rest))) { given = s.given + m.formals.locals.count }))
    ⊎ IsTooDeep (run_out (at_text s (body_line number from tokens ∷ rest)))
call_body s number from tokens rest m copy is names old filled calm =
    call_copy s number from tokens rest m copy (copy ++ rest) is names filled
    (λ some. answers_alike (Call s.left) (called_on s (map (marked (Call s.left)) copy ++ rest) m) (copy ++ rest) (record {
      pairs = prefix_of (Call s.left) false _ _ (pairs_append (Calm (Call s.left)) (map (marked (Call s.left)) copy) copy rest rest (marked_pairs (Call s.left) copy calm)
          (old_pairs s.left (Call s.left) rest (call_is_new s.left) (and_parts _ _ old).1));
      above = above_turns s.left some;
    }))

pub call_is_its_body : CallIsItsBody
call_is_its_body = call_body

-- ---- IF

if_pairs : (ps rest : List Piece) → Pairs (Calm If) (map (marked If) ps ++ rest) (ps ++ rest)
if_pairs [] [] = tt
if_pairs [] (p ∷ rest) = (record { twin = twin_same If p; calm = λ e. absurd (never_if p.from e) }, if_pairs [] rest)
if_pairs (p ∷ ps) rest = (record { twin = record { number = refl; tokens = refl; marks = alike_less If p.from }; calm = λ e. absurd (never_if (If ∷ p.from) e) }, if_pairs ps rest)

if_kept : (s : State) (number : ℕ) (from : List Mark) (tokens : List Token) (ps prefix rest : List Piece) (value : ℕ) → matched s.labelled tokens ≡ Some words.If → operand (drop 1 tokens) s.values ≡ Ok value →
    kept (not (value == 0)) ps ≡ Some (prefix, rest) →
    (run_out (at_text s (body_line number from tokens ∷ ps)) ≡ run_out (on_text s (prefix ++ rest))) ⊎ IsTooDeep (run_out (at_text s (body_line number from tokens ∷ ps)))
if_kept s number from tokens ps prefix rest value first is found = choice (nat_le 16 (count_by is_if from)) (word_first s number from tokens ps words.If first ∙ rw (is, found) refl)
  where
    a : State
    a = at_text s (body_line number from tokens ∷ ps)

    t : State
    t = on_text s (map (marked If) prefix ++ rest)

    turned : AnswerPairs If (run_out t) (run_out (record t { ahead = prefix ++ rest })) → run_out a ≡ run_out t → (run_out a ≡ run_out (on_text s (prefix ++ rest))) ⊎ IsTooDeep (run_out a)
    turned (inl e) f = inl (f ∙ sym e)
    turned (inr h) f = inr (h.1.0, f ∙ h.1.1)

    choice : (b : Bool) → step a ≡ if_next (on_text s ps) number (lesser_number (code_if b 5) None) (Some (prefix, rest)) → (run_out a ≡ run_out (on_text s (prefix ++ rest))) ⊎ IsTooDeep (run_out a)
    choice true f = inr (number, after_fault a number 5 f)
    choice false f = turned (answers_alike If t (prefix ++ rest) (record { pairs = prefix_of If false _ _ (if_pairs prefix rest); above = tt })) (after_quiet a t f)

value_kept : {A : Type 0} (b : Bool) (x y : A) → cond (not b) x y ≡ cond b y x
value_kept true x y = refl
value_kept false x y = refl

pub if_else_is_its_part : IfElseIsItsPart
if_else_is_its_part s i value is =
    if_kept s i.number i.from i.tokens (i.part ++ i.mid ∷ (i.other ++ i.last ∷ i.rest)) (cond (value == 0) i.other i.part) i.rest value is.first is.operand_is
    (kept_else (not (value == 0)) i.part i.mid i.other i.last i.rest is.part is.mid is.other is.last ∙ ap (λ (ps : List Piece). Some (ps, i.rest)) (value_kept (value == 0) i.part i.other))

pub if_is_its_part : IfIsItsPart
if_is_its_part s i value is =
    if_kept s i.number i.from i.tokens (i.part ++ i.last ∷ i.rest) (cond (value == 0) [] i.part) i.rest value is.first is.operand_is
    (kept_whole (not (value == 0)) i.part i.last i.rest is.part is.last ∙ ap (λ (ps : List Piece). Some (ps, i.rest)) (value_kept (value == 0) i.part []))
