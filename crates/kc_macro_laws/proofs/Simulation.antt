-- Texts that are alike but for some marks of one call, repetition or IF are rewritten alike.
use Rattle.std.proofs.Common.{◌≡◌, ℕ, ◌+◌, ◌-◌, ◌<◌, ◌≤◌, ◌==◌, Bool, true, false, not, cond, List, [], ◌∷◌, ◌++◌, length, map, drop, take, Option, Some, None, Result, Ok, Err, ◌⊎◌, inl, inr, refl, ap, arith}
use Rattle.std.specs.Prelude.{count_by, min, nat_le, nat_lt}
use Rattle.std.specs.List.{filter}
use Rattle.std.specs.FinMap as fm
use Rattle.std.proofs.lemmas.Bool.{cases_lt, leb-true, leb-false}
use Rattle.kc_lex.specs.declared.token.Token.{Token}
use Rattle.kc_lex.specs.Kinds.{has_label, is_word}
use Rattle.kc_lex.specs.Codes.{lesser_number, no_statement, no_match, many_arguments}
use Rattle.kc_macro_body.specs.declared.words.Word.{Word}
use Rattle.kc_macro_body.specs.declared.words.Word.TheVariants as words
use Rattle.kc_macro_body.specs.declared.macros.Macro.{Macro}
use Rattle.kc_macro_body.specs.Words.{word_of, unlabelled, behind_label, labelled_word}
use Rattle.kc_macro_body.specs.Arguments.{arguments, definition, over_arguments}
use Rattle.kc_macro_body.specs.Bodies.{macro_of, only}
use Rattle.kc_macro_body.specs.Calls.{called}
use Rattle.kc_macro_input.specs.declared.piece.Mark.{Mark}
use Rattle.kc_macro_input.specs.declared.piece.Mark.TheVariants.{Call, Turns, If}
use Rattle.kc_macro_input.specs.declared.piece.Piece.{Piece}
use Rattle.kc_macro_input.specs.declared.piece.Extent.TheVariants.{Body}
use Rattle.kc_macro_input.specs.Pieces.{is_call, is_if, same_mark, innermost, marked, left_out, body_line, is_line, texts_of, word_at, repeated}
use Rattle.kc_macro_input.specs.Cuts.{Cut}
use Rattle.kc_macro_input.specs.Filled.{Filled, fill_body, fill_turns}
use Rattle.kc_macro.specs.declared.state.State.{State}
use Rattle.kc_macro.specs.Operands.{operand, number_of, noted}
use Rattle.kc_macro.specs.Steps.{Next, Fault, Ended, Quiet, Counted, counted, code_if, code_of, if_next, if_fault, turn_lines, turn_head, same_turns, turns_of, rept_next, begun, irp_next, exitm_step, macro_next, call_text, text_code, names_run_out, call_fault, call_next, call_step, emitted, plain_step, ended, end_step, label_step, other_step, word_step, is_end, is_replaced, labelled_step, line_step, piece_step, prefix_step, step}
use Rattle.kc_macro_laws.specs.Constructs.{is_exitm}
use Rattle.kc_macro_laws.proofs.Marks.{Alike, FewerOf, alike_on, apart}
use Rattle.kc_macro_laws.proofs.Pairs.{Pairs, Twin, Calm, Within, within_calm, SameTokens, pairs_append, pairs_repeated, pairs_map, pairs_lines, pairs_texts, pairs_left}
use Rattle.kc_macro_laws.proofs.Cutting.{CutPairs, cut_pairs, KeptPairs, kept_pairs}
use Rattle.kc_macro_laws.proofs.Filling.{FilledPairs, Fills, body_pairs, turns_pairs}

-- ---- what is alike

-- the mark was given while more lines were left
abbrev pub IsAbove : Mark → ℕ → Type 0
IsAbove (Call n) left = left < n
IsAbove (Turns n) left = left < n
IsAbove If left = Unit {0}

-- marks that are counted
abbrev pub is_deep : Mark → Bool
is_deep (Call n) = true
is_deep (Turns n) = false
is_deep If = true

-- the first line, whose label may have come out
abbrev pub PrefixPairs : Mark → Bool → List Piece → List Piece → Type 0
PrefixPairs x labelled [] [] = Unit {0}
PrefixPairs x labelled [] (q ∷ qs) = ⊥
PrefixPairs x labelled (p ∷ ps) [] = ⊥
PrefixPairs x labelled (p ∷ ps) (q ∷ qs) = Twin x p q × ((labelled ≡ false → innermost p.from ≡ Some x → is_exitm (word_at p.tokens) ≡ false) × Pairs (Calm x) ps qs)

pub prefix_of : (x : Mark) (labelled : Bool) (ps qs : List Piece) → Pairs (Calm x) ps qs → PrefixPairs x labelled ps qs
prefix_of x labelled [] [] h = tt
prefix_of x labelled [] (q ∷ qs) h = absurd h
prefix_of x labelled (p ∷ ps) [] h = absurd h
prefix_of x labelled (p ∷ ps) (q ∷ qs) h = (h.0.twin, ((λ _. h.0.calm), h.1))

-- a place, and another text that is alike
pub record Sim (x : Mark) (s : State) (qs : List Piece) : Type 0 where
  pub pairs : PrefixPairs x s.labelled s.ahead qs
  pub above : IsAbove x s.left

abbrev with_text : State → List Piece → State
with_text s qs = record s { ahead = qs }

abbrev pub NextPairs : Mark → Next → Next → Type 0
NextPairs x (Fault line code) n = (n ≡ Fault line code) ⊎ ((is_deep x ≡ true) × (code ≡ 5))
NextPairs x (Ended lines) n = n ≡ Ended lines
NextPairs x (Quiet t) n = (rs : List Piece) × ((n ≡ Quiet (with_text t rs)) × Sim x t rs)
NextPairs x (Counted t) n = (rs : List Piece) × ((n ≡ Counted (with_text t rs)) × Sim x t rs)

calm_tokens : (x : Mark) → SameTokens (Calm x)
calm_tokens x p q h = h.twin.tokens

sim_of : (x : Mark) (s : State) (qs : List Piece) → Pairs (Calm x) s.ahead qs → IsAbove x s.left → Sim x s qs
sim_of x s qs h above = record { pairs = prefix_of x s.labelled s.ahead qs h; above = above }

-- ---- one more line

above_less : (x : Mark) (left : ℕ) → IsAbove x left → IsAbove x (left - 1)
above_less (Call n) left h = omega arith
above_less (Turns n) left h = omega arith
above_less If left h = tt

counted_pairs : (x : Mark) (number : ℕ) (s : State) (qs : List Piece) → Sim x s qs → NextPairs x (counted number s) (counted number (with_text s qs))
counted_pairs x number s qs h =
    elim (s.left == 0) as (λ b. NextPairs x (cond b (Fault number 4) (Counted (record s { left = s.left - 1 }))) (cond b (Fault number 4) (Counted (record s { ahead = qs; left = s.left - 1 })))) [
      | true ↦ inl refl
      | false ↦ (qs, (refl, record { pairs = h.pairs; above = above_less x s.left h.above }))
    ]

-- ---- new marks

turns_new : (x : Mark) (left : ℕ) → IsAbove x left → Some (Turns left) ≡ Some x → ⊥
turns_new (Call n) left h e = cc
turns_new (Turns n) left h e = let same : left ≡ n = cc in omega arith
turns_new If left h e = cc

call_new : (x : Mark) (left : ℕ) → IsAbove x left → Some (Call left) ≡ Some x → ⊥
call_new (Call n) left h e = let same : left ≡ n = cc in omega arith
call_new (Turns n) left h e = cc
call_new If left h e = cc

marked_twin : (x m : Mark) (p q : Piece) → Twin x p q → Twin x (marked m p) (marked m q)
marked_twin x m p q h = record { number = h.number; tokens = h.tokens; marks = alike_on x m p.from q.from h.marks }

within_turns : (x : Mark) (left : ℕ) (p q : Piece) → IsAbove x left → Calm x p q → Within x (marked (Turns left) p) (marked (Turns left) q)
within_turns x left p q above h = record { twin = marked_twin x (Turns left) p q h.twin; other = turns_new x left above }

calm_if : (x : Mark) (p q : Piece) → Calm x p q → Calm x (marked If p) (marked If q)
calm_if x p q h = record { twin = marked_twin x If p q h.twin; calm = h.calm }

within_fills : (x : Mark) → Fills (Within x) (Calm x)
within_fills x = record {
  number = λ p q h. h.twin.number;
  tokens = λ p q h. h.twin.tokens;
  kept = within_calm x;
  put = λ p q ts h. record { twin = record { number = h.twin.number; tokens = refl; marks = h.twin.marks }; calm = λ e. absurd (h.other e) };
}

-- ---- repetitions

lines_pairs : (x : Mark) (left : ℕ) (ps qs : List Piece) → IsAbove x left → Pairs (Calm x) ps qs → Pairs (Within x) (turn_lines left ps) (turn_lines left qs)
lines_pairs x left ps qs above h =
    pairs_map (Calm x) (Within x) (marked (Turns left)) (marked (Turns left)) (filter is_line ps) (filter is_line qs) (λ p q. within_turns x left p q above) (pairs_lines (Calm x) ps qs (calm_tokens x) h)

head_calm : (x : Mark) (left number : ℕ) (xs ys : List Mark) → IsAbove x left → Alike x xs ys → Calm x (turn_head left number xs) (turn_head left number ys)
head_calm x left number xs ys above h = record { twin = record { number = refl; tokens = refl; marks = alike_on x (Turns left) xs ys h }; calm = λ e. absurd (turns_new x left above e) }

same_pairs : (x : Mark) (s : State) (number n : ℕ) (xs ys : List Mark) (a b : Filled) (qs : List Piece) → Alike x xs ys → IsAbove x s.left → FilledPairs (Calm x) a b → Pairs (Calm x) s.ahead qs →
    NextPairs x (same_turns s number xs n a) (same_turns (with_text s qs) number ys n b)
same_pairs x s number n xs ys (Err f) (Err g) qs marks above h k = inl (rw h refl)
same_pairs x s number n xs ys (Err f) (Ok rs) qs marks above h k = absurd h
same_pairs x s number n xs ys (Ok ps) (Err g) qs marks above h k = absurd h
same_pairs x s number n xs ys (Ok ps) (Ok rs) qs marks above h k =
    let later : Pairs (Calm x) (repeated (n - 1) (turn_head s.left number xs ∷ ps)) (repeated (n - 1) (turn_head s.left number ys ∷ rs)) =
    pairs_repeated (Calm x) (n - 1) (turn_head s.left number xs ∷ ps) (turn_head s.left number ys ∷ rs) (head_calm x s.left number xs ys above marks, h) in
    counted_pairs x number (with_text s (ps ++ (repeated (n - 1) (turn_head s.left number xs ∷ ps) ++ s.ahead))) (rs ++ (repeated (n - 1) (turn_head s.left number ys ∷ rs) ++ qs))
    (sim_of x (with_text s (ps ++ (repeated (n - 1) (turn_head s.left number xs ∷ ps) ++ s.ahead))) _
    (pairs_append (Calm x) ps rs _ _ h (pairs_append (Calm x) _ _ s.ahead qs later k)) above)

turns_of_pairs : (x : Mark) (s : State) (number n : ℕ) (xs ys : List Mark) (prefix other qs : List Piece) → Alike x xs ys → IsAbove x s.left → Pairs (Calm x) prefix other → Pairs (Calm x) s.ahead qs →
    NextPairs x (turns_of s number xs n prefix) (turns_of (with_text s qs) number ys n other)
turns_of_pairs x s number n xs ys prefix other qs marks above h k =
    let text : FilledPairs (Calm x) (fill_body (only []) [] 0 (turn_lines s.left prefix)) (fill_body (only []) [] 0 (turn_lines s.left other)) =
    body_pairs (Within x) (Calm x) (only []) [] 0 (turn_lines s.left prefix) (turn_lines s.left other) (within_fills x) (lines_pairs x s.left prefix other above h) in
    elim (n == 0) as (λ b. NextPairs x (cond b (Quiet s) (same_turns s number xs n (fill_body (only []) [] 0 (turn_lines s.left prefix)))) (cond b (Quiet (with_text s qs)) (same_turns (with_text s qs) number ys n (fill_body (only []) [] 0 (turn_lines s.left other))))) [
      | true ↦ (qs, (refl, sim_of x s qs k above))
      | false ↦ same_pairs x s number n xs ys _ _ qs marks above text k
    ]

rept_pairs : (x : Mark) (s : State) (number : ℕ) (xs ys : List Mark) (value : Result ℕ ℕ) (a b : Option Cut) (qs : List Piece) → Alike x xs ys → IsAbove x s.left → CutPairs (Calm x) a b →
    NextPairs x (rept_next s number xs value a) (rept_next (with_text s qs) number ys value b)
rept_pairs x s number xs ys value None None qs marks above h = inl refl
rept_pairs x s number xs ys value None (Some b) qs marks above h = absurd h
rept_pairs x s number xs ys value (Some a) None qs marks above h = absurd h
rept_pairs x s number xs ys (Err code) (Some a) (Some b) qs marks above h = inl refl
rept_pairs x s number xs ys (Ok n) (Some a) (Some b) qs marks above h = turns_of_pairs x (with_text s a.rest) number n xs ys a.prefix b.prefix b.rest marks above h.0 h.1.1

begun_pairs : (x : Mark) (s : State) (number : ℕ) (a b : Filled) (qs : List Piece) → IsAbove x s.left → FilledPairs (Calm x) a b → Pairs (Calm x) s.ahead qs → NextPairs x (begun s number a) (begun (with_text s qs) number b)
begun_pairs x s number (Err f) (Err g) qs above h k = inl (rw h refl)
begun_pairs x s number (Err f) (Ok rs) qs above h k = absurd h
begun_pairs x s number (Ok ps) (Err g) qs above h k = absurd h
begun_pairs x s number (Ok []) (Ok []) qs above h k = (qs, (refl, sim_of x s qs k above))
begun_pairs x s number (Ok []) (Ok (r ∷ rs)) qs above h k = absurd h
begun_pairs x s number (Ok (p ∷ ps)) (Ok []) qs above h k = absurd h
begun_pairs x s number (Ok (p ∷ ps)) (Ok (r ∷ rs)) qs above h k =
    counted_pairs x number (with_text s (ps ++ s.ahead)) (rs ++ qs) (sim_of x (with_text s (ps ++ s.ahead)) (rs ++ qs) (pairs_append (Calm x) ps rs s.ahead qs h.1 k) above)

irp_pairs : (x : Mark) (s : State) (number : ℕ) (xs ys : List Mark) (f : Option (List ℕ × List (List Token))) (a b : Option Cut) (qs : List Piece) → Alike x xs ys → IsAbove x s.left → CutPairs (Calm x) a b →
    NextPairs x (irp_next s number xs f a) (irp_next (with_text s qs) number ys f b)
irp_pairs x s number xs ys None a b qs marks above h = inl refl
irp_pairs x s number xs ys (Some f) None None qs marks above h = inl refl
irp_pairs x s number xs ys (Some f) None (Some b) qs marks above h = absurd h
irp_pairs x s number xs ys (Some f) (Some a) None qs marks above h = absurd h
irp_pairs x s number xs ys (Some f) (Some a) (Some b) qs marks above h =
    begun_pairs x (with_text s a.rest) number (fill_turns (only (f.0 ∷ [])) (turn_head s.left number xs) (turn_lines s.left a.prefix) f.1) (fill_turns (only (f.0 ∷ [])) (turn_head s.left number ys) (turn_lines s.left b.prefix) f.1) b.rest above
    (turns_pairs (Within x) (Calm x) (only (f.0 ∷ [])) (turn_head s.left number xs) (turn_head s.left number ys) (turn_lines s.left a.prefix) (turn_lines s.left b.prefix) f.1 (within_fills x) (head_calm x s.left number xs ys above marks) (lines_pairs x s.left a.prefix b.prefix above h.0))
    h.1.1

-- ---- EXITM and definitions

pub never_if : (xs : List Mark) → innermost xs ≡ Some If → ⊥
never_if [] e = cc
never_if (Call n ∷ xs) e = cc
never_if (Turns n ∷ xs) e = cc
never_if (If ∷ xs) e = never_if xs e

exitm_pairs : (x : Mark) (s : State) (number : ℕ) (a b : Option Mark) (qs : List Piece) → (a ≡ Some x → ⊥) → b ≡ a → IsAbove x s.left → Pairs (Calm x) s.ahead qs →
    NextPairs x (exitm_step s number a) (exitm_step (with_text s qs) number b)
exitm_pairs x s number None b qs not_x e above h = inl (rw e refl)
exitm_pairs x s number (Some m) b qs not_x e above h =
    let other : same_mark m x ≡ false = apart m x (λ f. not_x (ap (λ (k : Mark). Some k) f)) in
    rw e (left_out m qs, (refl, sim_of x (with_text s (left_out m s.ahead)) (left_out m qs) (pairs_left x m s.ahead qs other h) above))

macro_pairs : (x : Mark) (s : State) (number : ℕ) (d : Option (List ℕ × List (List ℕ))) (a b : Option Cut) (qs : List Piece) → IsAbove x s.left → CutPairs (Calm x) a b →
    NextPairs x (macro_next s number d a) (macro_next (with_text s qs) number d b)
macro_pairs x s number None a b qs above h = inl refl
macro_pairs x s number (Some d) None None qs above h = inl refl
macro_pairs x s number (Some d) None (Some b) qs above h = absurd h
macro_pairs x s number (Some d) (Some a) None qs above h = absurd h
macro_pairs x s number (Some d) (Some a) (Some b) qs above h =
    let texts : texts_of b.prefix ≡ texts_of a.prefix = pairs_texts (Calm x) a.prefix b.prefix (calm_tokens x) h.0 in
    (b.rest, (rw texts refl, sim_of x (record s { ahead = a.rest; macros = fm.insert s.macros d.0 (macro_of d.1 (texts_of a.prefix)) }) b.rest h.1.1 above))

-- ---- IF

if_same : (x : Mark) (s : State) (number : ℕ) (fault : Option ℕ) (a b : Option (List Piece × List Piece)) (qs : List Piece) → IsAbove x s.left → KeptPairs (Calm x) a b →
    NextPairs x (if_next s number fault a) (if_next (with_text s qs) number fault b)
if_same x s number fault None None qs above h = inl refl
if_same x s number fault None (Some b) qs above h = absurd h
if_same x s number fault (Some a) None qs above h = absurd h
if_same x s number (Some code) (Some a) (Some b) qs above h = inl refl
if_same x s number None (Some a) (Some b) qs above h = (
  map (marked If) b.0 ++ b.1,
  (
    refl,
    sim_of x (with_text s (map (marked If) a.0 ++ a.1)) (map (marked If) b.0 ++ b.1)
        (pairs_append (Calm x) (map (marked If) a.0) (map (marked If) b.0) a.1 b.1 (pairs_map (Calm x) (Calm x) (marked If) (marked If) a.0 b.0 (calm_if x) h.0) h.1) above,
  ),
)

-- one IF too many, among the marks x alone
if_deep : (x : Mark) (s : State) (number : ℕ) (value : Result ℕ ℕ) (a b : Option (List Piece × List Piece)) (qs : List Piece) → is_deep x ≡ true → KeptPairs (Calm x) a b →
    NextPairs x (if_next s number (lesser_number (Some 5) (code_of value)) a) (if_next (with_text s qs) number (lesser_number None (code_of value)) b)
if_deep x s number (Ok v) None None qs deep h = inr (deep, refl)
if_deep x s number (Ok v) None (Some b) qs deep h = absurd h
if_deep x s number (Ok v) (Some a) None qs deep h = absurd h
if_deep x s number (Ok v) (Some a) (Some b) qs deep h = inr (deep, refl)
if_deep x s number (Err c) None None qs deep h = elim (cases_lt 5 c) [
  | inl more ↦ let five : min 5 c ≡ 5 = omega arith in inr (deep, rw five refl)
  | inr le ↦ let same : min 5 c ≡ c = omega arith in inl (rw same refl)
]
if_deep x s number (Err c) None (Some b) qs deep h = absurd h
if_deep x s number (Err c) (Some a) None qs deep h = absurd h
if_deep x s number (Err c) (Some a) (Some b) qs deep h = elim (cases_lt 5 c) [
  | inl more ↦ inr (deep, omega arith)
  | inr le ↦ let same : min 5 c ≡ c = omega arith in inl (rw same refl)
]

no_more : (a b : ℕ) → b ≤ a → nat_le 16 a ≡ false → nat_le 16 b ≡ true → ⊥
no_more a b le few many = let lo : a < 16 = leb-false 16 a few in let hi : 16 ≤ b = leb-true 16 b many in omega arith

if_counts : (x : Mark) (s : State) (number : ℕ) (value : Result ℕ ℕ) (a b : Option (List Piece × List Piece)) (qs : List Piece) (n m : ℕ) (t u : Bool) → nat_le 16 n ≡ t → nat_le 16 m ≡ u → is_deep x ≡ true → m ≤ n →
    IsAbove x s.left → KeptPairs (Calm x) a b → NextPairs x (if_next s number (lesser_number (code_if t 5) (code_of value)) a) (if_next (with_text s qs) number (lesser_number (code_if u 5) (code_of value)) b)
if_counts x s number value a b qs n m true true e f deep le above h = if_same x s number (lesser_number (Some 5) (code_of value)) a b qs above h
if_counts x s number value a b qs n m false false e f deep le above h = if_same x s number (code_of value) a b qs above h
if_counts x s number value a b qs n m false true e f deep le above h = absurd (no_more n m le e f)
if_counts x s number value a b qs n m true false e f deep le above h = if_deep x s number value a b qs deep h

deep_if : (x : Mark) → is_if x ≡ true → is_deep x ≡ true
deep_if (Call n) e = refl
deep_if (Turns n) e = cc
deep_if If e = refl

deep_call : (x : Mark) → is_call x ≡ true → is_deep x ≡ true
deep_call (Call n) e = refl
deep_call (Turns n) e = cc
deep_call If e = refl

if_pairs : (x : Mark) (s : State) (number : ℕ) (value : Result ℕ ℕ) (xs ys : List Mark) (a b : Option (List Piece × List Piece)) (qs : List Piece) → FewerOf is_if x xs ys → IsAbove x s.left → KeptPairs (Calm x) a b →
    NextPairs x (if_next s number (if_fault xs value) a) (if_next (with_text s qs) number (if_fault ys value) b)
if_pairs x s number value xs ys a b qs (inl e) above h = rw e (if_same x s number (if_fault xs value) a b qs above h)
if_pairs x s number value xs ys a b qs (inr k) above h =
    if_counts x s number value a b qs (count_by is_if xs) (count_by is_if ys) (nat_le 16 (count_by is_if xs)) (nat_le 16 (count_by is_if ys)) refl refl (deep_if x k.0) k.1 above h

-- ---- calls

call_lines : (x : Mark) (left number : ℕ) (xs ys : List Mark) (ls : List (List Token)) → IsAbove x left → Alike x xs ys →
    Pairs (Within x) (map (body_line number (Call left ∷ xs)) ls) (map (body_line number (Call left ∷ ys)) ls)
call_lines x left number xs ys [] above marks = tt
call_lines x left number xs ys (l ∷ ls) above marks =
    (record { twin = record { number = refl; tokens = refl; marks = alike_on x (Call left) xs ys marks }; other = call_new x left above }, call_lines x left number xs ys ls above marks)

-- the faults of a call: of its text, of the lines that are left, of its depth, and others
abbrev faults : Option ℕ → Bool → Bool → Option ℕ → Option ℕ
faults text none deep others = lesser_number text (lesser_number (code_if none 4) (lesser_number (code_if deep 5) others))

call_same : (x : Mark) (s : State) (number locals : ℕ) (fault : Option ℕ) (a b : Filled) (qs : List Piece) → IsAbove x s.left → FilledPairs (Calm x) a b → Pairs (Calm x) s.ahead qs →
    NextPairs x (call_next s number locals fault a) (call_next (with_text s qs) number locals fault b)
call_same x s number locals (Some code) a b qs above h k = inl refl
call_same x s number locals None (Err f) (Err g) qs above h k = inl (rw h refl)
call_same x s number locals None (Err f) (Ok rs) qs above h k = absurd h
call_same x s number locals None (Ok ps) (Err g) qs above h k = absurd h
call_same x s number locals None (Ok ps) (Ok rs) qs above h k =
    (rs ++ qs, (refl, sim_of x (record s { ahead = ps ++ s.ahead; left = s.left - 1; given = s.given + locals }) (rs ++ qs) (pairs_append (Calm x) ps rs s.ahead qs h k) (above_less x s.left above)))

-- a call with two faults has the lesser, or one macro is too many
two_faults : (x : Mark) (s u : State) (number locals c d : ℕ) (a b : Filled) → is_deep x ≡ true → (c ≡ d) ⊎ (c ≡ 5) → NextPairs x (call_next s number locals (Some c) a) (call_next u number locals (Some d) b)
two_faults x s u number locals c d a b deep (inl e) = inl (rw e refl)
two_faults x s u number locals c d a b deep (inr e) = inr (deep, e)

lesser_none : (k : ℕ) → (min k 5 ≡ k) ⊎ (min k 5 ≡ 5)
lesser_none k = elim (cases_lt 5 k) [ inl more ↦ inr (omega arith) | inr few ↦ inl (omega arith) ]

lesser_other : (d : ℕ) → (min 5 d ≡ d) ⊎ (min 5 d ≡ 5)
lesser_other d = elim (cases_lt 5 d) [ inl more ↦ inr (omega arith) | inr few ↦ inl (omega arith) ]

lesser_both : (k d : ℕ) → (min k (min 5 d) ≡ min k d) ⊎ (min k (min 5 d) ≡ 5)
lesser_both k d = elim (cases_lt 5 d) [ inl more ↦ elim (cases_lt 5 k) [ inl many ↦ inr (omega arith) | inr few ↦ inl (omega arith) ] | inr few ↦ inl (omega arith) ]

lesser_four : (d : ℕ) → min 4 (min 5 d) ≡ min 4 d
lesser_four d = omega arith

call_deep : (x : Mark) (s : State) (number locals : ℕ) (text : Option ℕ) (none : Bool) (others : Option ℕ) (a b : Filled) (qs : List Piece) → is_deep x ≡ true →
    NextPairs x (call_next s number locals (faults text none true others) a) (call_next (with_text s qs) number locals (faults text none false others) b)
call_deep x s number locals None true None a b qs deep = inl refl
call_deep x s number locals None true (Some d) a b qs deep = two_faults x s (with_text s qs) number locals (min 4 (min 5 d)) (min 4 d) a b deep (inl (lesser_four d))
call_deep x s number locals None false None a b qs deep = inr (deep, refl)
call_deep x s number locals None false (Some d) a b qs deep = two_faults x s (with_text s qs) number locals (min 5 d) d a b deep (lesser_other d)
call_deep x s number locals (Some k) true None a b qs deep = inl refl
call_deep x s number locals (Some k) true (Some d) a b qs deep = two_faults x s (with_text s qs) number locals (min k (min 4 (min 5 d))) (min k (min 4 d)) a b deep (inl (ap (min k) (lesser_four d)))
call_deep x s number locals (Some k) false None a b qs deep = two_faults x s (with_text s qs) number locals (min k 5) k a b deep (lesser_none k)
call_deep x s number locals (Some k) false (Some d) a b qs deep = two_faults x s (with_text s qs) number locals (min k (min 5 d)) (min k d) a b deep (lesser_both k d)

call_counts : (x : Mark) (s : State) (number locals : ℕ) (text : Option ℕ) (none : Bool) (others : Option ℕ) (a b : Filled) (qs : List Piece) (n m : ℕ) (t u : Bool) → nat_le 16 n ≡ t → nat_le 16 m ≡ u → is_deep x ≡ true → m ≤ n →
    IsAbove x s.left → FilledPairs (Calm x) a b → Pairs (Calm x) s.ahead qs →
    NextPairs x (call_next s number locals (faults text none t others) a) (call_next (with_text s qs) number locals (faults text none u others) b)
call_counts x s number locals text none others a b qs n m true true e f deep le above h k = call_same x s number locals (faults text none true others) a b qs above h k
call_counts x s number locals text none others a b qs n m false false e f deep le above h k = call_same x s number locals (faults text none false others) a b qs above h k
call_counts x s number locals text none others a b qs n m false true e f deep le above h k = absurd (no_more n m le e f)
call_counts x s number locals text none others a b qs n m true false e f deep le above h k = call_deep x s number locals text none others a b qs deep

text_codes : (x : Mark) (a b : Filled) → FilledPairs (Calm x) a b → text_code b ≡ text_code a
text_codes x (Ok ps) (Ok qs) h = refl
text_codes x (Ok ps) (Err g) h = absurd h
text_codes x (Err f) (Ok qs) h = absurd h
text_codes x (Err f) (Err g) h = rw h refl

call_fewer : (x : Mark) (s : State) (number : ℕ) (xs ys : List Mark) (m : Macro) (args : List (List Token)) (a b : Filled) (qs : List Piece) → FewerOf is_call x xs ys → IsAbove x s.left → FilledPairs (Calm x) a b → Pairs (Calm x) s.ahead qs →
    NextPairs x (call_next s number m.formals.locals.count (call_fault s.left s.given xs m args a) a) (call_next (with_text s qs) number m.formals.locals.count (call_fault s.left s.given ys m args b) b)
call_fewer x s number xs ys m args a b qs (inl e) above h k = rw (e, text_codes x a b h) (call_same x s number m.formals.locals.count (call_fault s.left s.given xs m args a) a b qs above h k)
call_fewer x s number xs ys m args a b qs (inr f) above h k =
    rw (text_codes x a b h) (call_counts x s number m.formals.locals.count (text_code a) (s.left == 0)
    (lesser_number (code_if (not m.sound) no_match) (lesser_number (code_if (nat_lt (length m.formals.params) (length args)) many_arguments) (code_if (names_run_out s.given m.formals.locals.count) no_statement))) a b qs
    (count_by is_call xs) (count_by is_call ys) (nat_le 16 (count_by is_call xs)) (nat_le 16 (count_by is_call ys)) refl refl (deep_call x f.0) f.1 above h k)

call_pairs : (x : Mark) (s : State) (number : ℕ) (xs ys : List Mark) (m : Macro) (args : List (List Token)) (qs : List Piece) → Alike x xs ys → IsAbove x s.left → Pairs (Calm x) s.ahead qs →
    NextPairs x (call_step s number xs m args) (call_step (with_text s qs) number ys m args)
call_pairs x s number xs ys m args qs marks above k =
    call_fewer x s number xs ys m args (call_text s.left s.given number xs m args) (call_text s.left s.given number ys m args) qs marks.calls above
    (body_pairs (Within x) (Calm x) m.formals args s.given (map (body_line number (Call s.left ∷ xs)) m.body) (map (body_line number (Call s.left ∷ ys)) m.body) (within_fills x) (call_lines x s.left number xs ys m.body above marks)) k

-- ---- one rewriting

plain_pairs : (x : Mark) (s : State) (number : ℕ) (ts : List Token) (qs : List Piece) → IsAbove x s.left → Pairs (Calm x) s.ahead qs → NextPairs x (plain_step s number ts) (plain_step (with_text s qs) number ts)
plain_pairs x s number ts qs above h = counted_pairs x number (emitted number ts (record s { values = noted ts s.values })) qs (sim_of x (emitted number ts (record s { values = noted ts s.values })) qs h above)

ended_pairs : (x : Mark) (n m : Next) → NextPairs x n m → NextPairs x (ended n) (ended m)
ended_pairs x (Fault line code) m (inl e) = inl (rw e refl)
ended_pairs x (Fault line code) m (inr k) = inr k
ended_pairs x (Ended lines) m h = rw h refl
ended_pairs x (Quiet t) m h = rw (h.1.0) refl
ended_pairs x (Counted t) m h = rw (h.1.0) refl

end_pairs : (x : Mark) (s : State) (number : ℕ) (ts : List Token) (qs : List Piece) → IsAbove x s.left → Pairs (Calm x) s.ahead qs → NextPairs x (end_step s number ts) (end_step (with_text s qs) number ts)
end_pairs x s number ts qs above h = ended_pairs x (counted number (emitted number ts s)) (counted number (emitted number ts (with_text s qs))) (counted_pairs x number (emitted number ts s) qs (sim_of x (emitted number ts s) qs h above))

other_pairs : (x : Mark) (s : State) (number : ℕ) (xs ys : List Mark) (ts : List Token) (o : Option Macro) (qs : List Piece) → Alike x xs ys → IsAbove x s.left → Pairs (Calm x) s.ahead qs →
    NextPairs x (other_step s number xs ts o) (other_step (with_text s qs) number ys ts o)
other_pairs x s number xs ys ts None qs marks above h = plain_pairs x s number ts qs above h
other_pairs x s number xs ys ts (Some m) qs marks above h = call_pairs x s number xs ys m (arguments (drop 1 ts)) qs marks above h

word_pairs : (x : Mark) (s : State) (number : ℕ) (xs ys : List Mark) (ts : List Token) (w : Word) (qs : List Piece) → Alike x xs ys → (is_exitm w ≡ true → innermost xs ≡ Some x → ⊥) → IsAbove x s.left → Pairs (Calm x) s.ahead qs →
    NextPairs x (word_step s number xs ts w) (word_step (with_text s qs) number ys ts w)
word_pairs x s number xs ys ts words.Macro qs marks calm above h = macro_pairs x s number (definition ts) _ _ qs above (cut_pairs (Calm x) Body 0 s.ahead qs (calm_tokens x) h)
word_pairs x s number xs ys ts words.Exitm qs marks calm above h = exitm_pairs x s number (innermost xs) (innermost ys) qs (calm refl) (marks.inner (calm refl)) above h
word_pairs x s number xs ys ts words.If qs marks calm above h =
    if_pairs x s number (operand (drop 1 ts) s.values) xs ys _ _ qs marks.ifs above (kept_pairs (Calm x) (not (number_of (operand (drop 1 ts) s.values) == 0)) s.ahead qs (calm_tokens x) h)
word_pairs x s number xs ys ts words.Rept qs marks calm above h = rept_pairs x s number xs ys (operand (drop 1 ts) s.values) _ _ qs marks above (cut_pairs (Calm x) Body 0 s.ahead qs (calm_tokens x) h)
word_pairs x s number xs ys ts words.Irp qs marks calm above h = irp_pairs x s number xs ys (over_arguments (drop 1 ts)) _ _ qs marks above (cut_pairs (Calm x) Body 0 s.ahead qs (calm_tokens x) h)
word_pairs x s number xs ys ts words.End qs marks calm above h = end_pairs x s number ts qs above h
word_pairs x s number xs ys ts words.Other qs marks calm above h = other_pairs x s number xs ys ts (called s.macros ts) qs marks above h
word_pairs x s number xs ys ts words.Local qs marks calm above h = inl refl
word_pairs x s number xs ys ts words.Else qs marks calm above h = inl refl
word_pairs x s number xs ys ts words.Endif qs marks calm above h = inl refl
word_pairs x s number xs ys ts words.Endm qs marks calm above h = inl refl

label_pairs : (x : Mark) (s : State) (number : ℕ) (xs ys : List Mark) (ts : List Token) (qs : List Piece) → Alike x xs ys → IsAbove x s.left → Pairs (Calm x) s.ahead qs →
    NextPairs x (label_step s number xs ts) (label_step (with_text s qs) number ys ts)
label_pairs x s number xs ys ts qs marks above h =
    counted_pairs x number (emitted number (take 2 ts) (record s { ahead = record { number = number; from = xs; tokens = Some (drop 2 ts) } ∷ s.ahead; labelled = true })) (record { number = number; from = ys; tokens = Some (drop 2 ts) } ∷ qs)
    (record { pairs = (record { number = refl; tokens = refl; marks = marks }, ((λ e. absurd (cc)), h)); above = above })

labelled_pairs : (x : Mark) (s : State) (number : ℕ) (xs ys : List Mark) (ts : List Token) (qs : List Piece) → Alike x xs ys → IsAbove x s.left → Pairs (Calm x) s.ahead qs →
    NextPairs x (labelled_step s number xs ts) (labelled_step (with_text s qs) number ys ts)
labelled_pairs x s number xs ys ts qs marks above h =
    elim (is_replaced s.macros (drop 2 ts)) as (λ b. NextPairs x (cond b (label_step s number xs ts) (cond (is_end (behind_label (drop 2 ts))) (end_step s number ts) (plain_step s number ts)))
    (cond b (label_step (with_text s qs) number ys ts) (cond (is_end (behind_label (drop 2 ts))) (end_step (with_text s qs) number ts) (plain_step (with_text s qs) number ts)))) [
      | true ↦ label_pairs x s number xs ys ts qs marks above h
      | false ↦ elim (is_end (behind_label (drop 2 ts))) as (λ b. NextPairs x (cond b (end_step s number ts) (plain_step s number ts)) (cond b (end_step (with_text s qs) number ts) (plain_step (with_text s qs) number ts))) [
        | true ↦ end_pairs x s number ts qs above h
        | false ↦ plain_pairs x s number ts qs above h
      ]
    ]

-- no EXITM stands behind a label
labelled_exitm : (t : Token) → is_exitm (labelled_word t) ≡ false
labelled_exitm t = elim (is_word (73 ∷ 70 ∷ []) t) as (λ a. is_exitm (cond a words.If (cond (is_word (82 ∷ 69 ∷ 80 ∷ 84 ∷ []) t) words.Rept (cond (is_word (73 ∷ 82 ∷ 80 ∷ []) t) words.Irp (cond (is_word (69 ∷ 78 ∷ 68 ∷ []) t) words.End words.Other)))) ≡ false) [
  | true ↦ refl
  | false ↦ elim (is_word (82 ∷ 69 ∷ 80 ∷ 84 ∷ []) t) as (λ a. is_exitm (cond a words.Rept (cond (is_word (73 ∷ 82 ∷ 80 ∷ []) t) words.Irp (cond (is_word (69 ∷ 78 ∷ 68 ∷ []) t) words.End words.Other))) ≡ false) [
    | true ↦ refl
    | false ↦ elim (is_word (73 ∷ 82 ∷ 80 ∷ []) t) as (λ a. is_exitm (cond a words.Irp (cond (is_word (69 ∷ 78 ∷ 68 ∷ []) t) words.End words.Other)) ≡ false) [
      | true ↦ refl
      | false ↦ elim (is_word (69 ∷ 78 ∷ 68 ∷ []) t) as (λ a. is_exitm (cond a words.End words.Other) ≡ false) [ true ↦ refl | false ↦ refl ]
    ]
  ]
]

pub behind_exitm : (ts : List Token) → is_exitm (behind_label ts) ≡ true → ⊥
behind_exitm [] e = cc
behind_exitm (t ∷ ts) e = let no : is_exitm (labelled_word t) ≡ false = labelled_exitm t in cc

line_pairs : (x : Mark) (s : State) (labelled : Bool) (number : ℕ) (xs ys : List Mark) (ts : List Token) (qs : List Piece) → Alike x xs ys → (labelled ≡ false → innermost xs ≡ Some x → is_exitm (word_of ts) ≡ false) → IsAbove x s.left →
    Pairs (Calm x) s.ahead qs → NextPairs x (line_step s labelled number xs ts) (line_step (with_text s qs) labelled number ys ts)
unfolding line_step word_of
line_pairs x s true number xs ys ts qs marks calm above h = word_pairs x s number xs ys ts (behind_label ts) qs marks (λ e. absurd (behind_exitm ts e)) above h
line_pairs x s false number xs ys ts qs marks calm above h = choice (has_label ts) refl
  where
    choice : (b : Bool) → has_label ts ≡ b → NextPairs x (cond b (labelled_step s number xs ts) (word_step s number xs ts (unlabelled ts))) (cond b (labelled_step (with_text s qs) number ys ts) (word_step (with_text s qs) number ys ts (unlabelled ts)))
    choice true e = labelled_pairs x s number xs ys ts qs marks above h
    choice false e = word_pairs x s number xs ys ts (unlabelled ts) qs marks (λ f k. let no : is_exitm (unlabelled ts) ≡ false = rw e at (calm refl k) in cc) above h

piece_pairs : (x : Mark) (s : State) (labelled : Bool) (number : ℕ) (xs ys : List Mark) (o : Option (List Token)) (qs : List Piece) → Alike x xs ys → (labelled ≡ false → innermost xs ≡ Some x → is_exitm (word_at o) ≡ false) → IsAbove x s.left →
    Pairs (Calm x) s.ahead qs → NextPairs x (piece_step s labelled number xs o) (piece_step (with_text s qs) labelled number ys o)
piece_pairs x s labelled number xs ys None qs marks calm above h = counted_pairs x number s qs (sim_of x s qs h above)
piece_pairs x s labelled number xs ys (Some ts) qs marks calm above h = line_pairs x s labelled number xs ys ts qs marks calm above h

prefix_pairs : (x : Mark) (s : State) (ps qs : List Piece) → PrefixPairs x s.labelled ps qs → IsAbove x s.left → NextPairs x (prefix_step s ps) (prefix_step (with_text s qs) qs)
prefix_pairs x s [] [] h above = inl refl
prefix_pairs x s [] (q ∷ qs) h above = absurd h
prefix_pairs x s (p ∷ ps) [] h above = absurd h
prefix_pairs x s (p ∷ ps) (q ∷ qs) h above =
    rw (h.0.number, h.0.tokens) (piece_pairs x (record s { ahead = ps; labelled = false }) s.labelled p.number p.from q.from p.tokens qs h.0.marks h.1.0 above h.1.1)

pub step_pairs : (x : Mark) (s : State) (qs : List Piece) → Sim x s qs → NextPairs x (step s) (step (record s { ahead = qs }))
step_pairs x s qs h = prefix_pairs x s s.ahead qs h.pairs h.above
