-- What holds at each place that the rewriting of a source comes to.
use Rattle.std.proofs.Common.{◌≡◌, ℕ, zero, suc, ◌+◌, ◌-◌, ◌^◌, ◌<◌, ◌≤◌, ◌==◌, Bool, true, false, not, ◌&&◌, ◌||◌, cond, List, [], ◌∷◌, ◌++◌, length, map, drop, take, Option, Some, None, Result, Ok, Err, inl, inr, refl, sym, ap, ◌∙◌, subst, arith, append_assoc}
use Rattle.std.proofs.lemmas.List.{append-nil}
use Rattle.std.specs.Prelude.{position, is_some, count_by, nat_le, nat_lt}
use Rattle.std.specs.List.{list_all, filter}
use Rattle.std.specs.Str.{bytes_eq}
use Rattle.std.specs.Cmp.Lexicographic.{nat_list_cmp_total, bytes_decides}
use Rattle.std.specs.FinMap as fm
use Rattle.std.proofs.lemmas.Bool.{and_parts, lt-ltb, ltb-true, ne_eqb, eq-eqb}
use Rattle.std.proofs.lemmas.Bool.Decides.{nat_tests}
use Rattle.std.proofs.lemmas.Map.Text.{is_eq-slice_cmp}
use Rattle.kc_lex.specs.declared.token.Token.{Token}
use Rattle.kc_lex.specs.declared.token.Line.{Line}
use Rattle.kc_lex.specs.Kinds.{has_label}
use Rattle.kc_lex.specs.Codes.{lesser_number, no_statement, many_lines, too_deep, no_match, many_arguments}
use Rattle.kc_macro_body.specs.declared.words.Word.{Word}
use Rattle.kc_macro_body.specs.declared.words.Word.TheVariants as words
use Rattle.kc_macro_body.specs.declared.macros.Formals.{Formals}
use Rattle.kc_macro_body.specs.declared.macros.Locals.{Locals}
use Rattle.kc_macro_body.specs.declared.macros.Macro.{Macro}
use Rattle.kc_base.specs.ByName.{ByName}
use Rattle.kc_macro_body.specs.Words.{unlabelled, behind_label}
use Rattle.kc_macro_body.specs.Arguments.{arguments, definition, over_arguments}
use Rattle.kc_macro_body.specs.Bodies.{macro_of, names_or_none, local_names, placed, with_local, no_locals, only}
use Rattle.kc_macro_body.specs.Calls.{called}
use Rattle.kc_macro_input.specs.declared.piece.Mark.{Mark}
use Rattle.kc_macro_input.specs.declared.piece.Mark.TheVariants.{Call, Turns, If}
use Rattle.kc_macro_input.specs.declared.piece.Piece.{Piece}
use Rattle.kc_macro_input.specs.declared.piece.Extent.{Extent}
use Rattle.kc_macro_input.specs.declared.piece.Extent.TheVariants.{Body, Part, Condition}
use Rattle.kc_macro_body.specs.Words.{is_endif}
use Rattle.kc_macro_input.specs.Pieces.{is_call, innermost, same_mark, marked, left_out, first_piece, body_line, is_line, texts_of, word_at, repeated}
use Rattle.kc_macro_input.specs.Cuts.{ends, depth_after, Cut, cut_at, after_piece, kept_before, second_part, else_part, kept_of, kept}
use Rattle.kc_macro_input.specs.Filled.{Filled, fill_body, fill_turns}
use Rattle.kc_macro.specs.declared.state.State.{State}
use Rattle.kc_macro.specs.Operands.{operand, noted}
use Rattle.kc_macro.specs.Steps.{Next, Fault, Ended, Quiet, Counted, counted, if_next, turn_lines, turn_head, same_turns, turns_of, rept_next, begun, irp_next, exitm_step, macro_next, call_text, names_run_out, call_next, call_step, call_fault, emitted, plain_step, ended, end_step, label_step, other_step, word_step, is_end, is_replaced, labelled_step, line_step, piece_step, prefix_step, code_if, text_code, step}
use Rattle.kc_macro.specs.Expansion.{start}
use Rattle.kc_macro_laws.specs.Course.{Goes, GoesBy, Leads, IsReached, is_older}
use Rattle.kc_macro_laws.proofs.Constructs.{all_append}
use Rattle.kc_macro_laws.proofs.Pairs.{Pairs}
use Rattle.kc_macro_laws.proofs.Filling.{FilledPairs, Fills, body_pairs, turns_pairs}
use Rattle.kc_macro_laws.proofs.Texts.{Sub, Keeps, Drops, sub_same, sub_none, sub_append, sub_filter, sub_left, is_old, IsOld, both_true, old_sub, old_append, old_less, Runs, Tidy, tidy_sub, tidy_if, old_if, IsNew, AllNew, new_append, IsOwn, tidy_new, new_old}

-- ---- macros: each LOCAL name has a place of its own, and is no parameter

pub record AreFine (params : List (List ℕ)) (l : Locals) : Type 0 where
  pub below : (n : List ℕ) (k : ℕ) → fm.get l.places n ≡ Some k → k < l.count
  pub own : (n m : List ℕ) (k : ℕ) → fm.get l.places n ≡ Some k → fm.get l.places m ≡ Some k → n ≡ m
  pub apart : (n : List ℕ) (k : ℕ) → fm.get l.places n ≡ Some k → position (bytes_eq n) params ≡ None

pub get_insert : {V : Type 0} (m : ByName V) (k : List ℕ) (v : V) (q : List ℕ) → fm.get (fm.insert m k v) q ≡ cond (bytes_eq q k) (Some v) (fm.get m q)
get_insert m k v q = fm.get-insert nat_list_cmp_total m k v q ∙ ap (λ b. cond b (Some v) (fm.get m q)) (is_eq-slice_cmp q k)

none_is : {A : Type 0} (o : Option A) → is_some o ≡ false → o ≡ None
none_is None e = refl
none_is (Some a) e = absurd (cc)

pub some_is : {A : Type 0} (a b : A) → Some a ≡ Some b → a ≡ b
some_is a b e = cc

local_fine : (params : List (List ℕ)) (l : Locals) (n : List ℕ) → AreFine params l → AreFine params (with_local params l n)
local_fine params l n h = choice (is_some (position (bytes_eq n) params)) (is_some (fm.get l.places n)) refl refl
  where
    more : Locals
    more = record { places = fm.insert l.places n l.count; count = l.count + 1 }

    choice : (a b : Bool) → is_some (position (bytes_eq n) params) ≡ a → is_some (fm.get l.places n) ≡ b → AreFine params (cond (a || b) l more)
    choice true b e f = h
    choice false true e f = h
    choice false false e f = record {
      below = λ q k g. at_key q (bytes_eq q n) refl k (sym (get_insert l.places n l.count q) ∙ g);
      own = λ q r k g i. two q r (bytes_eq q n) (bytes_eq r n) refl refl k (sym (get_insert l.places n l.count q) ∙ g) (sym (get_insert l.places n l.count r) ∙ i);
      apart = λ q k g. no_param q (bytes_eq q n) refl k (sym (get_insert l.places n l.count q) ∙ g);
    }
      where
        at_key : (q : List ℕ) (b : Bool) → bytes_eq q n ≡ b → (k : ℕ) → cond b (Some l.count) (fm.get l.places q) ≡ Some k → k < l.count + 1
        at_key q true i k g = let same : l.count ≡ k = some_is l.count k g in omega arith
        at_key q false i k g = let less : k < l.count = h.below q k g in omega arith

        two : (q r : List ℕ) (a b : Bool) → bytes_eq q n ≡ a → bytes_eq r n ≡ b → (k : ℕ) → cond a (Some l.count) (fm.get l.places q) ≡ Some k → cond b (Some l.count) (fm.get l.places r) ≡ Some k → q ≡ r
        two q r true true i j k g p = (bytes_decides q n).0 i ∙ sym ((bytes_decides r n).0 j)
        two q r true false i j k g p = let same : l.count ≡ k = some_is l.count k g in let less : k < l.count = h.below r k p in absurd (omega arith)
        two q r false true i j k g p = let same : l.count ≡ k = some_is l.count k p in let less : k < l.count = h.below q k g in absurd (omega arith)
        two q r false false i j k g p = h.own q r k g p

        no_param : (q : List ℕ) (b : Bool) → bytes_eq q n ≡ b → (k : ℕ) → cond b (Some l.count) (fm.get l.places q) ≡ Some k → position (bytes_eq q) params ≡ None
        no_param q true i k g = rw ((bytes_decides q n).0 i) (none_is (position (bytes_eq n) params) e)
        no_param q false i k g = h.apart q k g

placed_fine : (params : List (List ℕ)) (l : Locals) (ns : List (List ℕ)) → AreFine params l → AreFine params (placed params l ns)
unfolding placed
placed_fine params l [] h = h
placed_fine params l (n ∷ ns) h = placed_fine params (with_local params l n) ns (local_fine params l n h)

none_fine : (params : List (List ℕ)) → AreFine params no_locals
none_fine params = record { below = λ n k g. absurd (nothing n k g); own = λ n m k g i. absurd (nothing n k g); apart = λ n k g. absurd (nothing n k g) }
  where
    nothing : (n : List ℕ) (k : ℕ) → fm.get no_locals.places n ≡ Some k → ⊥
    nothing n k g = let none : fm.get no_locals.places n ≡ None = fm.get-empty _ n in cc

abbrev pub IsFine : Macro → Type 0
IsFine m = AreFine m.formals.params m.formals.locals

macro_fine : (params : List (List ℕ)) (lines : List (List Token)) → IsFine (macro_of params lines)
unfolding macro_of
macro_fine params lines = placed_fine params no_locals (names_or_none (local_names 0 lines)) (none_fine params)

abbrev pub AllFine : ByName Macro → Type 0
AllFine macros = (n : List ℕ) (m : Macro) → fm.get macros n ≡ Some m → IsFine m

insert_fine : (macros : ByName Macro) (n : List ℕ) (m : Macro) → AllFine macros → IsFine m → AllFine (fm.insert macros n m)
insert_fine macros n m all fine q w g = choice (bytes_eq q n) (sym (get_insert macros n m q) ∙ g)
  where
    choice : (b : Bool) → cond b (Some m) (fm.get macros q) ≡ Some w → IsFine w
    choice true e = subst IsFine (some_is m w e) fine
    choice false e = all q w e

-- ---- a place

pub record IsGood (s : State) : Type 0 where
  pub old : IsOld s.left s.ahead
  pub tidy : Tidy s.ahead
  pub macros : AllFine s.macros
  pub few : s.given < 10 ^ 29

-- the next place is good too, and no fewer LOCAL names are given
abbrev NextGood : ℕ → Next → Type 0
NextGood given (Fault line code) = Unit {0}
NextGood given (Ended lines) = Unit {0}
NextGood given (Quiet t) = IsGood t × (given ≤ t.given)
NextGood given (Counted t) = IsGood t × (given ≤ t.given)

-- ---- what is cut off

abbrev pub CutIs : List Piece → Option Cut → Type 0
CutIs ps None = Unit {0}
CutIs ps (Some cut) = ps ≡ cut.prefix ++ (cut.ender ∷ cut.rest)

after_is : (p : Piece) (ps : List Piece) (o : Option Cut) → CutIs ps o → CutIs (p ∷ ps) (after_piece p o)
after_is p ps None h = tt
after_is p ps (Some cut) h = ap (λ qs. p ∷ qs) h

pub cut_is : (e : Extent) (d : ℕ) (ps : List Piece) → CutIs ps (cut_at e d ps)
unfolding cut_at
cut_is e d [] = tt
cut_is e d (p ∷ ps) =
    let later : CutIs (p ∷ ps) (after_piece p (cut_at e (depth_after e (word_at p.tokens) d) ps)) = after_is p ps (cut_at e (depth_after e (word_at p.tokens) d) ps) (cut_is e (depth_after e (word_at p.tokens) d) ps) in
    elim (ends e (word_at p.tokens) && (d == 0)) as (λ b. CutIs (p ∷ ps) (cond b (Some (record { prefix = []; ender = p; rest = ps })) (after_piece p (cut_at e (depth_after e (word_at p.tokens) d) ps)))) [
      | true ↦ refl
      | false ↦ later
    ]

-- what stands in front and behind is a part of the text
pub cut_sub : (ps : List Piece) (cut : Cut) → ps ≡ cut.prefix ++ (cut.ender ∷ cut.rest) → Sub (cut.prefix ++ cut.rest) ps
cut_sub ps cut e = subst (λ qs. Sub (cut.prefix ++ cut.rest) qs) (sym e) (sub_append cut.prefix cut.prefix cut.rest (cut.ender ∷ cut.rest) (sub_same cut.prefix) (Drops cut.ender cut.rest cut.rest (sub_same cut.rest)))

pub rest_sub : (ps : List Piece) (cut : Cut) → ps ≡ cut.prefix ++ (cut.ender ∷ cut.rest) → Sub cut.rest ps
rest_sub ps cut e = subst (λ qs. Sub cut.rest qs) (sym e) (sub_append [] cut.prefix cut.rest (cut.ender ∷ cut.rest) (sub_none cut.prefix) (Drops cut.ender cut.rest cut.rest (sub_same cut.rest)))

pub prefix_sub : (ps : List Piece) (cut : Cut) → ps ≡ cut.prefix ++ (cut.ender ∷ cut.rest) → Sub cut.prefix ps
prefix_sub ps cut e = subst (λ qs. Sub cut.prefix qs) (sym e) (subst (λ qs. Sub qs (cut.prefix ++ (cut.ender ∷ cut.rest))) (append-nil cut.prefix) (sub_append cut.prefix cut.prefix [] (cut.ender ∷ cut.rest) (sub_same cut.prefix) (sub_none (cut.ender ∷ cut.rest))))

abbrev pub KeptSub : List Piece → Option (List Piece × List Piece) → Type 0
KeptSub ps None = Unit {0}
KeptSub ps (Some p) = Sub (p.0 ++ p.1) ps

-- a text behind the end of the first part
behind : (ps prefix qs : List Piece) (ender : Piece) (rest : List Piece) → ps ≡ prefix ++ (ender ∷ rest) → Sub qs rest → Sub (prefix ++ qs) ps
behind ps prefix qs ender rest e h = subst (λ rs. Sub (prefix ++ qs) rs) (sym e) (sub_append prefix prefix qs (ender ∷ rest) (sub_same prefix) (Drops ender qs rest h))

third_sub : (ps : List Piece) (prefix : List Piece) (ender last : Piece) (rest : List Piece) (o : Option Cut) → CutIs rest o → ((qs : List Piece) → Sub qs (last ∷ rest) → Sub (prefix ++ qs) ps) → KeptSub ps (kept_before (prefix ++ last ∷ []) o)
third_sub ps prefix ender last rest None h put = tt
third_sub ps prefix ender last rest (Some cut) h put =
    subst (λ qs. Sub qs ps) (sym (append_assoc prefix (last ∷ []) cut.rest)) (put (last ∷ cut.rest) (Keeps last cut.rest rest (rest_sub rest cut h)))

second_sub : (ps prefix : List Piece) (ender : Piece) (rest : List Piece) (o : Option Cut) → ps ≡ prefix ++ (ender ∷ rest) → CutIs rest o → KeptSub ps (second_part prefix o)
second_sub ps prefix ender rest None e h = tt
second_sub ps prefix ender rest (Some cut) e h =
    elim (is_endif (word_at cut.ender.tokens)) as (λ b. KeptSub ps (cond b (Some (prefix, cut.rest)) (kept_before (prefix ++ cut.ender ∷ []) (cut_at Condition 0 cut.rest)))) [
      | true ↦ behind ps prefix cut.rest ender rest e (rest_sub rest cut h)
      | false ↦ third_sub ps prefix ender cut.ender cut.rest (cut_at Condition 0 cut.rest) (cut_is Condition 0 cut.rest)
          (λ qs k. behind ps prefix qs ender rest e (subst (λ rs. Sub qs rs) (sym h) (sub_append [] cut.prefix qs (cut.ender ∷ cut.rest) (sub_none cut.prefix) k)))
    ]

else_sub : (ps rest : List Piece) (o : Option Cut) → ((qs : List Piece) → Sub qs rest → Sub qs ps) → CutIs rest o → KeptSub ps (else_part o)
else_sub ps rest None put h = tt
else_sub ps rest (Some cut) put h = put (cut.prefix ++ cut.rest) (cut_sub rest cut h)

of_sub : (holds : Bool) (ps : List Piece) (o : Option Cut) → CutIs ps o → KeptSub ps (kept_of holds o)
of_sub holds ps None h = tt
of_sub true ps (Some cut) h =
    elim (is_endif (word_at cut.ender.tokens)) as (λ b. KeptSub ps (cond b (Some (cut.prefix, cut.rest)) (second_part cut.prefix (cut_at Part 0 cut.rest)))) [
      | true ↦ cut_sub ps cut h
      | false ↦ second_sub ps cut.prefix cut.ender cut.rest (cut_at Part 0 cut.rest) h (cut_is Part 0 cut.rest)
    ]
of_sub false ps (Some cut) h =
    elim (is_endif (word_at cut.ender.tokens)) as (λ b. KeptSub ps (cond b (Some ([], cut.rest)) (else_part (cut_at Condition 0 cut.rest)))) [
      | true ↦ rest_sub ps cut h
      | false ↦ else_sub ps cut.rest (cut_at Condition 0 cut.rest) (λ qs k. subst (λ rs. Sub qs rs) (sym h) (sub_append [] cut.prefix qs (cut.ender ∷ cut.rest) (sub_none cut.prefix) (Drops cut.ender qs cut.rest k))) (cut_is Condition 0 cut.rest)
    ]

pub kept_sub : (holds : Bool) (ps : List Piece) → KeptSub ps (kept holds ps)
unfolding kept
kept_sub holds ps = of_sub holds ps (cut_at Part 0 ps) (cut_is Part 0 ps)

-- ---- one more line

counted_good : (number given : ℕ) (s : State) → given ≤ s.given → ((s.left == 0) ≡ false → IsGood (record s { left = s.left - 1 })) → NextGood given (counted number s)
counted_good number given s le h = choice (s.left == 0) refl
  where
    choice : (b : Bool) → (s.left == 0) ≡ b → NextGood given (cond b (Fault number 4) (Counted (record s { left = s.left - 1 })))
    choice true e = tt
    choice false e = (h e, le)

less_good : (s : State) → IsGood s → IsGood (record s { left = s.left - 1 })
less_good s h = record { old = old_less s.left s.ahead h.old; tidy = h.tidy; macros = h.macros; few = h.few }

-- ---- new marks

pub own_turns : (left : ℕ) → (left == 0) ≡ false → IsOwn (Turns left) left
own_turns left some = record {
  own = eq-eqb left left refl;
  plain = λ xs. refl;
  fresh = fresh;
  older = let pos : 0 < left = some_left left some in lt-ltb (left - 1) left (omega arith);
}
  where
    some_left : (n : ℕ) → (n == 0) ≡ false → 0 < n
    some_left n g = grind arith

    fresh : (m : Mark) → is_older left m ≡ true → same_mark (Turns left) m ≡ false
    fresh (Call n) e = refl
    fresh (Turns n) e = let lt : left < n = ltb-true left n e in ne_eqb left n (λ f. omega arith)
    fresh If e = refl

pub own_call : (left : ℕ) → (left == 0) ≡ false → IsOwn (Call left) left
own_call left some = record {
  own = eq-eqb left left refl;
  plain = λ xs. refl;
  fresh = fresh;
  older = let pos : 0 < left = some_left left some in lt-ltb (left - 1) left (omega arith);
}
  where
    some_left : (n : ℕ) → (n == 0) ≡ false → 0 < n
    some_left n g = grind arith

    fresh : (m : Mark) → is_older left m ≡ true → same_mark (Call left) m ≡ false
    fresh (Call n) e = let lt : left < n = ltb-true left n e in ne_eqb left n (λ f. omega arith)
    fresh (Turns n) e = refl
    fresh If e = refl

-- lines with the new mark in front of older ones
new_good : (x : Mark) (s : State) (ps : List Piece) → IsOwn x s.left → AllNew x s.left ps → IsGood s → IsGood (record s { ahead = ps ++ s.ahead; left = s.left - 1 })
new_good x s ps own new h = record {
  old = old_append (s.left - 1) ps s.ahead (new_old x s.left ps own new) (old_less s.left s.ahead h.old);
  tidy = tidy_new x s.left ps s.ahead own new h.old h.tidy;
  macros = h.macros;
  few = h.few;
}

-- lines that are filled keep their marks
abbrev IsNewPair : Mark → ℕ → Piece → Piece → Type 0
IsNewPair x left p q = (q ≡ p) × IsNew x left p

new_fills : (x : Mark) (left : ℕ) → Fills (IsNewPair x left) (IsNewPair x left)
new_fills x left = record {
  number = λ p q h. ap (λ (r : Piece). r.number) h.0;
  tokens = λ p q h. ap (λ (r : Piece). r.tokens) h.0;
  kept = λ p q h. h;
  put = λ p q ts h. (ap (λ (r : Piece). record r { tokens = Some ts }) h.0, h.1);
}

to_pairs : (x : Mark) (left : ℕ) (ps : List Piece) → AllNew x left ps → Pairs (IsNewPair x left) ps ps
to_pairs x left [] h = tt
to_pairs x left (p ∷ ps) h = ((refl, h.0), to_pairs x left ps h.1)

from_pairs : (x : Mark) (left : ℕ) (ps qs : List Piece) → Pairs (IsNewPair x left) ps qs → AllNew x left ps
from_pairs x left [] [] h = tt
from_pairs x left [] (q ∷ qs) h = absurd h
from_pairs x left (p ∷ ps) [] h = absurd h
from_pairs x left (p ∷ ps) (q ∷ qs) h = (h.0.1, from_pairs x left ps qs h.1)

abbrev FilledNew : Mark → ℕ → Filled → Type 0
FilledNew x left (Ok ps) = AllNew x left ps
FilledNew x left (Err f) = Unit {0}

filled_new : (x : Mark) (left : ℕ) (a : Filled) → FilledPairs (IsNewPair x left) a a → FilledNew x left a
filled_new x left (Ok ps) h = from_pairs x left ps ps h
filled_new x left (Err f) h = tt

body_new : (x : Mark) (left : ℕ) (f : Formals) (args : List (List Token)) (given : ℕ) (ps : List Piece) → AllNew x left ps → FilledNew x left (fill_body f args given ps)
body_new x left f args given ps h = filled_new x left (fill_body f args given ps) (body_pairs (IsNewPair x left) (IsNewPair x left) f args given ps ps (new_fills x left) (to_pairs x left ps h))

turns_new : (x : Mark) (left : ℕ) (f : Formals) (head : Piece) (ps : List Piece) (args : List (List Token)) → IsNew x left head → AllNew x left ps → FilledNew x left (fill_turns f head ps args)
turns_new x left f head ps args k h = filled_new x left (fill_turns f head ps args) (turns_pairs (IsNewPair x left) (IsNewPair x left) f head head ps ps args (new_fills x left) (refl, k) (to_pairs x left ps h))

marked_new : (x : Mark) (left : ℕ) (ps : List Piece) → IsOld left ps → AllNew x left (map (marked x) ps)
marked_new x left [] h = tt
marked_new x left (p ∷ ps) h = let both : (is_old left p ≡ true) × IsOld left ps = and_parts _ _ h in ((p.from, (refl, both.0)), marked_new x left ps both.1)

lines_new : (left : ℕ) (prefix : List Piece) → IsOld left prefix → AllNew (Turns left) left (turn_lines left prefix)
lines_new left prefix h = marked_new (Turns left) left (filter is_line prefix) (old_sub left (filter is_line prefix) prefix (sub_filter is_line prefix) h)

call_lines_new : (x : Mark) (left number : ℕ) (from : List Mark) (ls : List (List Token)) → list_all (is_older left) from ≡ true → AllNew x left (map (body_line number (x ∷ from)) ls)
call_lines_new x left number from [] h = tt
call_lines_new x left number from (l ∷ ls) h = ((from, (refl, h)), call_lines_new x left number from ls h)

repeated_new : (x : Mark) (left n : ℕ) (ps : List Piece) → AllNew x left ps → AllNew x left (repeated n ps)
unfolding repeated
repeated_new x left zero ps h = tt
repeated_new x left (suc n) ps h = new_append x left ps (repeated n ps) h (repeated_new x left n ps h)

-- ---- each kind of rewriting, at a line with older marks

same_good : (s : State) (number n : ℕ) (from : List Mark) (text : Filled) → IsGood s → list_all (is_older s.left) from ≡ true → FilledNew (Turns s.left) s.left text → NextGood s.given (same_turns s number from n text)
same_good s number n from (Err f) h old new = tt
same_good s number n from (Ok ps) h old new =
    let later : AllNew (Turns s.left) s.left (repeated (n - 1) (turn_head s.left number from ∷ ps)) = repeated_new (Turns s.left) s.left (n - 1) (turn_head s.left number from ∷ ps) ((from, (refl, old)), new) in
    counted_good number s.given (record s { ahead = ps ++ (repeated (n - 1) (turn_head s.left number from ∷ ps) ++ s.ahead) }) (omega arith)
    (λ some. subst (λ qs. IsGood (record s { ahead = qs; left = s.left - 1 })) (append_assoc ps (repeated (n - 1) (turn_head s.left number from ∷ ps)) s.ahead)
    (new_good (Turns s.left) s (ps ++ repeated (n - 1) (turn_head s.left number from ∷ ps)) (own_turns s.left some) (new_append (Turns s.left) s.left ps _ new later) h))

turns_good : (s : State) (number n : ℕ) (from : List Mark) (prefix : List Piece) → IsGood s → list_all (is_older s.left) from ≡ true → IsOld s.left prefix → NextGood s.given (turns_of s number from n prefix)
turns_good s number n from prefix h old k =
    elim (n == 0) as (λ b. NextGood s.given (cond b (Quiet s) (same_turns s number from n (fill_body (only []) [] 0 (turn_lines s.left prefix))))) [
      | true ↦ (h, omega arith)
      | false ↦ same_good s number n from (fill_body (only []) [] 0 (turn_lines s.left prefix)) h old (body_new (Turns s.left) s.left (only []) [] 0 (turn_lines s.left prefix) (lines_new s.left prefix k))
    ]

-- a place with a part of the text
part_good : (s : State) (qs : List Piece) → Sub qs s.ahead → IsGood s → IsGood (record s { ahead = qs })
part_good s qs k h = record { old = old_sub s.left qs s.ahead k h.old; tidy = tidy_sub qs s.ahead k h.tidy; macros = h.macros; few = h.few }

rept_good : (s : State) (number : ℕ) (from : List Mark) (value : Result ℕ ℕ) (o : Option Cut) → IsGood s → list_all (is_older s.left) from ≡ true → CutIs s.ahead o → NextGood s.given (rept_next s number from value o)
rept_good s number from value None h old k = tt
rept_good s number from (Err code) (Some cut) h old k = tt
rept_good s number from (Ok n) (Some cut) h old k =
    turns_good (record s { ahead = cut.rest }) number n from cut.prefix (part_good s cut.rest (rest_sub s.ahead cut k) h) old (old_sub s.left cut.prefix s.ahead (prefix_sub s.ahead cut k) h.old)

begun_good : (s : State) (number : ℕ) (text : Filled) → IsGood s → FilledNew (Turns s.left) s.left text → NextGood s.given (begun s number text)
begun_good s number (Err f) h new = tt
begun_good s number (Ok []) h new = (h, omega arith)
begun_good s number (Ok (p ∷ ps)) h new = counted_good number s.given (record s { ahead = ps ++ s.ahead }) (omega arith) (λ some. new_good (Turns s.left) s ps (own_turns s.left some) new.1 h)

irp_good : (s : State) (number : ℕ) (from : List Mark) (f : Option (List ℕ × List (List Token))) (o : Option Cut) → IsGood s → list_all (is_older s.left) from ≡ true → CutIs s.ahead o → NextGood s.given (irp_next s number from f o)
irp_good s number from None o h old k = tt
irp_good s number from (Some f) None h old k = tt
irp_good s number from (Some f) (Some cut) h old k =
    begun_good (record s { ahead = cut.rest }) number (fill_turns (only (f.0 ∷ [])) (turn_head s.left number from) (turn_lines s.left cut.prefix) f.1) (part_good s cut.rest (rest_sub s.ahead cut k) h)
    (turns_new (Turns s.left) s.left (only (f.0 ∷ [])) (turn_head s.left number from) (turn_lines s.left cut.prefix) f.1 (from, (refl, old)) (lines_new s.left cut.prefix (old_sub s.left cut.prefix s.ahead (prefix_sub s.ahead cut k) h.old)))

exitm_good : (s : State) (number : ℕ) (o : Option Mark) → IsGood s → NextGood s.given (exitm_step s number o)
exitm_good s number None h = tt
exitm_good s number (Some m) h = (part_good s (left_out m s.ahead) (sub_left m s.ahead) h, omega arith)

macro_good : (s : State) (number : ℕ) (d : Option (List ℕ × List (List ℕ))) (o : Option Cut) → IsGood s → CutIs s.ahead o → NextGood s.given (macro_next s number d o)
macro_good s number None o h k = tt
macro_good s number (Some d) None h k = tt
macro_good s number (Some d) (Some cut) h k =
    let rest : IsGood (record s { ahead = cut.rest }) = part_good s cut.rest (rest_sub s.ahead cut k) h in
    (record { old = rest.old; tidy = rest.tidy; macros = insert_fine s.macros d.0 (macro_of d.1 (texts_of cut.prefix)) h.macros (macro_fine d.1 (texts_of cut.prefix)); few = h.few }, omega arith)

if_good : (s : State) (number : ℕ) (fault : Option ℕ) (o : Option (List Piece × List Piece)) → IsGood s → KeptSub s.ahead o → NextGood s.given (if_next s number fault o)
if_good s number fault None h k = tt
if_good s number (Some code) (Some p) h k = tt
if_good s number None (Some p) h k =
    let part : IsGood (record s { ahead = p.0 ++ p.1 }) = part_good s (p.0 ++ p.1) k h in
    let parts : IsOld s.left p.0 × IsOld s.left p.1 = all_append (λ q. list_all (is_older s.left) q.from) p.0 p.1 part.old in
    (record { old = old_append s.left (map (marked If) p.0) p.1 (old_if s.left p.0 parts.0) parts.1; tidy = tidy_if p.0 p.1 part.tidy; macros = h.macros; few = h.few }, omega arith)

call_good : (s : State) (number locals : ℕ) (fault : Option ℕ) (text : Filled) → IsGood s → (fault ≡ None → ((s.left == 0) ≡ false) × (s.given + locals < 10 ^ 29)) → FilledNew (Call s.left) s.left text → NextGood s.given (call_next s number locals fault text)
call_good s number locals (Some code) text h goes new = tt
call_good s number locals None (Err f) h goes new = tt
call_good s number locals None (Ok ps) h goes new =
    let next : IsGood (record s { ahead = ps ++ s.ahead; left = s.left - 1 }) = new_good (Call s.left) s ps (own_call s.left (goes refl).0) new h in
    (record { old = next.old; tidy = next.tidy; macros = next.macros; few = (goes refl).1 }, omega arith)

none_both : (c d : Option ℕ) → lesser_number c d ≡ None → (c ≡ None) × (d ≡ None)
none_both None d e = (refl, e)
none_both (Some c) None e = absurd (cc)
none_both (Some c) (Some d) e = absurd (cc)

none_if : (b : Bool) (code : ℕ) → code_if b code ≡ None → b ≡ false
none_if true code e = absurd (cc)
none_if false code e = refl

none_second_last : (a b c d e f : Option ℕ) → lesser_number a (lesser_number b (lesser_number c (lesser_number d (lesser_number e f)))) ≡ None → (b ≡ None) × (f ≡ None)
none_second_last a b c d e f h =
    let second : (b ≡ None) × (lesser_number c (lesser_number d (lesser_number e f)) ≡ None) = none_both b (lesser_number c (lesser_number d (lesser_number e f))) (none_both a (lesser_number b (lesser_number c (lesser_number d (lesser_number e f)))) h).1 in
    let fourth : (d ≡ None) × (lesser_number e f ≡ None) = none_both d (lesser_number e f) (none_both c (lesser_number d (lesser_number e f)) second.1).1 in
    (second.0, (none_both e f fourth.1).1)

-- a call whose names do not run out leaves few given
few_given : (given count : ℕ) → given < 10 ^ 29 → names_run_out given count ≡ false → given + count < 10 ^ 29
few_given given count h e = grind (arith, nat_tests)

-- a call without a fault has a line left, and names
call_goes : (left given : ℕ) (from : List Mark) (m : Macro) (args : List (List Token)) (text : Filled) → given < 10 ^ 29 → call_fault left given from m args text ≡ None →
    ((left == 0) ≡ false) × (given + m.formals.locals.count < 10 ^ 29)
call_goes left given from m args text few e =
    let parts = none_second_last (text_code text) (code_if (left == 0) many_lines) (code_if (nat_le 16 (count_by is_call from)) too_deep) (code_if (not m.sound) no_match) (code_if (nat_lt (length m.formals.params) (length args)) many_arguments)
    (code_if (names_run_out given m.formals.locals.count) no_statement) e in
    (none_if (left == 0) many_lines parts.0, few_given given m.formals.locals.count few (none_if (names_run_out given m.formals.locals.count) no_statement parts.1))

call_step_good : (s : State) (number : ℕ) (from : List Mark) (m : Macro) (args : List (List Token)) → IsGood s → list_all (is_older s.left) from ≡ true → NextGood s.given (call_step s number from m args)
call_step_good s number from m args h old =
    call_good s number m.formals.locals.count (call_fault s.left s.given from m args (call_text s.left s.given number from m args)) (call_text s.left s.given number from m args) h
    (call_goes s.left s.given from m args (call_text s.left s.given number from m args) h.few)
    (body_new (Call s.left) s.left m.formals args s.given (map (body_line number (Call s.left ∷ from)) m.body) (call_lines_new (Call s.left) s.left number from m.body old))

-- ---- lines that come out

plain_good : (s : State) (number : ℕ) (ts : List Token) → IsGood s → NextGood s.given (plain_step s number ts)
plain_good s number ts h = counted_good number s.given (emitted number ts (record s { values = noted ts s.values })) (omega arith) (λ _. less_good (emitted number ts (record s { values = noted ts s.values })) (record { old = h.old; tidy = h.tidy; macros = h.macros; few = h.few }))

ended_good : (given : ℕ) (n : Next) → NextGood given (ended n)
ended_good given (Fault line code) = tt
ended_good given (Ended lines) = tt
ended_good given (Quiet t) = tt
ended_good given (Counted t) = tt

other_good : (s : State) (number : ℕ) (from : List Mark) (ts : List Token) (o : Option Macro) → IsGood s → list_all (is_older s.left) from ≡ true → NextGood s.given (other_step s number from ts o)
other_good s number from ts None h old = plain_good s number ts h
other_good s number from ts (Some m) h old = call_step_good s number from m (arguments (drop 1 ts)) h old

word_good : (s : State) (number : ℕ) (from : List Mark) (ts : List Token) (w : Word) → IsGood s → list_all (is_older s.left) from ≡ true → NextGood s.given (word_step s number from ts w)
word_good s number from ts words.Macro h old = macro_good s number (definition ts) (cut_at Body 0 s.ahead) h (cut_is Body 0 s.ahead)
word_good s number from ts words.Exitm h old = exitm_good s number (innermost from) h
word_good s number from ts words.If h old = if_good s number _ _ h (kept_sub _ s.ahead)
word_good s number from ts words.Rept h old = rept_good s number from (operand (drop 1 ts) s.values) (cut_at Body 0 s.ahead) h old (cut_is Body 0 s.ahead)
word_good s number from ts words.Irp h old = irp_good s number from (over_arguments (drop 1 ts)) (cut_at Body 0 s.ahead) h old (cut_is Body 0 s.ahead)
word_good s number from ts words.End h old = ended_good s.given (counted number (emitted number ts s))
word_good s number from ts words.Other h old = other_good s number from ts (called s.macros ts) h old
word_good s number from ts words.Local h old = tt
word_good s number from ts words.Else h old = tt
word_good s number from ts words.Endif h old = tt
word_good s number from ts words.Endm h old = tt

label_good : (s : State) (number : ℕ) (from : List Mark) (ts : List Token) → IsGood s → list_all (is_older s.left) from ≡ true → ((m : Mark) → innermost from ≡ Some m → Runs m s.ahead) → NextGood s.given (label_step s number from ts)
label_good s number from ts h old runs =
    counted_good number s.given (emitted number (take 2 ts) (record s { ahead = record { number = number; from = from; tokens = Some (drop 2 ts) } ∷ s.ahead; labelled = true })) (omega arith)
    (λ _. less_good (emitted number (take 2 ts) (record s { ahead = record { number = number; from = from; tokens = Some (drop 2 ts) } ∷ s.ahead; labelled = true }))
    (record { old = both_true _ _ old h.old; tidy = (runs, h.tidy); macros = h.macros; few = h.few }))

labelled_good : (s : State) (number : ℕ) (from : List Mark) (ts : List Token) → IsGood s → list_all (is_older s.left) from ≡ true → ((m : Mark) → innermost from ≡ Some m → Runs m s.ahead) → NextGood s.given (labelled_step s number from ts)
labelled_good s number from ts h old runs =
    elim (is_replaced s.macros (drop 2 ts)) as (λ b. NextGood s.given (cond b (label_step s number from ts) (cond (is_end (behind_label (drop 2 ts))) (end_step s number ts) (plain_step s number ts)))) [
      | true ↦ label_good s number from ts h old runs
      | false ↦ elim (is_end (behind_label (drop 2 ts))) as (λ b. NextGood s.given (cond b (end_step s number ts) (plain_step s number ts))) [
        | true ↦ ended_good s.given (counted number (emitted number ts s))
        | false ↦ plain_good s number ts h
      ]
    ]

line_good : (s : State) (labelled : Bool) (number : ℕ) (from : List Mark) (ts : List Token) → IsGood s → list_all (is_older s.left) from ≡ true → ((m : Mark) → innermost from ≡ Some m → Runs m s.ahead) → NextGood s.given (line_step s labelled number from ts)
unfolding line_step
line_good s true number from ts h old runs = word_good s number from ts (behind_label ts) h old
line_good s false number from ts h old runs =
    elim (has_label ts) as (λ b. NextGood s.given (cond b (labelled_step s number from ts) (word_step s number from ts (unlabelled ts)))) [
      | true ↦ labelled_good s number from ts h old runs
      | false ↦ word_good s number from ts (unlabelled ts) h old
    ]

piece_good : (s : State) (labelled : Bool) (number : ℕ) (from : List Mark) (o : Option (List Token)) → IsGood s → list_all (is_older s.left) from ≡ true → ((m : Mark) → innermost from ≡ Some m → Runs m s.ahead) → NextGood s.given (piece_step s labelled number from o)
piece_good s labelled number from None h old runs = counted_good number s.given s (omega arith) (λ _. less_good s h)
piece_good s labelled number from (Some ts) h old runs = line_good s labelled number from ts h old runs

prefix_good : (s : State) (ps : List Piece) → IsOld s.left ps → Tidy ps → AllFine s.macros → s.given < 10 ^ 29 → NextGood s.given (prefix_step s ps)
prefix_good s [] old tidy fine few = tt
prefix_good s (p ∷ ps) old tidy fine few =
    let both : (is_old s.left p ≡ true) × IsOld s.left ps = and_parts _ _ old in
    piece_good (record s { ahead = ps; labelled = false }) s.labelled p.number p.from p.tokens (record { old = both.1; tidy = tidy.1; macros = fine; few = few }) both.0 tidy.0

step_good : (s : State) → IsGood s → NextGood s.given (step s)
step_good s h = prefix_good s s.ahead h.old h.tidy h.macros h.few

-- ---- along the way

pub goes_good : (s t : State) → IsGood s → Goes s t → IsGood t × (s.given ≤ t.given)
goes_good s t h (inl e) = subst (NextGood s.given) e (step_good s h)
goes_good s t h (inr e) = subst (NextGood s.given) e (step_good s h)

by_good : (n : ℕ) (s u : State) → IsGood s → GoesBy n s u → IsGood u × (s.given ≤ u.given)
unfolding GoesBy
by_good zero s u h e = subst (λ t. IsGood t × (s.given ≤ t.given)) e (h, omega arith)
by_good (suc n) s u h g =
    let first : IsGood g.0 × (s.given ≤ g.0.given) = goes_good s g.0 h g.1.0 in
    let later : IsGood u × (g.0.given ≤ u.given) = by_good n g.0 u first.0 g.1.1 in
    (later.0, omega (arith, first.1, later.1))

pub leads_good : (s u : State) → IsGood s → Leads s u → IsGood u × (s.given ≤ u.given)
leads_good s u h l = by_good l.0 s u h l.1

first_old : (left : ℕ) (lines : List Line) → IsOld left (map first_piece lines)
first_old left [] = refl
first_old left (l ∷ ls) = first_old left ls

first_tidy : (lines : List Line) → Tidy (map first_piece lines)
first_tidy [] = tt
first_tidy (l ∷ ls) = ((λ m e. absurd (cc)), first_tidy ls)

start_good : (lines : List Line) → IsGood (start lines)
start_good lines = record { old = first_old 65535 lines; tidy = first_tidy lines; macros = λ n m e. absurd (nothing n m e); few = omega arith }
  where
    nothing : (n : List ℕ) (m : Macro) → fm.get (start lines).macros n ≡ Some m → ⊥
    nothing n m e = let none : fm.get (start lines).macros n ≡ None = fm.get-empty _ n in cc

pub reached_good : (s : State) → IsReached s → IsGood s
reached_good s r = (leads_good (start r.0) s (start_good r.0) r.1).0
