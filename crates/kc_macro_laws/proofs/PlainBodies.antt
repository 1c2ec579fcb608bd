-- Bodies of which the lines stay as they are.
use Rattle.std.proofs.Common.{◌≡◌, ℕ, Bool, true, false, not, ◌&&◌, cond, List, [], ◌∷◌, ◌++◌, length, map, Some, Ok, ◌⊎◌, refl, ap, ◌∙◌, subst, arith, add-zero}
use Rattle.std.specs.Prelude.{nat_le, position}
use Rattle.std.specs.List.{list_all, list_any}
use Rattle.std.specs.Str.{bytes_eq}
use Rattle.std.specs.FinMap as fm
use Rattle.std.proofs.lemmas.Bool.{and_parts, or_parts, not-true, leb-true, le-ltb}
use Rattle.kc_lex.specs.declared.token.Token.{Token}
use Rattle.kc_lex.specs.Kinds.{is_name_kind}
use Rattle.kc_macro_body.specs.declared.macros.Macro.{Macro}
use Rattle.kc_macro_body.specs.Words.{word_of, is_local}
use Rattle.kc_macro_body.specs.Bodies.{depth_after, declares, plain_lines, local_names, placed, macro_of, only, no_locals}
use Rattle.kc_macro_body.specs.Filling.{is_join, stands_for, local_or, argument_or, replaced, joined, joined_on, before, is_long, filled}
use Rattle.kc_macro_input.specs.declared.piece.Mark.{Mark}
use Rattle.kc_macro_input.specs.Pieces.{body_line}
use Rattle.kc_macro_input.specs.Filled.{all_together, fill_body}
use Rattle.kc_macro.specs.Expansion.{run_out}
use Rattle.kc_macro_laws.specs.Course.{at_text, on_text, one_counted, IsTooDeep}
use Rattle.kc_macro_laws.specs.Constructs.{is_exitm, has_no_exitm, is_kept, IsCall, PlainCallIsItsLines}
use Rattle.kc_macro_laws.proofs.Constructs.{call_is_its_body}

record Stays (ts : List Token) : Type 0 where
  pub no_join : list_any is_join ts ≡ false
  pub no_local : is_local (word_of ts) ≡ false
  pub no_exitm : is_exitm (word_of ts) ≡ false
  pub short : nat_le (length ts) 255 ≡ true

stays : (ts : List Token) → is_kept ts ≡ true → Stays ts
stays ts h =
    let a : (not (list_any is_join ts) ≡ true) × ((not (is_local (word_of ts)) && (not (is_exitm (word_of ts)) && nat_le (length ts) 255)) ≡ true) = and_parts _ _ h in
    let b : (not (is_local (word_of ts)) ≡ true) × ((not (is_exitm (word_of ts)) && nat_le (length ts) 255) ≡ true) = and_parts _ _ a.1 in
    let c : (not (is_exitm (word_of ts)) ≡ true) × (nat_le (length ts) 255 ≡ true) = and_parts _ _ b.1 in
    record { no_join = not-true _ a.0; no_local = not-true _ b.0; no_exitm = not-true _ c.0; short = c.1 }

-- ---- the macro of such lines

undeclared : (d : ℕ) (ts : List Token) → is_local (word_of ts) ≡ false → declares d ts ≡ false
undeclared d ts h = rw h refl

lines_stay : (d : ℕ) (lines : List (List Token)) → list_all is_kept lines ≡ true → plain_lines d lines ≡ lines
unfolding plain_lines
lines_stay d [] h = refl
lines_stay d (l ∷ ls) h =
    let both : (is_kept l ≡ true) × (list_all is_kept ls ≡ true) = and_parts _ _ h in
    rw (undeclared d l (stays l both.0).no_local) (ap (λ ts. l ∷ ts) (lines_stay (depth_after (word_of l) d) ls both.1))

no_names : (d : ℕ) (lines : List (List Token)) → list_all is_kept lines ≡ true → local_names d lines ≡ Some []
unfolding local_names
no_names d [] h = refl
no_names d (l ∷ ls) h =
    let both : (is_kept l ≡ true) × (list_all is_kept ls ≡ true) = and_parts _ _ h in
    rw (undeclared d l (stays l both.0).no_local) (no_names (depth_after (word_of l) d) ls both.1)

macro_is : (lines : List (List Token)) → list_all is_kept lines ≡ true → macro_of [] lines ≡ record { formals = only []; sound = true; body = lines }
unfolding macro_of placed
macro_is lines h = rw (no_names 0 lines h, lines_stay 0 lines h) refl

-- ---- a line

token_stays : (given : ℕ) (t : Token) → stands_for (only []) [] given t ≡ t ∷ []
token_stays given t = choice (is_name_kind t.kind)
  where
    choice : (b : Bool) → cond b (argument_or (local_or t given (fm.get no_locals.places t.text)) [] (position (bytes_eq t.text) [])) (t ∷ []) ≡ t ∷ []
    choice true = rw (fm.get-empty _ t.text) refl
    choice false = refl

all_stay : (given : ℕ) (ts : List Token) → replaced (only []) [] given ts ≡ ts
unfolding replaced
all_stay given [] = refl
all_stay given (t ∷ ts) = rw (token_stays given t, all_stay given ts) refl

joined_stays : (t : Token) (ts : List Token) → list_any is_join ts ≡ false → joined_on t ts ≡ Some (t ∷ ts)
unfolding joined_on
joined_stays t [] h = refl
joined_stays t (a ∷ ts) h =
    let both : (is_join a ≡ false) × (list_any is_join ts ≡ false) = or_parts _ _ h in
    rw both.0 (ap (before t) (joined_stays a ts both.1))

joins_stay : (ts : List Token) → list_any is_join ts ≡ false → joined ts ≡ Some ts
joins_stay [] h = refl
joins_stay (t ∷ ts) h = let both : (is_join t ≡ false) × (list_any is_join ts ≡ false) = or_parts _ _ h in rw both.0 (joined_stays t ts both.1)

pub filled_stays : (given : ℕ) (ts : List Token) → list_any is_join ts ≡ false → nat_le (length ts) 255 ≡ true → filled (only []) [] given ts ≡ Ok ts
unfolding filled
filled_stays given ts none short =
    let few : is_long ts ≡ false = le-ltb 255 (length ts) (leb-true (length ts) 255 short) in
    rw (all_stay given ts, joins_stay ts none, few) refl

-- ---- a body

body_stays : (given number : ℕ) (from : List Mark) (lines : List (List Token)) → list_all is_kept lines ≡ true → fill_body (only []) [] given (map (body_line number from) lines) ≡ Ok (map (body_line number from) lines)
unfolding all_together
body_stays given number from [] h = refl
body_stays given number from (l ∷ ls) h =
    let both : (is_kept l ≡ true) × (list_all is_kept ls ≡ true) = and_parts _ _ h in
    let line : Stays l = stays l both.0 in
    rw (filled_stays given l line.no_join line.short, body_stays given number from ls both.1) refl

no_exits : (number : ℕ) (from : List Mark) (lines : List (List Token)) → list_all is_kept lines ≡ true → has_no_exitm (map (body_line number from) lines) ≡ true
no_exits number from [] h = refl
no_exits number from (l ∷ ls) h =
    let both : (is_kept l ≡ true) × (list_all is_kept ls ≡ true) = and_parts _ _ h in
    rw ((stays l both.0).no_exitm) (no_exits number from ls both.1)

pub plain_call_is_its_lines : PlainCallIsItsLines
plain_call_is_its_lines s number from name rest lines first named kept old =
    let macro : macro_of [] lines ≡ record { formals = only []; sound = true; body = lines } = macro_is lines kept in
    let call : IsCall s (name ∷ []) (record { formals = only []; sound = true; body = lines }) = record { first = first; named = named ∙ ap (λ (m : Macro). Some m) macro; sound = refl; few = omega arith } in
    subst (λ n. (run_out (at_text s (body_line number from (name ∷ []) ∷ rest)) ≡ run_out (record (on_text s (one_counted number from ∷ (map (body_line number from) lines ++ rest))) { given = n })) ⊎ IsTooDeep (run_out (at_text s (body_line number from (name ∷ []) ∷ rest))))
    (add-zero s.given)
    (call_is_its_body s number from (name ∷ []) rest (record { formals = only []; sound = true; body = lines }) (map (body_line number from) lines) call refl old (body_stays s.given number from lines kept) (no_exits number from lines kept))
