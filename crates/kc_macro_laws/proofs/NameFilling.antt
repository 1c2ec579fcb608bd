-- What stands for a line of a body passes a test where the line, the arguments and the names that are made pass it.
use Rattle.std.proofs.Common.{◌≡◌, ℕ, ◌+◌, ◌-◌, Bool, true, false, ◌&&◌, ◌==◌, cond, List, [], ◌∷◌, ◌++◌, length, drop, Option, Some, None, Result, Ok, Err, refl}
use Rattle.std.specs.Prelude.{position, option_and_then}
use Rattle.std.specs.List.{list_all}
use Rattle.std.specs.Str.{bytes_eq}
use Rattle.std.specs.FinMap as fm
use Rattle.std.proofs.lemmas.Bool.{and_parts, and_from}
use Rattle.kc_lex.specs.declared.token.Token.{Token}
use Rattle.kc_lex.specs.Chars.{upper}
use Rattle.kc_lex.specs.Kinds.{is_name_kind, is_free_name, is_sign}
use Rattle.kc_lex.specs.Words.{is_name_text}
use Rattle.kc_lex.specs.Lists.{in_first}
use Rattle.kc_macro_body.specs.declared.macros.Formals.{Formals}
use Rattle.kc_macro_body.specs.Arguments.{group_depth, split_at_commas, is_group, inside, ungrouped, arguments, over_arguments}
use Rattle.kc_macro_body.specs.Bodies.{only}
use Rattle.kc_macro_body.specs.Filling.{name_token, local_name, local_or, argument_or, stands_for, replaced, is_join, one_name, before, joined_on, joined_with, joined, is_long, checked, filled}
use Rattle.kc_macro_input.specs.declared.piece.Piece.{Piece}
use Rattle.kc_macro_input.specs.Filled.{Filled, together, all_together, single, with_tokens, fill_text, fill_piece, fill_body, fill_turn, fill_turns}
use Rattle.kc_macro_laws.proofs.Tests.{all_join, all_drop, all_take, all_map, all_or, Holds, either, HoldsOk, one_ok}

-- the names that are given for the LOCAL names of a body pass, where so many were given before
pub record LocalsPass (test : Token → Bool) (f : Formals) (given : ℕ) : Type 0 where
  pub pass : (text : List ℕ) (place : ℕ) → fm.get f.locals.places text ≡ Some place → test (name_token (local_name (given + place + 1))) ≡ true

-- a repetition has none
pub only_pass : (test : Token → Bool) (params : List (List ℕ)) (given : ℕ) → LocalsPass test (only params) given
only_pass test params given = record { pass = λ text place e. absurd (nothing text place e) }
  where
    nothing : (text : List ℕ) (place : ℕ) → fm.get (only params).locals.places text ≡ Some place → ⊥
    nothing text place e = let none : fm.get (only params).locals.places text ≡ None = fm.get-empty _ text in cc

module _ (test : Token → Bool) where
  abbrev pub all_pass : List Token → Bool
  all_pass ts = list_all test ts

  one_token : (t : Token) → test t ≡ true → all_pass (t ∷ []) ≡ true
  one_token t h = and_from (test t) true h refl

  -- ---- replacing

  local_pass : (f : Formals) (given : ℕ) (t : Token) (o : Option ℕ) → LocalsPass test f given → fm.get f.locals.places t.text ≡ o → test t ≡ true → all_pass (local_or t given o) ≡ true
  local_pass f given t None l e h = one_token t h
  local_pass f given t (Some place) l e h = one_token (name_token (local_name (given + place + 1))) (l.pass t.text place e)

  argument_pass : (otherwise : List Token) (args : List (List Token)) (o : Option ℕ) → all_pass otherwise ≡ true → list_all all_pass args ≡ true → all_pass (argument_or otherwise args o) ≡ true
  argument_pass otherwise args None h k = h
  argument_pass otherwise args (Some place) h k = all_or all_pass args place [] k refl

  stands_pass : (f : Formals) (args : List (List Token)) (given : ℕ) (t : Token) → LocalsPass test f given → list_all all_pass args ≡ true → test t ≡ true → all_pass (stands_for f args given t) ≡ true
  stands_pass f args given t l k h =
      elim (is_name_kind t.kind) as (λ b. all_pass (cond b (argument_or (local_or t given (fm.get f.locals.places t.text)) args (position (bytes_eq t.text) f.params)) (t ∷ [])) ≡ true) [
        | true ↦ argument_pass (local_or t given (fm.get f.locals.places t.text)) args (position (bytes_eq t.text) f.params) (local_pass f given t (fm.get f.locals.places t.text) l refl h) k
        | false ↦ one_token t h
      ]

  replaced_pass : (f : Formals) (args : List (List Token)) (given : ℕ) (ts : List Token) → LocalsPass test f given → list_all all_pass args ≡ true → all_pass ts ≡ true → all_pass (replaced f args given ts) ≡ true
  unfolding replaced
  replaced_pass f args given [] l k h = refl
  replaced_pass f args given (t ∷ ts) l k h =
      let both : (test t ≡ true) × (all_pass ts ≡ true) = and_parts (test t) (all_pass ts) h in
      all_join test (stands_for f args given t) (replaced f args given ts) (stands_pass f args given t l k both.0) (replaced_pass f args given ts l k both.1)

  -- ---- arguments

  first_pass : (t : Token) (args : List (List Token)) → test t ≡ true → list_all all_pass args ≡ true → list_all all_pass (in_first t args) ≡ true
  first_pass t [] h k = and_from (all_pass (t ∷ [])) true (one_token t h) refl
  first_pass t (a ∷ later) h k =
      let both : (all_pass a ≡ true) × (list_all all_pass later ≡ true) = and_parts (all_pass a) (list_all all_pass later) k in
      and_from (all_pass (t ∷ a)) (list_all all_pass later) (and_from (test t) (all_pass a) h both.0) both.1

  split_pass : (depth : ℕ) (ts : List Token) → all_pass ts ≡ true → list_all all_pass (split_at_commas depth ts) ≡ true
  unfolding split_at_commas
  split_pass depth [] h = refl
  split_pass depth (t ∷ ts) h =
      let both : (test t ≡ true) × (all_pass ts ≡ true) = and_parts (test t) (all_pass ts) h in
      elim (is_sign 44 t && (depth == 0)) as (λ b. list_all all_pass (cond b ([] ∷ split_at_commas depth ts) (in_first t (split_at_commas (group_depth t depth) ts))) ≡ true) [
        | true ↦ split_pass depth ts both.1
        | false ↦ first_pass t (split_at_commas (group_depth t depth) ts) both.0 (split_pass (group_depth t depth) ts both.1)
      ]

  inside_pass : (ts : List Token) → all_pass ts ≡ true → all_pass (inside ts) ≡ true
  inside_pass ts h = all_take test (length (drop 1 ts) - 1) (drop 1 ts) (all_drop test 1 ts h)

  ungrouped_pass : (ts : List Token) → all_pass ts ≡ true → all_pass (ungrouped ts) ≡ true
  ungrouped_pass ts h = elim (is_group ts) as (λ b. all_pass (cond b (inside ts) ts) ≡ true) [ true ↦ inside_pass ts h | false ↦ h ]

  pub arguments_pass : (ts : List Token) → all_pass ts ≡ true → list_all all_pass (arguments ts) ≡ true
  arguments_pass [] h = refl
  arguments_pass (t ∷ ts) h = all_map all_pass all_pass ungrouped (split_at_commas 0 (t ∷ ts)) ungrouped_pass (split_pass 0 (t ∷ ts) h)

  abbrev pub over_passes : List ℕ × List (List Token) → Bool
  over_passes p = list_all all_pass p.1

  pub over_pass : (ts : List Token) → all_pass ts ≡ true → Holds over_passes (over_arguments ts)
  over_pass [] h = tt
  over_pass (n ∷ []) h = tt
  over_pass (n ∷ c ∷ ts) h =
      either over_passes (is_free_name n && is_sign 44 c && is_group ts) (Some (n.text, arguments (inside ts))) None
      (arguments_pass (inside ts) (inside_pass ts (all_drop test 2 (n ∷ c ∷ ts) h))) tt

-- ---- joining: what is joined passes if it is a name

abbrev pub JoinsPass : (Token → Bool) → Type 0
JoinsPass test = (text : List ℕ) → is_name_text text ≡ true → test (name_token (upper text)) ≡ true

module _ (test : Token → Bool) (joins : JoinsPass test) where
  before_pass : (t : Token) (o : Option (List Token)) → test t ≡ true → Holds (all_pass test) o → Holds (all_pass test) (before t o)
  before_pass t None h k = tt
  before_pass t (Some ts) h k = and_from (test t) (all_pass test ts) h k

  then_pass : (o : Option Token) (f : Token → Option (List Token)) → Holds test o → ((n : Token) → test n ≡ true → Holds (all_pass test) (f n)) → Holds (all_pass test) (option_and_then f o)
  then_pass None f h k = tt
  then_pass (Some n) f h k = k n h

  one_name_pass : (text : List ℕ) → Holds test (one_name text)
  one_name_pass text = by (is_name_text text) (joins text)
    where
      by : (b : Bool) → (b ≡ true → test (name_token (upper text)) ≡ true) → Holds test (cond b (Some (name_token (upper text))) None)
      by true h = h refl
      by false h = tt

  mutual
    unfolding joined_on joined_with

    joined_on_pass : (t : Token) (ts : List Token) → test t ≡ true → all_pass test ts ≡ true → Holds (all_pass test) (joined_on t ts)
    joined_on_pass t [] h k = one_token test t h
    joined_on_pass t (a ∷ ts) h k =
        let both : (test a ≡ true) × (all_pass test ts ≡ true) = and_parts (test a) (all_pass test ts) k in
        either (all_pass test) (is_join a) (joined_with t ts) (before t (joined_on a ts)) (joined_with_pass t ts both.1) (before_pass t (joined_on a ts) h (joined_on_pass a ts both.0 both.1))

    joined_with_pass : (t : Token) (ts : List Token) → all_pass test ts ≡ true → Holds (all_pass test) (joined_with t ts)
    joined_with_pass t [] k = tt
    joined_with_pass t (u ∷ ts) k =
        let both : (test u ≡ true) × (all_pass test ts ≡ true) = and_parts (test u) (all_pass test ts) k in
        then_pass (one_name (t.text ++ u.text)) (λ n. joined_on n ts) (one_name_pass (t.text ++ u.text)) (λ n m. joined_on_pass n ts m both.1)

  joined_pass : (ts : List Token) → all_pass test ts ≡ true → Holds (all_pass test) (joined ts)
  joined_pass [] h = refl
  joined_pass (t ∷ ts) h =
      let both : (test t ≡ true) × (all_pass test ts ≡ true) = and_parts (test t) (all_pass test ts) h in
      either (all_pass test) (is_join t) None (joined_on t ts) tt (joined_on_pass t ts both.0 both.1)

  checked_pass : (long : Bool) (o : Option (List Token)) → Holds (all_pass test) o → HoldsOk (all_pass test) (checked long o)
  checked_pass long None h = tt
  checked_pass long (Some ts) h = one_ok (all_pass test) long (Err 3) (Ok ts) tt h

  filled_pass : (f : Formals) (args : List (List Token)) (given : ℕ) (ts : List Token) → LocalsPass test f given → list_all (all_pass test) args ≡ true → all_pass test ts ≡ true → HoldsOk (all_pass test) (filled f args given ts)
  unfolding filled
  filled_pass f args given ts l k h = checked_pass (is_long (replaced f args given ts)) (joined (replaced f args given ts)) (joined_pass (replaced f args given ts) (replaced_pass test f args given ts l k h))

-- ---- bodies

abbrev pub text_passes : (Token → Bool) → Option (List Token) → Bool
text_passes test None = true
text_passes test (Some ts) = list_all test ts

-- the number of a line ahead, and its tokens, pass
abbrev pub piece_passes : (ℕ → Bool) → (Token → Bool) → Piece → Bool
piece_passes numbers test p = numbers p.number && text_passes test p.tokens

abbrev pub FilledPasses : (ℕ → Bool) → (Token → Bool) → Filled → Type 0
FilledPasses numbers test f = HoldsOk (list_all (piece_passes numbers test)) f

module _ (numbers : ℕ → Bool) (test : Token → Bool) (joins : JoinsPass test) where
  together_pass : (a b : Filled) → FilledPasses numbers test a → FilledPasses numbers test b → FilledPasses numbers test (together a b)
  together_pass (Ok ps) (Ok qs) h k = all_join (piece_passes numbers test) ps qs h k
  together_pass (Ok ps) (Err g) h k = tt
  together_pass (Err f) (Ok qs) h k = tt
  together_pass (Err f) (Err g) h k = tt

  with_pass : (p : Piece) (r : Result (List Token) ℕ) → numbers p.number ≡ true → HoldsOk (list_all test) r → FilledPasses numbers test (single (with_tokens p r))
  with_pass p (Ok ts) n h = and_from (numbers p.number && list_all test ts) true (and_from (numbers p.number) (list_all test ts) n h) refl
  with_pass p (Err code) n h = tt

  text_pass : (f : Formals) (args : List (List Token)) (given : ℕ) (p : Piece) (o : Option (List Token)) → LocalsPass test f given → list_all (list_all test) args ≡ true → p.tokens ≡ o → numbers p.number ≡ true → text_passes test o ≡ true → FilledPasses numbers test (single (fill_text f args given p o))
  text_pass f args given p None l k e n h = and_from (piece_passes numbers test p) true (and_from (numbers p.number) (text_passes test p.tokens) n (rw e refl)) refl
  text_pass f args given p (Some ts) l k e n h = with_pass p (filled f args given ts) n (filled_pass test joins f args given ts l k h)

  pub body_pass : (f : Formals) (args : List (List Token)) (given : ℕ) (ps : List Piece) → LocalsPass test f given → list_all (list_all test) args ≡ true → list_all (piece_passes numbers test) ps ≡ true → FilledPasses numbers test (fill_body f args given ps)
  unfolding all_together
  body_pass f args given [] l k h = refl
  body_pass f args given (p ∷ ps) l k h =
      let both : (piece_passes numbers test p ≡ true) × (list_all (piece_passes numbers test) ps ≡ true) = and_parts (piece_passes numbers test p) (list_all (piece_passes numbers test) ps) h in
      let parts : (numbers p.number ≡ true) × (text_passes test p.tokens ≡ true) = and_parts (numbers p.number) (text_passes test p.tokens) both.0 in
      together_pass (single (fill_piece f args given p)) (fill_body f args given ps) (text_pass f args given p p.tokens l k refl parts.0 parts.1) (body_pass f args given ps l k both.1)

  pub turns_pass : (params : List (List ℕ)) (head : Piece) (ps : List Piece) (args : List (List Token)) → piece_passes numbers test head ≡ true → list_all (list_all test) args ≡ true → list_all (piece_passes numbers test) ps ≡ true → FilledPasses numbers test (fill_turns (only params) head ps args)
  unfolding all_together
  turns_pass params head ps [] n k h = refl
  turns_pass params head ps (arg ∷ args) n k h =
      let both : (list_all test arg ≡ true) × (list_all (list_all test) args ≡ true) = and_parts (list_all test arg) (list_all (list_all test) args) k in
      together_pass (fill_turn (only params) head ps arg) (fill_turns (only params) head ps args)
      (together_pass (Ok (head ∷ [])) (fill_body (only params) (arg ∷ []) 0 ps) (and_from (piece_passes numbers test head) true n refl) (body_pass (only params) (arg ∷ []) 0 ps (only_pass test params 0) (and_from (list_all test arg) true both.0 refl) h))
      (turns_pass params head ps args n both.1 h)
