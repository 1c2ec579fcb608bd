-- Each rewriting keeps tests of the numbers and tokens of lines.
use Rattle.std.proofs.Common.{◌≡◌, ℕ, zero, suc, ◌+◌, ◌-◌, ◌<◌, ◌≤◌, Bool, true, false, ◌&&◌, ◌==◌, not, cond, List, [], ◌∷◌, ◌++◌, ◌∙◌, drop, take, map, Option, Some, None, Result, Ok, Err, inl, inr, refl, sym, subst, arith}
use Rattle.std.specs.List.{list_all, filter}
use Rattle.std.specs.Str.{bytes_eq}
use Rattle.std.specs.FinMap as fm
use Rattle.std.proofs.lemmas.Bool.{and_parts, and_from}
use Rattle.kc_lex.specs.declared.token.Token.{Token}
use Rattle.kc_lex.specs.declared.token.Line.{Line}
use Rattle.kc_lex.specs.Kinds.{has_label, is_name_kind}
use Rattle.kc_macro_body.specs.declared.words.Word.{Word}
use Rattle.kc_macro_body.specs.declared.words.Word.TheVariants as words
use Rattle.kc_macro_body.specs.declared.macros.Macro.{Macro}
use Rattle.kc_base.specs.ByName.{ByName}
use Rattle.kc_macro_body.specs.Words.{word_of, unlabelled, behind_label}
use Rattle.kc_macro_body.specs.Arguments.{arguments, definition, over_arguments}
use Rattle.kc_macro_body.specs.Bodies.{declares, depth_after, plain_lines, macro_of, only}
use Rattle.kc_macro_body.specs.Calls.{called, is_defining}
use Rattle.kc_macro_input.specs.declared.piece.Mark.{Mark}
use Rattle.kc_macro_input.specs.declared.piece.Mark.TheVariants.{Call, Turns, If}
use Rattle.kc_macro_input.specs.declared.piece.Piece.{Piece}
use Rattle.kc_macro_input.specs.declared.piece.Extent.TheVariants.{Body}
use Rattle.kc_macro_input.specs.Pieces.{innermost, marked, left_out, first_piece, body_line, is_line, texts_of, repeated}
use Rattle.kc_macro_input.specs.Cuts.{Cut, cut_at}
use Rattle.kc_macro_input.specs.Filled.{Filled, fill_body, fill_turns}
use Rattle.kc_macro.specs.declared.state.State.{State}
use Rattle.kc_macro.specs.Operands.{operand, noted}
use Rattle.kc_macro.specs.Steps.{Next, Fault, Ended, Quiet, Counted, counted, if_next, turn_lines, turn_head, same_turns, turns_of, rept_next, begun, irp_next, exitm_step, macro_next, call_text, call_next, call_step, call_fault, emitted, plain_step, ended, end_step, label_step, other_step, word_step, is_end, is_replaced, labelled_step, line_step, piece_step, prefix_step, step}
use Rattle.kc_macro.specs.Expansion.{start}
use Rattle.kc_macro_laws.proofs.Texts.{Sub, NoneLeft, Keeps, Drops, sub_filter, sub_left}
use Rattle.kc_macro_laws.proofs.Reached.{IsFine, AllFine, IsGood, goes_good, leads_good, reached_good, get_insert, some_is, CutIs, cut_is, rest_sub, prefix_sub, KeptSub, kept_sub}
use Rattle.kc_macro_laws.specs.Course.{Goes, GoesBy}
use Rattle.kc_macro_laws.specs.Ends.{EndsAt}
use Rattle.kc_macro_laws.specs.Kept.{line_passes, NamesPass, ExpansionKeepsTests}
use Rattle.kc_macro_laws.specs.MadeNames.{LocalNamesAreFew}
use Rattle.kc_macro_laws.proofs.Tests.{all_split, all_join, all_drop, all_take, all_map, Holds}
use Rattle.kc_macro_laws.proofs.NameFilling.{LocalsPass, only_pass, arguments_pass, over_passes, over_pass, text_passes, piece_passes, FilledPasses, body_pass, turns_pass}

-- ---- macros

module _ (test : Token → Bool) where
  abbrev lines_pass : List (List Token) → Bool
  lines_pass ls = list_all (list_all test) ls

  abbrev pub BodyPasses : Macro → Type 0
  BodyPasses m = list_all (list_all test) m.body ≡ true

  abbrev pub BodiesPass : ByName Macro → Type 0
  BodiesPass macros = (n : List ℕ) (m : Macro) → fm.get macros n ≡ Some m → BodyPasses m

  plain_pass : (depth : ℕ) (ls : List (List Token)) → list_all (list_all test) ls ≡ true → list_all (list_all test) (plain_lines depth ls) ≡ true
  unfolding plain_lines
  plain_pass depth [] h = refl
  plain_pass depth (l ∷ ls) h =
      let both : (list_all test l ≡ true) × (list_all (list_all test) ls ≡ true) = and_parts (list_all test l) (list_all (list_all test) ls) h in
      elim (declares depth l) as (λ b. list_all (list_all test) (cond b (plain_lines depth ls) (l ∷ plain_lines (depth_after (word_of l) depth) ls)) ≡ true) [
        | true ↦ plain_pass depth ls both.1
        | false ↦ and_from (list_all test l) (list_all (list_all test) (plain_lines (depth_after (word_of l) depth) ls)) both.0 (plain_pass (depth_after (word_of l) depth) ls both.1)
      ]

  macro_pass : (params : List (List ℕ)) (ls : List (List Token)) → list_all (list_all test) ls ≡ true → BodyPasses (macro_of params ls)
  unfolding macro_of
  macro_pass params ls h = plain_pass 0 ls h

  insert_pass : (macros : ByName Macro) (n : List ℕ) (m : Macro) → BodiesPass macros → BodyPasses m → BodiesPass (fm.insert macros n m)
  insert_pass macros n m all h q w g = choice (bytes_eq q n) (sym (get_insert macros n m q) ∙ g)
    where
      choice : (b : Bool) → cond b (Some m) (fm.get macros q) ≡ Some w → BodyPasses w
      choice true e = subst BodyPasses (some_is m w e) h
      choice false e = all q w e

-- what holds of all macros holds of the one that is called
called_holds : (P : Macro → Type 0) (macros : ByName Macro) (ts : List Token) (m : Macro) → ((n : List ℕ) (w : Macro) → fm.get macros n ≡ Some w → P w) → called macros ts ≡ Some m → P m
called_holds P macros [] m all e = absurd (cc)
called_holds P macros (t ∷ ts) m all e = choice (is_name_kind t.kind && not (is_defining ts)) e
  where
    choice : (b : Bool) → cond b (fm.get macros t.text) None ≡ Some m → P m
    choice true f = all t.text m f
    choice false f = absurd (cc)

-- ---- places

start_good : (lines : List Line) → IsGood (start lines)
unfolding GoesBy
start_good lines = reached_good (start lines) (lines, (0, refl))

ends_good : (lines out : List Line) (s : State) → EndsAt lines s out → IsGood s
ends_good lines out s at = reached_good s (lines, at.leads)

-- ---- texts

module _ (numbers : ℕ → Bool) (test : Token → Bool) (limit : ℕ) (made : NamesPass test limit) where
  abbrev ArePassing : List Piece → Type 0
  ArePassing ps = list_all (piece_passes numbers test) ps ≡ true

  sub_passing : (qs ps : List Piece) → Sub qs ps → ArePassing ps → ArePassing qs
  sub_passing _ _ NoneLeft h = refl
  sub_passing _ _ (Keeps p qs ps k) h =
      let both : (piece_passes numbers test p ≡ true) × ArePassing ps = and_parts (piece_passes numbers test p) (list_all (piece_passes numbers test) ps) h in
      and_from (piece_passes numbers test p) (list_all (piece_passes numbers test) qs) both.0 (sub_passing qs ps k both.1)
  sub_passing _ _ (Drops p qs ps k) h = sub_passing qs ps k (and_parts (piece_passes numbers test p) (list_all (piece_passes numbers test) ps) h).1

  marked_passing : (x : Mark) (ps : List Piece) → ArePassing ps → ArePassing (map (marked x) ps)
  marked_passing x ps h = all_map (piece_passes numbers test) (piece_passes numbers test) (marked x) ps (λ p e. e) h

  repeated_passing : (n : ℕ) (ps : List Piece) → ArePassing ps → ArePassing (repeated n ps)
  unfolding repeated
  repeated_passing zero ps h = refl
  repeated_passing (suc n) ps h = all_join (piece_passes numbers test) ps (repeated n ps) h (repeated_passing n ps h)

  texts_pass : (ps : List Piece) → ArePassing ps → list_all (list_all test) (texts_of ps) ≡ true
  texts_pass [] h = refl
  texts_pass (p ∷ ps) h =
      let both : (piece_passes numbers test p ≡ true) × ArePassing ps = and_parts (piece_passes numbers test p) (list_all (piece_passes numbers test) ps) h in
      by p.tokens refl (and_parts (numbers p.number) (text_passes test p.tokens) both.0).1 (texts_pass ps both.1)
    where
      by : (o : Option (List Token)) → p.tokens ≡ o → text_passes test o ≡ true → list_all (list_all test) (texts_of ps) ≡ true → list_all (list_all test) (texts_of (p ∷ ps)) ≡ true
      by None e h k = rw e k
      by (Some ts) e h k = rw e (and_from (list_all test ts) (list_all (list_all test) (texts_of ps)) h k)

  body_lines_passing : (number : ℕ) (from : List Mark) (ls : List (List Token)) → numbers number ≡ true → list_all (list_all test) ls ≡ true → ArePassing (map (body_line number from) ls)
  body_lines_passing number from ls n h = all_map (piece_passes numbers test) (list_all test) (body_line number from) ls (λ l e. and_from (numbers number) (list_all test l) n e) h

  -- ---- a place of the rewriting

  record IsFit (s : State) : Type 0 where
    done : list_all (line_passes numbers test) s.done ≡ true
    ahead : ArePassing s.ahead
    macros : BodiesPass test s.macros

  abbrev NextFit : Next → Type 0
  NextFit (Fault line code) = Unit {0}
  NextFit (Ended lines) = list_all (line_passes numbers test) lines ≡ true
  NextFit (Quiet t) = IsFit t
  NextFit (Counted t) = IsFit t

  -- the same, where the next place has given no more names than may be
  abbrev NextBound : Next → Type 0
  NextBound (Fault line code) = Unit {0}
  NextBound (Ended lines) = list_all (line_passes numbers test) lines ≡ true
  NextBound (Quiet t) = t.given ≤ limit → IsFit t
  NextBound (Counted t) = t.given ≤ limit → IsFit t

  bound : (n : Next) → NextFit n → NextBound n
  bound (Fault line code) h = tt
  bound (Ended lines) h = h
  bound (Quiet t) h = λ few. h
  bound (Counted t) h = λ few. h

  counted_fit : (number : ℕ) (s : State) → IsFit s → NextFit (counted number s)
  counted_fit number s h = elim (s.left == 0) as (λ b. NextFit (cond b (Fault number 4) (Counted (record s { left = s.left - 1 })))) [
    | true ↦ tt
    | false ↦ record { done = h.done; ahead = h.ahead; macros = h.macros }
  ]

  -- another text ahead
  ahead_fit : (s : State) (ps : List Piece) → IsFit s → ArePassing ps → IsFit (record s { ahead = ps })
  ahead_fit s ps h k = record { done = h.done; ahead = k; macros = h.macros }

  if_fit : (s : State) (number : ℕ) (fault : Option ℕ) (o : Option (List Piece × List Piece)) → IsFit s → KeptSub s.ahead o → NextFit (if_next s number fault o)
  if_fit s number fault None h k = tt
  if_fit s number (Some code) (Some p) h k = tt
  if_fit s number None (Some p) h k =
      let parts : ArePassing p.0 × ArePassing p.1 = all_split (piece_passes numbers test) p.0 p.1 (sub_passing (p.0 ++ p.1) s.ahead k h.ahead) in
      ahead_fit s (map (marked If) p.0 ++ p.1) h (all_join (piece_passes numbers test) (map (marked If) p.0) p.1 (marked_passing If p.0 parts.0) parts.1)

  lines_passing : (left : ℕ) (prefix : List Piece) → ArePassing prefix → ArePassing (turn_lines left prefix)
  lines_passing left prefix h = marked_passing (Turns left) (filter is_line prefix) (sub_passing (filter is_line prefix) prefix (sub_filter is_line prefix) h)

  head_passing : (left number : ℕ) (from : List Mark) → numbers number ≡ true → piece_passes numbers test (turn_head left number from) ≡ true
  head_passing left number from n = and_from (numbers number) true n refl

  same_fit : (s : State) (number n : ℕ) (from : List Mark) (text : Filled) → IsFit s → numbers number ≡ true → FilledPasses numbers test text → NextFit (same_turns s number from n text)
  same_fit s number n from (Err f) h e k = tt
  same_fit s number n from (Ok ps) h e k =
      let turn : ArePassing (turn_head s.left number from ∷ ps) = and_from (piece_passes numbers test (turn_head s.left number from)) (list_all (piece_passes numbers test) ps) (head_passing s.left number from e) k in
      let rest : ArePassing (repeated (n - 1) (turn_head s.left number from ∷ ps) ++ s.ahead) =
      all_join (piece_passes numbers test) (repeated (n - 1) (turn_head s.left number from ∷ ps)) s.ahead (repeated_passing (n - 1) (turn_head s.left number from ∷ ps) turn) h.ahead in
      counted_fit number (record s { ahead = ps ++ (repeated (n - 1) (turn_head s.left number from ∷ ps) ++ s.ahead) })
      (ahead_fit s (ps ++ (repeated (n - 1) (turn_head s.left number from ∷ ps) ++ s.ahead)) h (all_join (piece_passes numbers test) ps (repeated (n - 1) (turn_head s.left number from ∷ ps) ++ s.ahead) k rest))

  turns_fit : (s : State) (number n : ℕ) (from : List Mark) (prefix : List Piece) → IsFit s → numbers number ≡ true → ArePassing prefix → NextFit (turns_of s number from n prefix)
  turns_fit s number n from prefix h e k =
      elim (n == 0) as (λ b. NextFit (cond b (Quiet s) (same_turns s number from n (fill_body (only []) [] 0 (turn_lines s.left prefix))))) [
        | true ↦ h
        | false ↦ same_fit s number n from (fill_body (only []) [] 0 (turn_lines s.left prefix)) h e (body_pass numbers test made.of_joins (only []) [] 0 (turn_lines s.left prefix) (only_pass test [] 0) refl (lines_passing s.left prefix k))
      ]

  rept_fit : (s : State) (number : ℕ) (from : List Mark) (value : Result ℕ ℕ) (o : Option Cut) → IsFit s → numbers number ≡ true → CutIs s.ahead o → NextFit (rept_next s number from value o)
  rept_fit s number from value None h e k = tt
  rept_fit s number from (Err code) (Some cut) h e k = tt
  rept_fit s number from (Ok n) (Some cut) h e k =
      turns_fit (record s { ahead = cut.rest }) number n from cut.prefix (ahead_fit s cut.rest h (sub_passing cut.rest s.ahead (rest_sub s.ahead cut k) h.ahead)) e
      (sub_passing cut.prefix s.ahead (prefix_sub s.ahead cut k) h.ahead)

  begun_fit : (s : State) (number : ℕ) (text : Filled) → IsFit s → FilledPasses numbers test text → NextFit (begun s number text)
  begun_fit s number (Err f) h k = tt
  begun_fit s number (Ok []) h k = h
  begun_fit s number (Ok (p ∷ ps)) h k =
      counted_fit number (record s { ahead = ps ++ s.ahead })
      (ahead_fit s (ps ++ s.ahead) h (all_join (piece_passes numbers test) ps s.ahead (and_parts (piece_passes numbers test p) (list_all (piece_passes numbers test) ps) k).1 h.ahead))

  irp_fit : (s : State) (number : ℕ) (from : List Mark) (f : Option (List ℕ × List (List Token))) (o : Option Cut) → IsFit s → numbers number ≡ true → Holds (over_passes test) f → CutIs s.ahead o → NextFit (irp_next s number from f o)
  irp_fit s number from None o h e b k = tt
  irp_fit s number from (Some f) None h e b k = tt
  irp_fit s number from (Some f) (Some cut) h e b k =
      begun_fit (record s { ahead = cut.rest }) number (fill_turns (only (f.0 ∷ [])) (turn_head s.left number from) (turn_lines s.left cut.prefix) f.1)
      (ahead_fit s cut.rest h (sub_passing cut.rest s.ahead (rest_sub s.ahead cut k) h.ahead))
      (turns_pass numbers test made.of_joins (f.0 ∷ []) (turn_head s.left number from) (turn_lines s.left cut.prefix) f.1 (head_passing s.left number from e) b
      (lines_passing s.left cut.prefix (sub_passing cut.prefix s.ahead (prefix_sub s.ahead cut k) h.ahead)))

  exitm_fit : (s : State) (number : ℕ) (o : Option Mark) → IsFit s → NextFit (exitm_step s number o)
  exitm_fit s number None h = tt
  exitm_fit s number (Some m) h = ahead_fit s (left_out m s.ahead) h (sub_passing (left_out m s.ahead) s.ahead (sub_left m s.ahead) h.ahead)

  macro_fit : (s : State) (number : ℕ) (d : Option (List ℕ × List (List ℕ))) (o : Option Cut) → IsFit s → CutIs s.ahead o → NextFit (macro_next s number d o)
  macro_fit s number None o h k = tt
  macro_fit s number (Some d) None h k = tt
  macro_fit s number (Some d) (Some cut) h k = record {
    done = h.done;
    ahead = sub_passing cut.rest s.ahead (rest_sub s.ahead cut k) h.ahead;
    macros = insert_pass test s.macros d.0 (macro_of d.1 (texts_of cut.prefix)) h.macros (macro_pass test d.1 (texts_of cut.prefix) (texts_pass cut.prefix (sub_passing cut.prefix s.ahead (prefix_sub s.ahead cut k) h.ahead)));
  }

  -- what a call puts in passes where so many names may be given
  call_fit : (s : State) (number locals : ℕ) (fault : Option ℕ) (text : Filled) → IsFit s → (s.given + locals ≤ limit → FilledPasses numbers test text) → NextBound (call_next s number locals fault text)
  call_fit s number locals (Some code) text h k = tt
  call_fit s number locals None (Err f) h k = tt
  call_fit s number locals None (Ok ps) h k = λ few. record { done = h.done; ahead = all_join (piece_passes numbers test) ps s.ahead (k few) h.ahead; macros = h.macros }

  locals_pass : (m : Macro) (given : ℕ) → IsFine m → given + m.formals.locals.count ≤ limit → LocalsPass test m.formals given
  locals_pass m given fine few = record {
    pass = λ text place e. (let less : place < m.formals.locals.count = fine.below text place e in made.of_locals (given + place + 1) (omega arith));
  }

  call_step_fit : (s : State) (number : ℕ) (from : List Mark) (m : Macro) (args : List (List Token)) → IsFit s → numbers number ≡ true → IsFine m → BodyPasses test m → list_all (list_all test) args ≡ true → NextBound (call_step s number from m args)
  call_step_fit s number from m args h e fine b k =
      call_fit s number m.formals.locals.count (call_fault s.left s.given from m args (call_text s.left s.given number from m args)) (call_text s.left s.given number from m args) h
      (λ few. body_pass numbers test made.of_joins m.formals args s.given (map (body_line number (Call s.left ∷ from)) m.body) (locals_pass m s.given fine few) k (body_lines_passing number (Call s.left ∷ from) m.body e b))

  emitted_done : (number : ℕ) (ts : List Token) (done : List Line) → list_all (line_passes numbers test) done ≡ true → numbers number ≡ true → list_all test ts ≡ true →
      list_all (line_passes numbers test) (done ++ record { number = number; tokens = ts } ∷ []) ≡ true
  emitted_done number ts done h e b =
      all_join (line_passes numbers test) done (record { number = number; tokens = ts } ∷ []) h (and_from (numbers number && list_all test ts) true (and_from (numbers number) (list_all test ts) e b) refl)

  plain_fit : (s : State) (number : ℕ) (ts : List Token) → IsFit s → numbers number ≡ true → list_all test ts ≡ true → NextFit (plain_step s number ts)
  plain_fit s number ts h e b =
      counted_fit number (emitted number ts (record s { values = noted ts s.values })) (record { done = emitted_done number ts s.done h.done e b; ahead = h.ahead; macros = h.macros })

  ended_fit : (n : Next) → NextFit n → NextFit (ended n)
  ended_fit (Fault line code) h = tt
  ended_fit (Ended lines) h = h
  ended_fit (Quiet t) h = h.done
  ended_fit (Counted t) h = h.done

  end_fit : (s : State) (number : ℕ) (ts : List Token) → IsFit s → numbers number ≡ true → list_all test ts ≡ true → NextFit (end_step s number ts)
  end_fit s number ts h e b =
      ended_fit (counted number (emitted number ts s)) (counted_fit number (emitted number ts s) (record { done = emitted_done number ts s.done h.done e b; ahead = h.ahead; macros = h.macros }))

  other_fit : (s : State) (number : ℕ) (from : List Mark) (ts : List Token) (o : Option Macro) → IsFit s → AllFine s.macros → numbers number ≡ true → list_all test ts ≡ true → called s.macros ts ≡ o → NextBound (other_step s number from ts o)
  other_fit s number from ts None h fine e b c = bound (plain_step s number ts) (plain_fit s number ts h e b)
  other_fit s number from ts (Some m) h fine e b c =
      call_step_fit s number from m (arguments (drop 1 ts)) h e (called_holds IsFine s.macros ts m fine c) (called_holds (BodyPasses test) s.macros ts m h.macros c)
      (arguments_pass test (drop 1 ts) (all_drop test 1 ts b))

  word_fit : (s : State) (number : ℕ) (from : List Mark) (ts : List Token) (w : Word) → IsFit s → AllFine s.macros → numbers number ≡ true → list_all test ts ≡ true → NextBound (word_step s number from ts w)
  word_fit s number from ts words.Macro h fine e b = bound (macro_next s number (definition ts) (cut_at Body 0 s.ahead)) (macro_fit s number (definition ts) (cut_at Body 0 s.ahead) h (cut_is Body 0 s.ahead))
  word_fit s number from ts words.Exitm h fine e b = bound (exitm_step s number (innermost from)) (exitm_fit s number (innermost from) h)
  word_fit s number from ts words.If h fine e b = bound (word_step s number from ts words.If) (if_fit s number _ _ h (kept_sub _ s.ahead))
  word_fit s number from ts words.Rept h fine e b =
      bound (rept_next s number from (operand (drop 1 ts) s.values) (cut_at Body 0 s.ahead)) (rept_fit s number from (operand (drop 1 ts) s.values) (cut_at Body 0 s.ahead) h e (cut_is Body 0 s.ahead))
  word_fit s number from ts words.Irp h fine e b =
      bound (irp_next s number from (over_arguments (drop 1 ts)) (cut_at Body 0 s.ahead))
      (irp_fit s number from (over_arguments (drop 1 ts)) (cut_at Body 0 s.ahead) h e (over_pass test (drop 1 ts) (all_drop test 1 ts b)) (cut_is Body 0 s.ahead))
  word_fit s number from ts words.End h fine e b = bound (end_step s number ts) (end_fit s number ts h e b)
  word_fit s number from ts words.Other h fine e b = other_fit s number from ts (called s.macros ts) h fine e b refl
  word_fit s number from ts words.Local h fine e b = tt
  word_fit s number from ts words.Else h fine e b = tt
  word_fit s number from ts words.Endif h fine e b = tt
  word_fit s number from ts words.Endm h fine e b = tt

  label_fit : (s : State) (number : ℕ) (from : List Mark) (ts : List Token) → IsFit s → numbers number ≡ true → list_all test ts ≡ true → NextFit (label_step s number from ts)
  label_fit s number from ts h e b =
      counted_fit number (emitted number (take 2 ts) (record s { ahead = record { number = number; from = from; tokens = Some (drop 2 ts) } ∷ s.ahead; labelled = true })) (record {
        done = emitted_done number (take 2 ts) s.done h.done e (all_take test 2 ts b);
        ahead = and_from (numbers number && list_all test (drop 2 ts)) (list_all (piece_passes numbers test) s.ahead) (and_from (numbers number) (list_all test (drop 2 ts)) e (all_drop test 2 ts b)) h.ahead;
        macros = h.macros;
      })

  labelled_fit : (s : State) (number : ℕ) (from : List Mark) (ts : List Token) → IsFit s → numbers number ≡ true → list_all test ts ≡ true → NextFit (labelled_step s number from ts)
  labelled_fit s number from ts h e b =
      elim (is_replaced s.macros (drop 2 ts)) as (λ x. NextFit (cond x (label_step s number from ts) (cond (is_end (behind_label (drop 2 ts))) (end_step s number ts) (plain_step s number ts)))) [
        | true ↦ label_fit s number from ts h e b
        | false ↦ elim (is_end (behind_label (drop 2 ts))) as (λ x. NextFit (cond x (end_step s number ts) (plain_step s number ts))) [
          | true ↦ end_fit s number ts h e b
          | false ↦ plain_fit s number ts h e b
        ]
      ]

  line_fit : (s : State) (labelled : Bool) (number : ℕ) (from : List Mark) (ts : List Token) → IsFit s → AllFine s.macros → numbers number ≡ true → list_all test ts ≡ true → NextBound (line_step s labelled number from ts)
  unfolding line_step
  line_fit s true number from ts h fine e b = word_fit s number from ts (behind_label ts) h fine e b
  line_fit s false number from ts h fine e b =
      elim (has_label ts) as (λ x. NextBound (cond x (labelled_step s number from ts) (word_step s number from ts (unlabelled ts)))) [
        | true ↦ bound (labelled_step s number from ts) (labelled_fit s number from ts h e b)
        | false ↦ word_fit s number from ts (unlabelled ts) h fine e b
      ]

  piece_fit : (s : State) (labelled : Bool) (number : ℕ) (from : List Mark) (o : Option (List Token)) → IsFit s → AllFine s.macros → numbers number ≡ true → text_passes test o ≡ true → NextBound (piece_step s labelled number from o)
  piece_fit s labelled number from None h fine e b = bound (counted number s) (counted_fit number s h)
  piece_fit s labelled number from (Some ts) h fine e b = line_fit s labelled number from ts h fine e b

  prefix_fit : (s : State) (ps : List Piece) → IsFit s → AllFine s.macros → ArePassing ps → NextBound (prefix_step s ps)
  prefix_fit s [] h fine k = tt
  prefix_fit s (p ∷ ps) h fine k =
      let both : (piece_passes numbers test p ≡ true) × ArePassing ps = and_parts (piece_passes numbers test p) (list_all (piece_passes numbers test) ps) k in
      let parts : (numbers p.number ≡ true) × (text_passes test p.tokens ≡ true) = and_parts (numbers p.number) (text_passes test p.tokens) both.0 in
      piece_fit (record s { ahead = ps; labelled = false }) s.labelled p.number p.from p.tokens (record { done = h.done; ahead = both.1; macros = h.macros }) fine parts.0 parts.1

  step_fit : (s : State) → IsFit s → AllFine s.macros → NextBound (step s)
  step_fit s h fine = prefix_fit s s.ahead h fine h.ahead

  -- ---- to the end

  goes_fit : (s t : State) → IsFit s → AllFine s.macros → Goes s t → t.given ≤ limit → IsFit t
  goes_fit s t h fine (inl e) few = subst NextBound e (step_fit s h fine) few
  goes_fit s t h fine (inr e) few = subst NextBound e (step_fit s h fine) few

  by_fit : (n : ℕ) (s u : State) → IsFit s → IsGood s → GoesBy n s u → u.given ≤ limit → IsFit u
  unfolding GoesBy
  by_fit zero s u h good e few = subst IsFit e h
  by_fit (suc n) s u h good g few =
      let next : IsGood g.0 × (s.given ≤ g.0.given) = goes_good s g.0 good g.1.0 in
      let later : IsGood u × (g.0.given ≤ u.given) = leads_good g.0 u next.0 (n, g.1.1) in
      by_fit n g.0 u (goes_fit s g.0 h good.macros g.1.0 (omega (arith, later.1, few))) next.0 g.1.1 few

  first_passing : (lines : List Line) → list_all (line_passes numbers test) lines ≡ true → ArePassing (map first_piece lines)
  first_passing lines h = all_map (piece_passes numbers test) (line_passes numbers test) first_piece lines (λ l e. e) h

  start_fit : (lines : List Line) → list_all (line_passes numbers test) lines ≡ true → IsFit (start lines)
  start_fit lines h = record { done = refl; ahead = first_passing lines h; macros = λ n m e. absurd (nothing n m e) }
    where
      nothing : (n : List ℕ) (m : Macro) → fm.get (start lines).macros n ≡ Some m → ⊥
      nothing n m e = let none : fm.get (start lines).macros n ≡ None = fm.get-empty _ n in cc

  keeps : (lines out : List Line) (s : State) → EndsAt lines s out → s.given ≤ limit → list_all (line_passes numbers test) lines ≡ true → list_all (line_passes numbers test) out ≡ true
  keeps lines out s at few h =
      let there : IsFit s = by_fit at.leads.0 (start lines) s (start_fit lines h) (start_good lines) at.leads.1 few in
      let fine : IsGood s = ends_good lines out s at in
      subst NextBound at.ends (step_fit s there fine.macros)

pub local_names_are_few : LocalNamesAreFew
local_names_are_few lines out s at = (ends_good lines out s at).few

pub expansion_keeps_tests : ExpansionKeepsTests
expansion_keeps_tests numbers test lines out s at made h = keeps numbers test s.given made lines out s at (omega arith) h
