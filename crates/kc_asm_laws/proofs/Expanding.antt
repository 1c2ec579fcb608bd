-- Rewriting only hands numbers of lines on: to what comes out, and to a fault. The fault of a missing END has a number of its own.
use Rattle.std.proofs.Common.{◌≡◌, ℕ, zero, suc, ◌+◌, ◌-◌, Bool, true, false, ◌==◌, ◌⊎◌, cond, inl, inr, List, [], ◌∷◌, ◌++◌, length, drop, take, map, Option, Some, None, Result, Ok, Err, refl}
use Rattle.std.specs.List.{list_all, filter}
use Rattle.std.proofs.lemmas.Bool.{and_parts, and_from}
use Rattle.kc_lex.specs.declared.token.Token.{Token}
use Rattle.kc_lex.specs.declared.token.Line.{Line}
use Rattle.kc_lex.specs.Codes.{no_end}
use Rattle.kc_lex.specs.Kinds.{has_label}
use Rattle.kc_macro_body.specs.declared.words.Word.{Word}
use Rattle.kc_macro_body.specs.declared.words.Word.TheVariants as words
use Rattle.kc_macro_body.specs.declared.macros.Macro.{Macro}
use Rattle.kc_macro_body.specs.Words.{unlabelled, behind_label}
use Rattle.kc_macro_body.specs.Arguments.{arguments, definition, over_arguments}
use Rattle.kc_macro_body.specs.Bodies.{only}
use Rattle.kc_macro_body.specs.Calls.{called}
use Rattle.kc_macro_input.specs.declared.piece.Mark.{Mark}
use Rattle.kc_macro_input.specs.declared.piece.Mark.TheVariants.{Call, Turns, If}
use Rattle.kc_macro_input.specs.declared.piece.Piece.{Piece}
use Rattle.kc_macro_input.specs.declared.piece.Extent.TheVariants.{Body}
use Rattle.kc_macro_input.specs.Pieces.{innermost, marked, left_out, first_piece, body_line, is_line, repeated}
use Rattle.kc_macro_input.specs.Cuts.{Cut, cut_at}
use Rattle.kc_macro_input.specs.Filled.{Filled, fill_body, fill_turns}
use Rattle.kc_macro.specs.declared.state.State.{State}
use Rattle.kc_macro.specs.Operands.{operand, noted}
use Rattle.kc_macro.specs.Steps.{Next, Fault, Ended, Quiet, Counted, counted, if_next, turn_lines, turn_head, same_turns, turns_of, rept_next, begun, irp_next, exitm_step, macro_next, call_text, call_next, call_step, call_fault, emitted, plain_step, ended, end_step, label_step, other_step, word_step, is_end, is_replaced, labelled_step, line_step, piece_step, prefix_step, step}
use Rattle.kc_macro.specs.Expansion.{Answer, on_next, settled, run, start, expanded}
use Rattle.kc_macro_laws.proofs.Texts.{Sub, NoneLeft, Keeps, Drops, sub_filter, sub_left}
use Rattle.kc_macro_laws.proofs.Reached.{CutIs, cut_is, rest_sub, prefix_sub, KeptSub, kept_sub}
use Rattle.kc_source_laws.proofs.Tests.{all_split, all_join, all_map}
use Rattle.kc_asm_laws.proofs.Reading.{is_at}
use Rattle.kc_asm_laws.proofs.FaultFilling.{is_numbered, FilledAt, body_at, turns_at}

module _ (numbers : ℕ → Bool) (last : ℕ) where
  -- a fault at a line whose number passes the test, or that of a missing END
  abbrev pub IsReported : ℕ → ℕ → Type 0
  IsReported line code = (numbers line ≡ true) ⊎ ((line ≡ last) × (code ≡ no_end))

  -- ---- texts

  abbrev AreNumbered : List Piece → Type 0
  AreNumbered ps = list_all (is_numbered numbers) ps ≡ true

  sub_at : (qs ps : List Piece) → Sub qs ps → AreNumbered ps → AreNumbered qs
  sub_at _ _ NoneLeft h = refl
  sub_at _ _ (Keeps p qs ps k) h =
      let both : (numbers p.number ≡ true) × AreNumbered ps = and_parts (numbers p.number) (list_all (is_numbered numbers) ps) h in
      and_from (numbers p.number) (list_all (is_numbered numbers) qs) both.0 (sub_at qs ps k both.1)
  sub_at _ _ (Drops p qs ps k) h = sub_at qs ps k (and_parts (numbers p.number) (list_all (is_numbered numbers) ps) h).1

  marked_at : (x : Mark) (ps : List Piece) → AreNumbered ps → AreNumbered (map (marked x) ps)
  marked_at x ps h = all_map (is_numbered numbers) (is_numbered numbers) (marked x) ps (λ p e. e) h

  repeated_at : (n : ℕ) (ps : List Piece) → AreNumbered ps → AreNumbered (repeated n ps)
  unfolding repeated
  repeated_at zero ps h = refl
  repeated_at (suc n) ps h = all_join (is_numbered numbers) ps (repeated n ps) h (repeated_at n ps h)

  body_lines_at : (number : ℕ) (from : List Mark) (ls : List (List Token)) → numbers number ≡ true → AreNumbered (map (body_line number from) ls)
  body_lines_at number from [] n = refl
  body_lines_at number from (l ∷ ls) n = and_from (numbers number) (list_all (is_numbered numbers) (map (body_line number from) ls)) n (body_lines_at number from ls n)

  -- ---- a place of the rewriting

  record IsAt (s : State) : Type 0 where
    done : list_all (is_at numbers) s.done ≡ true
    ahead : AreNumbered s.ahead
    end : s.end ≡ last

  abbrev NextAt : Next → Type 0
  NextAt (Fault line code) = IsReported line code
  NextAt (Ended lines) = list_all (is_at numbers) lines ≡ true
  NextAt (Quiet t) = IsAt t
  NextAt (Counted t) = IsAt t

  counted_at : (number : ℕ) (s : State) → IsAt s → numbers number ≡ true → NextAt (counted number s)
  counted_at number s h e = elim (s.left == 0) as (λ b. NextAt (cond b (Fault number 4) (Counted (record s { left = s.left - 1 })))) [
    | true ↦ inl e
    | false ↦ record { done = h.done; ahead = h.ahead; end = h.end }
  ]

  -- another text ahead
  ahead_at : (s : State) (ps : List Piece) → IsAt s → AreNumbered ps → IsAt (record s { ahead = ps })
  ahead_at s ps h k = record { done = h.done; ahead = k; end = h.end }

  if_at : (s : State) (number : ℕ) (fault : Option ℕ) (o : Option (List Piece × List Piece)) → IsAt s → numbers number ≡ true → KeptSub s.ahead o → NextAt (if_next s number fault o)
  if_at s number fault None h e k = inl e
  if_at s number (Some code) (Some p) h e k = inl e
  if_at s number None (Some p) h e k =
      let parts : AreNumbered p.0 × AreNumbered p.1 = all_split (is_numbered numbers) p.0 p.1 (sub_at (p.0 ++ p.1) s.ahead k h.ahead) in
      ahead_at s (map (marked If) p.0 ++ p.1) h (all_join (is_numbered numbers) (map (marked If) p.0) p.1 (marked_at If p.0 parts.0) parts.1)

  lines_at : (left : ℕ) (prefix : List Piece) → AreNumbered prefix → AreNumbered (turn_lines left prefix)
  lines_at left prefix h = marked_at (Turns left) (filter is_line prefix) (sub_at (filter is_line prefix) prefix (sub_filter is_line prefix) h)

  same_at : (s : State) (number n : ℕ) (from : List Mark) (text : Filled) → IsAt s → numbers number ≡ true → FilledAt numbers text → NextAt (same_turns s number from n text)
  same_at s number n from (Err f) h e k = inl k
  same_at s number n from (Ok ps) h e k =
      let turn : AreNumbered (turn_head s.left number from ∷ ps) = and_from (numbers number) (list_all (is_numbered numbers) ps) e k in
      let rest : AreNumbered (repeated (n - 1) (turn_head s.left number from ∷ ps) ++ s.ahead) =
      all_join (is_numbered numbers) (repeated (n - 1) (turn_head s.left number from ∷ ps)) s.ahead (repeated_at (n - 1) (turn_head s.left number from ∷ ps) turn) h.ahead in
      counted_at number (record s { ahead = ps ++ (repeated (n - 1) (turn_head s.left number from ∷ ps) ++ s.ahead) })
      (ahead_at s (ps ++ (repeated (n - 1) (turn_head s.left number from ∷ ps) ++ s.ahead)) h (all_join (is_numbered numbers) ps (repeated (n - 1) (turn_head s.left number from ∷ ps) ++ s.ahead) k rest)) e

  turns_of_at : (s : State) (number n : ℕ) (from : List Mark) (prefix : List Piece) → IsAt s → numbers number ≡ true → AreNumbered prefix → NextAt (turns_of s number from n prefix)
  turns_of_at s number n from prefix h e k =
      elim (n == 0) as (λ b. NextAt (cond b (Quiet s) (same_turns s number from n (fill_body (only []) [] 0 (turn_lines s.left prefix))))) [
        | true ↦ h
        | false ↦ same_at s number n from (fill_body (only []) [] 0 (turn_lines s.left prefix)) h e (body_at numbers (only []) [] 0 (turn_lines s.left prefix) (lines_at s.left prefix k))
      ]

  rept_at : (s : State) (number : ℕ) (from : List Mark) (value : Result ℕ ℕ) (o : Option Cut) → IsAt s → numbers number ≡ true → CutIs s.ahead o → NextAt (rept_next s number from value o)
  rept_at s number from value None h e k = inl e
  rept_at s number from (Err code) (Some cut) h e k = inl e
  rept_at s number from (Ok n) (Some cut) h e k =
      turns_of_at (record s { ahead = cut.rest }) number n from cut.prefix (ahead_at s cut.rest h (sub_at cut.rest s.ahead (rest_sub s.ahead cut k) h.ahead)) e
      (sub_at cut.prefix s.ahead (prefix_sub s.ahead cut k) h.ahead)

  begun_at : (s : State) (number : ℕ) (text : Filled) → IsAt s → numbers number ≡ true → FilledAt numbers text → NextAt (begun s number text)
  begun_at s number (Err f) h e k = inl k
  begun_at s number (Ok []) h e k = h
  begun_at s number (Ok (p ∷ ps)) h e k =
      counted_at number (record s { ahead = ps ++ s.ahead })
      (ahead_at s (ps ++ s.ahead) h (all_join (is_numbered numbers) ps s.ahead (and_parts (numbers p.number) (list_all (is_numbered numbers) ps) k).1 h.ahead)) e

  irp_at : (s : State) (number : ℕ) (from : List Mark) (f : Option (List ℕ × List (List Token))) (o : Option Cut) → IsAt s → numbers number ≡ true → CutIs s.ahead o → NextAt (irp_next s number from f o)
  irp_at s number from None o h e k = inl e
  irp_at s number from (Some f) None h e k = inl e
  irp_at s number from (Some f) (Some cut) h e k =
      begun_at (record s { ahead = cut.rest }) number (fill_turns (only (f.0 ∷ [])) (turn_head s.left number from) (turn_lines s.left cut.prefix) f.1)
      (ahead_at s cut.rest h (sub_at cut.rest s.ahead (rest_sub s.ahead cut k) h.ahead)) e
      (turns_at numbers (only (f.0 ∷ [])) (turn_head s.left number from) (turn_lines s.left cut.prefix) f.1 e
      (lines_at s.left cut.prefix (sub_at cut.prefix s.ahead (prefix_sub s.ahead cut k) h.ahead)))

  exitm_at : (s : State) (number : ℕ) (o : Option Mark) → IsAt s → numbers number ≡ true → NextAt (exitm_step s number o)
  exitm_at s number None h e = inl e
  exitm_at s number (Some m) h e = ahead_at s (left_out m s.ahead) h (sub_at (left_out m s.ahead) s.ahead (sub_left m s.ahead) h.ahead)

  macro_at : (s : State) (number : ℕ) (d : Option (List ℕ × List (List ℕ))) (o : Option Cut) → IsAt s → numbers number ≡ true → CutIs s.ahead o → NextAt (macro_next s number d o)
  macro_at s number None o h e k = inl e
  macro_at s number (Some d) None h e k = inl e
  macro_at s number (Some d) (Some cut) h e k = record { done = h.done; ahead = sub_at cut.rest s.ahead (rest_sub s.ahead cut k) h.ahead; end = h.end }

  call_next_at : (s : State) (number locals : ℕ) (fault : Option ℕ) (text : Filled) → IsAt s → numbers number ≡ true → FilledAt numbers text → NextAt (call_next s number locals fault text)
  call_next_at s number locals (Some code) text h e k = inl e
  call_next_at s number locals None (Err f) h e k = inl e
  call_next_at s number locals None (Ok ps) h e k = record { done = h.done; ahead = all_join (is_numbered numbers) ps s.ahead k h.ahead; end = h.end }

  call_at : (s : State) (number : ℕ) (from : List Mark) (m : Macro) (args : List (List Token)) → IsAt s → numbers number ≡ true → NextAt (call_step s number from m args)
  call_at s number from m args h e =
      call_next_at s number m.formals.locals.count (call_fault s.left s.given from m args (call_text s.left s.given number from m args)) (call_text s.left s.given number from m args) h e
      (body_at numbers m.formals args s.given (map (body_line number (Call s.left ∷ from)) m.body) (body_lines_at number (Call s.left ∷ from) m.body e))

  -- ---- lines that come out

  emitted_at : (number : ℕ) (ts : List Token) (done : List Line) → list_all (is_at numbers) done ≡ true → numbers number ≡ true → list_all (is_at numbers) (done ++ record { number = number; tokens = ts } ∷ []) ≡ true
  emitted_at number ts done h e = all_join (is_at numbers) done (record { number = number; tokens = ts } ∷ []) h (and_from (numbers number) true e refl)

  plain_at : (s : State) (number : ℕ) (ts : List Token) → IsAt s → numbers number ≡ true → NextAt (plain_step s number ts)
  plain_at s number ts h e =
      counted_at number (emitted number ts (record s { values = noted ts s.values })) (record { done = emitted_at number ts s.done h.done e; ahead = h.ahead; end = h.end }) e

  ended_at : (n : Next) → NextAt n → NextAt (ended n)
  ended_at (Fault line code) h = h
  ended_at (Ended lines) h = h
  ended_at (Quiet t) h = h.done
  ended_at (Counted t) h = h.done

  end_at : (s : State) (number : ℕ) (ts : List Token) → IsAt s → numbers number ≡ true → NextAt (end_step s number ts)
  end_at s number ts h e =
      ended_at (counted number (emitted number ts s)) (counted_at number (emitted number ts s) (record { done = emitted_at number ts s.done h.done e; ahead = h.ahead; end = h.end }) e)

  other_at : (s : State) (number : ℕ) (from : List Mark) (ts : List Token) (o : Option Macro) → IsAt s → numbers number ≡ true → NextAt (other_step s number from ts o)
  other_at s number from ts None h e = plain_at s number ts h e
  other_at s number from ts (Some m) h e = call_at s number from m (arguments (drop 1 ts)) h e

  word_at : (s : State) (number : ℕ) (from : List Mark) (ts : List Token) (w : Word) → IsAt s → numbers number ≡ true → NextAt (word_step s number from ts w)
  word_at s number from ts words.Macro h e = macro_at s number (definition ts) (cut_at Body 0 s.ahead) h e (cut_is Body 0 s.ahead)
  word_at s number from ts words.Exitm h e = exitm_at s number (innermost from) h e
  word_at s number from ts words.If h e = if_at s number _ _ h e (kept_sub _ s.ahead)
  word_at s number from ts words.Rept h e = rept_at s number from (operand (drop 1 ts) s.values) (cut_at Body 0 s.ahead) h e (cut_is Body 0 s.ahead)
  word_at s number from ts words.Irp h e = irp_at s number from (over_arguments (drop 1 ts)) (cut_at Body 0 s.ahead) h e (cut_is Body 0 s.ahead)
  word_at s number from ts words.End h e = end_at s number ts h e
  word_at s number from ts words.Other h e = other_at s number from ts (called s.macros ts) h e
  word_at s number from ts words.Local h e = inl e
  word_at s number from ts words.Else h e = inl e
  word_at s number from ts words.Endif h e = inl e
  word_at s number from ts words.Endm h e = inl e

  label_at : (s : State) (number : ℕ) (from : List Mark) (ts : List Token) → IsAt s → numbers number ≡ true → NextAt (label_step s number from ts)
  label_at s number from ts h e =
      counted_at number (emitted number (take 2 ts) (record s { ahead = record { number = number; from = from; tokens = Some (drop 2 ts) } ∷ s.ahead; labelled = true })) (record {
        done = emitted_at number (take 2 ts) s.done h.done e;
        ahead = and_from (numbers number) (list_all (is_numbered numbers) s.ahead) e h.ahead;
        end = h.end;
      }) e

  labelled_at : (s : State) (number : ℕ) (from : List Mark) (ts : List Token) → IsAt s → numbers number ≡ true → NextAt (labelled_step s number from ts)
  labelled_at s number from ts h e =
      elim (is_replaced s.macros (drop 2 ts)) as (λ x. NextAt (cond x (label_step s number from ts) (cond (is_end (behind_label (drop 2 ts))) (end_step s number ts) (plain_step s number ts)))) [
        | true ↦ label_at s number from ts h e
        | false ↦ elim (is_end (behind_label (drop 2 ts))) as (λ x. NextAt (cond x (end_step s number ts) (plain_step s number ts))) [
          | true ↦ end_at s number ts h e
          | false ↦ plain_at s number ts h e
        ]
      ]

  line_at : (s : State) (labelled : Bool) (number : ℕ) (from : List Mark) (ts : List Token) → IsAt s → numbers number ≡ true → NextAt (line_step s labelled number from ts)
  unfolding line_step
  line_at s true number from ts h e = word_at s number from ts (behind_label ts) h e
  line_at s false number from ts h e =
      elim (has_label ts) as (λ x. NextAt (cond x (labelled_step s number from ts) (word_step s number from ts (unlabelled ts)))) [
        | true ↦ labelled_at s number from ts h e
        | false ↦ word_at s number from ts (unlabelled ts) h e
      ]

  piece_at : (s : State) (labelled : Bool) (number : ℕ) (from : List Mark) (o : Option (List Token)) → IsAt s → numbers number ≡ true → NextAt (piece_step s labelled number from o)
  piece_at s labelled number from None h e = counted_at number s h e
  piece_at s labelled number from (Some ts) h e = line_at s labelled number from ts h e

  prefix_at : (s : State) (ps : List Piece) → IsAt s → AreNumbered ps → NextAt (prefix_step s ps)
  prefix_at s [] h k = inr (h.end, refl)
  prefix_at s (p ∷ ps) h k =
      let both : (numbers p.number ≡ true) × AreNumbered ps = and_parts (numbers p.number) (list_all (is_numbered numbers) ps) k in
      piece_at (record s { ahead = ps; labelled = false }) s.labelled p.number p.from p.tokens (record { done = h.done; ahead = both.1; end = h.end }) both.0

  -- ---- to the end

  abbrev pub AnswerAt : Answer → Type 0
  AnswerAt None = Unit {0}
  AnswerAt (Some (Ok lines)) = list_all (is_at numbers) lines ≡ true
  AnswerAt (Some (Err f)) = IsReported f.0 f.1

  on_next_at : (next more : State → Answer) (n : Next) → NextAt n → ((t : State) → IsAt t → AnswerAt (next t)) → ((t : State) → IsAt t → AnswerAt (more t)) → AnswerAt (on_next next more n)
  on_next_at next more (Fault line code) h f g = h
  on_next_at next more (Ended lines) h f g = h
  on_next_at next more (Quiet t) h f g = g t h
  on_next_at next more (Counted t) h f g = f t h

  settled_at : (next : State → Answer) (k : ℕ) (s : State) → IsAt s → ((t : State) → IsAt t → AnswerAt (next t)) → AnswerAt (settled next k s)
  unfolding settled
  settled_at next zero s h f = tt
  settled_at next (suc k) s h f = on_next_at next (settled next k) (step s) (prefix_at s s.ahead h h.ahead) f (λ t g. settled_at next k t g f)

  run_at : (n : ℕ) (s : State) → IsAt s → AnswerAt (run n s)
  unfolding run
  run_at zero s h = tt
  run_at (suc n) s h = settled_at (run n) (suc (length s.ahead)) s h (λ t g. run_at n t g)

  pub expanded_at : (lines : List Line) → list_all (is_at numbers) lines ≡ true → length lines + 1 ≡ last → AnswerAt (expanded lines)
  unfolding expanded
  expanded_at lines h e = run_at (suc (start lines).left) (start lines) (record { done = refl; ahead = all_map (is_numbered numbers) (is_at numbers) first_piece lines (λ l k. k) h; end = e })
