-- A text has one answer: a pass that has a fault shuts out those behind it, and each of them a module.
use Rattle.std.proofs.Common.{◌≡◌, ℕ, List, [], map, refl, sym, ap, ◌∙◌, inl, inr}
use Rattle.std.specs.Prelude.{Option, Some, None, Result, Ok, Err}
use Rattle.kc_lex.specs.declared.token.Line.{Line}
use Rattle.kc_lex.specs.Lines.{lines_of}
use Rattle.kc_macro.specs.Expansion.{Answer, expanded, Ends, ExpansionEnds}
use Rattle.kc_source_statement.specs.declared.statement.Stmt.{Stmt}
use Rattle.kc_source.specs.Faults.{Fault, stmt_said, least, faults_of}
use Rattle.kc_obj_module.specs.Object.{Object}
use Rattle.kc_asm_check.specs.Codes.{first_regions}
use Rattle.kc_asm_check.specs.Checking.{faults_from, first_fault}
use Rattle.kc_asm.specs.Assembled.{IsText, AreSaid, IsFirstFault, FaultOfValues, IsModule}
use Rattle.kc_asm_laws.specs.Modules.{IsAnswer, OneModuleOfText, OneAnswerOfText}
use Rattle.kc_asm_laws.proofs.Alike.{standing_alike, locations_alike, ok_lines, text_same, said_same}

abbrev refused : Fault → Result Object Fault
refused fault = Err fault

abbrev assembled : Object → Result Object Fault
assembled m = Ok m

-- ---- a step gives one thing

ok_or_err : {A E : Type 0} (r : Result A E) (a : A) (e : E) → r ≡ Ok a → r ≡ Err e → ⊥
ok_or_err r a e f g = cc (f, g)

one_err : {A E : Type 0} (r : Result A E) (d e : E) → r ≡ Err d → r ≡ Err e → d ≡ e
one_err r d e f g = cc (f, g)

some_ok_or_err : {A E : Type 0} (o : Option (Result A E)) (a : A) (e : E) → o ≡ Some (Ok a) → o ≡ Some (Err e) → ⊥
some_ok_or_err o a e f g = cc (f, g)

one_some_err : {A E : Type 0} (o : Option (Result A E)) (d e : E) → o ≡ Some (Err d) → o ≡ Some (Err e) → d ≡ e
one_some_err o d e f g = cc (f, g)

some_or_none : {A : Type 0} (o : Option A) (a : A) → o ≡ Some a → o ≡ None → ⊥
some_or_none o a f g = cc (f, g)

one_some : {A : Type 0} (o : Option A) (a b : A) → o ≡ Some a → o ≡ Some b → a ≡ b
one_some o a b f g = cc (f, g)

-- ---- lines

lines_fault : (text : List ℕ) (f : Fault) → lines_of text ≡ Err f → (r : Result Object Fault) → IsAnswer text r → r ≡ refused f
lines_fault text f e (Ok m) h = absurd (ok_or_err (lines_of text) h.said.1.0 f h.said.1.1 e)
lines_fault text f e (Err g) h = by h
  where
    by : IsFirstFault text g → refused g ≡ refused f
    by (inl k) = ap refused (one_err (lines_of text) g f k e)
    by (inr (inl k)) = absurd (ok_or_err (lines_of text) k.0 f k.1 e)
    by (inr (inr (inl k))) = absurd (ok_or_err (lines_of text) k.1.0 f k.1.1 e)
    by (inr (inr (inr k))) = absurd (ok_or_err (lines_of text) k.1.1.0 f k.1.1.1 e)

-- ---- macros, repetitions and conditions

-- the lines of a text are expanded in one way
expanded_so : (text : List ℕ) (lines other : List Line) (a : Answer) → lines_of text ≡ Ok lines → lines_of text ≡ Ok other → expanded other ≡ a → expanded lines ≡ a
expanded_so text lines other a e k g = ap expanded (ok_lines (lines_of text) lines other e k) ∙ g

module _ (text : List ℕ) (lines : List Line) (e : lines_of text ≡ Ok lines) where
  not_text : (f : Fault) → expanded lines ≡ Some (Err f) → (out : List Line) → IsText text out → ⊥
  not_text f g out k = some_ok_or_err (expanded lines) out f (expanded_so text lines k.0 (Some (Ok out)) e k.1 k.2) g

  macros_fault : (f : Fault) → expanded lines ≡ Some (Err f) → (r : Result Object Fault) → IsAnswer text r → r ≡ refused f
  macros_fault f g (Ok m) h = absurd (not_text f g h.said.0 h.said.1)
  macros_fault f g (Err d) h = by h
    where
      by : IsFirstFault text d → refused d ≡ refused f
      by (inl k) = absurd (ok_or_err (lines_of text) lines d e k)
      by (inr (inl k)) = ap refused (one_some_err (expanded lines) d f (expanded_so text lines k.0 (Some (Err d)) e k.1 k.2) g)
      by (inr (inr (inl k))) = absurd (not_text f g k.0 k.1)
      by (inr (inr (inr k))) = absurd (not_text f g k.1.0 k.1.1)

-- ---- statements and names

module _ (text : List ℕ) (out : List Line) (t : IsText text out) where
  least_so : (other : List Line) (o : Option Fault) → IsText text other → least (faults_of other) ≡ o → least (faults_of out) ≡ o
  least_so other o k g = ap (λ (ls : List Line). least (faults_of ls)) (text_same text out other t k) ∙ g

  read_so : (d : Fault) → lines_of text ≡ Err d → ⊥
  read_so d k = ok_or_err (lines_of text) t.0 d t.1 k

  expanded_well : (other : List Line) (d : Fault) → lines_of text ≡ Ok other → expanded other ≡ Some (Err d) → ⊥
  expanded_well other d k g = some_ok_or_err (expanded t.0) out d t.2 (expanded_so text t.0 other (Some (Err d)) t.1 k g)

  names_fault : (f : Fault) → least (faults_of out) ≡ Some f → (r : Result Object Fault) → IsAnswer text r → r ≡ refused f
  names_fault f g (Ok m) h = absurd (some_or_none (least (faults_of out)) f g (least_so h.said.0 None h.said.1 h.said.2.sound))
  names_fault f g (Err d) h = by h
    where
      by : IsFirstFault text d → refused d ≡ refused f
      by (inl k) = absurd (read_so d k)
      by (inr (inl k)) = absurd (expanded_well k.0 d k.1 k.2)
      by (inr (inr (inl k))) = ap refused (one_some (least (faults_of out)) d f (least_so k.0 (Some d) k.1 k.2) g)
      by (inr (inr (inr k))) = absurd (some_or_none (least (faults_of out)) f g (least_so k.1.0 None k.1.1 k.1.2.sound))

  -- where none of these has a fault, one is of values
  pub of_values : least (faults_of out) ≡ None → (d : Fault) → IsFirstFault text d → FaultOfValues text d
  of_values g d (inl k) = absurd (read_so d k)
  of_values g d (inr (inl k)) = absurd (expanded_well k.0 d k.1 k.2)
  of_values g d (inr (inr (inl k))) = absurd (some_or_none (least (faults_of out)) d (least_so k.0 (Some d) k.1 k.2) g)
  of_values g d (inr (inr (inr k))) = k

-- ---- values and places

module _ (ss ts : List Stmt) (same : map stmt_said ss ≡ map stmt_said ts) where
  faults_alike : first_fault ss ≡ first_fault ts
  faults_alike = λ i. least (faults_from (standing_alike ss ts same i) first_regions 0 [] (standing_alike ss ts same i) (locations_alike ss ts same i))

module _ (text : List ℕ) where
  -- there is none where statements have none
  pub no_fault : (stmts : List Stmt) → AreSaid text stmts → first_fault stmts ≡ None → (d : Fault) → FaultOfValues text d → ⊥
  no_fault stmts said sound d k = some_or_none (first_fault k.0) d k.2 (sym (faults_alike stmts k.0 (said_same text stmts k.0 said k.1)) ∙ sound)

  not_module : (m : Object) (d : Fault) → IsModule text m → FaultOfValues text d → ⊥
  not_module m d h k = no_fault h.stmts h.said h.sound d k

  pub one_fault : (d e : Fault) → FaultOfValues text d → FaultOfValues text e → d ≡ e
  one_fault d e h k = one_some (first_fault h.0) d e h.2 (faults_alike h.0 k.0 (said_same text h.0 k.0 h.1 k.1) ∙ k.2)

-- ---- the whole

pub one_answer_of_text : OneModuleOfText → ExpansionEnds → OneAnswerOfText
one_answer_of_text law ends text answer other h k = of_lines (lines_of text) refl
  where
    of_all : (out : List Line) → IsText text out → least (faults_of out) ≡ None → (r s : Result Object Fault) → IsAnswer text r → IsAnswer text s → r ≡ s
    of_all out t g (Ok m) (Ok n) a b = ap assembled (law text m n a b)
    of_all out t g (Ok m) (Err d) a b = absurd (not_module text m d a (of_values text out t g d b))
    of_all out t g (Err d) (Ok m) a b = absurd (not_module text m d b (of_values text out t g d a))
    of_all out t g (Err d) (Err e) a b = ap refused (one_fault text d e (of_values text out t g d a) (of_values text out t g e b))

    of_names : (out : List Line) → IsText text out → (o : Option Fault) → least (faults_of out) ≡ o → answer ≡ other
    of_names out t None g = of_all out t g answer other h k
    of_names out t (Some f) g = names_fault text out t f g answer h ∙ sym (names_fault text out t f g other k)

    of_macros : (lines : List Line) → lines_of text ≡ Ok lines → (a : Answer) → expanded lines ≡ a → Ends a → answer ≡ other
    of_macros lines e None g ended = absurd ended
    of_macros lines e (Some (Err f)) g ended = macros_fault text lines e f g answer h ∙ sym (macros_fault text lines e f g other k)
    of_macros lines e (Some (Ok out)) g ended = of_names out (lines, e, g) (least (faults_of out)) refl

    of_lines : (r : Result (List Line) Fault) → lines_of text ≡ r → answer ≡ other
    of_lines (Err f) e = lines_fault text f e answer h ∙ sym (lines_fault text f e other k)
    of_lines (Ok lines) e = of_macros lines e (expanded lines) refl (ends lines)
