-- Calls with a command leave the same: one response is given, and it is given whole.
use Rattle.std.proofs.Common.{◌≡◌, ◌≢◌, ◌⊎◌, inl, inr, ℕ, zero, suc, List, [], ◌∷◌, ◌++◌, map, Option, Some, None, refl, sym, ◌∙◌, ap, subst, arith}
use Rattle.kc_base.specs.Held.{Holding}
use Rattle.kc_base.specs.Causes.{Rose, Grew}
use Rattle.kc_kit_files.specs.declared.status.Status.{Status}
use Rattle.kc_kit_files.specs.Response.{Response, Write}
use Rattle.kc_kit_files.specs.Reads.{FailedRead}
use Rattle.kc_kit_files.specs.Outside.{Kept, Shown, WroteOne, Wrote, IsGiven}
use Rattle.kc_kit_files.proofs.ResponseLemmas.{given-of}
use Rattle.kc_kit_words.specs.Commands.{Command, names_read}
use Rattle.kc_kit_inputs.specs.Sources.{AnyDiagnostic}
use Rattle.kc_kit_answer.specs.Answer.{CommandAnswer, MayAnswer}
use Rattle.kc_kit_laws.specs.OneAnswer.{silent, OneAnswer, IsCall, HoldSame, OneOutcome}

-- ---- responses

failed_rose : (names : List (List ℕ)) (contents : List (Option (List ℕ))) (rose : Type 0) (r : Response) → FailedRead names contents rose r → rose
failed_rose [] contents rose r h = absurd h
failed_rose (n ∷ names) [] rose r h = absurd h
failed_rose (n ∷ names) (c ∷ contents) rose r (inl h) = h.0
failed_rose (n ∷ names) (c ∷ contents) rose r (inr h) = failed_rose names contents rose r h.1

-- with no failed read, a response is that of the command over what the files hold
answered : (command : Option Command) (held : Holding) (rose : Type 0) (r : Response) → ¬ rose → MayAnswer AnyDiagnostic command (Some held) rose r → CommandAnswer AnyDiagnostic command (map held (names_read command)) r
answered command held rose r well h = by h.2
  where
    by : CommandAnswer AnyDiagnostic command h.0 r ⊎ FailedRead (names_read command) h.0 rose r → CommandAnswer AnyDiagnostic command (map held (names_read command)) r
    by (inl a) = subst (λ (contents : List (Option (List ℕ))). CommandAnswer AnyDiagnostic command contents r) h.1 a
    by (inr f) = absurd (well (failed_rose (names_read command) h.0 rose r f))

-- ---- what is printed

grew : (written : Option (List ℕ)) (given text : List ℕ) (now : Option (List ℕ)) → written ≡ Some given → Grew written text now → now ≡ Some (given ++ text)
grew written given text now e h = subst (λ (before : Option (List ℕ)). Grew before text now) e h

-- ---- what the files hold

same_number : (m n : ℕ) → (m ≡ n) ⊎ (m ≢ n)
same_number zero zero = inl refl
same_number zero (suc n) = inr (λ e. omega (arith, e))
same_number (suc m) zero = inr (λ e. omega (arith, e))
same_number (suc m) (suc n) = elim (same_number m n) [ inl e ↦ inl (ap (λ (k : ℕ). suc k) e) | inr f ↦ inr (λ e. f (omega (arith, e))) ]

first_same : (x y : ℕ) (xs ys : List ℕ) → x ∷ xs ≡ y ∷ ys → x ≡ y
first_same x y xs ys e = cc e

rest_same : (x y : ℕ) (xs ys : List ℕ) → x ∷ xs ≡ y ∷ ys → xs ≡ ys
rest_same x y xs ys e = cc e

none_some : (y : ℕ) (ys : List ℕ) → [] ≡ y ∷ ys → ⊥
none_some y ys e = cc e

same_name : (xs ys : List ℕ) → (xs ≡ ys) ⊎ (xs ≢ ys)
same_name [] [] = inl refl
same_name [] (y ∷ ys) = inr (none_some y ys)
same_name (x ∷ xs) [] = inr (λ e. none_some x xs (sym e))
same_name (x ∷ xs) (y ∷ ys) = by (same_number x y) (same_name xs ys)
  where
    by : (x ≡ y) ⊎ (x ≢ y) → (xs ≡ ys) ⊎ (xs ≢ ys) → (x ∷ xs ≡ y ∷ ys) ⊎ (x ∷ xs ≢ y ∷ ys)
    by (inl e) (inl f) = inl (λ i. e i ∷ f i)
    by (inl e) (inr n) = inr (λ g. n (rest_same x y xs ys g))
    by (inr n) f = inr (λ g. n (first_same x y xs ys g))

same_held : (w : Write) (x y p q : Option Holding) → HoldSame x y → WroteOne x w p → WroteOne y w q → HoldSame p q
same_held w None y p q same h k = absurd same
same_held w (Some f) None p q same h k = absurd same
same_held w (Some f) (Some g) None q same h k = absurd h.0
same_held w (Some f) (Some g) (Some p) None same h k = absurd k.0
same_held w (Some f) (Some g) (Some p) (Some q) same h k = λ name. by name (same_name name w.name)
  where
    by : (name : List ℕ) → (name ≡ w.name) ⊎ (name ≢ w.name) → p name ≡ q name
    by name (inl e) = ap p e ∙ (h.0 ∙ (sym k.0 ∙ sym (ap q e)))
    by name (inr n) = h.1 name n ∙ (same name ∙ sym (k.1 name n))

same_wrote : (ws : List Write) (a b c d : Kept) → HoldSame a.held b.held → Wrote a ws c → Wrote b ws d → HoldSame c.held d.held
same_wrote [] a b c d same h k = subst (λ (x : Kept). HoldSame c.held x.held) (sym k) (subst (λ (x : Kept). HoldSame x.held b.held) (sym h) same)
same_wrote (w ∷ ws) a b c d same h k = same_wrote ws h.0 k.0 c d (same_held w a.held b.held h.0.held k.0.held same h.1 k.1) h.2 k.2

hold_same : (held : Holding) (x y : Option Holding) → x ≡ Some held → y ≡ Some held → HoldSame x y
hold_same held x y e f = subst (λ (z : Option Holding). HoldSame z y) (sym e) (subst (λ (z : Option Holding). HoldSame (Some held) z) (sym f) (λ name. refl))

-- ---- the whole

given_of : (command : Option Command) (held : Holding) (given : List ℕ) (s : Status) (files : Kept) (sink : Shown) (h : IsCall command held given s files sink)
    → IsGiven (MayAnswer AnyDiagnostic command (Some held) (Rose h.reads.0 h.reads.1)) s h.old h.before files sink
given_of command held given s files sink h = given-of (MayAnswer AnyDiagnostic command (Some held) (Rose h.reads.0 h.reads.1)) s h.old h.before files sink h.write h.memory h.answered

pub one_outcome : OneAnswer → OneOutcome
one_outcome law command held given s t files others sink other one h k = record {
  status = a.status ∙ (ap (λ (r : Response). r.status) same ∙ sym b.status);
  written = grew h.before.written given a.response.text sink.written h.shows a.text
      ∙ (ap (λ (r : Response). Some (given ++ r.text)) same ∙ sym (grew k.before.written given b.response.text other.written k.shows b.text));
  held = same_wrote b.response.writes h.old k.old files others (hold_same held h.old.held k.old.held h.holds k.holds)
      (subst (λ (r : Response). Wrote h.old r.writes files) same a.files) b.files;
}
  where
    a : IsGiven (MayAnswer AnyDiagnostic command (Some held) (Rose h.reads.0 h.reads.1)) s h.old h.before files sink
    a = given_of command held given s files sink h

    b : IsGiven (MayAnswer AnyDiagnostic command (Some held) (Rose k.reads.0 k.reads.1)) t k.old k.before others other
    b = given_of command held given t others other k

    same : silent a.response ≡ silent b.response
    same =
        law command (map held (names_read command)) a.response b.response one
        (answered command held (Rose h.reads.0 h.reads.1) a.response h.well_read a.is_answer)
        (answered command held (Rose k.reads.0 k.reads.1) b.response k.well_read b.is_answer)
