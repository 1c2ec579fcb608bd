-- Lines of which each says something, while what they say keeps a rule.
use Rattle.std.proofs.Common.{◌≡◌, ℕ, ◌+◌, ◌-◌, inl, inr, Bool, true, false, cond, Option, Some, None, List, [], ◌∷◌, ◌++◌, length, take, map, Ok, Err, Result, refl, sym, ap, subst, ◌∙◌, arith, append-nil, append_assoc}
use Rattle.kc_base.specs.TextLines.{text_lines}
use Rattle.kc_debug_script.specs.Fields.{if_is}
use Rattle.kc_debug_script.specs.Reading.{said}
use Rattle.kc_debug_script.specs.Laws.{ReadsLines}
use Rattle.kc_debug_script.proofs.Saying.{said-nil, said-some, said-none, said-cut, cases, same_ok, not_both}

-- a rule that is kept line by line
pub record IsRule {A : Type 0} (may : List A → A → Bool) (Keep : List A → Type 0) : Type 0 where
  pub none : Keep []
  pub push : (before : List A) (a : A) → Keep before → may before a ≡ true → Keep (before ++ a ∷ [])
  pub pull : (before : List A) (a : A) → Keep (before ++ a ∷ []) → may before a ≡ true
  pub cut : (before more : List A) → Keep (before ++ more) → Keep before

-- what passes a test
some_inside : {A : Type 0} (a b : A) (o : Option A) → o ≡ Some a → o ≡ Some b → a ≡ b
some_inside a b o p q = cc

none_is : {A : Type 0} (a : A) (o : Option A) → o ≡ None → o ≡ Some a → ⊥
none_is a o p q = cc

by_test : {A : Type 0} (test : A → Bool) (a b : A) (t : Bool) → test b ≡ t → cond t (Some b) None ≡ Some a → (Some b ≡ Some a) × (test a ≡ true)
by_test test a b true is h = (h, ap test (some_inside a b (Some a) refl (sym h)) ∙ is)
by_test test a b false is h = absurd (none_is a None refl h)

if_is-some : {A : Type 0} (test : A → Bool) (o : Option A) (a : A) → if_is test o ≡ Some a → (o ≡ Some a) × (test a ≡ true)
if_is-some test None a h = absurd (none_is a None refl h)
if_is-some test (Some b) a h = by_test test a b (test b) refl h

if_is-true : {A : Type 0} (test : A → Bool) (o : Option A) (a : A) → o ≡ Some a → test a ≡ true → if_is test o ≡ Some a
if_is-true test o a is passes = ap (if_is test) is ∙ ap (λ t. cond t (Some a) None) passes

module _ {A : Type 0} (meaning : List ℕ → Option A) (may : List A → A → Bool) (Keep : List A → Type 0) (rule : IsRule may Keep) where
  abbrev says : List A → List ℕ → Option A
  says before line = if_is (may before) (meaning line)

  -- what is read is what the lines say
  forward : (before : List A) (lines : List (List ℕ)) (all : List A) → Keep before → said says before lines ≡ Ok all →
      (xs : List A) × ((all ≡ before ++ xs) × (map meaning lines ≡ map Some xs) × Keep all)
  forward before [] all kept h =
      let same : before ≡ all = same_ok before all (said says before []) (said-nil says before) h in
      ([], (sym same ∙ sym (append-nil before), refl, subst Keep same kept))
  forward before (line ∷ lines) all kept h = elim (cases (says before line)) [
    | inl none ↦ absurd (not_both all (length before + 1) (said says before (line ∷ lines)) h (said-none says before line lines none))
    | inr some ↦
        let a = some.0 in
        let is = if_is-some (may before) (meaning line) a some.1 in
        let next = forward (before ++ a ∷ []) lines all (rule.push before a kept is.1) (sym (said-some says before line lines a some.1) ∙ h) in
        (a ∷ next.0, (next.1.0 ∙ append_assoc before (a ∷ []) next.0, (λ i. is.0 i ∷ next.1.1 i), next.1.2))
  ]

  -- and what the lines say is read
  backward : (before : List A) (lines : List (List ℕ)) (xs : List A) → map meaning lines ≡ map Some xs → Keep (before ++ xs) → said says before lines ≡ Ok (before ++ xs)
  backward before [] [] each kept = said-nil says before ∙ ap (λ (all : List A). Ok all) (sym (append-nil before))
  backward before [] (a ∷ xs) each kept = absurd cc
  backward before (line ∷ lines) [] each kept = absurd cc
  backward before (line ∷ lines) (a ∷ xs) each kept =
      let head : meaning line ≡ Some a = cc in
      let tail : map meaning lines ≡ map Some xs = cc in
      let shape : (before ++ a ∷ []) ++ xs ≡ before ++ a ∷ xs = append_assoc before (a ∷ []) xs in
      let longer : Keep ((before ++ a ∷ []) ++ xs) = subst Keep (sym shape) kept in
      let allowed = rule.pull before a (rule.cut (before ++ a ∷ []) xs longer) in
      said-some says before line lines a (if_is-true (may before) (meaning line) a head allowed)
      ∙ backward (before ++ a ∷ []) lines xs tail longer ∙ ap (λ (all : List A). Ok all) shape

  -- reading is known of the whole text
  pub reads : (read : List ℕ → Result (List A) ℕ) → ((text : List ℕ) → read text ≡ said says [] (text_lines text)) → ReadsLines meaning Keep read
  reads read is = record {
    all = λ text xs. (
      λ h. let reported = forward [] (text_lines text) xs rule.none (sym (is text) ∙ h) in record { each = reported.1.1 ∙ ap (map Some) (sym reported.1.0); keep = reported.1.2 },
      λ h. is text ∙ backward [] (text_lines text) xs h.each h.keep,
    );
    fault = λ text line h.
        let cut = said-cut says [] (text_lines text) line (sym (is text) ∙ h) in
        let whole : line - 0 ≡ line = omega arith in
        let upto : said says [] (take line (text_lines text)) ≡ Err line = ap (λ k. said says [] (take k (text_lines text))) (sym whole) ∙ cut.2 in
        let less : line - 0 - 1 ≡ line - 1 = omega arith in
        let prefix : said says [] (take (line - 1) (text_lines text)) ≡ Ok cut.3.0 = ap (λ k. said says [] (take k (text_lines text))) (sym less) ∙ cut.3.1 in
        let reported = forward [] (take (line - 1) (text_lines text)) cut.3.0 rule.none prefix in
        record {
          first = omega (arith, cut.0);
          within = omega (arith, cut.1);
          before = (cut.3.0, record { each = reported.1.1 ∙ ap (map Some) (sym reported.1.0); keep = reported.1.2 });
          wrong = λ xs say. not_both xs line (said says [] (take line (text_lines text))) (backward [] (take line (text_lines text)) xs say.each say.keep) upto;
        };
  }
