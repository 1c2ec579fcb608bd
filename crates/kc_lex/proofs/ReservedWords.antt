-- A word is reserved if the index of words has it, or it is an instruction.
use Rattle.std.proofs.Common.{◌≡◌, ℕ, Bool, true, false, refl, ap, ◌∙◌, List, Option, Some, None}
use Rattle.std.specs.Prelude.{◌||◌, is_some}
use Rattle.kc_lex.specs.declared.reserved.Word.{Word}
use Rattle.kc_lex.specs.declared.reserved.Word.TheVariants as found
use Rattle.kc_lex.specs.Words.{is_operator_word, generic_operands_of, directive_of, is_stack, is_reserved, operands_of}
use Rattle.kc_lex.specs.Reserved as reserved
use Rattle.kc_lex.proofs.ReservedLemmas.{Says}

-- the five kinds of reserved words, the instructions second
any_of : Bool → Bool → Bool → Bool → Bool → Bool
any_of a b c d e = a || b || c || d || e

any-of : (a b c d e v w x y : Bool) → a ≡ v → c ≡ w → d ≡ x → e ≡ y → any_of a b c d e ≡ any_of v b w x y
any-of a b c d e v w x y f g h i = cc (f, g, h, i)

by_kinds : (word : List ℕ) → is_reserved word ≡ any_of (is_operator_word word) (is_some (operands_of word)) (is_some (generic_operands_of word)) (is_some (directive_of word)) (is_stack word)
unfolding is_reserved any_of
by_kinds word = refl

by_found : (word : List ℕ) (o : Option Word) → Says word o →
    is_reserved word ≡ any_of (reserved.is_operator o) (is_some (operands_of word)) (is_some (reserved.operands_in o)) (is_some (reserved.directive_in o)) (reserved.is_stack o)
by_found word o s =
    by_kinds word ∙ any-of (is_operator_word word) (is_some (operands_of word)) (is_some (generic_operands_of word)) (is_some (directive_of word)) (is_stack word)
    (reserved.is_operator o) (is_some (reserved.operands_in o)) (is_some (reserved.directive_in o)) (reserved.is_stack o)
    s.operator (ap (λ d. is_some d) s.branch) (ap (λ d. is_some d) s.directive) s.stack

summed : (o : Option Word) (b : Bool) → any_of (reserved.is_operator o) b (is_some (reserved.operands_in o)) (is_some (reserved.directive_in o)) (reserved.is_stack o) ≡ (is_some o || b)
unfolding any_of
summed (Some found.Operator) true = refl
summed (Some found.Operator) false = refl
summed (Some found.Condition) true = refl
summed (Some found.Condition) false = refl
summed (Some (found.Branch form)) true = refl
summed (Some (found.Branch form)) false = refl
summed (Some (found.Directive d)) true = refl
summed (Some (found.Directive d)) false = refl
summed (Some found.Stack) true = refl
summed (Some found.Stack) false = refl
summed None true = refl
summed None false = refl

pub reserved_if_found : (word : List ℕ) (o : Option Word) → Says word o → is_reserved word ≡ (is_some o || is_some (operands_of word))
reserved_if_found word o s = by_found word o s ∙ summed o (is_some (operands_of word))

pub reserved_there : (word : List ℕ) (o : Option Word) → Says word o → is_some o ≡ true → is_reserved word ≡ true
reserved_there word o s h = reserved_if_found word o s ∙ ap (λ t. t || is_some (operands_of word)) h

pub reserved_else : (word : List ℕ) (o : Option Word) → Says word o → is_some o ≡ false → is_reserved word ≡ is_some (operands_of word)
reserved_else word o s h = reserved_if_found word o s ∙ ap (λ t. t || is_some (operands_of word)) h
