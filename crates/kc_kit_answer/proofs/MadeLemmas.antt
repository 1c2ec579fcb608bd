-- The input that is made from a number, and the ranges without options.
use Rattle.std.proofs.Common.{◌≡◌, ℕ, List, [], Some, None, refl, subst}
use Rattle.std.specs.Prelude.{codes}
use Rattle.kc_gen.specs.Stimuli.{stimuli_text}
use Rattle.kc_link_place.specs.declared.ranges.Ranges.{Ranges}
use Rattle.kc_kit_words.specs.Options.{pairs_of, value_in}
use Rattle.kc_kit_words.specs.Words.{placing_of}
use Rattle.kc_kit_inputs.specs.Driving.{GivenFiles}
use Rattle.kc_kit_answer.specs.Generate.{made_names, made_texts, made_given}

pub default-ranges : record { reg = (0x1A, 0xFF); code = (0x2080, 0x5FFF); ram = (0x200, 0x1FFD); stack = None } ≡ placing_of []
unfolding pairs_of value_in
default-ranges = refl

-- a stimulus file of this text alone
abbrev pub given_stimuli : List ℕ → GivenFiles
given_stimuli text = record { stimuli = Some (codes "gens", text); analog = None }

-- what is said of the made input
pub same-input : (number : ℕ) (Q : List (List ℕ) → GivenFiles → Ranges → List (List ℕ) → Type 0) (names : List (List ℕ)) (stimuli : List ℕ) (ranges : Ranges) (texts : List (List ℕ)) →
    names ≡ made_names → stimuli ≡ stimuli_text number → ranges ≡ placing_of [] → texts ≡ made_texts number → Q names (given_stimuli stimuli) ranges texts → Q made_names (made_given number) (placing_of []) (made_texts number)
same-input number Q names stimuli ranges texts n s r t h =
    subst (λ l. Q l (made_given number) (placing_of []) (made_texts number)) n
    (subst (λ l. Q names (given_stimuli l) (placing_of []) (made_texts number)) s
    (subst (λ l. Q names (given_stimuli stimuli) l (made_texts number)) r (subst (λ l. Q names (given_stimuli stimuli) ranges l) t h)))
