-- A law of the options: they come in any order (this kit's own).
use Rattle.std.specs.Prelude.{◌≡◌, ◌⊎◌, ℕ, List, [], ◌∷◌, ◌++◌, None, if◌then◌else◌}
use Rattle.kc_kit_words.specs.Options.{is_flag, role_of}
use Rattle.kc_kit_words.specs.Words.{command_with}

-- the words of options and their values; a flag stands without
abbrev pub with_word : List ℕ × List ℕ → List (List ℕ) → List (List ℕ)
with_word option words = if is_flag option.0 then option.0 ∷ words else option.0 ∷ option.1 ∷ words

abbrev pub words_of : List (List ℕ × List ℕ) → List (List ℕ)
words_of [] = []
words_of (option ∷ options) = with_word option (words_of options)

-- two options that stand beside one another may change places, but two that name files for reading
abbrev pub OptionsInAnyOrder : Type 0
OptionsInAnyOrder =
    (verb : List ℕ) (files : List (List ℕ)) (prefix back : List (List ℕ × List ℕ)) (one other : List ℕ × List ℕ)
    → (role_of verb one.0 ≡ None) ⊎ (role_of verb other.0 ≡ None)
    → command_with verb files (words_of (prefix ++ one ∷ other ∷ back)) ≡ command_with verb files (words_of (prefix ++ other ∷ one ∷ back))
