-- What is accepted of a step and of files (this kit's own).
use Rattle.std.specs.Prelude.{ℕ, List, [], ◌∷◌, Result, Ok, Err}
use Rattle.kc_kit_files.specs.Response.{Response}

-- the step gives a value, which is accepted
abbrev pub Accepting : {A : Type 0} → (A → Type 0) → Result A Response → Type 0
Accepting accepts (Ok a) = accepts a
Accepting accepts (Err refusal) = ⊥

-- the response that a step's value has, or the refusal
abbrev pub reported : {A : Type 0} → Result A Response → (A → Response) → Response
reported (Ok a) report = report a
reported (Err refusal) report = refusal

-- the one file of a command
abbrev pub IsOneText : (List ℕ → Type 0) → List (List ℕ) → Type 0
IsOneText accepts (text ∷ []) = accepts text
IsOneText accepts _ = ⊥

-- the two files of a command
abbrev pub AreTwoTexts : (List ℕ → List ℕ → Type 0) → List (List ℕ) → Type 0
AreTwoTexts accepts (text ∷ other ∷ []) = accepts text other
AreTwoTexts accepts _ = ⊥
