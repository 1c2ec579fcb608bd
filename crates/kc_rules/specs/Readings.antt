-- How a grammar is written: a reading takes words at the beginning and leaves those behind them, or there is none (this kit's
-- own).
use Rattle.std.specs.Prelude.{ℕ, ◌==◌, Bool, if◌then◌else◌, List, [], length, drop, slice_index_or, Option, Some, None, option_and_then}
use Rattle.std.specs.Option.{option_map}
use Rattle.std.specs.Str.{bytes_eq}
use Rattle.kc_rules.specs.Words.{Word}

abbrev pub Reading : Type 0 → Type 0
Reading A = List Word → Option (A × List Word)

infixl 10 ◌>>=◌
infixl 10 ◌>>◌
-- one reading, and then another by what it says
abbrev pub ◌>>=◌ : {A B : Type 0} → Reading A → (A → Reading B) → Reading B
(first >>= behind) words = option_and_then (λ p. behind p.0 p.1) (first words)

abbrev pub ◌>>◌ : {A B : Type 0} → Reading A → Reading B → Reading B
(first >> behind) words = option_and_then (λ p. behind p.1) (first words)

-- takes nothing, and says this
abbrev pub says : {A : Type 0} → A → Reading A
says x words = Some (x, words)

abbrev pub nothing : {A : Type 0} → Reading A
nothing words = None

-- says this, if there is one
abbrev pub says_some : {A : Type 0} → Option A → Reading A
says_some x words = option_map (λ a. (a, words)) x

-- a word by its place; one that is not there has no character
abbrev pub word_at : ℕ → List Word → Word
word_at n words = slice_index_or words n []

-- what a word says
abbrev pub one : {A : Type 0} → (Word → Option A) → Reading A
one said words = option_map (λ x. (x, drop 1 words)) (said (word_at 0 words))

-- whether this word comes; it is taken if it does
abbrev pub has : Word → Reading Bool
has this words = Some (bytes_eq (word_at 0 words) this, if bytes_eq (word_at 0 words) this then drop 1 words else words)

-- this word
abbrev pub word : Word → Reading (Unit {0})
word this = has this >>= (λ there. if there then says tt else nothing)

-- behind this word the one, else the other
abbrev pub behind_or : {A : Type 0} → Word → Reading A → Reading A → Reading A
behind_or this one other = has this >>= (λ there. if there then one else other)

-- what is said by all the words
abbrev pub at_end : {A : Type 0} → A → List Word → Option A
at_end x words = if length words == 0 then Some x else None

abbrev pub whole : {A : Type 0} → Option (A × List Word) → Option A
whole reading = option_and_then (λ p. at_end p.0 p.1) reading
