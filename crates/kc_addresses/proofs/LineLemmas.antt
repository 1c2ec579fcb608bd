-- Lines that are read one after the other.
use Rattle.std.proofs.Common.{◌≡◌, ℕ, ◌+◌, Bool, true, false, Option, Some, None, Ok, Err, List, [], ◌∷◌, length, refl, sym, ap, ◌∙◌, arith}
use Rattle.kc_base.specs.TextLines.{text_lines}
use Rattle.kc_addresses.specs.Lines.{goes_on, read_from, IsAdded}

-- the first line of a text adds something
pub read-some : {S : Type 0} (add : S → List ℕ → Option S) (number : ℕ) (s t : S) (text line rest : List ℕ) →
    text_lines text ≡ line ∷ text_lines rest → add s line ≡ Some t → read_from add (number + 1) t (text_lines rest) ≡ read_from add number s (text_lines text)
unfolding read_from
read-some add number s t text line rest split is =
    sym (ap (read_from add number s) split ∙ ap (goes_on number (λ u. read_from add (number + 1) u (text_lines rest))) is)

-- or says nothing
pub read-none : {S : Type 0} (add : S → List ℕ → Option S) (number : ℕ) (s : S) (text line rest : List ℕ) →
    text_lines text ≡ line ∷ text_lines rest → add s line ≡ None → read_from add number s (text_lines text) ≡ Err number
unfolding read_from
read-none add number s text line rest split is =
    ap (read_from add number s) split ∙ ap (goes_on number (λ u. read_from add (number + 1) u (text_lines rest))) is

-- or there is none
no_lines : {S : Type 0} (add : S → List ℕ → Option S) (number : ℕ) (s : S) → read_from add number s [] ≡ Ok s
unfolding read_from
no_lines add number s = refl

pub read-end : {S : Type 0} (add : S → List ℕ → Option S) (number : ℕ) (s : S) (text : List ℕ) → length text ≡ 0 → read_from add number s (text_lines text) ≡ Ok s
unfolding text_lines
read-end add number s [] none = no_lines add number s
read-end add number s (c ∷ cs) none = absurd (omega arith)

-- ---- a line that is added, or says nothing

pub is_added : {S : Type 0} (b : Bool) (with_one : Option S) (s : S) → b ≡ true → IsAdded b with_one s → with_one ≡ Some s
is_added true with_one s t h = h
is_added false with_one s t h = absurd cc

pub says_nothing : {S : Type 0} (b : Bool) (with_one : Option S) (s : S) → b ≡ false → IsAdded b with_one s → with_one ≡ None
says_nothing true with_one s t h = absurd cc
says_nothing false with_one s t h = h
