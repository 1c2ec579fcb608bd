-- What is left of a text while bytes of it are read and taken.
use Rattle.std.proofs.Common.{◌≡◌, ℕ, zero, suc, ◌+◌, ◌-◌, ◌<◌, ◌≤◌, Bool, true, false, inl, inr, List, [], ◌∷◌, ◌++◌, Option, Some, None, length, take, drop, refl, sym, ap, subst, ◌∙◌, append_assoc, arith}
use Rattle.std.specs.Prelude.{unwrap_or}
use Rattle.std.proofs.Math.Seq.{take-add}
use Rattle.std.proofs.lemmas.Bool.{cases_lt}
use Rattle.std.proofs.lemmas.List.{take-take, drop-drop, drop-take, length-drop, length-take-le}
use Rattle.std.specs.Io.KnownBytes.{prepend_known, Consumes, Keeps, IsAtEnd}
use Rattle.kc_base.specs.TextLines.{text_lines}
use Rattle.kc_base.proofs.TextLineLemmas.{take_while-end, up_to_end}
use Rattle.kc_byte_source.specs.Feed.{GaveLine, IsLongLine, IsLineOf}
use Rattle.kc_byte_source.specs.Window.{first_len, IsLongFirst}
use Rattle.kc_byte_source.proofs.LineLemmas.{long_first, up-short}

-- what has been given is unread, and what is left is the same
pub grown : (u v bytes : List ℕ) (reported now : Option (List ℕ)) → v ≡ u ++ bytes → Consumes reported now bytes → Keeps (prepend_known u reported) (prepend_known v now)
grown u v bytes None now e h = tt
grown u v bytes (Some xs) None e h = absurd h
grown u v bytes (Some xs) (Some ys) e h = ap (λ l. l ++ ys) e ∙ append_assoc u bytes ys ∙ ap (λ l. u ++ l) (sym h)

pub stayed : (u v : List ℕ) (reported now : Option (List ℕ)) → v ≡ u → Keeps reported now → Keeps (prepend_known u reported) (prepend_known v now)
stayed u v None now e h = tt
stayed u v (Some xs) None e h = absurd h
stayed u v (Some xs) (Some ys) e h = (λ i. e i ++ h i)

pub ended_source : (reported : Option (List ℕ)) → IsAtEnd reported → unwrap_or reported [] ≡ []
ended_source None h = refl
ended_source (Some xs) h = h

-- bytes that stand at the beginning of a room, and some more behind them
pub read_in : (room new : List ℕ) (to n : ℕ) → take to new ≡ take to room → take (to + n) new ≡ take to room ++ take n (drop to new)
read_in room new to n prefix = take-add to n new ∙ ap (λ t. t ++ take n (drop to new)) prefix

-- what is unread of a room that is read from its prefix, once some more bytes stand behind
pub more_unread : (room new : List ℕ) (from to n : ℕ) → from ≡ 0 → take to new ≡ take to room → take (to + n - from) (drop from new) ≡ take (to - from) (drop from room) ++ take n (drop to new)
more_unread room new zero to n e prefix =
    let more : to + n - 0 ≡ to + n = omega arith in
    let all : to - 0 ≡ to = omega arith in
    (λ i. take (more i) new) ∙ read_in room new to n prefix ∙ (λ i. take (sym all i) room ++ take n (drop to new))
more_unread room new (suc from) to n e prefix = absurd (omega (arith, e))

-- nothing is left
pub at_end : (u : List ℕ) (before reported : Option (List ℕ)) → u ≡ [] → unwrap_or reported [] ≡ [] → Keeps before (prepend_known u reported) → IsAtEnd before
at_end u None reported none over h = tt
at_end u (Some xs) None none over h = absurd h
at_end u (Some xs) (Some ys) none over h = sym h ∙ (λ i. none i ++ over i)

pub too_long : (u : List ℕ) (most : ℕ) (before reported : Option (List ℕ)) → ((rest : List ℕ) → reported ≡ Some rest → (line : List ℕ) × (lines : List (List ℕ)) × (text_lines (u ++ rest) ≡ line ∷ lines) × (most < length line)) →
    Keeps before (prepend_known u reported) → IsLongLine most before
too_long u most None reported long h = tt
too_long u most (Some xs) None long h = absurd h
too_long u most (Some xs) (Some ys) long h =
    let l = long ys refl in
    (l.0, l.1, ap text_lines (sym h) ∙ l.2, l.3)

pub gave : (u line v : List ℕ) (len used : ℕ) (before reported : Option (List ℕ)) → ((rest : List ℕ) → reported ≡ Some rest → IsLineOf u len used rest) → line ≡ take len u → v ≡ drop used u →
    Keeps before (prepend_known u reported) → GaveLine before line (prepend_known v reported)
gave u line v len used None reported is e f h = tt
gave u line v len used (Some xs) None is e f h = absurd h
gave u line v len used (Some xs) (Some ys) is e f h =
    ap text_lines (sym h) ∙ (is ys refl).lines ∙ (λ i. sym e i ∷ text_lines (sym f i ++ ys))

-- the bytes that are left in a part of a room behind its first so many
pub behind : (room : List ℕ) (from to used : ℕ) → from + used ≤ to → take (to - (from + used)) (drop (from + used) room) ≡ drop used (take (to - from) (drop from room))
behind room from to used within =
    let rest : to - from ≡ used + (to - (from + used)) = omega (arith, within) in
    ap (take (to - (from + used))) (sym (drop-drop used from room)) ∙ sym (ap (λ k. drop used (take k (drop from room))) rest ∙ drop-take used (to - (from + used)) (drop from room))

-- the first bytes of a part of a room
pub first_of_part : (room : List ℕ) (from to len : ℕ) → len ≤ to - from → take len (drop from room) ≡ take len (take (to - from) (drop from room))
first_of_part room from to len within = sym (take-take len (to - from) (drop from room) within)

-- how long a part of a room is
pub part_len : (room : List ℕ) (from to len : ℕ) → len ≡ length room → from ≤ to → to ≤ len → length (take (to - from) (drop from room)) ≡ to - from
part_len room from to len is order within =
    let rest : length (drop from room) ≡ length room - from = length-drop from room in
    length-take-le (to - from) (drop from room) (omega (arith, is, rest, order, within))

-- the first line of what is left begins the unread part: it ends there, or nothing is to come behind that
pub is_line : (u : List ℕ) (n len used : ℕ) (over : Bool) (reported : Option (List ℕ)) → (n < length u → (rest : List ℕ) → IsLineOf u len used rest) → (n ≡ length u → IsLineOf u len used []) → n ≤ length u →
    (over ≡ false → n < length u) → (over ≡ true → unwrap_or reported [] ≡ []) → (rest : List ℕ) → reported ≡ Some rest → IsLineOf u len used rest
is_line u n len used true reported ended last within goes over rest is = elim (cases_lt n (length u)) [
  | inl less ↦ ended less rest
  | inr most ↦
      let none : [] ≡ rest = sym (over refl) ∙ ap (λ t. unwrap_or t []) is in
      subst (IsLineOf u len used) none (last (omega (arith, most, within)))
]
is_line u n len used false reported ended last within goes over rest is = ended (goes refl) rest

-- a line that is longer than the bound
pub long_line : (u : List ℕ) (most len used : ℕ) (before reported : Option (List ℕ)) → ((rest : List ℕ) → reported ≡ Some rest → IsLineOf u len used rest) → len ≤ length u → most < len →
    Keeps before (prepend_known u reported) → IsLongLine most before
long_line u most len used before reported is within long h =
    let all : length (take len u) ≡ len = length-take-le len u within in
    too_long u most before reported (λ rest reported_is. (take len u, text_lines (drop used u ++ rest), (is rest reported_is).lines, omega (arith, all, long))) h

-- so many bytes and no line feed among them
pub long_text : (u : List ℕ) (most : ℕ) (before reported : Option (List ℕ)) → IsLongFirst most u → Keeps before (prepend_known u reported) → IsLongLine most before
long_text u most before reported is h = too_long u most before reported (λ rest reported_is. long_first u rest most (sym (ap length (take_while-end u)) ∙ is.none) is.more) h

pub first_within : (u : List ℕ) (n : ℕ) → n ≡ first_len u → n ≤ length u
first_within u n is =
    let all = up-short u in
    let same : n ≡ length (up_to_end u) = is ∙ ap length (take_while-end u) in
    omega (arith, all, same)
