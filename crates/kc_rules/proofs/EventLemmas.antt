-- Atoms with `or` between, one after the other.
use Rattle.std.proofs.Common.{◌≡◌, ℕ, zero, suc, ◌+◌, ◌-◌, ◌<◌, Bool, true, false, cond, List, [], ◌∷◌, ◌++◌, Option, Some, None, drop, refl, sym, ap, ◌∙◌, append_assoc, arith}
use Rattle.std.specs.Prelude.{codes, option_and_then}
use Rattle.std.specs.Option.{option_map}
use Rattle.std.specs.Str.{bytes_eq}
use Rattle.kc_rules.specs.declared.events.Atom.{Atom}
use Rattle.kc_rules.specs.Words.{Word}
use Rattle.kc_rules.specs.Readings.{word_at, has}
use Rattle.kc_rules.specs.Events.{atom, events_up_to}

-- ---- whether a word comes

abbrev said : Option (Bool × List Word) → Bool
said None = false
said (Some p) = p.0

abbrev left : Option (Bool × List Word) → List Word
left None = []
left (Some p) = p.1

it_comes : (this : Word) (words after : List Word) → has this words ≡ Some (true, after) → (bytes_eq (word_at 0 words) this ≡ true) × (after ≡ drop 1 words)
it_comes this words after e =
    let here : bytes_eq (word_at 0 words) this ≡ true = ap said e in
    (here, sym (ap left e) ∙ ap (λ b. cond b (drop 1 words) words) here)

it_lacks : (this : Word) (words after : List Word) → has this words ≡ Some (false, after) → (bytes_eq (word_at 0 words) this ≡ false) × (after ≡ words)
it_lacks this words after e =
    let here : bytes_eq (word_at 0 words) this ≡ false = ap said e in
    (here, sym (ap left e) ∙ ap (λ b. cond b (drop 1 words) words) here)

-- ---- one atom

-- atoms in front of those that are read
abbrev pub joined : List Atom → Option (List Atom × List Word) → Option (List Atom × List Word)
joined es o = option_map (λ p. (es ++ p.0, p.1)) o

pub events-none : (n : ℕ) (marks words : List Word) → n ≡ 0 → events_up_to n marks words ≡ None
unfolding events_up_to
events-none zero marks words none = refl
events-none (suc n) marks words none = absurd (omega arith)

pub events-wrong : (n : ℕ) (marks words : List Word) → atom marks words ≡ None → events_up_to n marks words ≡ None
unfolding events_up_to
events-wrong zero marks words wrong = refl
events-wrong (suc n) marks words wrong = rw wrong refl

events-last : (n : ℕ) (marks words behind : List Word) (a : Atom) → 0 < n → atom marks words ≡ Some (a, behind) →
    bytes_eq (word_at 0 behind) (codes "or") ≡ false → events_up_to n marks words ≡ Some (a ∷ [], behind)
unfolding events_up_to
events-last zero marks words behind a some is last = absurd (omega arith)
events-last (suc n) marks words behind a some is last = rw (is, last) refl

said_before : (a : Atom) (o : Option (List Atom × List Word)) → option_and_then {U = List Atom × List Word} (λ p. Some (a ∷ p.0, p.1)) o ≡ joined (a ∷ []) o
said_before a None = refl
said_before a (Some p) = refl

events-more : (n : ℕ) (marks words behind : List Word) (a : Atom) → atom marks words ≡ Some (a, behind) →
    bytes_eq (word_at 0 behind) (codes "or") ≡ true → events_up_to (suc n) marks words ≡ joined (a ∷ []) (events_up_to n marks (drop 1 behind))
unfolding events_up_to
events-more n marks words behind a is more = rw (is, more) (said_before a (events_up_to n marks (drop 1 behind)))

joined-joined : (es more : List Atom) (o : Option (List Atom × List Word)) → joined es (joined more o) ≡ joined (es ++ more) o
joined-joined es more None = refl
joined-joined es more (Some p) = rw append_assoc refl

-- ---- one more, behind those that are read

pub last-atom : (most done : ℕ) (marks all words behind after : List Word) (es : List Atom) (a : Atom) → done < most →
    events_up_to most marks all ≡ joined es (events_up_to (most - done) marks words) → atom marks words ≡ Some (a, behind) →
    has (codes "or") behind ≡ Some (false, after) → events_up_to most marks all ≡ Some (es ++ a ∷ [], after)
last-atom most done marks all words behind after es a less before is last =
    let parts = it_lacks (codes "or") behind after last in
    before ∙ ap (λ o. joined es o) (events-last (most - done) marks words behind a (omega arith) is parts.0)
    ∙ ap (λ ws. Some (es ++ a ∷ [], ws)) (sym parts.1)

pub more-atoms : (most done : ℕ) (marks all words behind after : List Word) (es : List Atom) (a : Atom) → done < most →
    events_up_to most marks all ≡ joined es (events_up_to (most - done) marks words) → atom marks words ≡ Some (a, behind) →
    has (codes "or") behind ≡ Some (true, after) →
    events_up_to most marks all ≡ joined (es ++ a ∷ []) (events_up_to (most - (done + 1)) marks after)
more-atoms most done marks all words behind after es a less before is more =
    let parts = it_comes (codes "or") behind after more in
    let n = most - (done + 1) in
    let one : most - done ≡ suc (most - (done + 1)) = omega arith in
    before ∙ ap (λ m. joined es (events_up_to m marks words)) one ∙ ap (λ o. joined es o) (events-more n marks words behind a is parts.0)
    ∙ joined-joined es (a ∷ []) (events_up_to n marks (drop 1 behind))
    ∙ ap (λ ws. joined (es ++ a ∷ []) (events_up_to n marks ws)) (sym parts.1)
