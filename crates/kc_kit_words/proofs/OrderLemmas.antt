-- Two options that stand beside one another change places.
use Rattle.std.proofs.Common.{◌≡◌, ◌⊎◌, inl, inr, ℕ, Bool, true, false, ◌&&◌, cond, List, [], ◌∷◌, ◌++◌, map, Option, Some, None, refl, sym, ap, ◌∙◌}
use Rattle.std.specs.Prelude.{is_none, codes}
use Rattle.std.specs.Str.{bytes_eq}
use Rattle.std.proofs.lemmas.Slice.Eq.{bytes_eq-Decides}
use Rattle.kc_kit_words.specs.declared.inputs.Role.{Role}
use Rattle.kc_kit_words.specs.Options.{takes, is_flag, pairs_of, left_over, first_pair, value_in, value_of, are_pairs, are_options, role_of, with_input, inputs_among, inputs_of}
use Rattle.kc_kit_words.specs.Commands.{sparing}
use Rattle.kc_kit_words.specs.Words.{command_by, command_with}
use Rattle.kc_kit_words.specs.Order.{with_word, words_of, OptionsInAnyOrder}
use Rattle.kc_kit_words.proofs.OptionLemmas.{pairs-first, over-first}

-- ---- names of options

same : (a b : List ℕ) → bytes_eq a b ≡ true → a ≡ b
same a b h = (bytes_eq-Decides a b).0 h

is-same : (a b : List ℕ) → a ≡ b → bytes_eq a b ≡ true
is-same a b e = (bytes_eq-Decides a b).1 e

turned : (a b : List ℕ) → bytes_eq a b ≡ false → bytes_eq b a ≡ false
turned a b h = by (bytes_eq b a) refl
  where
    by : (t : Bool) → bytes_eq b a ≡ t → t ≡ false
    by false e = refl
    by true e = absurd (let k : true ≡ false = sym (is-same a b (sym (same b a e))) ∙ h in cc)

-- ---- options as they are read

abbrev given : List ℕ × List ℕ → List ℕ × List ℕ
given p = (p.0, cond (is_flag p.0) [] p.1)

with-first : (p : List ℕ × List ℕ) (words : List (List ℕ)) → first_pair (with_word p words) ≡ Some (given p, words)
with-first p words = by (is_flag p.0) refl
  where
    flagged : (ws : List (List ℕ)) → is_flag p.0 ≡ true → first_pair (p.0 ∷ ws) ≡ Some ((p.0, []), ws)
    flagged [] e = ap (λ t. cond t (Some ((p.0, []), [])) None) e
    flagged (v ∷ ws) e = ap (λ t. cond t (Some ((p.0, []), v ∷ ws)) (Some ((p.0, v), ws))) e

    by : (b : Bool) → is_flag p.0 ≡ b → first_pair (cond b (p.0 ∷ words) (p.0 ∷ p.1 ∷ words)) ≡ Some ((p.0, cond b [] p.1), words)
    by true e = flagged words e
    by false e = ap (λ t. cond t (Some ((p.0, []), p.1 ∷ words)) (Some ((p.0, p.1), words))) e

pairs-words : (prefix back : List (List ℕ × List ℕ)) → pairs_of (words_of (prefix ++ back)) ≡ map given prefix ++ pairs_of (words_of back)
pairs-words [] back = refl
pairs-words (f ∷ prefix) back =
    pairs-first (words_of (f ∷ prefix ++ back)) (given f) (words_of (prefix ++ back)) (with-first f (words_of (prefix ++ back))) ∙ ap (λ ps. given f ∷ ps) (pairs-words prefix back)

pairs-two : (prefix back : List (List ℕ × List ℕ)) (p q : List ℕ × List ℕ) → pairs_of (words_of (prefix ++ p ∷ q ∷ back)) ≡ map given prefix ++ given p ∷ given q ∷ pairs_of (words_of back)
pairs-two prefix back p q = pairs-words prefix (p ∷ q ∷ back) ∙ ap (λ ps. map given prefix ++ ps) (pairs-words (p ∷ q ∷ []) back)

over-words : (options : List (List ℕ × List ℕ)) → left_over (words_of options) ≡ None
unfolding left_over
over-words [] = refl
over-words (f ∷ options) = over-first (words_of (f ∷ options)) (given f) (words_of options) (with-first f (words_of options)) ∙ over-words options

-- ---- values

-- of two different options one at most is the one that is sought
either : (x a b : List ℕ) → bytes_eq a b ≡ false → (s t : Bool) → bytes_eq a x ≡ s → bytes_eq b x ≡ t → (v w rest : Option (List ℕ)) → cond s v (cond t w rest) ≡ cond t w (cond s v rest)
either x a b other true true e f v w rest = absurd (let k : true ≡ false = sym (is-same a b (same a x e ∙ sym (same b x f))) ∙ other in cc)
either x a b other true false e f v w rest = refl
either x a b other false t e f v w rest = refl

values-alike : (prefix back : List (List ℕ × List ℕ)) (p q : List ℕ × List ℕ) → bytes_eq p.0 q.0 ≡ false → (x : List ℕ) → value_in x (prefix ++ p ∷ q ∷ back) ≡ value_in x (prefix ++ q ∷ p ∷ back)
unfolding value_in
values-alike [] back p q other x = either x p.0 q.0 other (bytes_eq p.0 x) (bytes_eq q.0 x) refl refl (Some p.1) (Some q.1) (value_in x back)
values-alike (f ∷ prefix) back p q other x = ap (cond (bytes_eq f.0 x) (Some f.1)) (values-alike prefix back p q other x)

-- ---- files for reading

inputs-turned : (r s : Option Role) (v w : List ℕ) (more : List (Role × List ℕ)) → (r ≡ None) ⊎ (s ≡ None) → with_input r v (with_input s w more) ≡ with_input s w (with_input r v more)
inputs-turned None s v w more h = refl
inputs-turned (Some r) None v w more h = refl
inputs-turned (Some r) (Some s) v w more (inl e) = absurd (cc)
inputs-turned (Some r) (Some s) v w more (inr e) = absurd (cc)

inputs-alike : (verb : List ℕ) (prefix back : List (List ℕ × List ℕ)) (p q : List ℕ × List ℕ) → (role_of verb p.0 ≡ None) ⊎ (role_of verb q.0 ≡ None) →
    inputs_among verb (prefix ++ p ∷ q ∷ back) ≡ inputs_among verb (prefix ++ q ∷ p ∷ back)
unfolding inputs_among
inputs-alike verb [] back p q none = inputs-turned (role_of verb p.0) (role_of verb q.0) p.1 q.1 (inputs_among verb back) none
inputs-alike verb (f ∷ prefix) back p q none = ap (with_input (role_of verb f.0) f.1) (inputs-alike verb prefix back p q none)

-- ---- options that a command takes

swapped : (a b c d e : Bool) → ((a && b) && ((c && d) && e)) ≡ ((c && d) && ((a && b) && e))
swapped true true c d e = refl
swapped true false true true e = refl
swapped true false true false e = refl
swapped true false false d e = refl
swapped false b true true e = refl
swapped false b true false e = refl
swapped false b false d e = refl

-- behind another option nothing else is found
other-value : (x : List ℕ) (p : List ℕ × List ℕ) (pairs : List (List ℕ × List ℕ)) → bytes_eq p.0 x ≡ false → value_in x (p ∷ pairs) ≡ value_in x pairs
unfolding value_in
other-value x p pairs h = ap (λ b. cond b (Some p.1) (value_in x pairs)) h

two-pairs : (verb : List ℕ) (back : List (List ℕ × List ℕ)) (p q : List ℕ × List ℕ) → bytes_eq q.0 p.0 ≡ false →
    are_pairs verb (p ∷ q ∷ back) ≡ ((takes verb p.0 p.1 && is_none (value_in p.0 back)) && ((takes verb q.0 q.1 && is_none (value_in q.0 back)) && are_pairs verb back))
unfolding are_pairs
two-pairs verb back p q other = ap (λ v. (takes verb p.0 p.1 && is_none v) && are_pairs verb (q ∷ back)) (other-value p.0 q back other)

pairs-alike : (verb : List ℕ) (prefix back : List (List ℕ × List ℕ)) (p q : List ℕ × List ℕ) → bytes_eq p.0 q.0 ≡ false → are_pairs verb (prefix ++ p ∷ q ∷ back) ≡ are_pairs verb (prefix ++ q ∷ p ∷ back)
unfolding are_pairs
pairs-alike verb [] back p q other =
    two-pairs verb back p q (turned p.0 q.0 other)
    ∙ swapped (takes verb p.0 p.1) (is_none (value_in p.0 back)) (takes verb q.0 q.1) (is_none (value_in q.0 back)) (are_pairs verb back)
    ∙ sym (two-pairs verb back q p other)
pairs-alike verb (f ∷ prefix) back p q other =
    ap (λ v. (takes verb f.0 f.1 && is_none v) && are_pairs verb (prefix ++ p ∷ q ∷ back)) (values-alike prefix back p q other f.0)
    ∙ ap (λ o. (takes verb f.0 f.1 && is_none (value_in f.0 (prefix ++ q ∷ p ∷ back))) && o) (pairs-alike verb prefix back p q other)

-- an option that stands twice
and-false : (a b : Bool) → ((a && false) && b) ≡ false
and-false true b = refl
and-false false b = refl

all-false : (a : Bool) → (a && false) ≡ false
all-false true = refl
all-false false = refl

twice : (verb : List ℕ) (prefix back : List (List ℕ × List ℕ)) (p q : List ℕ × List ℕ) → bytes_eq q.0 p.0 ≡ true → are_pairs verb (prefix ++ p ∷ q ∷ back) ≡ false
unfolding are_pairs value_in
twice verb [] back p q h =
    ap (λ b. (takes verb p.0 p.1 && is_none (cond b (Some q.1) (value_in p.0 back))) && are_pairs verb (q ∷ back)) h ∙ and-false (takes verb p.0 p.1) (are_pairs verb (q ∷ back))
twice verb (f ∷ prefix) back p q h =
    ap (λ o. (takes verb f.0 f.1 && is_none (value_in f.0 (prefix ++ p ∷ q ∷ back))) && o) (twice verb prefix back p q h) ∙ all-false (takes verb f.0 f.1 && is_none (value_in f.0 (prefix ++ p ∷ q ∷ back)))

-- ---- commands

-- a command knows no more of its options than their values and the files for reading
commands-alike : (verb : List ℕ) (files a b : List (List ℕ)) → ((x : List ℕ) → value_of x a ≡ value_of x b) → inputs_of verb a ≡ inputs_of verb b → command_by verb files a ≡ command_by verb files b
commands-alike verb [] a b values inputs = refl
commands-alike verb (f ∷ []) a b values inputs = rw (values (codes "--states"), values (codes "--lives"), values (codes "--profile"), values (codes "--cover"), values (codes "--out"), values (codes "--list"), values (codes "--lines"), values (codes "--map"), values (codes "--clock"), values (codes "--reg"), values (codes "--code"), values (codes "--data"), values (codes "--stack"), inputs) refl
commands-alike verb (f ∷ g ∷ []) a b values inputs =
    rw (values (codes "--to"), values (codes "--entered"), values (codes "--latency"), values (codes "--worst"), values (codes "--states"), values (codes "--lives"), values (codes "--profile"), values (codes "--cover"), values (codes "--out"), values (codes "--lines"), values (codes "--map"), values (codes "--clock"), values (codes "--reg"), values (codes "--code"), values (codes "--data"), values (codes "--stack"), inputs) refl
commands-alike verb (f ∷ g ∷ h ∷ files) a b values inputs =
    rw (values (codes "--states"), values (codes "--lives"), values (codes "--profile"), values (codes "--cover"), values (codes "--out"), values (codes "--lines"), values (codes "--map"), values (codes "--reg"), values (codes "--code"), values (codes "--data"), values (codes "--stack"), inputs) refl

with-true : (b : Bool) → (b && true) ≡ b
with-true true = refl
with-true false = refl

options-two : (verb : List ℕ) (prefix back : List (List ℕ × List ℕ)) (p q : List ℕ × List ℕ) →
    are_options verb (words_of (prefix ++ p ∷ q ∷ back)) ≡ are_pairs verb (map given prefix ++ given p ∷ given q ∷ pairs_of (words_of back))
options-two verb prefix back p q =
    ap (λ o. are_pairs verb (pairs_of (words_of (prefix ++ p ∷ q ∷ back))) && is_none o) (over-words (prefix ++ p ∷ q ∷ back))
    ∙ with-true (are_pairs verb (pairs_of (words_of (prefix ++ p ∷ q ∷ back)))) ∙ ap (are_pairs verb) (pairs-two prefix back p q)

pub in_any_order : OptionsInAnyOrder
in_any_order verb files prefix back p q none = by (bytes_eq p.0 q.0) refl
  where
    a : List (List ℕ)
    a = words_of (prefix ++ p ∷ q ∷ back)

    b : List (List ℕ)
    b = words_of (prefix ++ q ∷ p ∷ back)

    front : List (List ℕ × List ℕ)
    front = map given prefix

    last : List (List ℕ × List ℕ)
    last = pairs_of (words_of back)

    values : bytes_eq p.0 q.0 ≡ false → (x : List ℕ) → value_of x a ≡ value_of x b
    values e x = ap (value_in x) (pairs-two prefix back p q) ∙ values-alike front last (given p) (given q) e x ∙ sym (ap (value_in x) (pairs-two prefix back q p))

    inputs : inputs_of verb a ≡ inputs_of verb b
    inputs = ap (inputs_among verb) (pairs-two prefix back p q) ∙ inputs-alike verb front last (given p) (given q) none ∙ sym (ap (inputs_among verb) (pairs-two prefix back q p))

    by : (t : Bool) → bytes_eq p.0 q.0 ≡ t → command_with verb files a ≡ command_with verb files b
    by false e =
        ap (λ o. cond o (sparing (command_by verb files a)) None) (options-two verb prefix back p q ∙ pairs-alike verb front last (given p) (given q) e ∙ sym (options-two verb prefix back q p))
        ∙ ap (λ k. cond (are_options verb b) (sparing k) None) (commands-alike verb files a b (values e) inputs)
    by true e =
        ap (λ o. cond o (sparing (command_by verb files a)) None) (options-two verb prefix back p q ∙ twice verb front last (given p) (given q) (is-same q.0 p.0 (sym (same p.0 q.0 e))))
        ∙ sym (ap (λ o. cond o (sparing (command_by verb files b)) None) (options-two verb prefix back q p ∙ twice verb front last (given q) (given p) e))
