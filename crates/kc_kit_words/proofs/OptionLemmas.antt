-- The words of a command line: options are taken one by one, with their values.
use Rattle.std.proofs.Common.{◌≡◌, ℕ, Bool, true, false, ◌&&◌, cond, List, [], ◌∷◌, ◌++◌, length, take, drop, map, get_or, string_bytes, String, Global, ◌-◌, ◌≤◌, ◌<◌, arith, Option, Some, None, refl, sym, ap, subst, ◌∙◌}
use Rattle.std.specs.Prelude.{◌||◌, is_none, is_some, nat_eq}
use Rattle.std.specs.List.{list_any}
use Rattle.std.specs.Option.{option_map, option_or}
use Rattle.std.specs.Str.{bytes_eq}
use Rattle.std.proofs.lemmas.List.{take_all, take-map, drop-map}
use Rattle.kc_kit_words.specs.declared.inputs.Role.{Role}
use Rattle.kc_kit_words.specs.Commands.{names_of}
use Rattle.kc_kit_words.specs.Options.{form_of, is_flag, pairs_of, left_over, first_pair, takes, value_in, value_of, are_pairs, are_options, role_of, with_input, inputs_among, inputs_of}
use Rattle.kc_kit_words.specs.Usage.{wrong_value, wrong_last, wrong_pairs, wrong_option}
use Rattle.kc_kit_words.specs.Words.{command_with, plain_command_of, count_files, hex_by, list_by, debug_by, check_by, bound_by}

-- ---- the first option, and those behind

abbrev IsFirst : List (List ℕ × List ℕ) → Option (List ℕ) → Option ((List ℕ × List ℕ) × List (List ℕ)) → Type 0
IsFirst pairs over None = pairs ≡ []
IsFirst pairs over (Some f) = (pairs ≡ f.0 ∷ pairs_of f.1) × (over ≡ left_over f.1)

first-is : (words : List (List ℕ)) → IsFirst (pairs_of words) (left_over words) (first_pair words)
unfolding pairs_of left_over
first-is [] = refl
first-is (w ∷ []) = by (is_flag w)
  where
    by : (b : Bool) → IsFirst (cond b ((w, []) ∷ []) []) (cond b None (Some w)) (cond b (Some ((w, []), [])) None)
    by true = (refl, refl)
    by false = refl
first-is (w ∷ v ∷ words) = by (is_flag w)
  where
    by : (b : Bool) →
        IsFirst (cond b ((w, []) ∷ pairs_of (v ∷ words)) ((w, v) ∷ pairs_of words)) (cond b (left_over (v ∷ words)) (left_over words)) (cond b (Some ((w, []), v ∷ words)) (Some ((w, v), words)))
    by true = (refl, refl)
    by false = (refl, refl)

pub pairs-first : (words : List (List ℕ)) (p : List ℕ × List ℕ) (rest : List (List ℕ)) → first_pair words ≡ Some (p, rest) → pairs_of words ≡ p ∷ pairs_of rest
pairs-first words p rest e = (subst (IsFirst (pairs_of words) (left_over words)) e (first-is words)).0

pub over-first : (words : List (List ℕ)) (p : List ℕ × List ℕ) (rest : List (List ℕ)) → first_pair words ≡ Some (p, rest) → left_over words ≡ left_over rest
over-first words p rest e = (subst (IsFirst (pairs_of words) (left_over words)) e (first-is words)).1

pairs-none : (words : List (List ℕ)) → first_pair words ≡ None → pairs_of words ≡ []
pairs-none words e = subst (IsFirst (pairs_of words) (left_over words)) e (first-is words)

-- where no option has a value, a word is left over, or there is none
abbrev pub first_word : List (List ℕ) → Option (List ℕ)
first_word [] = None
first_word (w ∷ words) = Some w

two-have : (w v : List ℕ) (words : List (List ℕ)) → first_pair (w ∷ v ∷ words) ≡ None → ⊥
two-have w v words e = by (is_flag w) e
  where
    by : (b : Bool) → cond {A = Option ((List ℕ × List ℕ) × List (List ℕ))} b (Some ((w, []), v ∷ words)) (Some ((w, v), words)) ≡ None → ⊥
    by true f = absurd (cc)
    by false f = absurd (cc)

over-none : (words : List (List ℕ)) → first_pair words ≡ None → left_over words ≡ first_word words
unfolding left_over
over-none [] e = refl
over-none (w ∷ []) e = by (is_flag w) e
  where
    by : (b : Bool) → cond {A = Option ((List ℕ × List ℕ) × List (List ℕ))} b (Some ((w, []), [])) None ≡ None → cond b None (Some w) ≡ Some w
    by true f = absurd (cc)
    by false f = refl
over-none (w ∷ v ∷ words) e = absurd (two-have w v words e)

-- ---- the value of an option

pub value_of-first : (option : List ℕ) (words : List (List ℕ)) (p : List ℕ × List ℕ) (rest : List (List ℕ)) (b : Bool) → first_pair words ≡ Some (p, rest) → bytes_eq p.0 option ≡ b →
    value_of option words ≡ cond b (Some p.1) (value_of option rest)
unfolding value_in
value_of-first option words p rest b e is = ap (value_in option) (pairs-first words p rest e) ∙ ap (λ t. cond t (Some p.1) (value_of option rest)) is

pub value_of-none : (option : List ℕ) (words : List (List ℕ)) → first_pair words ≡ None → value_of option words ≡ None
unfolding value_in
value_of-none option words e = ap (value_in option) (pairs-none words e)

-- ---- options that a command takes

-- an option with its value may stand before these words
abbrev pub may_stand : List ℕ → List ℕ × List ℕ → List (List ℕ) → Bool
may_stand verb p words = takes verb p.0 p.1 && is_none (value_of p.0 words)

and-all : (a b c : Bool) → ((a && b) && c) ≡ (a && (b && c))
and-all true b c = refl
and-all false b c = refl

pub are_options-first : (verb : List ℕ) (words : List (List ℕ)) (p : List ℕ × List ℕ) (rest : List (List ℕ)) (b : Bool) → first_pair words ≡ Some (p, rest) → may_stand verb p rest ≡ b →
    are_options verb words ≡ (b && are_options verb rest)
unfolding are_pairs
are_options-first verb words p rest b e is =
    ap (λ ps. are_pairs verb ps && is_none (left_over words)) (pairs-first words p rest e)
    ∙ ap (λ o. (may_stand verb p rest && are_pairs verb (pairs_of rest)) && is_none o) (over-first words p rest e)
    ∙ ap (λ t. (t && are_pairs verb (pairs_of rest)) && is_none (left_over rest)) is
    ∙ and-all b (are_pairs verb (pairs_of rest)) (is_none (left_over rest))

pub are_options-none : (verb : List ℕ) (ws : List (String Global)) → first_pair (map string_bytes ws) ≡ None → are_options verb (map string_bytes ws) ≡ nat_eq (length ws) 0
unfolding are_pairs
are_options-none verb ws e =
    ap (λ ps. are_pairs verb ps && is_none (left_over (map string_bytes ws))) (pairs-none (map string_bytes ws) e)
    ∙ ap is_none (over-none (map string_bytes ws) e) ∙ by ws e
  where
    by : (l : List (String Global)) → first_pair (map string_bytes l) ≡ None → is_none (first_word (map string_bytes l)) ≡ nat_eq (length l) 0
    by [] f = refl
    by (a ∷ []) f = refl
    by (a ∷ b ∷ l) f = absurd (two-have (string_bytes a) (string_bytes b) (map string_bytes l) f)

-- ---- files that options name for reading

pub inputs_of-first : (verb : List ℕ) (words : List (List ℕ)) (p : List ℕ × List ℕ) (rest : List (List ℕ)) (role : Option Role) → first_pair words ≡ Some (p, rest) → role_of verb p.0 ≡ role →
    inputs_of verb words ≡ with_input role p.1 (inputs_of verb rest)
unfolding inputs_among
inputs_of-first verb words p rest role e is = ap (inputs_among verb) (pairs-first words p rest e) ∙ ap (λ r. with_input r p.1 (inputs_of verb rest)) is

pub inputs_of-none : (verb : List ℕ) (words : List (List ℕ)) → first_pair words ≡ None → inputs_of verb words ≡ []
unfolding inputs_among
inputs_of-none verb words e = ap (inputs_among verb) (pairs-none words e)

-- whether one of them has a name
pub is_named-first : (verb name : List ℕ) (words : List (List ℕ)) (p : List ℕ × List ℕ) (rest : List (List ℕ)) (b : Bool) → first_pair words ≡ Some (p, rest) → (is_some (role_of verb p.0) && bytes_eq p.1 name) ≡ b →
    list_any (λ n. bytes_eq n name) (names_of (inputs_of verb words)) ≡ (b || list_any (λ n. bytes_eq n name) (names_of (inputs_of verb rest)))
is_named-first verb name words p rest b e is =
    ap (λ i. list_any (λ n. bytes_eq n name) (names_of i)) (inputs_of-first verb words p rest (role_of verb p.0) e refl)
    ∙ by (role_of verb p.0) ∙ ap (λ t. t || list_any (λ n. bytes_eq n name) (names_of (inputs_of verb rest))) is
  where
    by : (role : Option Role) →
        list_any (λ n. bytes_eq n name) (names_of (with_input role p.1 (inputs_of verb rest)))
        ≡ ((is_some role && bytes_eq p.1 name) || list_any (λ n. bytes_eq n name) (names_of (inputs_of verb rest)))
    by None = refl
    by (Some role) = refl

-- ---- what is wrong with options

or-all : {A : Type 0} (a b c : Option A) → option_or (option_or a b) c ≡ option_or a (option_or b c)
or-all None b c = refl
or-all (Some x) b c = refl

-- what is wrong with an option and its value before these words
abbrev pub wrong_before : List ℕ → List ℕ × List ℕ → List (List ℕ) → Option (List ℕ)
wrong_before verb p words = wrong_value (form_of verb p.0) p.0 p.1 (value_of p.0 words)

pub wrong_option-first : (verb : List ℕ) (words : List (List ℕ)) (p : List ℕ × List ℕ) (rest : List (List ℕ)) (w : Option (List ℕ)) → first_pair words ≡ Some (p, rest) → wrong_before verb p rest ≡ w →
    wrong_option verb words ≡ option_or w (wrong_option verb rest)
unfolding wrong_pairs
wrong_option-first verb words p rest w e is =
    let last : Option (List ℕ) → Option (List ℕ) = λ o. option_map (λ word. wrong_last (form_of verb word) word) o in
    ap (λ ps. option_or (wrong_pairs verb ps) (last (left_over words))) (pairs-first words p rest e)
    ∙ ap (λ o. option_or (option_or (wrong_before verb p rest) (wrong_pairs verb (pairs_of rest))) (last o)) (over-first words p rest e)
    ∙ ap (λ t. option_or (option_or t (wrong_pairs verb (pairs_of rest))) (last (left_over rest))) is
    ∙ or-all w (wrong_pairs verb (pairs_of rest)) (last (left_over rest))

pub wrong_option-none : (verb : List ℕ) (words : List (List ℕ)) → first_pair words ≡ None → wrong_option verb words ≡ option_map (λ word. wrong_last (form_of verb word) word) (first_word words)
unfolding wrong_pairs
wrong_option-none verb words e =
    let last : Option (List ℕ) → Option (List ℕ) = λ o. option_map (λ word. wrong_last (form_of verb word) word) o in
    ap (λ ps. option_or (wrong_pairs verb ps) (last (left_over words))) (pairs-none words e) ∙ ap last (over-none words e)

pub wrong_option-empty : (verb : List ℕ) (ws : List (String Global)) → first_pair (map string_bytes ws) ≡ None → length ws < 1 → wrong_option verb (map string_bytes ws) ≡ None
wrong_option-empty verb [] e h = wrong_option-none verb [] e
wrong_option-empty verb (a ∷ ws) e h = absurd (omega (arith, h))

pub wrong_option-last : (verb option : List ℕ) (ws : List (String Global)) (x : String Global) → first_pair (map string_bytes ws) ≡ None → 1 ≤ length ws → x ≡ get_or ws 0 x → option ≡ string_bytes x →
    wrong_option verb (map string_bytes ws) ≡ Some (wrong_last (form_of verb option) option)
wrong_option-last verb option [] x e some f h = absurd (omega (arith, some))
wrong_option-last verb option (a ∷ ws) x e some f h = wrong_option-none verb (map string_bytes (a ∷ ws)) e ∙ ap (λ w. Some (wrong_last (form_of verb w) w)) (sym (h ∙ ap string_bytes f))

-- whether one of some names and a last one is this
pub named_last : (name last : List ℕ) (names : List (List ℕ)) → list_any (λ n. bytes_eq n name) (names ++ last ∷ []) ≡ (list_any (λ n. bytes_eq n name) names || bytes_eq last name)
named_last name last [] = by (bytes_eq last name)
  where
    by : (b : Bool) → (b || false) ≡ (false || b)
    by true = refl
    by false = refl
named_last name last (n ∷ names) = by (list_any (λ n. bytes_eq n name) (names ++ last ∷ [])) (list_any (λ n. bytes_eq n name) names) (bytes_eq n name) (named_last name last names)
  where
    by : (x y b : Bool) → x ≡ (y || bytes_eq last name) → (b || x) ≡ ((b || y) || bytes_eq last name)
    by x y true e = refl
    by x y false e = e

-- ---- a hex file is one word, a listing has two, and so have a debugger and a check

pub hex_by-other : (files : List (List ℕ)) (verb : List ℕ) (options : List (List ℕ)) → (length files ≡ 1 → ⊥) → hex_by files verb options ≡ None
hex_by-other [] verb options one = refl
hex_by-other (a ∷ []) verb options one = absurd (one refl)
hex_by-other (a ∷ b ∷ files) verb options one = refl

pub debug_by-other : (files : List (List ℕ)) (verb : List ℕ) (options : List (List ℕ)) → (length files ≡ 2 → ⊥) → debug_by files verb options ≡ None
debug_by-other [] verb options two = refl
debug_by-other (a ∷ []) verb options two = refl
debug_by-other (a ∷ b ∷ []) verb options two = absurd (two refl)
debug_by-other (a ∷ b ∷ c ∷ rest) verb options two = refl

pub check_by-other : (files : List (List ℕ)) (verb : List ℕ) (options : List (List ℕ)) → (length files ≡ 2 → ⊥) → check_by files verb options ≡ None
check_by-other [] verb options two = refl
check_by-other (a ∷ []) verb options two = refl
check_by-other (a ∷ b ∷ []) verb options two = absurd (two refl)
check_by-other (a ∷ b ∷ c ∷ rest) verb options two = refl

pub bound_by-other : (files : List (List ℕ)) (verb : List ℕ) (options : List (List ℕ)) → (length files ≡ 2 → ⊥) → bound_by files verb options ≡ None
bound_by-other [] verb options two = refl
bound_by-other (a ∷ []) verb options two = refl
bound_by-other (a ∷ b ∷ []) verb options two = absurd (two refl)
bound_by-other (a ∷ b ∷ c ∷ rest) verb options two = refl

pub list_by-other : (words : List (List ℕ)) → (length words ≡ 2 → ⊥) → list_by words ≡ None
list_by-other [] two = refl
list_by-other (a ∷ []) two = refl
list_by-other (a ∷ b ∷ []) two = absurd (two refl)
list_by-other (a ∷ b ∷ c ∷ rest) two = refl

-- ---- the command of words with their verb, of which so many name files

pub command_of-verb : (ws prefix back : List (String Global)) (v : String Global) (n : ℕ) → 1 ≤ length ws → v ≡ get_or ws 0 v → n ≡ count_files (map string_bytes (take (length ws - 1) (drop 1 ws))) →
    prefix ≡ take n (take (length ws - 1) (drop 1 ws)) → back ≡ drop n (take (length ws - 1) (drop 1 ws)) →
    plain_command_of (map string_bytes ws) ≡ command_with (string_bytes v) (map string_bytes prefix) (map string_bytes back)
command_of-verb [] prefix back v n some first count f b = absurd (omega (arith, some))
command_of-verb (a ∷ ws) prefix back v n some first count f b =
    let whole : take (length (a ∷ ws) - 1) ws ≡ ws = take_all (length (a ∷ ws) - 1) ws (omega arith) in
    let so_many : n ≡ count_files (map string_bytes ws) = count ∙ ap (λ l. count_files (map string_bytes l)) whole in
    let files : map string_bytes prefix ≡ take (count_files (map string_bytes ws)) (map string_bytes ws) =
    ap (map string_bytes) (f ∙ ap (take n) whole) ∙ sym (take-map string_bytes n ws) ∙ ap (λ k. take k (map string_bytes ws)) so_many in
    let options : map string_bytes back ≡ drop (count_files (map string_bytes ws)) (map string_bytes ws) =
    ap (map string_bytes) (b ∙ ap (drop n) whole) ∙ sym (drop-map string_bytes n ws) ∙ ap (λ k. drop k (map string_bytes ws)) so_many in
    rw (first, files, options) refl
