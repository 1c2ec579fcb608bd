-- Public names one by one, and that those which were not seen before are the distinct ones.
use Rattle.std.proofs.Common.{◌≡◌, ℕ, Bool, true, false, ◌||◌, if◌then◌else◌, List, [], ◌∷◌, ◌++◌, refl, ap, sym, ◌∙◌, append_assoc}
use Rattle.std.proofs.lemmas.List.{append-nil}
use Rattle.std.specs.List.{list_any}
use Rattle.std.specs.Str.{bytes_eq}
use Rattle.kc_expr.specs.Meaning.{Answer}
use Rattle.kc_asm_symbols.specs.Tables.{updated, no_name}
use Rattle.kc_asm_section.specs.declared.unlinked.Public.{Public as Given}
use Rattle.kc_asm_unlinked_laws.specs.Collecting.{given_as, distinct_from, publics_of}
use Rattle.kc_asm.specs.Giving.{given_from}

pub given_again : (last : List ℕ → Answer) (seen : List ℕ → Bool) (n : List ℕ) (ns : List (List ℕ)) → seen n ≡ true
    → given_from last seen (n ∷ ns) ≡ given_from last seen ns
unfolding given_from
given_again last seen n ns is = ap (λ b. if b then given_from last seen ns else given_as n (last n) ++ given_from last (updated n true seen) ns) is

pub given_first : (last : List ℕ → Answer) (seen : List ℕ → Bool) (n : List ℕ) (ns : List (List ℕ)) → seen n ≡ false
    → given_from last seen (n ∷ ns) ≡ given_as n (last n) ++ given_from last (updated n true seen) ns
unfolding given_from
given_first last seen n ns is = ap (λ b. if b then given_from last seen ns else given_as n (last n) ++ given_from last (updated n true seen) ns) is

pub given_none : (last : List ℕ → Answer) (seen : List ℕ → Bool) (ps : List Given) → ps ++ given_from last seen [] ≡ ps
unfolding given_from
given_none last seen ps = append-nil ps

-- a name that is given first is behind those that stand
pub given_behind : (last : List ℕ → Answer) (seen marked : List ℕ → Bool) (n : List ℕ) (ns : List (List ℕ)) (ps qs : List Given) → seen n ≡ false
    → qs ≡ ps ++ given_as n (last n) → marked ≡ updated n true seen → qs ++ given_from last marked ns ≡ ps ++ given_from last seen (n ∷ ns)
given_behind last seen marked n ns ps qs is grown marks =
    (λ i. grown i ++ given_from last (marks i) ns)
    ∙ append_assoc ps (given_as n (last n)) (given_from last (updated n true seen) ns)
    ∙ ap (λ rest. ps ++ rest) (sym (given_first last seen n ns is))

-- ---- the names seen as a list

abbrev in_list : List (List ℕ) → List ℕ → Bool
in_list seen name = list_any (bytes_eq name) seen

either : (b c : Bool) → (if b then true else c) ≡ (b || c)
either true c = refl
either false c = refl

in_longer : (n : List ℕ) (seen : List (List ℕ)) → updated n true (in_list seen) ≡ in_list (n ∷ seen)
in_longer n seen = λ i name. either (bytes_eq name n) (in_list seen name) i

by_test : (last : List ℕ → Answer) (n : List ℕ) (again first : List (List ℕ)) (b : Bool)
    → publics_of last (if b then again else n ∷ first) ≡ (if b then publics_of last again else given_as n (last n) ++ publics_of last first)
unfolding publics_of
by_test last n again first true = refl
by_test last n again first false = refl

distinct_given : (last : List ℕ → Answer) (seen : List (List ℕ)) (ns : List (List ℕ)) → given_from last (in_list seen) ns ≡ publics_of last (distinct_from seen ns)
unfolding given_from distinct_from publics_of
distinct_given last seen [] = refl
distinct_given last seen (n ∷ ns) =
    (λ i. if in_list seen n then distinct_given last seen ns i else given_as n (last n) ++ (ap (λ marked. given_from last marked ns) (in_longer n seen) ∙ distinct_given last (n ∷ seen) ns) i)
    ∙ sym (by_test last n (distinct_from seen ns) (distinct_from (n ∷ seen) ns) (in_list seen n))

pub all_distinct : (last : List ℕ → Answer) (ns : List (List ℕ)) → given_from last no_name ns ≡ publics_of last (distinct_from [] ns)
all_distinct last ns = distinct_given last [] ns
