-- Statements as they are read have their forms, and their names stand on the line.
use Rattle.std.proofs.Common.{◌≡◌, ℕ, zero, suc, Bool, true, false, cond, ◌||◌, ◌&&◌, not, List, [], ◌∷◌, ◌++◌, map, drop, Option, Some, None, Result, Ok, Err, refl, ap}
use Rattle.std.specs.Option.{option_map, option_to_list}
use Rattle.std.specs.List.{list_all}
use Rattle.kc_lex.specs.declared.token.Token.{Token}
use Rattle.kc_lex.specs.declared.words.Operands.{Operands}
use Rattle.kc_lex.specs.declared.words.Directive.{Directive}
use Rattle.kc_lex.specs.declared.words.Directive.TheVariants as directives
use Rattle.kc_lex.specs.Kinds.{is_sign, is_name_kind, is_free_name, has_label}
use Rattle.kc_lex.specs.Words.{operands_for, directive_of}
use Rattle.kc_lex.specs.Takes.{takes, suits}
use Rattle.kc_lex.specs.Lists.{in_first}
use Rattle.kc_expr.specs.Tree.{Tree}
use Rattle.kc_expr.specs.Grammar.{is_type}
use Rattle.kc_source_statement.specs.Trees.{ArgTree, ActionTree, notation}
use Rattle.kc_source_statement.specs.Trees as trees
use Rattle.kc_source_statement.specs.Operands.{is_nil, whole, parts, and_some, all_some, item, items_in, string_or, free_text, name_in, names_in, operands_in}
use Rattle.kc_source_statement.specs.Statements.{segment_in, stack_in, past_main, module_in, defined_in, directive_in, definition_in, or_form_fault, by_directive, operation_in, by_operation, by_word, by_first, only_defining, directive_at, second_directive, action_in, bars_label, first_directive, behind_label, statement_in, label_in}
use Rattle.kc_source_statement.specs.Formed.{is_formed, IsFormed, is_value, names_said, names_read, StatementsAreFormed, NamesStandOnTheLine}

-- ---- what holds of a value, where there is one

abbrev Holds : {A : Type 0} → (A → Bool) → Option A → Type 0
Holds p None = Unit {0}
Holds p (Some x) = p x ≡ true

both : (a b : Bool) → a ≡ true → b ≡ true → (a && b) ≡ true
both a b p q = rw (p, q) refl

left : (a b : Bool) → (a && b) ≡ true → a ≡ true
left true b e = refl
left false b e = absurd cc

right : (a b : Bool) → (a && b) ≡ true → b ≡ true
right true b e = e
right false b e = absurd cc

mapped : {A B : Type 0} (p : B → Bool) (f : A → B) (o : Option A) → ((x : A) → p (f x) ≡ true) → Holds p (option_map f o)
mapped p f None h = tt
mapped p f (Some x) h = h x

mapped_held : {A B : Type 0} (q : A → Bool) (p : B → Bool) (f : A → B) (o : Option A) → Holds q o → ((x : A) → q x ≡ true → p (f x) ≡ true) → Holds p (option_map f o)
mapped_held q p f None held h = tt
mapped_held q p f (Some x) held h = h x held

either : {A : Type 0} (p : A → Bool) (b : Bool) (x y : Option A) → Holds p x → Holds p y → Holds p (cond b x y)
either p true x y h k = h
either p false x y h k = k

and_all : {A : Type 0} (p : A → Bool) (o : Option A) (os : Option (List A)) → Holds p o → Holds (list_all p) os → Holds (list_all p) (and_some o os)
and_all p None os h k = tt
and_all p (Some x) None h k = tt
and_all p (Some x) (Some xs) h k = both (p x) (list_all p xs) h k

-- ---- forms

no_string : (o : Option Tree) → Holds is_value (string_or None o)
no_string None = tt
no_string (Some x) = refl

a_value : (ts : List Token) → Holds is_value (item false ts)
unfolding item
a_value ts = no_string (whole ts)

all_values : (ps : List (List Token)) → Holds (list_all is_value) (all_some (item false) ps)
unfolding all_some
all_values [] = refl
all_values (p ∷ ps) = and_all is_value (item false p) (all_some (item false) ps) (a_value p) (all_values ps)

defined_bytes : (ts : List Token) → Holds is_formed (defined_in 1 ts)
defined_bytes ts = mapped is_formed (λ is. trees.Define 1 is) (items_in true ts) (λ x. refl)

defined_words : (ts : List Token) → Holds is_formed (defined_in 2 ts)
defined_words ts = mapped_held (list_all is_value) is_formed (λ is. trees.Define 2 is) (items_in false ts) (all_values (parts ts)) (λ x e. e)

defined_longs : (ts : List Token) → Holds is_formed (defined_in 4 ts)
defined_longs ts = mapped_held (list_all is_value) is_formed (λ is. trees.Define 4 is) (items_in false ts) (all_values (parts ts)) (λ x e. e)

module_formed : (name : Option (List ℕ)) (ts : List Token) → Holds is_formed (module_in name ts)
module_formed name ts = mapped is_formed (λ s. trees.Module name s) (stack_in (past_main ts)) (λ x. refl)

directive_formed : (d : Directive) (ts : List Token) → Holds is_formed (directive_in d ts)
unfolding directive_in
directive_formed directives.Module ts = module_formed None ts
directive_formed directives.Cseg ts = mapped is_formed (λ at. trees.Cseg at) (segment_in ts) (λ x. refl)
directive_formed directives.Dseg ts = mapped is_formed (λ at. trees.Dseg at) (segment_in ts) (λ x. refl)
directive_formed directives.Rseg ts = mapped is_formed (λ at. trees.Rseg at) (segment_in ts) (λ x. refl)
directive_formed directives.Sseg ts = mapped is_formed (λ x. trees.Sseg x) (whole ts) (λ x. refl)
directive_formed directives.Public ts = mapped is_formed (λ ns. trees.Public ns) (names_in false ts) (λ x. refl)
directive_formed directives.Extrn ts = mapped is_formed (λ ns. trees.Extrn ns) (names_in true ts) (λ x. refl)
directive_formed directives.Dcb ts = defined_bytes ts
directive_formed directives.Dcw ts = defined_words ts
directive_formed directives.Dcl ts = defined_longs ts
directive_formed directives.Dsb ts = mapped is_formed (λ x. trees.Reserve 1 x) (whole ts) (λ x. refl)
directive_formed directives.Dsw ts = mapped is_formed (λ x. trees.Reserve 2 x) (whole ts) (λ x. refl)
directive_formed directives.Dsl ts = mapped is_formed (λ x. trees.Reserve 4 x) (whole ts) (λ x. refl)
directive_formed directives.Org ts = mapped is_formed (λ x. trees.Org x) (whole ts) (λ x. refl)
directive_formed directives.Even ts = either is_formed (is_nil ts) (Some trees.Even) None refl tt
directive_formed directives.End ts = either is_formed (is_nil ts) (Some trees.End) None refl tt
directive_formed directives.Equ ts = tt
directive_formed directives.Set ts = tt
directive_formed directives.If ts = tt
directive_formed directives.Else ts = tt
directive_formed directives.Endif ts = tt
directive_formed directives.Macro ts = tt
directive_formed directives.Local ts = tt
directive_formed directives.Exitm ts = tt
directive_formed directives.Endm ts = tt
directive_formed directives.Rept ts = tt
directive_formed directives.Irp ts = tt

definition_formed : (name : List ℕ) (d : Directive) (ts : List Token) → Holds is_formed (definition_in name d ts)
unfolding definition_in
definition_formed name directives.Equ ts = mapped is_formed (λ x. trees.Equ name x) (whole ts) (λ x. refl)
definition_formed name directives.Set ts = mapped is_formed (λ x. trees.Set name x) (whole ts) (λ x. refl)
definition_formed name directives.Module ts = module_formed (Some name) ts
definition_formed name directives.Cseg ts = tt
definition_formed name directives.Dseg ts = tt
definition_formed name directives.Rseg ts = tt
definition_formed name directives.Sseg ts = tt
definition_formed name directives.Public ts = tt
definition_formed name directives.Extrn ts = tt
definition_formed name directives.Dcb ts = tt
definition_formed name directives.Dcw ts = tt
definition_formed name directives.Dcl ts = tt
definition_formed name directives.Dsb ts = tt
definition_formed name directives.Dsw ts = tt
definition_formed name directives.Dsl ts = tt
definition_formed name directives.Org ts = tt
definition_formed name directives.Even ts = tt
definition_formed name directives.End ts = tt
definition_formed name directives.If ts = tt
definition_formed name directives.Else ts = tt
definition_formed name directives.Endif ts = tt
definition_formed name directives.Macro ts = tt
definition_formed name directives.Local ts = tt
definition_formed name directives.Exitm ts = tt
definition_formed name directives.Endm ts = tt
definition_formed name directives.Rept ts = tt
definition_formed name directives.Irp ts = tt

or_formed : (o : Option ActionTree) → Holds is_formed o → IsFormed (or_form_fault o)
or_formed None h = tt
or_formed (Some a) h = h

one_of : (b : Bool) (x y : Result ActionTree ℕ) → IsFormed x → IsFormed y → IsFormed (cond b x y)
one_of true x y h k = h
one_of false x y h k = k

by_directive_formed : (d : Option Directive) (ts : List Token) → IsFormed (by_directive d ts)
by_directive_formed None ts = tt
by_directive_formed (Some d) ts = or_formed (directive_in d ts) (directive_formed d ts)

if_taken : (word : List ℕ) (args : List ArgTree) (b : Bool) → suits (operands_for word) (map notation args) ≡ b → IsFormed (cond b (Ok (trees.Operation word args)) (Err 14))
if_taken word args true e = e
if_taken word args false e = tt

operation_formed : (word : List ℕ) (form : Operands) (o : Option (List ArgTree)) → operands_for word ≡ Some form → IsFormed (operation_in word form o)
operation_formed word form None e = tt
operation_formed word form (Some args) e = if_taken word args (takes form (map notation args)) (ap (λ f. suits f (map notation args)) e)

by_operation_formed : (word : List ℕ) (o : Option Operands) (ts : List Token) → operands_for word ≡ o → IsFormed (by_operation word o ts)
by_operation_formed word None ts e = by_directive_formed (directive_of word) ts
by_operation_formed word (Some form) ts e = operation_formed word form (operands_in ts) e

by_word_formed : (t : Token) (ts : List Token) → IsFormed (by_word t ts)
by_word_formed t ts = one_of (is_name_kind t.kind) (by_operation t.text (operands_for t.text) ts) (Err 1) (by_operation_formed t.text (operands_for t.text) ts refl) tt

by_first_formed : (t : Token) (d : Option Directive) (ts : List Token) → IsFormed (by_first t d ts)
by_first_formed t None ts = by_word_formed t ts
by_first_formed t (Some d) ts = or_formed (definition_in t.text d (drop 1 ts)) (definition_formed t.text d (drop 1 ts))

action_formed : (ts : List Token) → IsFormed (action_in ts)
unfolding action_in
action_formed [] = refl
action_formed (t ∷ ts) = by_first_formed t (only_defining (second_directive (t ∷ ts))) ts

behind_formed : (ts : List Token) → IsFormed (behind_label ts)
behind_formed ts = one_of (bars_label (first_directive ts) || bars_label (second_directive ts)) (Err 1) (action_in ts) tt (action_formed ts)

pub statements_are_formed : StatementsAreFormed
unfolding statement_in
statements_are_formed ts = one_of (has_label ts) (behind_label (drop 2 ts)) (action_in ts) (behind_formed (drop 2 ts)) (action_formed ts)

-- ---- names

abbrev free_is : (List ℕ → Bool) → Token → Bool
free_is test t = not (is_free_name t) || test t.text

dropped : {A : Type 0} (q : A → Bool) (n : ℕ) (ts : List A) → list_all q ts ≡ true → list_all q (drop n ts) ≡ true
dropped q zero ts h = h
dropped q (suc n) [] h = refl
dropped q (suc n) (t ∷ ts) h = dropped q n ts (right (q t) (list_all q ts) h)

in_first_holds : (q : Token → Bool) (t : Token) (ps : List (List Token)) → q t ≡ true → list_all (list_all q) ps ≡ true → list_all (list_all q) (in_first t ps) ≡ true
in_first_holds q t [] h k = rw h refl
in_first_holds q t (p ∷ ps) h k = both (q t && list_all q p) (list_all (list_all q) ps) (both (q t) (list_all q p) h (left (list_all q p) (list_all (list_all q) ps) k)) (right (list_all q p) (list_all (list_all q) ps) k)

parts_hold : (q : Token → Bool) (ts : List Token) → list_all q ts ≡ true → list_all (list_all q) (parts ts) ≡ true
unfolding parts
parts_hold q [] h = refl
parts_hold q (t ∷ ts) h =
    let rest : list_all (list_all q) (parts ts) ≡ true = parts_hold q ts (right (q t) (list_all q ts) h) in
    elim (is_sign 44 t) as (λ b. list_all (list_all q) (cond b ([] ∷ parts ts) (in_first t (parts ts))) ≡ true) [
      | true ↦ rest
      | false ↦ in_first_holds q t (parts ts) (left (q t) (list_all q ts) h) rest
    ]

if_free : (test : List ℕ → Bool) (b : Bool) (name : List ℕ) → (not b || test name) ≡ true → Holds test (cond b (Some name) None)
if_free test true name h = h
if_free test false name h = tt

free_holds : (test : List ℕ → Bool) (t : Token) → free_is test t ≡ true → Holds test (free_text t)
free_holds test t h = if_free test (is_free_name t) t.text h

name_holds : (test : List ℕ → Bool) (typed : Bool) (ts : List Token) → list_all (free_is test) ts ≡ true → Holds test (name_in typed ts)
name_holds test typed [] h = tt
name_holds test typed (t ∷ []) h = free_holds test t (left (free_is test t) true h)
name_holds test typed (t ∷ u ∷ []) h = tt
name_holds test typed (t ∷ u ∷ v ∷ []) h = either test (typed && is_sign 58 u && is_type v) (free_text t) None (free_holds test t (left (free_is test t) (list_all (free_is test) (u ∷ v ∷ [])) h)) tt
name_holds test typed (t ∷ u ∷ v ∷ w ∷ ts) h = tt

all_names : (test : List ℕ → Bool) (typed : Bool) (ps : List (List Token)) → list_all (list_all (free_is test)) ps ≡ true → Holds (list_all test) (all_some (name_in typed) ps)
unfolding all_some
all_names test typed [] h = refl
all_names test typed (p ∷ ps) h =
    and_all test (name_in typed p) (all_some (name_in typed) ps) (name_holds test typed p (left (list_all (free_is test) p) (list_all (list_all (free_is test)) ps) h))
    (all_names test typed ps (right (list_all (free_is test) p) (list_all (list_all (free_is test)) ps) h))

names_hold : (test : List ℕ → Bool) (typed : Bool) (ts : List Token) → list_all (free_is test) ts ≡ true → Holds (list_all test) (names_in typed ts)
names_hold test typed ts h = all_names test typed (parts ts) (parts_hold (free_is test) ts h)

-- of each name of a statement the test holds
abbrev named : (List ℕ → Bool) → ActionTree → Bool
named test a = list_all test (names_said a)

directive_named : (test : List ℕ → Bool) (d : Directive) (ts : List Token) → list_all (free_is test) ts ≡ true → Holds (named test) (directive_in d ts)
unfolding directive_in
directive_named test directives.Module ts h = mapped (named test) (λ s. trees.Module None s) (stack_in (past_main ts)) (λ x. refl)
directive_named test directives.Cseg ts h = mapped (named test) (λ at. trees.Cseg at) (segment_in ts) (λ x. refl)
directive_named test directives.Dseg ts h = mapped (named test) (λ at. trees.Dseg at) (segment_in ts) (λ x. refl)
directive_named test directives.Rseg ts h = mapped (named test) (λ at. trees.Rseg at) (segment_in ts) (λ x. refl)
directive_named test directives.Sseg ts h = mapped (named test) (λ x. trees.Sseg x) (whole ts) (λ x. refl)
directive_named test directives.Public ts h = mapped_held (list_all test) (named test) (λ ns. trees.Public ns) (names_in false ts) (names_hold test false ts h) (λ x e. e)
directive_named test directives.Extrn ts h = mapped_held (list_all test) (named test) (λ ns. trees.Extrn ns) (names_in true ts) (names_hold test true ts h) (λ x e. e)
directive_named test directives.Dcb ts h = mapped (named test) (λ is. trees.Define 1 is) (items_in true ts) (λ x. refl)
directive_named test directives.Dcw ts h = mapped (named test) (λ is. trees.Define 2 is) (items_in false ts) (λ x. refl)
directive_named test directives.Dcl ts h = mapped (named test) (λ is. trees.Define 4 is) (items_in false ts) (λ x. refl)
directive_named test directives.Dsb ts h = mapped (named test) (λ x. trees.Reserve 1 x) (whole ts) (λ x. refl)
directive_named test directives.Dsw ts h = mapped (named test) (λ x. trees.Reserve 2 x) (whole ts) (λ x. refl)
directive_named test directives.Dsl ts h = mapped (named test) (λ x. trees.Reserve 4 x) (whole ts) (λ x. refl)
directive_named test directives.Org ts h = mapped (named test) (λ x. trees.Org x) (whole ts) (λ x. refl)
directive_named test directives.Even ts h = either (named test) (is_nil ts) (Some trees.Even) None refl tt
directive_named test directives.End ts h = either (named test) (is_nil ts) (Some trees.End) None refl tt
directive_named test directives.Equ ts h = tt
directive_named test directives.Set ts h = tt
directive_named test directives.If ts h = tt
directive_named test directives.Else ts h = tt
directive_named test directives.Endif ts h = tt
directive_named test directives.Macro ts h = tt
directive_named test directives.Local ts h = tt
directive_named test directives.Exitm ts h = tt
directive_named test directives.Endm ts h = tt
directive_named test directives.Rept ts h = tt
directive_named test directives.Irp ts h = tt

definition_named : (test : List ℕ → Bool) (name : List ℕ) (d : Directive) (ts : List Token) → test name ≡ true → Holds (named test) (definition_in name d ts)
unfolding definition_in
definition_named test name directives.Equ ts h = mapped (named test) (λ x. trees.Equ name x) (whole ts) (λ x. both (test name) true h refl)
definition_named test name directives.Set ts h = mapped (named test) (λ x. trees.Set name x) (whole ts) (λ x. both (test name) true h refl)
definition_named test name directives.Module ts h = mapped (named test) (λ s. trees.Module (Some name) s) (stack_in (past_main ts)) (λ x. both (test name) true h refl)
definition_named test name directives.Cseg ts h = tt
definition_named test name directives.Dseg ts h = tt
definition_named test name directives.Rseg ts h = tt
definition_named test name directives.Sseg ts h = tt
definition_named test name directives.Public ts h = tt
definition_named test name directives.Extrn ts h = tt
definition_named test name directives.Dcb ts h = tt
definition_named test name directives.Dcw ts h = tt
definition_named test name directives.Dcl ts h = tt
definition_named test name directives.Dsb ts h = tt
definition_named test name directives.Dsw ts h = tt
definition_named test name directives.Dsl ts h = tt
definition_named test name directives.Org ts h = tt
definition_named test name directives.Even ts h = tt
definition_named test name directives.End ts h = tt
definition_named test name directives.If ts h = tt
definition_named test name directives.Else ts h = tt
definition_named test name directives.Endif ts h = tt
definition_named test name directives.Macro ts h = tt
definition_named test name directives.Local ts h = tt
definition_named test name directives.Exitm ts h = tt
definition_named test name directives.Endm ts h = tt
definition_named test name directives.Rept ts h = tt
definition_named test name directives.Irp ts h = tt

abbrev IsNamed : (List ℕ → Bool) → Result ActionTree ℕ → Type 0
IsNamed test r = list_all test (names_read r) ≡ true

or_named : (test : List ℕ → Bool) (o : Option ActionTree) → Holds (named test) o → IsNamed test (or_form_fault o)
or_named test None h = refl
or_named test (Some a) h = h

one_named : (test : List ℕ → Bool) (b : Bool) (x y : Result ActionTree ℕ) → IsNamed test x → IsNamed test y → IsNamed test (cond b x y)
one_named test true x y h k = h
one_named test false x y h k = k

by_directive_named : (test : List ℕ → Bool) (d : Option Directive) (ts : List Token) → list_all (free_is test) ts ≡ true → IsNamed test (by_directive d ts)
by_directive_named test None ts h = refl
by_directive_named test (Some d) ts h = or_named test (directive_in d ts) (directive_named test d ts h)

operation_named : (test : List ℕ → Bool) (word : List ℕ) (form : Operands) (o : Option (List ArgTree)) → IsNamed test (operation_in word form o)
operation_named test word form None = refl
operation_named test word form (Some args) = one_named test (takes form (map notation args)) (Ok (trees.Operation word args)) (Err 14) refl refl

by_operation_named : (test : List ℕ → Bool) (word : List ℕ) (o : Option Operands) (ts : List Token) → list_all (free_is test) ts ≡ true → IsNamed test (by_operation word o ts)
by_operation_named test word None ts h = by_directive_named test (directive_of word) ts h
by_operation_named test word (Some form) ts h = operation_named test word form (operands_in ts)

if_defining : (b : Bool) (o : Option Directive) (d : Directive) → only_defining (cond b o None) ≡ Some d → b ≡ true
if_defining true o d e = refl
if_defining false o d e = absurd cc

defines_free : (t : Token) (ts : List Token) (d : Directive) → only_defining (second_directive (t ∷ ts)) ≡ Some d → is_free_name t ≡ true
defines_free t [] d e = absurd cc
defines_free t (u ∷ ts) d e = if_defining (is_free_name t) (directive_at u) d e

of_free : (test : List ℕ → Bool) (b : Bool) (name : List ℕ) → b ≡ true → (not b || test name) ≡ true → test name ≡ true
of_free test true name e h = h
of_free test false name e h = absurd cc

by_first_named : (test : List ℕ → Bool) (t : Token) (o : Option Directive) (ts : List Token) → only_defining (second_directive (t ∷ ts)) ≡ o → list_all (free_is test) (t ∷ ts) ≡ true → IsNamed test (by_first t o ts)
by_first_named test t None ts e h =
    one_named test (is_name_kind t.kind) (by_operation t.text (operands_for t.text) ts) (Err 1) (by_operation_named test t.text (operands_for t.text) ts (right (free_is test t) (list_all (free_is test) ts) h)) refl
by_first_named test t (Some d) ts e h =
    or_named test (definition_in t.text d (drop 1 ts))
    (definition_named test t.text d (drop 1 ts) (of_free test (is_free_name t) t.text (defines_free t ts d e) (left (free_is test t) (list_all (free_is test) ts) h)))

action_named : (test : List ℕ → Bool) (ts : List Token) → list_all (free_is test) ts ≡ true → IsNamed test (action_in ts)
unfolding action_in
action_named test [] h = refl
action_named test (t ∷ ts) h = by_first_named test t (only_defining (second_directive (t ∷ ts))) ts refl h

statement_named : (test : List ℕ → Bool) (ts : List Token) → list_all (free_is test) ts ≡ true → IsNamed test (statement_in ts)
unfolding statement_in
statement_named test ts h =
    let behind : list_all (free_is test) (drop 2 ts) ≡ true = dropped (free_is test) 2 ts h in
    one_named test (has_label ts) (behind_label (drop 2 ts)) (action_in ts)
    (one_named test (bars_label (first_directive (drop 2 ts)) || bars_label (second_directive (drop 2 ts))) (Err 1) (action_in (drop 2 ts)) refl (action_named test (drop 2 ts) behind))
    (action_named test ts h)

if_label : (test : List ℕ → Bool) (free colon : Bool) (name : List ℕ) → (not free || test name) ≡ true → Holds test (cond (free && colon) (Some name) None)
if_label test true true name h = h
if_label test true false name h = tt
if_label test false colon name h = tt

label_named : (test : List ℕ → Bool) (ts : List Token) → list_all (free_is test) ts ≡ true → Holds test (label_in ts)
unfolding label_in
label_named test [] h = tt
label_named test (t ∷ []) h = tt
label_named test (t ∷ u ∷ ts) h = if_label test (is_free_name t) (is_sign 58 u) t.text (left (free_is test t) (list_all (free_is test) (u ∷ ts)) h)

all_of : (test : List ℕ → Bool) (o : Option (List ℕ)) (ns : List (List ℕ)) → Holds test o → list_all test ns ≡ true → list_all test (option_to_list o ++ ns) ≡ true
all_of test None ns h k = k
all_of test (Some n) ns h k = both (test n) (list_all test ns) h k

pub names_stand_on_the_line : NamesStandOnTheLine
names_stand_on_the_line test ts h = all_of test (label_in ts) (names_read (statement_in ts)) (label_named test ts h) (statement_named test ts h)
