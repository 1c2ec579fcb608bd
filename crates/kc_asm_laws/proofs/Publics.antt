-- There are no more public names than names that the statements define: each is one of these, and none is there twice.
use Rattle.std.proofs.Common.{◌≡◌, ℕ, ◌+◌, ◌≤◌, Bool, true, false, cond, ◌&&◌, ◌||◌, List, [], ◌∷◌, ◌++◌, length, map, Option, Some, None, Result, Ok, Err, refl, sym, ap, ◌∙◌, subst, arith, length-append}
use Rattle.std.specs.List.{list_any, IsDistinct, AllByRecursion}
use Rattle.std.specs.Str.{bytes_eq}
use Rattle.std.specs.Cmp.{IsEquivalence}
use Rattle.std.specs.Cmp.Lexicographic.{bytes_decides}
use Rattle.std.proofs.lemmas.Bool.{and_parts, or_parts, or_left, or_right}
use Rattle.std.proofs.lemmas.Map.Made.{length-le_from_is_member}
use Rattle.kc_lex.specs.declared.token.Line.{Line}
use Rattle.kc_expr.specs.declared.values.Value.{Value}
use Rattle.kc_expr.specs.Meaning.{Answer}
use Rattle.kc_source_statement.specs.declared.statement.Stmt.{Stmt}
use Rattle.kc_source_statement.specs.Trees.{ActionTree, action_tree}
use Rattle.kc_source_statement.specs.Trees as trees
use Rattle.kc_source_statement.specs.Formed.{given_names}
use Rattle.kc_source.specs.declared.uses.Use.{Use}
use Rattle.kc_source.specs.declared.uses.UseKind.{UseKind}
use Rattle.kc_source.specs.declared.uses.UseKind.TheVariants.{Once, Again, Taken, Given}
use Rattle.kc_source.specs.Clear.{IsClear, NamesAreClear}
use Rattle.kc_source.specs.Faults.{Said, stmt_said, all_said, use_of, label_uses, action_uses, read_uses, uses_of, all_uses, is_once, is_again, has_use, is_defined, least, faults_of}
use Rattle.kc_asm_symbols.specs.declared.segments.Segment.{Segment}
use Rattle.kc_asm_symbols.specs.Located.{segment_after, located_from}
use Rattle.kc_asm_unlinked_laws.specs.Collecting.{all_given, distinct_from, given_as, publics_of}

-- ---- equal names

eq_same : (a b : List ℕ) → bytes_eq a b ≡ true → a ≡ b
eq_same a b e = (bytes_decides a b).0 e

eq_refl : (a : List ℕ) → bytes_eq a a ≡ true
eq_refl a = (bytes_decides a a).1 refl

eq_symm : (a b : List ℕ) → bytes_eq a b ≡ bytes_eq b a
eq_symm a b = by (bytes_eq a b) (bytes_eq b a) refl refl
  where
    by : (x y : Bool) → bytes_eq a b ≡ x → bytes_eq b a ≡ y → bytes_eq a b ≡ bytes_eq b a
    by true true e f = e ∙ sym f
    by false false e f = e ∙ sym f
    by true false e f = let same : a ≡ b = eq_same a b e in absurd (let g : bytes_eq b a ≡ true = subst (λ (z : List ℕ). bytes_eq b z ≡ true) (sym same) (eq_refl b) in let h : false ≡ true = sym f ∙ g in cc h)
    by false true e f = let same : b ≡ a = eq_same b a f in absurd (let g : bytes_eq a b ≡ true = subst (λ (z : List ℕ). bytes_eq a z ≡ true) (sym same) (eq_refl a) in let h : false ≡ true = sym e ∙ g in cc h)

equal : IsEquivalence bytes_eq
equal = record { refl = eq_refl; symm = eq_symm; congr = λ x y z e. (let same : x ≡ y = eq_same x y e in ap (λ (w : List ℕ). bytes_eq w z) same) }

-- ---- distinct names

-- none of the names is one of those that were seen
AllApart : List (List ℕ) → List (List ℕ) → Type 0
AllApart seen [] = Unit {0}
AllApart seen (n ∷ ns) = (list_any (bytes_eq n) seen ≡ false) × AllApart seen ns

apart_less : (n : List ℕ) (seen ns : List (List ℕ)) → AllApart (n ∷ seen) ns → AllApart seen ns × AllByRecursion (λ y. bytes_eq n y ≡ false) ns
unfolding AllApart
apart_less n seen [] h = (tt, tt)
apart_less n seen (m ∷ ns) h =
    let both = or_parts (bytes_eq m n) (list_any (bytes_eq m) seen) h.0 in
    let rest = apart_less n seen ns h.1 in
    ((both.1, rest.0), (eq_symm n m ∙ both.0, rest.1))

distinct : (seen ns : List (List ℕ)) → AllApart seen (distinct_from seen ns) × IsDistinct bytes_eq (distinct_from seen ns)
unfolding AllApart distinct_from IsDistinct
distinct seen [] = (tt, tt)
distinct seen (n ∷ ns) = by (list_any (bytes_eq n) seen) refl (distinct seen ns) (distinct (n ∷ seen) ns)
  where
    by : (b : Bool) → list_any (bytes_eq n) seen ≡ b → AllApart seen (distinct_from seen ns) × IsDistinct bytes_eq (distinct_from seen ns) → AllApart (n ∷ seen) (distinct_from (n ∷ seen) ns) × IsDistinct bytes_eq (distinct_from (n ∷ seen) ns)
        → AllApart seen (cond b (distinct_from seen ns) (n ∷ distinct_from (n ∷ seen) ns)) × IsDistinct bytes_eq (cond b (distinct_from seen ns) (n ∷ distinct_from (n ∷ seen) ns))
    by true e h k = h
    by false e h k = let less = apart_less n seen (distinct_from (n ∷ seen) ns) k.0 in ((e, less.0), (less.1, k.1))

distinct_member : (seen ns : List (List ℕ)) (q : List ℕ) → list_any (bytes_eq q) (distinct_from seen ns) ≡ true → list_any (bytes_eq q) ns ≡ true
unfolding distinct_from
distinct_member seen [] q h = h
distinct_member seen (n ∷ ns) q h = by (list_any (bytes_eq n) seen) h (λ g. distinct_member seen ns q g) (λ g. distinct_member (n ∷ seen) ns q g)
  where
    second : (a b : Bool) → (a || b) ≡ true → (b ≡ true → (a || list_any (bytes_eq q) ns) ≡ true) → (a || list_any (bytes_eq q) ns) ≡ true
    second true b g f = refl
    second false b g f = f g

    by : (b : Bool) → list_any (bytes_eq q) (cond b (distinct_from seen ns) (n ∷ distinct_from (n ∷ seen) ns)) ≡ true → (list_any (bytes_eq q) (distinct_from seen ns) ≡ true → list_any (bytes_eq q) ns ≡ true)
        → (list_any (bytes_eq q) (distinct_from (n ∷ seen) ns) ≡ true → list_any (bytes_eq q) ns ≡ true) → list_any (bytes_eq q) (n ∷ ns) ≡ true
    by true g f k = or_right (bytes_eq q n) (list_any (bytes_eq q) ns) (f g)
    by false g f k = second (bytes_eq q n) (list_any (bytes_eq q) (distinct_from (n ∷ seen) ns)) g (λ r. or_right (bytes_eq q n) (list_any (bytes_eq q) ns) (k r))

-- ---- names that uses define

abbrev defines : Use → Bool
defines u = is_once u.kind || is_again u.kind

abbrev defined_names : List Use → List (List ℕ)
defined_names [] = []
defined_names (u ∷ us) = cond (defines u) (u.name ∷ defined_names us) (defined_names us)

defined_length : (us vs : List Use) → length (defined_names (us ++ vs)) ≡ length (defined_names us) + length (defined_names vs)
defined_length [] vs = omega arith
defined_length (u ∷ us) vs =
    let rest = defined_length us vs in
    elim (defines u) as (λ b. length (cond b (u.name ∷ defined_names (us ++ vs)) (defined_names (us ++ vs))) ≡ length (cond b (u.name ∷ defined_names us) (defined_names us)) + length (defined_names vs)) [
      | true ↦ omega (arith, rest)
      | false ↦ rest
    ]

defined_member : (us : List Use) (q : List ℕ) → is_defined q us ≡ true → list_any (bytes_eq q) (defined_names us) ≡ true
unfolding has_use
defined_member [] q h = absurd (cc h)
defined_member (u ∷ us) q h = by (is_once u.kind) (is_again u.kind) (bytes_eq q u.name) (has_use is_once q us) (has_use is_again q us) refl h (λ g. defined_member us q g)
  where
    by : (a b c x y : Bool) → bytes_eq q u.name ≡ c → (((a && c) || x) || ((b && c) || y)) ≡ true → ((x || y) ≡ true → list_any (bytes_eq q) (defined_names us) ≡ true) → list_any (bytes_eq q) (cond (a || b) (u.name ∷ defined_names us) (defined_names us)) ≡ true
    by true b true x y e g f = or_left (bytes_eq q u.name) (list_any (bytes_eq q) (defined_names us)) e
    by true b false x y e g f = or_right (bytes_eq q u.name) (list_any (bytes_eq q) (defined_names us)) (f (still b x y g))
      where
        still : (b x y : Bool) → (x || ((b && false) || y)) ≡ true → (x || y) ≡ true
        still b true y g = refl
        still true false y g = g
        still false false y g = g
    by false true true x y e g f = or_left (bytes_eq q u.name) (list_any (bytes_eq q) (defined_names us)) e
    by false true false x y e g f = or_right (bytes_eq q u.name) (list_any (bytes_eq q) (defined_names us)) (f g)
    by false false c x y e g f = f g

no_more : (line : ℕ) (names : List (List ℕ)) → length (defined_names (map (use_of line Taken) names)) ≡ 0
no_more line [] = refl
no_more line (n ∷ ns) = no_more line ns

none_given : (line : ℕ) (names : List (List ℕ)) → length (defined_names (map (use_of line Given) names)) ≡ 0
none_given line [] = refl
none_given line (n ∷ ns) = none_given line ns

label_few : (line : ℕ) (label : Option (List ℕ)) → length (defined_names (label_uses line label)) ≤ 1
label_few line None = omega arith
label_few line (Some name) = omega arith

action_few : (line : ℕ) (a : ActionTree) → length (defined_names (action_uses line a)) ≤ 1
action_few line (trees.Equ name x) = omega arith
action_few line (trees.Set name x) = omega arith
action_few line (trees.Extrn names) = let n = no_more line names in omega (arith, n)
action_few line (trees.Public names) = let n = none_given line names in omega (arith, n)
action_few line trees.Bare = omega arith
action_few line (trees.Module name stack) = omega arith
action_few line (trees.Cseg at) = omega arith
action_few line (trees.Dseg at) = omega arith
action_few line (trees.Rseg at) = omega arith
action_few line (trees.Sseg size) = omega arith
action_few line (trees.Define size items) = omega arith
action_few line (trees.Reserve size x) = omega arith
action_few line (trees.Org x) = omega arith
action_few line trees.Even = omega arith
action_few line trees.End = omega arith
action_few line (trees.Operation name args) = omega arith

read_few : (line : ℕ) (r : Result ActionTree ℕ) → length (defined_names (read_uses line r)) ≤ 1
read_few line (Ok a) = action_few line a
read_few line (Err e) = omega arith

-- a line defines at most two names
all_few : (ss : List Said) → length (defined_names (all_uses ss)) ≤ length ss + length ss
unfolding all_uses
all_few [] = omega arith
all_few (s ∷ ss) =
    let rest = all_few ss in
    let label = label_few s.line s.label in
    let read = read_few s.line s.action in
    let first = defined_length (label_uses s.line s.label) (read_uses s.line s.action) in
    let whole = defined_length (uses_of s) (all_uses ss) in
    omega (arith, rest, label, read, first, whole)

-- ---- a name that PUBLIC gives is defined

abbrev gives : UseKind → Bool
gives Given = true
gives Once = false
gives Again = false
gives Taken = false

abbrev is_given : List ℕ → List Use → Bool
is_given q us = list_any (λ u. gives u.kind && bytes_eq q u.name) us

record Found (q : List ℕ) (us : List Use) : Type 0 where
  before : List Use
  after : List Use
  given : Use
  split : us ≡ before ++ given ∷ after
  kind : given.kind ≡ Given
  name : q ≡ given.name

is_giving : (k : UseKind) → gives k ≡ true → k ≡ Given
is_giving Given e = refl
is_giving Once e = absurd (cc e)
is_giving Again e = absurd (cc e)
is_giving Taken e = absurd (cc e)

found : (q : List ℕ) (us : List Use) → is_given q us ≡ true → Found q us
found q [] h = absurd (cc h)
found q (u ∷ us) h = by (gives u.kind && bytes_eq q u.name) refl h (λ g. found q us g)
  where
    by : (b : Bool) → (gives u.kind && bytes_eq q u.name) ≡ b → (b || is_given q us) ≡ true → (is_given q us ≡ true → Found q us) → Found q (u ∷ us)
    by true e g f = let both = and_parts (gives u.kind) (bytes_eq q u.name) e in record { before = []; after = us; given = u; split = refl; kind = is_giving u.kind both.0; name = eq_same q u.name both.1 }
    by false e g f = let r = f g in record { before = u ∷ r.before; after = r.after; given = r.given; split = ap (λ (vs : List Use). u ∷ vs) r.split; kind = r.kind; name = r.name }

any_join : (p : Use → Bool) (us vs : List Use) → list_any p (us ++ vs) ≡ (list_any p us || list_any p vs)
any_join p [] vs = refl
any_join p (u ∷ us) vs = by (p u) (any_join p us vs)
  where
    by : (b : Bool) → list_any p (us ++ vs) ≡ (list_any p us || list_any p vs) → (b || list_any p (us ++ vs)) ≡ ((b || list_any p us) || list_any p vs)
    by true e = refl
    by false e = e

names_join : (q : List ℕ) (ns ms : List (List ℕ)) → list_any (bytes_eq q) (ns ++ ms) ≡ true → (list_any (bytes_eq q) ns || list_any (bytes_eq q) ms) ≡ true
names_join q [] ms h = h
names_join q (n ∷ ns) ms h = by (bytes_eq q n) h (λ g. names_join q ns ms g)
  where
    by : (b : Bool) → (b || list_any (bytes_eq q) (ns ++ ms)) ≡ true → (list_any (bytes_eq q) (ns ++ ms) ≡ true → (list_any (bytes_eq q) ns || list_any (bytes_eq q) ms) ≡ true) → ((b || list_any (bytes_eq q) ns) || list_any (bytes_eq q) ms) ≡ true
    by true g f = refl
    by false g f = f g

named_given : (line : ℕ) (q : List ℕ) (ns : List (List ℕ)) → list_any (bytes_eq q) ns ≡ true → is_given q (map (use_of line Given) ns) ≡ true
named_given line q [] h = h
named_given line q (n ∷ ns) h = by (bytes_eq q n) h (λ g. named_given line q ns g)
  where
    by : (b : Bool) → (b || list_any (bytes_eq q) ns) ≡ true → (list_any (bytes_eq q) ns ≡ true → is_given q (map (use_of line Given) ns) ≡ true) → (b || is_given q (map (use_of line Given) ns)) ≡ true
    by true g f = refl
    by false g f = f g

action_given : (line : ℕ) (a : ActionTree) (q : List ℕ) → list_any (bytes_eq q) (given_names a) ≡ true → is_given q (action_uses line a) ≡ true
action_given line (trees.Public names) q h = named_given line q names h
action_given line (trees.Equ name x) q h = absurd (cc h)
action_given line (trees.Set name x) q h = absurd (cc h)
action_given line (trees.Extrn names) q h = absurd (cc h)
action_given line trees.Bare q h = absurd (cc h)
action_given line (trees.Module name stack) q h = absurd (cc h)
action_given line (trees.Cseg at) q h = absurd (cc h)
action_given line (trees.Dseg at) q h = absurd (cc h)
action_given line (trees.Rseg at) q h = absurd (cc h)
action_given line (trees.Sseg size) q h = absurd (cc h)
action_given line (trees.Define size items) q h = absurd (cc h)
action_given line (trees.Reserve size x) q h = absurd (cc h)
action_given line (trees.Org x) q h = absurd (cc h)
action_given line trees.Even q h = absurd (cc h)
action_given line trees.End q h = absurd (cc h)
action_given line (trees.Operation name args) q h = absurd (cc h)

either_true : (a b : Bool) → (a || b) ≡ true → (P : Type 0) → (a ≡ true → P) → (b ≡ true → P) → P
either_true true b h P f g = f refl
either_true false b h P f g = g h

all_are_given : (values : ℕ → Segment → Value) (i : ℕ) (g : Segment) (ss : List Stmt) (q : List ℕ) → list_any (bytes_eq q) (all_given (located_from values i g ss)) ≡ true → is_given q (all_uses (map stmt_said ss)) ≡ true
unfolding located_from all_given all_uses
all_are_given values i g [] q h = h
all_are_given values i g (s ∷ ss) q h =
    let a = action_tree s.action in
    let p : Use → Bool = λ u. gives u.kind && bytes_eq q u.name in
    let rest = all_are_given values (i + 1) (segment_after g a) ss q in
    let both : (list_any (bytes_eq q) (given_names a) || list_any (bytes_eq q) (all_given (located_from values (i + 1) (segment_after g a) ss))) ≡ true =
    names_join q (given_names a) (all_given (located_from values (i + 1) (segment_after g a) ss)) h in
    any_join p (uses_of (stmt_said s)) (all_uses (map stmt_said ss))
    ∙ either_true (list_any (bytes_eq q) (given_names a)) (list_any (bytes_eq q) (all_given (located_from values (i + 1) (segment_after g a) ss))) both ((list_any p (uses_of (stmt_said s)) || list_any p (all_uses (map stmt_said ss))) ≡ true)
    (λ e. or_left (list_any p (uses_of (stmt_said s))) (list_any p (all_uses (map stmt_said ss))) (any_join p (label_uses s.line s.label) (action_uses s.line a) ∙ or_right (list_any p (label_uses s.line s.label)) (list_any p (action_uses s.line a)) (action_given s.line a q e)))
    (λ e. or_right (list_any p (uses_of (stmt_said s))) (list_any p (all_uses (map stmt_said ss))) (rest e))

given_defined : NamesAreClear → (ls : List Line) → least (faults_of ls) ≡ None → (q : List ℕ) → is_given q (all_uses (all_said ls)) ≡ true → is_defined q (all_uses (all_said ls)) ≡ true
given_defined law ls sound q h =
    let f = found q (all_uses (all_said ls)) h in
    let clear = law ls sound f.before f.after f.given f.split in
    let clearly : IsClear Given f.given.name f.before (all_uses (all_said ls)) = subst (λ (k : UseKind). IsClear k f.given.name f.before (all_uses (all_said ls))) f.kind clear in
    subst (λ (n : List ℕ). is_defined n (all_uses (all_said ls)) ≡ true) (sym f.name) clearly

-- ---- how many

given_one : (name : List ℕ) (a : Answer) → length (given_as name a) ≤ 1
given_one name (Ok v) = omega arith
given_one name (Err fault) = omega arith

publics_few : (last : List ℕ → Answer) (names : List (List ℕ)) → length (publics_of last names) ≤ length names
unfolding publics_of
publics_few last [] = omega arith
publics_few last (n ∷ ns) =
    let rest = publics_few last ns in
    let one = given_one n (last n) in
    omega (arith, rest, one, length-append (given_as n (last n)) (publics_of last ns))

pub few_publics : NamesAreClear → (ls : List Line) (stmts : List Stmt) (values : ℕ → Segment → Value) (i : ℕ) (g : Segment) (last : List ℕ → Answer) → least (faults_of ls) ≡ None → map stmt_said stmts ≡ all_said ls
    → length (publics_of last (distinct_from [] (all_given (located_from values i g stmts)))) ≤ length (all_said ls) + length (all_said ls)
few_publics law ls stmts values i g last sound same =
    let names = all_given (located_from values i g stmts) in
    let defined = length-le_from_is_member equal (distinct_from [] (all_given (located_from values i g stmts))) (defined_names (all_uses (all_said ls))) (distinct [] (all_given (located_from values i g stmts))).1 (λ q h.
    let given : is_given q (all_uses (map stmt_said stmts)) ≡ true = all_are_given values i g stmts q (distinct_member [] (all_given (located_from values i g stmts)) q h) in
    let there : is_given q (all_uses (all_said ls)) ≡ true = subst (λ (ss : List Said). is_given q (all_uses ss) ≡ true) same given in
    defined_member (all_uses (all_said ls)) q (given_defined law ls sound q there)) in
    let few = publics_few last (distinct_from [] (all_given (located_from values i g stmts))) in
    let most = all_few (all_said ls) in
    omega (arith, few, defined, most)
