-- An operand is read exactly where it is written in one of its forms.
use Rattle.std.proofs.Common.{◌≡◌, ℕ, suc, ◌≤◌, Bool, true, false, cond, not, ◌||◌, ◌&&◌, eqb, List, [], ◌∷◌, ◌++◌, drop, length, Option, Some, None, refl, sym, ap, subst, ◌∙◌, length-append, arith}
use Rattle.std.specs.Option.{option_map}
use Rattle.std.specs.List.{list_all}
use Rattle.std.proofs.lemmas.Bool.Decides.{nat_tests}
use Rattle.std.proofs.lemmas.List.{append-nil}
use Rattle.std.proofs.lemmas.List.Folds.{list_all-append}
use Rattle.kc_lex.specs.declared.token.Token.{Token}
use Rattle.kc_lex.specs.Kinds.{is_sign, begins_sign}
use Rattle.kc_expr.specs.declared.expr.Unary.{Unary}
use Rattle.kc_expr.specs.declared.expr.Binary.{Binary}
use Rattle.kc_expr.specs.Tree.{Tree}
use Rattle.kc_expr.specs.Grammar.{Reading, parsed, alone, is_type, unary_at, binary_at}
use Rattle.kc_expr.specs.Derives.{is_suffix, Derives, from_token, from_group, from_tighter, from_unary, from_binary, IsLongest}
use Rattle.kc_expr.proofs.OperatorLemmas.{sign, by_sign}
use Rattle.kc_expr.proofs.Longest.{parsed_is_longest}
use Rattle.kc_source_statement.specs.Trees.{ArgTree, Plain, Immediate, Indirect, Increment, Indexed}
use Rattle.kc_source_statement.specs.Operands.{is_nil, taken_whole, whole, is_close, is_close_plus, pointed, with_register, plain_or_indexed, operand}
use Rattle.kc_source_statement.specs.Forms.{IsOperand, is_plain, is_immediate, is_indirect, is_increment, is_indexed, OperandsHaveForms}

-- ---- `#`, `,`, `[` and `]` stand in no expression

abbrev pub is_mark : Token → Bool
is_mark t = is_sign 35 t || (is_sign 44 t || (is_sign 91 t || is_sign 93 t))

abbrev pub no_mark : Token → Bool
no_mark t = not (is_mark t)

one_of_four : (P : Type 0) (a b c d : Bool) → (a || (b || (c || d))) ≡ true → (a ≡ true → P) → (b ≡ true → P) → (c ≡ true → P) → (d ≡ true → P) → P
one_of_four P true b c d e p q r s = p refl
one_of_four P false true c d e p q r s = q refl
one_of_four P false false true d e p q r s = r refl
one_of_four P false false false d e p q r s = s e

by_mark : (P : Token → Type 0) → ((v : ℕ) → P (sign 35 v)) → ((v : ℕ) → P (sign 44 v)) → ((v : ℕ) → P (sign 91 v)) → ((v : ℕ) → P (sign 93 v)) → (t : Token) → is_mark t ≡ true → P t
by_mark P p q r s t m =
    one_of_four (P t) (is_sign 35 t) (is_sign 44 t) (is_sign 91 t) (is_sign 93 t) m
    (λ e. by_sign P 35 t e (p t.value)) (λ e. by_sign P 44 t e (q t.value)) (λ e. by_sign P 91 t e (r t.value)) (λ e. by_sign P 93 t e (s t.value))

unless : (b : Bool) → (b ≡ true → ⊥) → not b ≡ true
unless true h = absurd (h refl)
unless false h = refl

none_and_some : {A : Type 0} (o : Option A) (x : A) → o ≡ None → o ≡ Some x → ⊥
none_and_some o x e h = let k : None ≡ Some x = sym e ∙ h in cc

false_and_true : (b : Bool) → b ≡ false → b ≡ true → ⊥
false_and_true b e h = let k : false ≡ true = sym e ∙ h in cc

alone_unmarked : (t : Token) (e : Tree) → alone t ≡ Some e → no_mark t ≡ true
alone_unmarked t e h = unless (is_mark t) (λ m. none_and_some (alone t) e (by_mark (λ t. alone t ≡ None) (λ v. refl) (λ v. refl) (λ v. refl) (λ v. refl) t m) h)

sign_unmarked : (c : ℕ) (t : Token) → is_mark (sign c t.value) ≡ false → is_sign c t ≡ true → no_mark t ≡ true
sign_unmarked c t e h = ap not (by_sign (λ u. is_mark u ≡ false) c t h e)

type_unmarked : (t : Token) → is_type t ≡ true → no_mark t ≡ true
type_unmarked t h = unless (is_mark t) (λ m. false_and_true (is_type t) (by_mark (λ t. is_type t ≡ false) (λ v. refl) (λ v. refl) (λ v. refl) (λ v. refl) t m) h)

no_unary : {A : Type 0} (a b : Bool) (u v w x y : Option A) → cond (a && false) u (cond (a && false) v (cond (a && false) w (cond (a && false) x (cond (b && false) y None)))) ≡ None
no_unary true true u v w x y = refl
no_unary true false u v w x y = refl
no_unary false true u v w x y = refl
no_unary false false u v w x y = refl

unary_unmarked : (l : ℕ) (t : Token) (op : Unary) → unary_at l t ≡ Some op → no_mark t ≡ true
unary_unmarked l t op h =
    unless (is_mark t) (λ m. none_and_some (unary_at l t) op
    (by_mark (λ t. unary_at l t ≡ None) (λ v. no_unary (eqb l 1) (eqb l 5) _ _ _ _ _) (λ v. no_unary (eqb l 1) (eqb l 5) _ _ _ _ _) (λ v. no_unary (eqb l 1) (eqb l 5) _ _ _ _ _) (λ v. no_unary (eqb l 1) (eqb l 5) _ _ _ _ _) t m) h)

no_binary : {A : Type 0} (a b c d e : Bool) (n : Option A) → cond a n (cond b n (cond c n (cond d n (cond e n n)))) ≡ n
no_binary true b c d e n = refl
no_binary false true c d e n = refl
no_binary false false true d e n = refl
no_binary false false false true e n = refl
no_binary false false false false true n = refl
no_binary false false false false false n = refl

binary_unmarked : (l : ℕ) (t : Token) (op : Binary) → binary_at l t ≡ Some op → no_mark t ≡ true
unfolding binary_at
binary_unmarked l t op h =
    unless (is_mark t) (λ m. none_and_some (binary_at l t) op
    (by_mark (λ t. binary_at l t ≡ None) (λ v. no_binary (eqb l 2) (eqb l 3) (eqb l 4) (eqb l 6) (eqb l 7) None) (λ v. no_binary (eqb l 2) (eqb l 3) (eqb l 4) (eqb l 6) (eqb l 7) None) (λ v. no_binary (eqb l 2) (eqb l 3) (eqb l 4) (eqb l 6) (eqb l 7) None) (λ v. no_binary (eqb l 2) (eqb l 3) (eqb l 4) (eqb l 6) (eqb l 7) None) t m) h)

both : (a b : Bool) → a ≡ true → b ≡ true → (a && b) ≡ true
both a b p q = rw (p, q) refl

first : (a b : Bool) → (a && b) ≡ true → a ≡ true
first true b e = refl
first false b e = absurd cc

second : (a b : Bool) → (a && b) ≡ true → b ≡ true
second true b e = e
second false b e = absurd cc

suffix_unmarked : (s : List Token) → is_suffix s ≡ true → list_all no_mark s ≡ true
suffix_unmarked [] e = refl
suffix_unmarked (t ∷ []) e = absurd cc
suffix_unmarked (t ∷ u ∷ []) e =
    both (no_mark t) (no_mark u && true) (sign_unmarked 58 t refl (first (is_sign 58 t) (is_type u) e)) (both (no_mark u) true (type_unmarked u (second (is_sign 58 t) (is_type u) e)) refl)
suffix_unmarked (t ∷ u ∷ v ∷ s) e = absurd cc

joined : (us vs : List Token) → list_all no_mark us ≡ true → list_all no_mark vs ≡ true → list_all no_mark (us ++ vs) ≡ true
joined us vs p q = list_all-append no_mark us vs ∙ both (list_all no_mark us) (list_all no_mark vs) p q

pub unmarked : {l : ℕ} {ts : List Token} {e : Tree} → Derives l ts e → list_all no_mark ts ≡ true
unmarked (from_token {t = t} {s = s} {e = e} h k) = both (no_mark t) (list_all no_mark s) (alone_unmarked t e h) (suffix_unmarked s k)
unmarked (from_group {a = a} b ts s o d c k) =
    both (no_mark a) (list_all no_mark (ts ++ b ∷ s)) (sign_unmarked 40 a refl o)
    (joined ts (b ∷ s) (unmarked d) (both (no_mark b) (list_all no_mark s) (sign_unmarked 41 b refl c) (suffix_unmarked s k)))
unmarked (from_tighter d) = unmarked d
unmarked (from_unary {l = l} {t = t} {ts = ts} {op = op} u d) = both (no_mark t) (list_all no_mark ts) (unary_unmarked l t op u) (unmarked d)
unmarked (from_binary {l = l} {op = op} t us vs o da db) = joined us (t ∷ vs) (unmarked da) (both (no_mark t) (list_all no_mark vs) (binary_unmarked (suc l) t op o) (unmarked db))

-- ---- an expression before a mark is read as it is

abbrev Ends : List Token → Type 0
Ends [] = Unit {0}
Ends (t ∷ ts) = is_mark t ≡ true

same_prefix : (vs rest prefix behind : List Token) → vs ++ rest ≡ prefix ++ behind → length vs ≤ length prefix → Ends rest → list_all no_mark prefix ≡ true → (prefix ≡ vs) × (behind ≡ rest)
same_prefix [] rest [] behind e h s n = (refl, sym e)
same_prefix [] [] (f ∷ prefix) behind e h s n = absurd cc
same_prefix [] (r ∷ rest) (f ∷ prefix) behind e h s n =
    let same : r ≡ f = cc in
    absurd (false_and_true (no_mark f) (ap not (subst (λ t. is_mark t ≡ true) same s)) (first (no_mark f) (list_all no_mark prefix) n))
same_prefix (v ∷ vs) rest [] behind e h s n = absurd (omega arith)
same_prefix (v ∷ vs) rest (f ∷ prefix) behind e h s n =
    let same : v ≡ f = cc in
    let tails : vs ++ rest ≡ prefix ++ behind = cc in
    let more = same_prefix vs rest prefix behind tails (omega arith) s (second (no_mark f) (list_all no_mark prefix) n) in
    ((λ i. sym same i ∷ more.0 i), more.1)

of_longest : (vs rest : List Token) (e : Tree) (o : Reading) → IsLongest o (vs ++ rest) → Derives 7 vs e → Ends rest → o ≡ Some (e, rest)
of_longest vs rest e None l d s = absurd (l vs rest e refl d)
of_longest vs rest e (Some p) l d s =
    let same : (l.prefix ≡ vs) × (p.1 ≡ rest) = same_prefix vs rest l.prefix p.1 l.is (l.longest vs rest e refl d) s (unmarked l.derives) in
    let tree : e ≡ p.0 = l.only e (subst (λ f. Derives 7 f e) (sym same.0) d) in
    λ i. Some (sym tree i, same.1 i)

pub read_exactly : (vs rest : List Token) (e : Tree) → Derives 7 vs e → Ends rest → parsed (vs ++ rest) ≡ Some (e, rest)
read_exactly vs rest e d s = of_longest vs rest e (parsed (vs ++ rest)) (parsed_is_longest (vs ++ rest)) d s

read_alone : (ts : List Token) (e : Tree) → Derives 7 ts e → parsed ts ≡ Some (e, [])
read_alone ts e d = ap parsed (sym (append-nil ts)) ∙ read_exactly ts [] e d tt

pub whole_read : (ts : List Token) (e : Tree) → Derives 7 ts e → whole ts ≡ Some e
unfolding whole
whole_read ts e d = ap taken_whole (read_alone ts e d)

not_zero : (n : ℕ) → eqb (suc n) 0 ≡ false
not_zero n = grind (arith, nat_tests)

some_left : (t : Token) (ts : List Token) → is_nil (t ∷ ts) ≡ false
some_left t ts = not_zero (length ts)

nothing_left : (us : List Token) → is_nil us ≡ true → us ≡ []
nothing_left [] e = refl
nothing_left (u ∷ us) e = absurd (false_and_true (is_nil (u ∷ us)) (some_left u us) e)

-- ---- what a test that chooses says

chosen : {A : Type 0} (P : Type 0) (b : Bool) (x y : A) (rest : Option A) → (b ≡ true → x ≡ y → P) → (b ≡ false → rest ≡ Some y → P) → cond b (Some x) rest ≡ Some y → P
chosen P true x y rest here other e = here refl cc
chosen P false x y rest here other e = other refl e

never : {A : Type 0} (P : Type 0) (y : A) → None ≡ Some y → P
never P y e = absurd cc

whole_derives : (ts : List Token) (e : Tree) (o : Reading) → IsLongest o ts → taken_whole o ≡ Some e → Derives 7 ts e
whole_derives ts e None l h = absurd cc
whole_derives ts e (Some p) l h =
    chosen (Derives 7 ts e) (is_nil p.1) p.0 e None
    (λ nil same. subst (λ u. Derives 7 u e) (sym (l.is ∙ ap (λ r. l.prefix ++ r) (nothing_left p.1 nil) ∙ append-nil l.prefix)) (subst (λ x. Derives 7 l.prefix x) same l.derives))
    (λ more none. never (Derives 7 ts e) e none) h

pub whole_has_form : (ts : List Token) (e : Tree) → whole ts ≡ Some e → Derives 7 ts e
unfolding whole
whole_has_form ts e h = whole_derives ts e (parsed ts) (parsed_is_longest ts) h

-- ---- forms with brackets

pub record Closed (ts : List Token) : Type 0 where
  pub close : Token
  pub is : ts ≡ close ∷ []
  pub closes : is_sign 93 close ≡ true

closed : (ts : List Token) → is_close ts ≡ true → Closed ts
closed [] e = absurd cc
closed (t ∷ []) e = record { close = t; is = refl; closes = e }
closed (t ∷ u ∷ ts) e = absurd cc

pub record ClosedPlus (ts : List Token) : Type 0 where
  pub close : Token
  pub plus : Token
  pub is : ts ≡ close ∷ plus ∷ []
  pub closes : is_sign 93 close ≡ true
  pub adds : is_sign 43 plus ≡ true

closed_plus : (ts : List Token) → is_close_plus ts ≡ true → ClosedPlus ts
closed_plus [] e = absurd cc
closed_plus (t ∷ []) e = absurd cc
closed_plus (t ∷ u ∷ []) e = record { close = t; plus = u; is = refl; closes = first (is_sign 93 t) (is_sign 43 u) e; adds = second (is_sign 93 t) (is_sign 43 u) e }
closed_plus (t ∷ u ∷ v ∷ ts) e = absurd cc

pointed_form : (t : Token) (ts : List Token) (a : ArgTree) (o : Reading) → is_sign 91 t ≡ true → IsLongest o ts → pointed o ≡ Some a → IsOperand (t ∷ ts) a
pointed_form t ts a None opens l h = absurd cc
pointed_form t ts a (Some p) opens l h =
    chosen (IsOperand (t ∷ ts) a) (is_close p.1) (Indirect p.0) a (cond (is_close_plus p.1) (Some (Increment p.0)) None)
    (λ ends same. let c = closed p.1 ends in
    subst (λ x. IsOperand (t ∷ ts) x) same
    (subst (λ u. IsOperand (t ∷ u) (Indirect p.0)) (sym (l.is ∙ ap (λ r. l.prefix ++ r) c.is)) (is_indirect l.prefix c.close opens l.derives c.closes)))
    (λ more rest. chosen (IsOperand (t ∷ ts) a) (is_close_plus p.1) (Increment p.0) a None
    (λ ends same. let c = closed_plus p.1 ends in
    subst (λ x. IsOperand (t ∷ ts) x) same
    (subst (λ u. IsOperand (t ∷ u) (Increment p.0)) (sym (l.is ∙ ap (λ r. l.prefix ++ r) c.is)) (is_increment l.prefix c.close c.plus opens l.derives c.closes c.adds)))
    (λ no none. never (IsOperand (t ∷ ts) a) a none) rest) h

register_form : (us : List Token) (x : Tree) (t : Token) (ts : List Token) (a : ArgTree) (o : Reading) → Derives 7 us x → is_sign 91 t ≡ true → IsLongest o ts → with_register x o ≡ Some a → IsOperand (us ++ t ∷ ts) a
register_form us x t ts a None d opens l h = absurd cc
register_form us x t ts a (Some p) d opens l h =
    chosen (IsOperand (us ++ t ∷ ts) a) (is_close p.1) (Indexed x p.0) a None
    (λ ends same. let c = closed p.1 ends in
    subst (λ y. IsOperand (us ++ t ∷ ts) y) same
    (subst (λ u. IsOperand (us ++ t ∷ u) (Indexed x p.0)) (sym (l.is ∙ ap (λ r. l.prefix ++ r) c.is)) (is_indexed us t l.prefix c.close d opens l.derives c.closes)))
    (λ more none. never (IsOperand (us ++ t ∷ ts) a) a none) h

indexed_form : (us : List Token) (x : Tree) (rest : List Token) (a : ArgTree) → Derives 7 us x → cond (begins_sign 91 rest) (with_register x (parsed (drop 1 rest))) None ≡ Some a → IsOperand (us ++ rest) a
indexed_form us x [] a d h = absurd cc
indexed_form us x (t ∷ ts) a d h =
    elim (is_sign 91 t) as (λ b. is_sign 91 t ≡ b → cond b (with_register x (parsed ts)) None ≡ Some a → IsOperand (us ++ t ∷ ts) a) [
      | true ↦ λ opens says. register_form us x t ts a (parsed ts) d opens (parsed_is_longest ts) says
      | false ↦ λ no none. never (IsOperand (us ++ t ∷ ts) a) a none
    ] refl h

plain_form : (ts : List Token) (a : ArgTree) (o : Reading) → IsLongest o ts → plain_or_indexed o ≡ Some a → IsOperand ts a
plain_form ts a None l h = absurd cc
plain_form ts a (Some p) l h =
    chosen (IsOperand ts a) (is_nil p.1) (Plain p.0) a (cond (begins_sign 91 p.1) (with_register p.0 (parsed (drop 1 p.1))) None)
    (λ nil same. subst (λ x. IsOperand ts x) same
    (is_plain (subst (λ u. Derives 7 u p.0) (sym (l.is ∙ ap (λ r. l.prefix ++ r) (nothing_left p.1 nil) ∙ append-nil l.prefix)) l.derives)))
    (λ more says. subst (λ u. IsOperand u a) (sym l.is) (indexed_form l.prefix p.0 p.1 a l.derives says)) h

immediate_form : (t : Token) (ts : List Token) (a : ArgTree) (o : Option Tree) → is_sign 35 t ≡ true → whole ts ≡ o → option_map (λ x. Immediate x) o ≡ Some a → IsOperand (t ∷ ts) a
immediate_form t ts a None mark is h = absurd cc
immediate_form t ts a (Some x) mark is h = let same : Immediate x ≡ a = cc in subst (λ y. IsOperand (t ∷ ts) y) same (is_immediate mark (whole_has_form ts x is))

read_has_form : (ts : List Token) (a : ArgTree) → operand ts ≡ Some a → IsOperand ts a
unfolding operand
read_has_form [] a h = plain_form [] a (parsed []) (parsed_is_longest []) h
read_has_form (t ∷ ts) a h =
    elim (is_sign 35 t) as (λ b. is_sign 35 t ≡ b → cond b (option_map (λ x. Immediate x) (whole ts)) (cond (is_sign 91 t) (pointed (parsed ts)) (plain_or_indexed (parsed (t ∷ ts)))) ≡ Some a → IsOperand (t ∷ ts) a) [
      | true ↦ λ mark says. immediate_form t ts a (whole ts) mark refl says
      | false ↦ λ no rest. elim (is_sign 91 t) as (λ b. is_sign 91 t ≡ b → cond b (pointed (parsed ts)) (plain_or_indexed (parsed (t ∷ ts))) ≡ Some a → IsOperand (t ∷ ts) a) [
        | true ↦ λ opens says. pointed_form t ts a (parsed ts) opens (parsed_is_longest ts) says
        | false ↦ λ never_open says. plain_form (t ∷ ts) a (parsed (t ∷ ts)) (parsed_is_longest (t ∷ ts)) says
      ] refl rest
    ] refl h

-- ---- each form is read

-- an expression begins with none of the marks
no_prefix : (c : ℕ) (ts : List Token) → ((t : Token) → is_sign c t ≡ true → is_mark t ≡ true) → list_all no_mark ts ≡ true → begins_sign c ts ≡ false
no_prefix c [] m h = refl
no_prefix c (t ∷ ts) m h =
    elim (is_sign c t) as (λ b. is_sign c t ≡ b → b ≡ false) [
      | true ↦ λ e. absurd (false_and_true (no_mark t) (ap not (m t e)) (first (no_mark t) (list_all no_mark ts) h))
      | false ↦ λ e. refl
    ] refl

number_marks : (t : Token) → is_sign 35 t ≡ true → is_mark t ≡ true
number_marks t e = by_sign (λ u. is_mark u ≡ true) 35 t e refl

open_marks : (t : Token) → is_sign 91 t ≡ true → is_mark t ≡ true
open_marks t e = by_sign (λ u. is_mark u ≡ true) 91 t e refl

close_marks : (t : Token) → is_sign 93 t ≡ true → is_mark t ≡ true
close_marks t e = by_sign (λ u. is_mark u ≡ true) 93 t e refl

open_is_no_number : (t : Token) → is_sign 91 t ≡ true → is_sign 35 t ≡ false
open_is_no_number t e = by_sign (λ u. is_sign 35 u ≡ false) 91 t e refl

nonempty : {l : ℕ} {f : List Token} {e : Tree} → Derives l f e → 1 ≤ length f
nonempty (from_token h s) = omega arith
nonempty (from_group b ts s o d c p) = omega arith
nonempty (from_tighter d) = nonempty d
nonempty (from_unary u d) = omega arith
nonempty (from_binary t us vs o da db) = omega (arith, length-append us (t ∷ vs))

begins_not : (c : ℕ) (us rest : List Token) (x : Tree) → Derives 7 us x → ((t : Token) → is_sign c t ≡ true → is_mark t ≡ true) → begins_sign c (us ++ rest) ≡ false
begins_not c [] rest x d m = let some : 1 ≤ 0 = nonempty d in absurd (omega arith)
begins_not c (u ∷ us) rest x d m = no_prefix c (u ∷ us) m (unmarked d)

-- an operand that begins with an expression
begun : (us rest : List Token) (x : Tree) → Derives 7 us x → Ends rest → operand (us ++ rest) ≡ plain_or_indexed (Some (x, rest))
unfolding operand
begun us rest x d ends =
    λ i. cond (begins_not 35 us rest x d number_marks i) (option_map (λ x. Immediate x) (whole (drop 1 (us ++ rest)))) (cond (begins_not 91 us rest x d open_marks i) (pointed (parsed (drop 1 (us ++ rest)))) (plain_or_indexed (read_exactly us rest x d ends i)))

-- an operand that begins with a bracket
opened : (a : Token) (ts rest : List Token) (r : Tree) → is_sign 91 a ≡ true → Derives 7 ts r → Ends rest → operand (a ∷ (ts ++ rest)) ≡ pointed (Some (r, rest))
unfolding operand
opened a ts rest r opens d ends =
    λ i. cond (open_is_no_number a opens i) (option_map (λ x. Immediate x) (whole (ts ++ rest))) (cond (opens i) (pointed (read_exactly ts rest r d ends i)) (plain_or_indexed (parsed (a ∷ (ts ++ rest)))))

immediate_read : (a : Token) (ts : List Token) (x : Tree) → is_sign 35 a ≡ true → whole ts ≡ Some x → operand (a ∷ ts) ≡ Some (Immediate x)
unfolding operand
immediate_read a ts x mark is = λ i. cond (mark i) (option_map (λ x. Immediate x) (is i)) (cond (is_sign 91 a) (pointed (parsed ts)) (plain_or_indexed (parsed (a ∷ ts))))

indexed_read : (x r : Tree) (a : Token) (vs : List Token) (b : Token) → is_sign 91 a ≡ true → Derives 7 vs r → is_sign 93 b ≡ true → plain_or_indexed (Some (x, a ∷ (vs ++ b ∷ []))) ≡ Some (Indexed x r)
indexed_read x r a vs b opens d closes =
    (λ i. cond (some_left a (vs ++ b ∷ []) i) (Some (Plain x)) (cond (opens i) (with_register x (read_exactly vs (b ∷ []) r d (close_marks b closes) i)) None))
    ∙ (λ i. cond (closes i) (Some (Indexed x r)) None)

form_is_read : {ts : List Token} {a : ArgTree} → IsOperand ts a → operand ts ≡ Some a
form_is_read (is_plain {ts = ts} {x = x} d) = ap operand (sym (append-nil ts)) ∙ begun ts [] x d tt
form_is_read (is_immediate {a = a} {ts = ts} {x = x} mark d) = immediate_read a ts x mark (whole_read ts x d)
form_is_read (is_indirect {a = a} {r = r} ts b opens d closes) = opened a ts (b ∷ []) r opens d (close_marks b closes) ∙ (λ i. cond (closes i) (Some (Indirect r)) None)
form_is_read (is_increment {a = a} {r = r} ts b c opens d closes adds) =
    opened a ts (b ∷ c ∷ []) r opens d (close_marks b closes) ∙ (λ i. cond (closes i && adds i) (Some (Increment r)) None)
form_is_read (is_indexed {x = x} {r = r} us a vs b dx opens dr closes) = begun us (a ∷ (vs ++ b ∷ [])) x dx (open_marks a opens) ∙ indexed_read x r a vs b opens dr closes

pub operands_have_forms : OperandsHaveForms
operands_have_forms = record { read_has_form = read_has_form; form_is_read = λ ts a o. form_is_read o }
