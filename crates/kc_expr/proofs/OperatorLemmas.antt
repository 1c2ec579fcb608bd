-- Which tokens are operators, and of which level.
use Rattle.std.proofs.Common.{◌≡◌, ℕ, zero, suc, ◌<◌, ◌≤◌, Bool, true, false, cond, not, ◌&&◌, eqb, List, [], ◌∷◌, Option, Some, None, refl, sym, subst, arith, inl, inr, lit≤}
use Rattle.std.specs.Prelude.{is_none, codes}
use Rattle.std.specs.Str.{bytes_eq}
use Rattle.std.specs.Cmp.Lexicographic.{bytes_decides}
use Rattle.std.proofs.lemmas.Bool.{eqb-true, cases_lt}
use Rattle.kc_lex.specs.declared.token.TokenKind.{TokenKind}
use Rattle.kc_lex.specs.declared.token.TokenKind.TheVariants as kinds
use Rattle.kc_lex.specs.declared.token.Token.{Token}
use Rattle.kc_lex.specs.Words.{is_reserved}
use Rattle.kc_lex.specs.Kinds.{is_sign_kind, is_name_kind, is_sign, is_word}
use Rattle.kc_expr.specs.declared.expr.Unary.{Unary}
use Rattle.kc_expr.specs.declared.expr.Unary.TheVariants as unary
use Rattle.kc_expr.specs.declared.expr.Binary.{Binary}
use Rattle.kc_expr.specs.declared.expr.Binary.TheVariants as binary
use Rattle.kc_expr.specs.Tree.{Tree}
use Rattle.kc_expr.specs.Grammar.{unary_at, multiplying, adding, comparing, meeting, either, binary_at, alone}

-- ---- a token that is a certain sign or word

abbrev pub sign : ℕ → ℕ → Token
sign c v = record { kind = kinds.Sign; text = c ∷ []; value = v }

abbrev pub word : List ℕ → ℕ → Token
word w v = record { kind = kinds.Name; text = w; value = v }

both : (a b : Bool) → (a && b) ≡ true → (a ≡ true) × (b ≡ true)
both true b e = (refl, e)
both false b e = absurd cc

sign_kind : (k : TokenKind) → is_sign_kind k ≡ true → k ≡ kinds.Sign
sign_kind kinds.Sign e = refl
sign_kind kinds.Name e = absurd cc
sign_kind kinds.Number e = absurd cc
sign_kind kinds.Chars e = absurd cc

name_kind : (k : TokenKind) → is_name_kind k ≡ true → k ≡ kinds.Name
name_kind kinds.Name e = refl
name_kind kinds.Sign e = absurd cc
name_kind kinds.Number e = absurd cc
name_kind kinds.Chars e = absurd cc

pub by_sign : (P : Token → Type 0) (c : ℕ) (t : Token) → is_sign c t ≡ true → P (sign c t.value) → P t
by_sign P c t e p =
    let parts = both (is_sign_kind t.kind) (bytes_eq t.text (c ∷ [])) e in
    let same : t ≡ sign c t.value = λ i. record { kind = sign_kind t.kind parts.0 i; text = (bytes_decides t.text (c ∷ [])).0 parts.1 i; value = t.value } in
    subst P (sym same) p

pub by_word : (P : Token → Type 0) (w : List ℕ) (t : Token) → is_word w t ≡ true → P (word w t.value) → P t
by_word P w t e p =
    let parts = both (is_name_kind t.kind) (bytes_eq t.text w) e in
    let same : t ≡ word w t.value = λ i. record { kind = name_kind t.kind parts.0 i; text = (bytes_decides t.text w).0 parts.1 i; value = t.value } in
    subst P (sym same) p

-- ---- one of a chain of tests

chain : {A : Type 0} (P : Type 0) (b : Bool) (x : A) (rest : Option A) (op : A) → (b ≡ true → P) → (rest ≡ Some op → P) → cond b (Some x) rest ≡ Some op → P
chain P true x rest op here other h = here refl
chain P false x rest op here other h = other h

no_op : {A : Type 0} (P : Type 0) (op : A) (o : Option A) → o ≡ None → o ≡ Some op → P
no_op P op o e h = absurd cc

multiplies : (P : Token → Type 0) → ((v : ℕ) → P (sign 42 v)) → ((v : ℕ) → P (sign 47 v)) → ((v : ℕ) → P (word (codes "MOD") v)) → ((v : ℕ) → P (word (codes "SHL") v)) → ((v : ℕ) → P (word (codes "SHR") v))
    → (t : Token) (op : Binary) → multiplying t ≡ Some op → P t
multiplies P a b c d e t op =
    chain (P t) (is_sign 42 t) binary.Times _ op (λ y. by_sign P 42 t y (a t.value)) (
    chain (P t) (is_sign 47 t) binary.Over _ op (λ y. by_sign P 47 t y (b t.value)) (
    chain (P t) (is_word (codes "MOD") t) binary.Mod _ op (λ y. by_word P (codes "MOD") t y (c t.value)) (
    chain (P t) (is_word (codes "SHL") t) binary.Shl _ op (λ y. by_word P (codes "SHL") t y (d t.value)) (
    chain (P t) (is_word (codes "SHR") t) binary.Shr _ op (λ y. by_word P (codes "SHR") t y (e t.value)) (no_op (P t) op None refl)))))

adds : (P : Token → Type 0) → ((v : ℕ) → P (sign 43 v)) → ((v : ℕ) → P (sign 45 v)) → (t : Token) (op : Binary) → adding t ≡ Some op → P t
adds P a b t op =
    chain (P t) (is_sign 43 t) binary.Plus _ op (λ y. by_sign P 43 t y (a t.value)) (
    chain (P t) (is_sign 45 t) binary.Minus _ op (λ y. by_sign P 45 t y (b t.value)) (no_op (P t) op None refl))

compares : (P : Token → Type 0) → ((v : ℕ) → P (word (codes "EQ") v)) → ((v : ℕ) → P (word (codes "NE") v)) → ((v : ℕ) → P (word (codes "LT") v)) → ((v : ℕ) → P (word (codes "LE") v)) → ((v : ℕ) → P (word (codes "GT") v)) → ((v : ℕ) → P (word (codes "GE") v))
    → (t : Token) (op : Binary) → comparing t ≡ Some op → P t
compares P a b c d e f t op =
    chain (P t) (is_word (codes "EQ") t) binary.Eq _ op (λ y. by_word P (codes "EQ") t y (a t.value)) (
    chain (P t) (is_word (codes "NE") t) binary.Ne _ op (λ y. by_word P (codes "NE") t y (b t.value)) (
    chain (P t) (is_word (codes "LT") t) binary.Lt _ op (λ y. by_word P (codes "LT") t y (c t.value)) (
    chain (P t) (is_word (codes "LE") t) binary.Le _ op (λ y. by_word P (codes "LE") t y (d t.value)) (
    chain (P t) (is_word (codes "GT") t) binary.Gt _ op (λ y. by_word P (codes "GT") t y (e t.value)) (
    chain (P t) (is_word (codes "GE") t) binary.Ge _ op (λ y. by_word P (codes "GE") t y (f t.value)) (no_op (P t) op None refl))))))

chooses : (P : Token → Type 0) → ((v : ℕ) → P (word (codes "OR") v)) → ((v : ℕ) → P (word (codes "XOR") v)) → (t : Token) (op : Binary) → either t ≡ Some op → P t
chooses P a b t op =
    chain (P t) (is_word (codes "OR") t) binary.Or _ op (λ y. by_word P (codes "OR") t y (a t.value)) (
    chain (P t) (is_word (codes "XOR") t) binary.Xor _ op (λ y. by_word P (codes "XOR") t y (b t.value)) (no_op (P t) op None refl))

meets : (P : Token → Type 0) → ((v : ℕ) → P (word (codes "AND") v)) → (t : Token) (op : Binary) → meeting t ≡ Some op → P t
meets P a t op = chain (P t) (is_word (codes "AND") t) binary.And _ op (λ y. by_word P (codes "AND") t y (a t.value)) (no_op (P t) op None refl)

-- ---- a binary operator is none of a tighter level, and no colon

unfoldable pub no_binary_below : ℕ → Token → Bool
no_binary_below zero t = true
no_binary_below (suc k) t = is_none (binary_at k t) && no_binary_below k t

abbrev pub is_tight : ℕ → Token → Bool
is_tight l t = no_binary_below l t && not (is_sign 58 t)

level_chain : (P : Type 0) (b : Bool) (x rest : Option Binary) (op : Binary) → (b ≡ true → x ≡ Some op → P) → (rest ≡ Some op → P) → cond b x rest ≡ Some op → P
level_chain P true x rest op here other h = here refl h
level_chain P false x rest op here other h = other h

at_level : (l k : ℕ) (t : Token) → eqb l k ≡ true → is_tight k t ≡ true → is_tight l t ≡ true
at_level l k t e h = subst (λ (j : ℕ). is_tight j t ≡ true) (sym (eqb-true l k e)) h

tight2 : (t : Token) (op : Binary) → multiplying t ≡ Some op → is_tight 2 t ≡ true
unfolding no_binary_below binary_at
tight2 = multiplies (λ t. is_tight 2 t ≡ true) (λ v. refl) (λ v. refl) (λ v. refl) (λ v. refl) (λ v. refl)

tight3 : (t : Token) (op : Binary) → adding t ≡ Some op → is_tight 3 t ≡ true
unfolding no_binary_below binary_at
tight3 = adds (λ t. is_tight 3 t ≡ true) (λ v. refl) (λ v. refl)

tight4 : (t : Token) (op : Binary) → comparing t ≡ Some op → is_tight 4 t ≡ true
unfolding no_binary_below binary_at
tight4 = compares (λ t. is_tight 4 t ≡ true) (λ v. refl) (λ v. refl) (λ v. refl) (λ v. refl) (λ v. refl) (λ v. refl)

tight6 : (t : Token) (op : Binary) → meeting t ≡ Some op → is_tight 6 t ≡ true
unfolding no_binary_below binary_at
tight6 = meets (λ t. is_tight 6 t ≡ true) (λ v. refl)

tight7 : (t : Token) (op : Binary) → either t ≡ Some op → is_tight 7 t ≡ true
unfolding no_binary_below binary_at
tight7 = chooses (λ t. is_tight 7 t ≡ true) (λ v. refl) (λ v. refl)

operator_tight : (l : ℕ) (t : Token) (op : Binary) → binary_at l t ≡ Some op → is_tight l t ≡ true
unfolding binary_at
operator_tight l t op =
    level_chain (is_tight l t ≡ true) (eqb l 2) (multiplying t) _ op (λ y h. at_level l 2 t y (tight2 t op h)) (
    level_chain (is_tight l t ≡ true) (eqb l 3) (adding t) _ op (λ y h. at_level l 3 t y (tight3 t op h)) (
    level_chain (is_tight l t ≡ true) (eqb l 4) (comparing t) _ op (λ y h. at_level l 4 t y (tight4 t op h)) (
    level_chain (is_tight l t ≡ true) (eqb l 6) (meeting t) _ op (λ y h. at_level l 6 t y (tight6 t op h)) (
    level_chain (is_tight l t ≡ true) (eqb l 7) (either t) _ op (λ y h. at_level l 7 t y (tight7 t op h)) (no_op (is_tight l t ≡ true) op None refl)))))

none_is : (o : Option Binary) → is_none o ≡ true → o ≡ None
none_is None e = refl
none_is (Some op) e = absurd cc

below : (l : ℕ) (t : Token) → no_binary_below l t ≡ true → (k : ℕ) → k < l → binary_at k t ≡ None
unfolding no_binary_below
below zero t h k lt = absurd (omega arith)
below (suc l) t h k lt =
    let parts = both (is_none (binary_at l t)) (no_binary_below l t) h in
    elim (cases_lt k l) [
      | inl less ↦ below l t parts.1 k less
      | inr more ↦ let same : k ≡ l = omega arith in subst (λ (j : ℕ). binary_at j t ≡ None) (sym same) (none_is (binary_at l t) parts.0)
    ]

not_true : (b : Bool) → not b ≡ true → b ≡ false
not_true true e = absurd cc
not_true false e = refl

-- what may stand behind an expression of a level without going on with it at a tighter one
pub record IsBreak (l : ℕ) (t : Token) : Type 0 where
  pub no_colon : is_sign 58 t ≡ false
  pub loose : (k : ℕ) → k < l → binary_at k t ≡ None

pub binary_breaks : (l : ℕ) (t : Token) (op : Binary) → binary_at l t ≡ Some op → IsBreak l t
binary_breaks l t op h =
    let parts = both (no_binary_below l t) (not (is_sign 58 t)) (operator_tight l t op h) in
    record { no_colon = not_true (is_sign 58 t) parts.1; loose = below l t parts.0 }

pub all_none : (a b c d e : Bool) (n : Option Binary) → cond a n (cond b n (cond c n (cond d n (cond e n n)))) ≡ n
all_none true b c d e n = refl
all_none false true c d e n = refl
all_none false false true d e n = refl
all_none false false false true e n = refl
all_none false false false false true n = refl
all_none false false false false false n = refl

close_none : (v k : ℕ) → binary_at k (sign 41 v) ≡ None
unfolding binary_at
close_none v k = all_none (eqb k 2) (eqb k 3) (eqb k 4) (eqb k 6) (eqb k 7) None

pub no_binary_close : (t : Token) → is_sign 41 t ≡ true → (k : ℕ) → binary_at k t ≡ None
no_binary_close t e = by_sign (λ t. (k : ℕ) → binary_at k t ≡ None) 41 t e (close_none t.value)

pub close_breaks : (l : ℕ) (t : Token) → is_sign 41 t ≡ true → IsBreak l t
close_breaks l t e = record { no_colon = by_sign (λ t. is_sign 58 t ≡ false) 41 t e refl; loose = λ k h. no_binary_close t e k }

pub no_binary_zero : (t : Token) → binary_at 0 t ≡ None
unfolding binary_at
no_binary_zero t = refl

-- ---- unary operators

at_word : (P : ℕ → Token → Type 0) (l k : ℕ) (w : List ℕ) (t : Token) → (eqb l k && is_word w t) ≡ true → ((v : ℕ) → P k (word w v)) → P l t
at_word P l k w t e p =
    let parts = both (eqb l k) (is_word w t) e in
    subst (λ (j : ℕ). P j t) (sym (eqb-true l k parts.0)) (by_word (P k) w t parts.1 (p t.value))

at_sign : (P : ℕ → Token → Type 0) (l k c : ℕ) (t : Token) → (eqb l k && is_sign c t) ≡ true → ((v : ℕ) → P k (sign c v)) → P l t
at_sign P l k c t e p =
    let parts = both (eqb l k) (is_sign c t) e in
    subst (λ (j : ℕ). P j t) (sym (eqb-true l k parts.0)) (by_sign (P k) c t parts.1 (p t.value))

unaries : (P : ℕ → Token → Type 0) → ((v : ℕ) → P 1 (word (codes "LOW") v)) → ((v : ℕ) → P 1 (word (codes "HIGH") v)) → ((v : ℕ) → P 1 (sign 43 v)) → ((v : ℕ) → P 1 (sign 45 v)) → ((v : ℕ) → P 5 (word (codes "NOT") v))
    → (l : ℕ) (t : Token) (op : Unary) → unary_at l t ≡ Some op → P l t
unaries P a b c d e l t op =
    chain (P l t) (eqb l 1 && is_word (codes "LOW") t) unary.Low _ op (λ y. at_word P l 1 (codes "LOW") t y a) (
    chain (P l t) (eqb l 1 && is_word (codes "HIGH") t) unary.High _ op (λ y. at_word P l 1 (codes "HIGH") t y b) (
    chain (P l t) (eqb l 1 && is_sign 43 t) unary.Plus _ op (λ y. at_sign P l 1 43 t y c) (
    chain (P l t) (eqb l 1 && is_sign 45 t) unary.Minus _ op (λ y. at_sign P l 1 45 t y d) (
    chain (P l t) (eqb l 5 && is_word (codes "NOT") t) unary.Not _ op (λ y. at_word P l 5 (codes "NOT") t y e) (no_op (P l t) op None refl)))))

unary_not_alone : (l : ℕ) (t : Token) (op : Unary) → unary_at l t ≡ Some op → alone t ≡ None
unfolding is_reserved
unary_not_alone = unaries (λ l t. alone t ≡ None) (λ v. refl) (λ v. refl) (λ v. refl) (λ v. refl) (λ v. refl)

unary_not_open : (l : ℕ) (t : Token) (op : Unary) → unary_at l t ≡ Some op → is_sign 40 t ≡ false
unary_not_open = unaries (λ l t. is_sign 40 t ≡ false) (λ v. refl) (λ v. refl) (λ v. refl) (λ v. refl) (λ v. refl)

pub unary_positive : (l : ℕ) (t : Token) (op : Unary) → unary_at l t ≡ Some op → 1 ≤ l
unary_positive = unaries (λ l t. 1 ≤ l) (λ v. lit≤ tt) (λ v. lit≤ tt) (λ v. lit≤ tt) (λ v. lit≤ tt) (λ v. lit≤ tt)

pub no_binary_unary : (l : ℕ) (t : Token) (op : Unary) → unary_at l t ≡ Some op → (u : Token) → binary_at l u ≡ None
unfolding binary_at
no_binary_unary = unaries (λ l t. (u : Token) → binary_at l u ≡ None) (λ v u. refl) (λ v u. refl) (λ v u. refl) (λ v u. refl) (λ v u. refl)

more : (a b : ℕ) → b < a → eqb a b ≡ false
more a b h = elim (eqb a b) as (λ r. eqb a b ≡ r → r ≡ false) [ true ↦ λ e. absurd (let same : a ≡ b = eqb-true a b e in omega arith) | false ↦ λ e. refl ] refl

no_other : (b : Bool) → cond (b && false) (Some unary.Not) None ≡ None
no_other true = refl
no_other false = refl

pub unary_level : (l : ℕ) (t : Token) (op : Unary) → unary_at l t ≡ Some op → (k : ℕ) → l < k → unary_at k t ≡ None
unary_level = unaries (λ l t. (k : ℕ) → l < k → unary_at k t ≡ None)
    (λ v k h. rw (more k 1 h) (no_other (eqb k 5))) (λ v k h. rw (more k 1 h) (no_other (eqb k 5))) (λ v k h. rw (more k 1 h) (no_other (eqb k 5))) (λ v k h. rw (more k 1 h) (no_other (eqb k 5)))
    (λ v k h. let one : 1 < k = omega arith in rw (more k 1 one, more k 5 h) refl)

-- ---- what stands alone, and parentheses

pub alone_not_open : (t : Token) (e : Tree) → alone t ≡ Some e → is_sign 40 t ≡ false
alone_not_open t e h =
    elim (is_sign 40 t) as (λ b. is_sign 40 t ≡ b → b ≡ false) [
      | true ↦ λ y. absurd (let none : alone t ≡ None = by_sign (λ t. alone t ≡ None) 40 t y refl in cc)
      | false ↦ λ y. refl
    ] refl

pub no_unary_alone : (t : Token) (e : Tree) → alone t ≡ Some e → (k : ℕ) → unary_at k t ≡ None
no_unary_alone t e h k =
    elim (unary_at k t) as (λ o. unary_at k t ≡ o → o ≡ None) [
      | None ↦ λ y. refl
      | Some op ↦ λ y. absurd (let none : alone t ≡ None = unary_not_alone k t op y in cc)
    ] refl

pub no_unary_open : (t : Token) → is_sign 40 t ≡ true → (k : ℕ) → unary_at k t ≡ None
no_unary_open t h k =
    elim (unary_at k t) as (λ o. unary_at k t ≡ o → o ≡ None) [
      | None ↦ λ y. refl
      | Some op ↦ λ y. absurd (let shut : is_sign 40 t ≡ false = unary_not_open k t op y in cc)
    ] refl
