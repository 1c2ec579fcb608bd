-- The names of calls count on.
use Rattle.std.proofs.Common.{◌≡◌, ℕ, ◌+◌, ◌^◌, ◌<◌, ◌≤◌, Bool, true, false, not, ◌&&◌, cond, List, [], ◌∷◌, ◌++◌, drop, Option, Some, None, Ok, Err, inl, inr, refl, sym, ap, ◌∙◌, arith}
use Rattle.std.specs.Prelude.{is_some, nat_lt, decimal, codes}
use Rattle.std.specs.Str.Parse.{digits_value}
use Rattle.std.specs.FinMap as fm
use Rattle.std.proofs.lemmas.Bool.{cases_order}
use Rattle.std.proofs.lemmas.Fmt.{decimal_is_IsNumeral_wide}
use Rattle.kc_lex.specs.declared.token.Token.{Token}
use Rattle.kc_lex.specs.Kinds.{is_name_kind}
use Rattle.kc_macro_body.specs.declared.words.Word.TheVariants as words
use Rattle.kc_macro_body.specs.declared.macros.Macro.{Macro}
use Rattle.kc_base.specs.ByName.{ByName}
use Rattle.kc_macro_body.specs.Arguments.{arguments}
use Rattle.kc_macro_body.specs.Calls.{called, is_defining}
use Rattle.kc_macro_body.specs.Filling.{name_token, local_name, stands_for}
use Rattle.kc_macro_input.specs.Filled.{Filled}
use Rattle.kc_macro.specs.declared.state.State.{State}
use Rattle.kc_macro.specs.Steps.{Next, Quiet, Counted, call_text, call_fault, call_next, call_step, other_step, prefix_step, step}
use Rattle.kc_macro_laws.specs.Course.{on_text, Goes}
use Rattle.kc_macro_laws.specs.Names.{Calls, IsLocal, CallsHaveTheirOwnNames, LocalsHaveTheirOwnNames}
use Rattle.kc_macro_laws.proofs.Constructs.{word_first}
use Rattle.kc_macro_laws.proofs.Reached.{IsFine, AllFine, reached_good, leads_good, goes_good}

-- ---- numbers

abbrev number_of_local : List ℕ → ℕ
number_of_local text = digits_value 10 (drop 2 text)

local_number : (n : ℕ) → n < 10 ^ 64 → number_of_local (local_name n) ≡ n
local_number n small = elim (nat_lt n 10) as (λ b. digits_value 10 (drop 2 (cond b (codes "??000") (cond (nat_lt n 100) (codes "??00") (cond (nat_lt n 1000) (codes "??0") (codes "??"))) ++ decimal n)) ≡ n) [
  | true ↦ value
  | false ↦ elim (nat_lt n 100) as (λ b. digits_value 10 (drop 2 (cond b (codes "??00") (cond (nat_lt n 1000) (codes "??0") (codes "??")) ++ decimal n)) ≡ n) [
    | true ↦ value
    | false ↦ elim (nat_lt n 1000) as (λ b. digits_value 10 (drop 2 (cond b (codes "??0") (codes "??") ++ decimal n)) ≡ n) [ true ↦ value | false ↦ value ]
  ]
]
  where
    value : digits_value 10 (decimal n) ≡ n
    value = (decimal_is_IsNumeral_wide n small).1

-- names of two numbers are two
names_apart : (n m : ℕ) → n < m → m < 10 ^ 64 → name_token (local_name n) ∷ [] ≡ name_token (local_name m) ∷ [] → ⊥
names_apart n m less small e =
    let texts : local_name n ≡ local_name m = ap (λ ts. text_of ts) e in
    let same : n ≡ m = sym (local_number n (omega arith)) ∙ ap number_of_local texts ∙ local_number m small in
    omega arith
  where
    text_of : List Token → List ℕ
    text_of [] = []
    text_of (t ∷ ts) = t.text

-- ---- a call

some_same : {A : Type 0} (a b : A) → Some a ≡ Some b → a ≡ b
some_same a b e = cc

called_fine : (macros : ByName Macro) (ts : List Token) (m : Macro) → AllFine macros → called macros ts ≡ Some m → IsFine m
called_fine macros [] m all e = absurd (cc)
called_fine macros (t ∷ ts) m all e = choice (is_name_kind t.kind && not (is_defining ts)) e
  where
    choice : (b : Bool) → cond b (fm.get macros t.text) None ≡ Some m → IsFine m
    choice true f = all t.text m f
    choice false f = absurd (cc)

-- a LOCAL name has a place in its macro
local_place : (m : Macro) (t : Token) → IsLocal m t → (k : ℕ) × (fm.get m.formals.locals.places t.text ≡ Some k)
local_place m t is = go (fm.get m.formals.locals.places t.text) refl is.declared
  where
    go : (o : Option ℕ) → fm.get m.formals.locals.places t.text ≡ o → is_some o ≡ true → (k : ℕ) × (fm.get m.formals.locals.places t.text ≡ Some k)
    go None e h = absurd (cc)
    go (Some k) e h = (k, e)

local_stands : (m : Macro) (args : List (List Token)) (given : ℕ) (t : Token) (k : ℕ) → IsFine m → IsLocal m t → fm.get m.formals.locals.places t.text ≡ Some k → stands_for m.formals args given t ≡ name_token (local_name (given + k + 1)) ∷ []
local_stands m args given t k fine is e = rw (is.name, e, fine.apart t.text k e) refl

next_given : (s : State) (number locals : ℕ) (fault : Option ℕ) (text : Filled) (t : State) → call_next s number locals fault text ≡ Counted t → t.given ≡ s.given + locals
next_given s number locals (Some code) text t e = absurd (cc)
next_given s number locals None (Err f) t e = absurd (cc)
next_given s number locals None (Ok ps) t e = sym (ap given_of e)
  where
    given_of : Next → ℕ
    given_of (Next.Fault line code) = 0
    given_of (Next.Ended lines) = 0
    given_of (Next.Quiet u) = 0
    given_of (Next.Counted u) = u.given

not_quiet : (s : State) (number locals : ℕ) (fault : Option ℕ) (text : Filled) (t : State) → call_next s number locals fault text ≡ Quiet t → ⊥
not_quiet s number locals (Some code) text t e = cc
not_quiet s number locals None (Err f) t e = cc
not_quiet s number locals None (Ok ps) t e = cc

call_is : (s t : State) (tokens : List Token) (m : Macro) → (c : Calls s tokens m t) → step s ≡ call_step (on_text s c.rest) c.number c.from m (arguments (drop 1 tokens))
call_is s t tokens m c =
    ap (prefix_step s) c.next ∙ word_first s c.number c.from tokens c.rest words.Other c.call.first ∙ ap (other_step (on_text s c.rest) c.number c.from tokens) c.call.named

call_gives : (s t : State) (tokens : List Token) (m : Macro) → Calls s tokens m t → t.given ≡ s.given + m.formals.locals.count
call_gives s t tokens m c = kinds c.goes
  where
    text : Filled
    text = call_text s.left s.given c.number c.from m (arguments (drop 1 tokens))

    fault : Option ℕ
    fault = call_fault s.left s.given c.from m (arguments (drop 1 tokens)) text

    kinds : Goes s t → t.given ≡ s.given + m.formals.locals.count
    kinds (inl e) = absurd (not_quiet (on_text s c.rest) c.number m.formals.locals.count fault text t (sym (call_is s t tokens m c) ∙ e))
    kinds (inr e) = next_given (on_text s c.rest) c.number m.formals.locals.count fault text t (sym (call_is s t tokens m c) ∙ e)

call_fine : (s t : State) (tokens : List Token) (m : Macro) → Calls s tokens m t → IsFine m
call_fine s t tokens m c = called_fine s.macros tokens m (reached_good s c.reached).macros c.call.named

-- all names that are given by then have a number that is read back
call_names_few : (s t : State) (tokens : List Token) (m : Macro) → Calls s tokens m t → t.given < 10 ^ 64
call_names_few s t tokens m c = let few : t.given < 10 ^ 29 = (goes_good s t (reached_good s c.reached) c.goes).0.few in omega arith

pub calls_have_their_own_names : CallsHaveTheirOwnNames
calls_have_their_own_names s t u v tokens later m w a b c leads d is other e =
    let k : (k : ℕ) × (fm.get m.formals.locals.places a.text ≡ Some k) = local_place m a is in
    let j : (k : ℕ) × (fm.get w.formals.locals.places b.text ≡ Some k) = local_place w b other in
    let fine : IsFine m = call_fine s t tokens m c in
    let fine_too : IsFine w = call_fine u v later w d in
    let few : k.0 < m.formals.locals.count = fine.below a.text k.0 k.1 in
    let few_too : j.0 < w.formals.locals.count = fine_too.below b.text j.0 j.1 in
    let first : t.given ≡ s.given + m.formals.locals.count = call_gives s t tokens m c in
    let second : v.given ≡ u.given + w.formals.locals.count = call_gives u v later w d in
    let on : t.given ≤ u.given = (leads_good t u (goes_good s t (reached_good s c.reached) c.goes).0 leads).1 in
    let small : v.given < 10 ^ 64 = call_names_few u v later w d in
    names_apart (s.given + k.0 + 1) (u.given + j.0 + 1) (omega arith) (omega arith)
    (sym (local_stands m (arguments (drop 1 tokens)) s.given a k.0 fine is k.1) ∙ e ∙ local_stands w (arguments (drop 1 later)) u.given b j.0 fine_too other j.1)

pub locals_have_their_own_names : LocalsHaveTheirOwnNames
locals_have_their_own_names s t tokens m a b c is other apart e =
    let k : (k : ℕ) × (fm.get m.formals.locals.places a.text ≡ Some k) = local_place m a is in
    let j : (k : ℕ) × (fm.get m.formals.locals.places b.text ≡ Some k) = local_place m b other in
    let fine : IsFine m = call_fine s t tokens m c in
    let few : k.0 < m.formals.locals.count = fine.below a.text k.0 k.1 in
    let few_too : j.0 < m.formals.locals.count = fine.below b.text j.0 j.1 in
    let first : t.given ≡ s.given + m.formals.locals.count = call_gives s t tokens m c in
    let small : t.given < 10 ^ 64 = call_names_few s t tokens m c in
    let same : name_token (local_name (s.given + k.0 + 1)) ∷ [] ≡ name_token (local_name (s.given + j.0 + 1)) ∷ [] =
    sym (local_stands m (arguments (drop 1 tokens)) s.given a k.0 fine is k.1) ∙ e ∙ local_stands m (arguments (drop 1 tokens)) s.given b j.0 fine other j.1 in
    elim (cases_order k.0 j.0) [
      | inl equal ↦ apart (fine.own a.text b.text k.0 k.1 (j.1 ∙ ap (λ n. Some n) (sym equal)))
      | inr other_order ↦ elim other_order [
        | inl less ↦ names_apart (s.given + k.0 + 1) (s.given + j.0 + 1) (omega arith) (omega arith) same
        | inr more ↦ names_apart (s.given + j.0 + 1) (s.given + k.0 + 1) (omega arith) (omega arith) (sym same)
      ]
    ]
