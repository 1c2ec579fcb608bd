-- The reading of some tokens is of the longest expression at their beginning.
use Rattle.std.proofs.Common.{◌≡◌, ℕ, zero, suc, ◌+◌, ◌-◌, ◌*◌, ◌<◌, ◌≤◌, true, false, cond, ◌&&◌, List, [], ◌∷◌, ◌++◌, length, drop, Option, Some, None, refl, sym, ap, subst, ◌∙◌, append_assoc, arith}
use Rattle.std.specs.Prelude.{option_and_then}
use Rattle.std.specs.Option.{option_map}
use Rattle.std.proofs.lemmas.List.{append-nil, length-append, length-drop}
use Rattle.kc_lex.specs.declared.token.Token.{Token}
use Rattle.kc_lex.specs.Kinds.{is_sign, begins_sign}
use Rattle.kc_expr.specs.declared.expr.Unary.{Unary}
use Rattle.kc_expr.specs.declared.expr.Binary.{Binary}
use Rattle.kc_expr.specs.Tree.{Tree, One, Two}
use Rattle.kc_expr.specs.Grammar.{alone, is_type, has_suffix, past_suffix, Reading, unary_at, binary_at, unary_first, binary_first, grouped, primary, prefixed, joined, longest, extended, parsed}
use Rattle.kc_expr.specs.Derives.{is_suffix, Derives, from_token, from_group, from_tighter, from_unary, from_binary, IsLongest}
use Rattle.kc_expr.proofs.GrammarLemmas as g
use Rattle.kc_expr.proofs.OperatorLemmas.{IsBreak, binary_breaks, close_breaks, no_binary_close, no_binary_zero, unary_positive, no_binary_unary, unary_level, alone_not_open, no_unary_alone, no_unary_open}

-- ---- suffixes

pub record Cut (ts : List Token) : Type 0 where
  pub suffix : List Token
  pub is : ts ≡ suffix ++ past_suffix ts
  pub proper : is_suffix suffix ≡ true

cut : (ts : List Token) → Cut ts
unfolding past_suffix
cut [] = record { suffix = []; is = refl; proper = refl }
cut (t ∷ []) = record { suffix = []; is = refl; proper = refl }
cut (t ∷ u ∷ ts) =
    let found = elim (is_sign 58 t && is_type u) as (λ b. (is_sign 58 t && is_type u) ≡ b → (s : List Token) × (t ∷ u ∷ ts ≡ s ++ cond b ts (t ∷ u ∷ ts)) × (is_suffix s ≡ true)) [
      | true ↦ λ e. (t ∷ u ∷ [], refl, e)
      | false ↦ λ e. ([], refl, refl)
    ] refl in
    record { suffix = found.0; is = found.1; proper = found.2 }

past_exact : (s r : List Token) → is_suffix s ≡ true → has_suffix r ≡ false → past_suffix (s ++ r) ≡ r
unfolding past_suffix
past_exact [] r e h = rw h refl
past_exact (t ∷ []) r e h = absurd cc
past_exact (t ∷ u ∷ []) r e h = rw e refl
past_exact (t ∷ u ∷ v ∷ s) r e h = absurd cc

past_shorter : (r : List Token) → length (past_suffix r) ≤ length r
unfolding past_suffix
past_shorter r = elim (has_suffix r) as (λ b. length (cond b (drop 2 r) r) ≤ length r) [ true ↦ omega (arith, length-drop 2 r) | false ↦ omega arith ]

past_at_least : (s r : List Token) → is_suffix s ≡ true → length (past_suffix (s ++ r)) ≤ length r
unfolding past_suffix
past_at_least [] r e = past_shorter r
past_at_least (t ∷ []) r e = absurd cc
past_at_least (t ∷ u ∷ []) r e = rw e (omega arith)
past_at_least (t ∷ u ∷ v ∷ s) r e = absurd cc

-- ---- what is read derives

pub record Prefix (l : ℕ) (ts : List Token) (e : Tree) (rest : List Token) : Type 0 where
  pub prefix : List Token
  pub is : ts ≡ prefix ++ rest
  pub derives : Derives l prefix e

abbrev Found : ℕ → List Token → Reading → Type 0
Found l ts None = Unit {0}
Found l ts (Some p) = Prefix l ts p.0 p.1

-- what goes on with an expression that is read already
pub record Goes (l : ℕ) (before ts : List Token) (e : Tree) (rest : List Token) : Type 0 where
  pub prefix : List Token
  pub is : ts ≡ prefix ++ rest
  pub derives : Derives l (before ++ prefix) e

abbrev GoesOn : ℕ → List Token → List Token → Reading → Type 0
GoesOn l before ts None = Unit {0}
GoesOn l before ts (Some p) = Goes l before ts p.0 p.1

one_token_found : (t : Token) (ts : List Token) (o : Option Tree) → alone t ≡ o → Found 0 (t ∷ ts) (option_map (λ e. (e, past_suffix ts)) o)
one_token_found t ts None h = tt
one_token_found t ts (Some e) h =
    let c = cut ts in
    record { prefix = t ∷ c.suffix; is = ap (λ (us : List Token). t ∷ us) c.is; derives = from_token h c.proper }

closed_found : (t b : Token) (ts us : List Token) (e : Tree) → is_sign 40 t ≡ true → is_sign 41 b ≡ true → Prefix 7 ts e (b ∷ us) → Prefix 0 (t ∷ ts) e (past_suffix us)
closed_found t b ts us e opens closes f =
    let c = cut us in
    record {
      prefix = t ∷ (f.prefix ++ b ∷ c.suffix);
      is = ap (λ (vs : List Token). t ∷ vs) (f.is ∙ ap (λ (vs : List Token). f.prefix ++ b ∷ vs) c.is ∙ sym (append_assoc f.prefix (b ∷ c.suffix) (past_suffix us)));
      derives = from_group b f.prefix c.suffix opens f.derives closes c.proper;
    }

group_rest : (t : Token) (ts rest : List Token) (e : Tree) → is_sign 40 t ≡ true → Prefix 7 ts e rest → Found 0 (t ∷ ts) (cond (begins_sign 41 rest) (Some (e, past_suffix (drop 1 rest))) None)
group_rest t ts [] e opens f = tt
group_rest t ts (b ∷ us) e opens f =
    elim (is_sign 41 b) as (λ x. is_sign 41 b ≡ x → Found 0 (t ∷ ts) (cond x (Some (e, past_suffix us)) None)) [
      | true ↦ λ closes. closed_found t b ts us e opens closes f
      | false ↦ λ _. tt
    ] refl

group_found : (t : Token) (ts : List Token) (inner : Reading) → is_sign 40 t ≡ true → Found 7 ts inner → Found 0 (t ∷ ts) (grouped inner)
group_found t ts None opens f = tt
group_found t ts (Some p) opens f = group_rest t ts p.1 p.0 opens f

primary_found : (ts : List Token) (inner : Reading) → Found 7 (drop 1 ts) inner → Found 0 ts (primary ts inner)
primary_found [] inner f = tt
primary_found (t ∷ ts) inner f =
    elim (is_sign 40 t) as (λ b. is_sign 40 t ≡ b → Found 0 (t ∷ ts) (cond b (grouped inner) (option_map (λ e. (e, past_suffix ts)) (alone t)))) [
      | true ↦ λ opens. group_found t ts inner opens f
      | false ↦ λ _. one_token_found t ts (alone t) refl
    ] refl

operand_found : (l : ℕ) (t : Token) (ts : List Token) (op : Unary) (operand : Reading) → unary_at l t ≡ Some op → Found l ts operand → Found l (t ∷ ts) (option_map (λ p. (One op p.0, p.1)) operand)
operand_found l t ts op None h f = tt
operand_found l t ts op (Some p) h f = record { prefix = t ∷ f.prefix; is = ap (λ (us : List Token). t ∷ us) f.is; derives = from_unary h f.derives }

prefixed_found : (l : ℕ) (ts : List Token) (o : Option Unary) (operand plain : Reading) → unary_first l ts ≡ o → Found l (drop 1 ts) operand → Found l ts plain → Found l ts (prefixed o operand plain)
prefixed_found l ts None operand plain h f p = p
prefixed_found l [] (Some op) operand plain h f p = absurd cc
prefixed_found l (t ∷ ts) (Some op) operand plain h f p = operand_found l t ts op operand h f

-- an expression with what goes on with it
with_goes : (l : ℕ) (ts rest : List Token) (e : Tree) (o : Reading) → (f : Prefix l ts e rest) → GoesOn l f.prefix rest o → Found l ts o
with_goes l ts rest e None f m = tt
with_goes l ts rest e (Some p) f m = record { prefix = f.prefix ++ m.prefix; is = f.is ∙ ap (λ (us : List Token). f.prefix ++ us) m.is ∙ sym (append_assoc f.prefix m.prefix p.1); derives = m.derives }

stays : (l : ℕ) (before ts : List Token) (left : Tree) → Derives l before left → Goes l before ts left ts
stays l before ts left d = record { prefix = []; is = refl; derives = subst (λ (us : List Token). Derives l us left) (sym (append-nil before)) d }

-- an operator and its right side, and what goes on with that
with_right : (l : ℕ) (before ts us : List Token) (t : Token) (op : Binary) (left right : Tree) (o : Reading) → binary_at (suc l) t ≡ Some op → Derives (suc l) before left → (f : Prefix l ts right us) → GoesOn (suc l) (before ++ t ∷ f.prefix) us o → GoesOn (suc l) before (t ∷ ts) o
with_right l before ts us t op left right None h d f m = tt
with_right l before ts us t op left right (Some p) h d f m =
    record {
      prefix = t ∷ (f.prefix ++ m.prefix);
      is = ap (λ (vs : List Token). t ∷ vs) (f.is ∙ ap (λ (vs : List Token). f.prefix ++ vs) m.is ∙ sym (append_assoc f.prefix m.prefix p.1));
      derives = subst (λ (vs : List Token). Derives (suc l) vs p.0) (append_assoc before (t ∷ f.prefix) m.prefix) m.derives;
    }

joined_found : (l : ℕ) (before ts : List Token) (left : Tree) (o : Option Binary) (right : Reading) (goes_on : Tree → List Token → Reading) → binary_first (suc l) ts ≡ o → Derives (suc l) before left → Found l (drop 1 ts) right
    → ((g : List Token) (e : Tree) (us : List Token) → Derives (suc l) g e → GoesOn (suc l) g us (goes_on e us)) → GoesOn (suc l) before ts (joined o left ts right goes_on)
joined_found l before ts left None right goes_on h d f more = stays (suc l) before ts left d
joined_found l before ts left (Some op) None goes_on h d f more = stays (suc l) before ts left d
joined_found l before [] left (Some op) (Some p) goes_on h d f more = absurd cc
joined_found l before (t ∷ ts) left (Some op) (Some p) goes_on h d f more =
    with_right l before ts p.1 t op left p.0 (goes_on (Two op left p.0) p.1) h d f (more (before ++ t ∷ f.prefix) (Two op left p.0) p.1 (from_binary t before f.prefix h d f.derives))

plain_found : (n l : ℕ) (ts : List Token) (r : Reading) → Found l ts r → ((g : List Token) (e : Tree) (us : List Token) → Derives (suc l) g e → GoesOn (suc l) g us (extended n (suc l) e us)) → Found (suc l) ts (option_and_then (λ p. extended n (suc l) p.0 p.1) r)
plain_found n l ts None f more = tt
plain_found n l ts (Some p) f more =
    let up : Prefix (suc l) ts p.0 p.1 = record { prefix = f.prefix; is = f.is; derives = from_tighter f.derives } in
    with_goes (suc l) ts p.1 p.0 (extended n (suc l) p.0 p.1) up (more f.prefix p.0 p.1 (from_tighter f.derives))

one_less : (l : ℕ) → l ≡ suc l - 1
one_less l = omega arith

mutual
  unfolding longest extended

  found : (n l : ℕ) (ts : List Token) → Found l ts (longest n l ts)
  found zero l ts = tt
  found (suc n) zero ts = primary_found ts (longest n 7 (drop 1 ts)) (found n 7 (drop 1 ts))
  found (suc n) (suc l) ts =
      prefixed_found (suc l) ts (unary_first (suc l) ts) (longest n (suc l) (drop 1 ts)) (option_and_then (λ p. extended n (suc l) p.0 p.1) (longest n l ts)) refl
      (found n (suc l) (drop 1 ts)) (plain_found n l ts (longest n l ts) (found n l ts) (λ g e us d. goes n l g us e d))

  goes : (n l : ℕ) (before ts : List Token) (left : Tree) → Derives (suc l) before left → GoesOn (suc l) before ts (extended n (suc l) left ts)
  goes zero l before ts left d = stays (suc l) before ts left d
  goes (suc n) l before ts left d =
      joined_found l before ts left (binary_first (suc l) ts) (longest n (suc l - 1) (drop 1 ts)) (λ tree rest. extended n (suc l) tree rest) refl d
      (subst (λ (k : ℕ). Found l (drop 1 ts) (longest n k (drop 1 ts))) (one_less l) (found n l (drop 1 ts))) (λ g e us d. goes n l g us e d)

-- ---- what is left is no longer than before

abbrev Less : Reading → List Token → Type 0
Less None ts = Unit {0}
Less (Some p) ts = length p.1 ≤ length ts

abbrev Shorter : Reading → List Token → Type 0
Shorter None ts = ⊥
Shorter (Some p) ts = length p.1 ≤ length ts

found_less : (l : ℕ) (ts : List Token) (o : Reading) → Found l ts o → Less o ts
found_less l ts None f = tt
found_less l ts (Some p) f = omega (arith, ap length f.is, length-append f.prefix p.1)

longer : (o : Reading) (us ts : List Token) → Shorter o us → length us ≤ length ts → Shorter o ts
longer None us ts h e = h
longer (Some p) us ts h e = omega arith

joined_shorter : (o : Option Binary) (left : Tree) (ts : List Token) (r : Reading) (goes_on : Tree → List Token → Reading) → Less r (drop 1 ts) → ((e : Tree) (us : List Token) → Shorter (goes_on e us) us) → Shorter (joined o left ts r goes_on) ts
joined_shorter None left ts r goes_on less more = omega arith
joined_shorter (Some op) left ts None goes_on less more = omega arith
joined_shorter (Some op) left ts (Some p) goes_on less more = longer (goes_on (Two op left p.0) p.1) p.1 ts (more (Two op left p.0) p.1) (omega (arith, length-drop 1 ts))

extended_shorter : (n l : ℕ) (left : Tree) (ts : List Token) → Shorter (extended n l left ts) ts
unfolding extended
extended_shorter zero l left ts = omega arith
extended_shorter (suc n) l left ts =
    joined_shorter (binary_first l ts) left ts (longest n (l - 1) (drop 1 ts)) (λ tree rest. extended n l tree rest) (found_less (l - 1) (drop 1 ts) (longest n (l - 1) (drop 1 ts)) (found n (l - 1) (drop 1 ts))) (λ e us. extended_shorter n l e us)

-- ---- no expression begins with an operator that stands before a looser one

nonempty : {l : ℕ} {f : List Token} {e : Tree} → Derives l f e → 1 ≤ length f
nonempty (from_token h s) = omega arith
nonempty (from_group b ts s o d c p) = omega arith
nonempty (from_tighter d) = nonempty d
nonempty (from_unary u d) = omega arith
nonempty (from_binary t us vs o da db) = omega (arith, length-append us (t ∷ vs))

no_unary : {l : ℕ} {f : List Token} {e : Tree} → Derives l f e → (k : ℕ) → l < k → (r : List Token) → unary_first k (f ++ r) ≡ None
no_unary (from_token {t = t} {e = e} h s) k lt r = no_unary_alone t e h k
no_unary (from_group {a = a} b ts s o d c p) k lt r = no_unary_open a o k
no_unary (from_tighter d) k lt r = no_unary d k (omega arith) r
no_unary (from_unary {l = l} {t = t} {op = op} u d) k lt r = unary_level l t op u k lt
no_unary (from_binary t us vs o da db) k lt r = ap (unary_first k) (append_assoc us (t ∷ vs) r) ∙ no_unary da k lt (t ∷ (vs ++ r))

-- ---- an expression before what does not go on with it is read as it is

pub record Stops (l : ℕ) (r : List Token) : Type 0 where
  pub no_suffix : has_suffix r ≡ false
  pub loose : (k : ℕ) → k < l → binary_first k r ≡ None

no_colon : (t : Token) (r : List Token) → is_sign 58 t ≡ false → has_suffix (t ∷ r) ≡ false
no_colon t [] e = refl
no_colon t (u ∷ r) e = rw e refl

stops_at : (l : ℕ) (t : Token) (r : List Token) → IsBreak l t → Stops l (t ∷ r)
stops_at l t r b = record { no_suffix = no_colon t r b.no_colon; loose = b.loose }

stops_below : (l : ℕ) (r : List Token) → Stops (suc l) r → Stops l r
stops_below l r s = record { no_suffix = s.no_suffix; loose = λ k lt. s.loose k (omega arith) }

at_zero : (r : List Token) → binary_first 0 r ≡ None
at_zero [] = refl
at_zero (t ∷ r) = no_binary_zero t

at_unary : (l : ℕ) (t : Token) (op : Unary) (r : List Token) → unary_at l t ≡ Some op → binary_first l r ≡ None
at_unary l t op [] u = refl
at_unary l t op (v ∷ r) u = no_binary_unary l t op u v

pub record Exact (n l : ℕ) (ts : List Token) (e : Tree) (r : List Token) : Type 0 where
  pub steps : ℕ
  pub many : 16 * length r + 2 * l < steps
  pub same : longest n l ts ≡ extended steps l e r

exact_end : (n l : ℕ) (ts : List Token) (e : Tree) (r : List Token) → binary_first l r ≡ None → longest n l ts ≡ Some (e, r) → Exact n l ts e r
exact_end n l ts e r none read = record { steps = suc (16 * length r + 2 * l); many = omega arith; same = read ∙ sym (g.stops (16 * length r + 2 * l) l e r none) }

exact_read : (n l : ℕ) (ts : List Token) (e : Tree) (r : List Token) → Exact n l ts e r → binary_first l r ≡ None → longest n l ts ≡ Some (e, r)
exact_read n l ts e r x none = let some : 1 ≤ x.steps = omega (arith, x.many) in x.same ∙ g.before_extended x.steps l e r (Some (e, r)) some (g.stops (x.steps - 1) l e r none)

plain : (n l : ℕ) (ts : List Token) (r : Reading) → unary_first (suc l) ts ≡ None → longest n l ts ≡ r → longest (suc n) (suc l) ts ≡ option_and_then (λ p. extended n (suc l) p.0 p.1) r
unfolding longest
plain n l ts r none read = rw none (ap (option_and_then (λ p. extended n (suc l) p.0 p.1)) read)

token_read : (n : ℕ) (t : Token) (s r : List Token) (e : Tree) → alone t ≡ Some e → longest (suc n) 0 (t ∷ (s ++ r)) ≡ Some (e, past_suffix (s ++ r))
token_read n t s r e h = g.one_token n (t ∷ (s ++ r)) (s ++ r) t (alone_not_open t e h) refl ∙ ap (option_map (λ e. (e, past_suffix (s ++ r)))) h

group_read : (n : ℕ) (a b : Token) (ts us : List Token) (e : Tree) → is_sign 40 a ≡ true → is_sign 41 b ≡ true → longest n 7 ts ≡ Some (e, b ∷ us) → longest (suc n) 0 (a ∷ ts) ≡ Some (e, past_suffix us)
group_read n a b ts us e opens closes read = g.group n (a ∷ ts) (Some (e, b ∷ us)) opens read ∙ rw closes refl

unary_read : (n l : ℕ) (t : Token) (ts us : List Token) (op : Unary) (e : Tree) → unary_at l t ≡ Some op → longest n l ts ≡ Some (e, us) → longest (suc n) l (t ∷ ts) ≡ Some (One op e, us)
unary_read n l t ts us op e u read = g.op_level n l (t ∷ ts) op (Some (e, us)) (unary_positive l t op u) u read

binary_read : (m l : ℕ) (t : Token) (ts us : List Token) (op : Binary) (left right : Tree) → binary_at (suc l) t ≡ Some op → 1 ≤ m → longest (m - 1) l ts ≡ Some (right, us) → extended m (suc l) left (t ∷ ts) ≡ extended (m - 1) (suc l) (Two op left right) us
binary_read m l t ts us op left right o some read =
    g.before_extended m (suc l) left (t ∷ ts) (extended (m - 1) (suc l) (Two op left right) us) some
    (g.goes_on (m - 1) (suc l) left right (t ∷ ts) us op o (ap (λ (k : ℕ). longest (m - 1) k ts) (sym (one_less l)) ∙ read))

exact : {l : ℕ} {f : List Token} {e : Tree} → Derives l f e → (r : List Token) (n : ℕ) → Stops l r → 16 * length (f ++ r) + 2 * l < n → Exact n l (f ++ r) e r
exact d r zero stops room = absurd (omega arith)
exact (from_token {t = t} {s = s} {e = e} h proper) r (suc n) stops room =
    exact_end (suc n) 0 (t ∷ (s ++ r)) e r (at_zero r) (token_read n t s r e h ∙ ap (λ (us : List Token). Some (e, us)) (past_exact s r proper stops.no_suffix))
exact (from_group {a = a} {e = e} b ts s opens d closes proper) r (suc n) stops room =
    let grouping : (ts ++ b ∷ s) ++ r ≡ ts ++ b ∷ (s ++ r) = append_assoc ts (b ∷ s) r in
    let inner = exact d (b ∷ (s ++ r)) n (stops_at 7 b (s ++ r) (close_breaks 7 b closes)) (omega (arith, ap length grouping)) in
    let read = ap (longest n 7) grouping ∙ exact_read n 7 (ts ++ b ∷ (s ++ r)) e (b ∷ (s ++ r)) inner (no_binary_close b closes 7) in
    exact_end (suc n) 0 (a ∷ ((ts ++ b ∷ s) ++ r)) e r (at_zero r) (group_read n a b ((ts ++ b ∷ s) ++ r) (s ++ r) e opens closes read ∙ ap (λ (us : List Token). Some (e, us)) (past_exact s r proper stops.no_suffix))
exact (from_tighter {l = l} {ts = f} {e = e} d) r (suc n) stops room =
    let inner = exact d r n (stops_below l r stops) (omega arith) in
    let read = exact_read n l (f ++ r) e r inner (stops.loose l (omega arith)) in
    record { steps = n; many = omega (arith, nonempty d, length-append f r); same = plain n l (f ++ r) (Some (e, r)) (no_unary d (suc l) (omega arith) r) read }
exact (from_unary {l = l} {t = t} {ts = f} {e = e} {op = op} u d) r (suc n) stops room =
    let inner = exact d r n stops (omega arith) in
    let read = exact_read n l (f ++ r) e r inner (at_unary l t op r u) in
    exact_end (suc n) l (t ∷ (f ++ r)) (One op e) r (at_unary l t op r u) (unary_read n l t (f ++ r) r op e u read)
exact (from_binary {l = l} {a = a} {b = b} {op = op} t us vs o da db) r (suc n) stops room =
    let grouping : (us ++ t ∷ vs) ++ r ≡ us ++ t ∷ (vs ++ r) = append_assoc us (t ∷ vs) r in
    let first = exact da (t ∷ (vs ++ r)) (suc n) (stops_at (suc l) t (vs ++ r) (binary_breaks (suc l) t op o)) (omega (arith, ap length grouping)) in
    let m = first.steps in
    let second = exact db r (m - 1) (stops_below l r stops) (omega (arith, first.many)) in
    let read = exact_read (m - 1) l (vs ++ r) b r second (stops.loose l (omega arith)) in
    record {
      steps = m - 1;
      many = omega (arith, first.many, length-append vs r);
      same = ap (longest (suc n) (suc l)) grouping ∙ first.same ∙ binary_read m l t (vs ++ r) r op a b o (omega (arith, first.many)) read;
    }

-- ---- no expression is longer than what is read

pub record AtLeast (o : Reading) (r : List Token) : Type 0 where
  pub tree : Tree
  pub rest : List Token
  pub read : o ≡ Some (tree, rest)
  pub short : length rest ≤ length r

of_shorter : (o : Reading) (r : List Token) → Shorter o r → AtLeast o r
of_shorter None r h = absurd h
of_shorter (Some p) r h = record { tree = p.0; rest = p.1; read = refl; short = h }

along : (o p : Reading) (r : List Token) → o ≡ p → AtLeast p r → AtLeast o r
along o p r e h = record { tree = h.tree; rest = h.rest; read = e ∙ h.read; short = h.short }

at_least : {l : ℕ} {f : List Token} {e : Tree} → Derives l f e → (r : List Token) (n : ℕ) → 16 * length (f ++ r) + 2 * l < n → AtLeast (longest n l (f ++ r)) r
at_least d r zero room = absurd (omega arith)
at_least (from_token {t = t} {s = s} {e = e} h proper) r (suc n) room =
    record { tree = e; rest = past_suffix (s ++ r); read = token_read n t s r e h; short = past_at_least s r proper }
at_least (from_group {a = a} {e = e} b ts s opens d closes proper) r (suc n) room =
    let grouping : (ts ++ b ∷ s) ++ r ≡ ts ++ b ∷ (s ++ r) = append_assoc ts (b ∷ s) r in
    let inner = exact d (b ∷ (s ++ r)) n (stops_at 7 b (s ++ r) (close_breaks 7 b closes)) (omega (arith, ap length grouping)) in
    let read = ap (longest n 7) grouping ∙ exact_read n 7 (ts ++ b ∷ (s ++ r)) e (b ∷ (s ++ r)) inner (no_binary_close b closes 7) in
    record { tree = e; rest = past_suffix (s ++ r); read = group_read n a b ((ts ++ b ∷ s) ++ r) (s ++ r) e opens closes read; short = past_at_least s r proper }
at_least (from_tighter {l = l} {ts = f} {e = e} d) r (suc n) room =
    let inner = at_least d r n (omega arith) in
    along (longest (suc n) (suc l) (f ++ r)) (extended n (suc l) inner.tree inner.rest) r (plain n l (f ++ r) (Some (inner.tree, inner.rest)) (no_unary d (suc l) (omega arith) r) inner.read)
    (of_shorter (extended n (suc l) inner.tree inner.rest) r (longer (extended n (suc l) inner.tree inner.rest) inner.rest r (extended_shorter n (suc l) inner.tree inner.rest) inner.short))
at_least (from_unary {l = l} {t = t} {ts = f} {e = e} {op = op} u d) r (suc n) room =
    let inner = at_least d r n (omega arith) in
    record { tree = One op inner.tree; rest = inner.rest; read = unary_read n l t (f ++ r) inner.rest op inner.tree u inner.read; short = inner.short }
at_least (from_binary {l = l} {a = a} {b = b} {op = op} t us vs o da db) r (suc n) room =
    let grouping : (us ++ t ∷ vs) ++ r ≡ us ++ t ∷ (vs ++ r) = append_assoc us (t ∷ vs) r in
    let first = exact da (t ∷ (vs ++ r)) (suc n) (stops_at (suc l) t (vs ++ r) (binary_breaks (suc l) t op o)) (omega (arith, ap length grouping)) in
    let m = first.steps in
    let second = at_least db r (m - 1) (omega (arith, first.many)) in
    let both = Two op a second.tree in
    along (longest (suc n) (suc l) ((us ++ t ∷ vs) ++ r)) (extended (m - 1) (suc l) both second.rest) r
    (ap (longest (suc n) (suc l)) grouping ∙ first.same ∙ binary_read m l t (vs ++ r) second.rest op a second.tree o (omega (arith, first.many)) second.read)
    (of_shorter (extended (m - 1) (suc l) both second.rest) r (longer (extended (m - 1) (suc l) both second.rest) second.rest r (extended_shorter (m - 1) (suc l) both second.rest) second.short))

-- ---- the law

fits : (ts other behind : List Token) → ts ≡ other ++ behind → 16 * length (other ++ behind) + 2 * 7 < 16 * length ts + 15
fits ts other behind e = omega (arith, ap length e)

read_of : (ts other behind : List Token) (e : Tree) (is : ts ≡ other ++ behind) → Derives 7 other e → AtLeast (parsed ts) behind
read_of ts other behind e is d = along (parsed ts) (longest (16 * length ts + 15) 7 (other ++ behind)) behind (ap (longest (16 * length ts + 15) 7) is) (at_least d behind (16 * length ts + 15) (fits ts other behind is))

nothing_behind : Stops 7 []
nothing_behind = record { no_suffix = refl; loose = λ k lt. refl }

abbrev tree_or : Tree → Reading → Tree
tree_or e None = e
tree_or e (Some p) = p.0

abbrev rest_or : List Token → Reading → List Token
rest_or ts None = ts
rest_or ts (Some p) = p.1

same_tree : (o : Reading) (d e : Tree) → o ≡ Some (d, []) → o ≡ Some (e, []) → d ≡ e
same_tree o d e x y = ap (tree_or d) (sym x ∙ y)

one_tree : (f : List Token) (d e : Tree) → Derives 7 f d → Derives 7 f e → d ≡ e
one_tree f d e x y =
    let n = suc (16 * length (f ++ []) + 14) in
    same_tree (longest n 7 (f ++ [])) d e (exact_read n 7 (f ++ []) d [] (exact x [] n nothing_behind (omega arith)) refl)
    (exact_read n 7 (f ++ []) e [] (exact y [] n nothing_behind (omega arith)) refl)

of_reading : (ts : List Token) (o : Reading) → parsed ts ≡ o → Found 7 ts o → IsLongest o ts
of_reading ts None y f = λ other behind e is d. let some = read_of ts other behind e is d in absurd (let none : Some (some.tree, some.rest) ≡ None = sym some.read ∙ y in cc)
of_reading ts (Some p) y f =
    record {
      prefix = f.prefix;
      is = f.is;
      derives = f.derives;
      longest = λ other behind e is d.
          let some = read_of ts other behind e is d in
          let same : some.rest ≡ p.1 = ap (rest_or behind) (sym some.read ∙ y) in
          omega (arith, some.short, ap length same, ap length is, ap length f.is, length-append other behind, length-append f.prefix p.1);
      only = λ e d. one_tree f.prefix e p.0 d f.derives;
    }

pub parsed_is_longest : (ts : List Token) → IsLongest (parsed ts) ts
parsed_is_longest ts = of_reading ts (parsed ts) refl (found (16 * length ts + 15) 7 ts)
