-- A module has at most one stack piece.
use Rattle.std.proofs.Common.{◌≡◌, ℕ, ◌<◌, Bool, true, false, List, [], ◌∷◌, length, get_or, take, drop, ◌-◌, ◌≤◌, Option, Some, None, refl, sym, arith}
use Rattle.std.specs.Prelude.{nat_lt}
use Rattle.std.specs.List.{list_all}
use Rattle.std.proofs.lemmas.Bool.{and_parts}
use Rattle.std.proofs.lemmas.Bool.Decides.{nat_tests}
use Rattle.kc_obj_module.specs.declared.parts.SegKind.{SegKind}
use Rattle.kc_obj_module.specs.declared.parts.SegKind.TheVariants.{Reg, Code, Ram, Stack}
use Rattle.kc_obj_module.specs.declared.parts.Segment.{Segment}
use Rattle.kc_obj_module.specs.Pieces.{kind_number, based_well, is_placed, may_follow, segment_follows, segments_in_order}
use Rattle.std.proofs.Math.Seq.{take-length}
use Rattle.kc_link_place.specs.Stands.{same_kind}
use Rattle.kc_link_place.specs.Placing.{stack_part, stack_in}

pub rest_ordered : (s : Segment) (ss : List Segment) → segments_in_order (s ∷ ss) ≡ true → segments_in_order ss ≡ true
unfolding segments_in_order
rest_ordered s [] h = refl
rest_ordered s (t ∷ ss) h = (and_parts (segment_follows s t) (segments_in_order (t ∷ ss)) h).1

follows : (s t : Segment) (ss : List Segment) → segments_in_order (s ∷ t ∷ ss) ≡ true → segment_follows s t ≡ true
unfolding segments_in_order
follows s t ss h = (and_parts (segment_follows s t) (segments_in_order (t ∷ ss)) h).0

-- behind an absolute piece all are absolute
behind : (a : ℕ) (next : Option ℕ) (k n : ℕ) → may_follow (Some a) next k n ≡ true → (b : ℕ) × (next ≡ Some b)
behind a None k n h = absurd (cc h)
behind a (Some b) k n h = (b, refl)

-- an absolute piece is no stack
no_stack : (kind : SegKind) (len b : ℕ) → based_well kind len (Some b) ≡ true → kind ≡ Stack → ⊥
no_stack Reg len b h e = cc e
no_stack Code len b h e = cc e
no_stack Ram len b h e = cc e
no_stack Stack len b h e = cc h

no_part : (s : Segment) → (s.kind ≡ Stack → ⊥) → stack_part s ≡ 0
no_part s f = by s.kind refl
  where
    by : (k : SegKind) → s.kind ≡ k → stack_part s ≡ 0
    by Reg e = rw e refl
    by Code e = rw e refl
    by Ram e = rw e refl
    by Stack e = absurd (f e)

absolute_no_stack : (s : Segment) (b : ℕ) → is_placed s ≡ true → s.at ≡ Some b → s.kind ≡ Stack → ⊥
absolute_no_stack s b h e = no_stack s.kind s.length b (rw e at h)

fixed_tail : (s : Segment) (ss : List Segment) (a : ℕ) → segments_in_order (s ∷ ss) ≡ true → list_all is_placed ss ≡ true → s.at ≡ Some a → stack_in ss ≡ 0
fixed_tail s [] a o p e = refl
fixed_tail s (t ∷ ts) a o p e =
    let parts = and_parts (is_placed t) (list_all is_placed ts) p in
    let f : may_follow (Some a) t.at (kind_number s.kind) (kind_number t.kind) ≡ true = rw e at (follows s t ts o) in
    let b = behind a t.at (kind_number s.kind) (kind_number t.kind) f in
    let none : stack_part t ≡ 0 = no_part t (absolute_no_stack t b.0 parts.0 b.1) in
    rw (none, fixed_tail t ts b.0 (rest_ordered s (t ∷ ts) o) parts.1 b.1) refl

last_kind : (next : Option ℕ) (n : ℕ) → n < 4 → may_follow None next 3 n ≡ true → (b : ℕ) × (next ≡ Some b)
last_kind None n l h = absurd (by (nat_lt 3 n) refl h)
  where
    by : (t : Bool) → nat_lt 3 n ≡ t → t ≡ true → ⊥
    by true e g = grind (arith, nat_tests, e, l)
    by false e g = cc g
last_kind (Some b) n l h = (b, refl)

kind_below : (k : SegKind) → kind_number k < 4
kind_below Reg = omega arith
kind_below Code = omega arith
kind_below Ram = omega arith
kind_below Stack = omega arith

-- behind a stack piece stands no other
pub stack_tail : (s : Segment) (ss : List Segment) → segments_in_order (s ∷ ss) ≡ true → list_all is_placed (s ∷ ss) ≡ true → s.kind ≡ Stack → stack_in ss ≡ 0
stack_tail s [] o p e = refl
stack_tail s (t ∷ ts) o p e = by s.at refl
  where
    parts : (is_placed s ≡ true) × (list_all is_placed (t ∷ ts) ≡ true)
    parts = and_parts (is_placed s) (list_all is_placed (t ∷ ts)) p

    more : (is_placed t ≡ true) × (list_all is_placed ts ≡ true)
    more = and_parts (is_placed t) (list_all is_placed ts) parts.1

    by : (x : Option ℕ) → s.at ≡ x → stack_in (t ∷ ts) ≡ 0
    by (Some a) f = absurd (absolute_no_stack s a parts.0 f e)
    by None f =
        let g : may_follow None t.at 3 (kind_number t.kind) ≡ true = rw (f, e) at (follows s t ts o) in
        let b = last_kind t.at (kind_number t.kind) (kind_below t.kind) g in
        let none : stack_part t ≡ 0 = no_part t (absolute_no_stack t b.0 more.0 b.1) in
        rw (none, fixed_tail t ts b.0 (rest_ordered s (t ∷ ts) o) more.1 b.1) refl

pub stack_here : (s : Segment) (ss : List Segment) → segments_in_order (s ∷ ss) ≡ true → list_all is_placed (s ∷ ss) ≡ true → s.kind ≡ Stack → stack_in (s ∷ ss) ≡ s.length
stack_here s ss o p e = let t : stack_in ss ≡ 0 = stack_tail s ss o p e in rw (e, t) (omega arith)

pub stack_past : (s : Segment) (ss : List Segment) → (s.kind ≡ Stack → ⊥) → stack_in (s ∷ ss) ≡ stack_in ss
stack_past s ss f = let n : stack_part s ≡ 0 = no_part s f in rw n (omega arith)

is_stack : (k : SegKind) → same_kind Stack k ≡ true → k ≡ Stack
is_stack Reg h = absurd (cc h)
is_stack Code h = absurd (cc h)
is_stack Ram h = absurd (cc h)
is_stack Stack h = refl

pub first_is_stack : (xs : List Segment) (d : Segment) → 1 ≤ length xs → segments_in_order xs ≡ true → list_all is_placed xs ≡ true → same_kind Stack (get_or xs 0 d).kind ≡ true → (get_or xs 0 d).length ≡ stack_in xs
first_is_stack [] d l o p h = absurd (omega arith)
first_is_stack (s ∷ ss) d l o p h = sym (stack_here s ss o p (is_stack s.kind h))

pub first_is_none : (xs : List Segment) (d : Segment) → 1 ≤ length xs → segments_in_order xs ≡ true → list_all is_placed xs ≡ true → same_kind Stack (get_or xs 0 d).kind ≡ false →
    (stack_in (take (length xs - 1) (drop 1 xs)) ≡ stack_in xs) × ((list_all is_placed (take (length xs - 1) (drop 1 xs)) ≡ true) × (segments_in_order (take (length xs - 1) (drop 1 xs)) ≡ true))
first_is_none [] d l o p h = absurd (omega arith)
first_is_none (s ∷ ss) d l o p h =
    let n : length (s ∷ ss) - 1 ≡ length ss = omega arith in
    let e : take (length (s ∷ ss) - 1) ss ≡ ss = rw n (take-length ss) in
    let none : stack_part s ≡ 0 = rw h refl in
    rw e (rw none (omega arith), ((and_parts (is_placed s) (list_all is_placed ss) p).1, rest_ordered s ss o))
