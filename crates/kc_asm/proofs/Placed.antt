-- Relocatable pieces stand at even addresses.
use Rattle.std.proofs.Common.{◌≡◌, ℕ, zero, suc, ◌+◌, ◌-◌, ◌%◌, Bool, true, false, ◌&&◌, List, [], ◌∷◌, ◌++◌, Option, Some, None, refl, sym, ap, ◌∙◌, subst, arith}
use Rattle.std.specs.Prelude.{◌==◌, nat_le, if◌then◌else◌, slice_get, Result, Ok, Err}
use Rattle.std.specs.Option.{option_map}
use Rattle.std.proofs.lemmas.Bool.{and_parts}
use Rattle.std.proofs.lemmas.Bool.Decides.{nat_tests}
use Rattle.kc_obj_module.specs.declared.parts.SegKind.{SegKind}
use Rattle.kc_obj_module.specs.declared.parts.SegKind.TheVariants.{Reg, Code, Ram, Stack}
use Rattle.kc_obj_module.specs.declared.parts.Segment.{Segment}
use Rattle.kc_obj_module.specs.Object.{Object}
use Rattle.kc_link_place.specs.declared.ranges.Ranges.{Ranges}
use Rattle.kc_link_place.specs.declared.ranges.LinkFault.{LinkFault}
use Rattle.kc_link_place.specs.declared.ranges.LinkFault.TheVariants.{Unresolved, OverlapName, OverlapPlace}
use Rattle.kc_link_place.specs.declared.pieces.Piece.{Piece}
use Rattle.kc_link_place.specs.declared.pieces.Stand.{Stand}
use Rattle.kc_link_place.specs.Ranges.{range_of, step_of}
use Rattle.kc_link_place.specs.Stands.{least, least_free, suits, leaves_room, stand_at, same_kind, fixed_from, wanted}
use Rattle.kc_link_place.specs.Names.{unresolved, doubled}
use Rattle.kc_link_place.specs.Placing.{Places, overlap, put_all, is_at, put_at, place_of, places_from, places_with, stack_size, stack_at, with_stack, with_puts, unless, located, base_at}
use Rattle.kc_link_place.proofs.ApartLemmas.{base-is}
use Rattle.kc_link.specs.Placed.{or_fault, with_places, unfit, placed}

-- ---- the least address that suits

least_passes : (p : ℕ → Bool) (count from a : ℕ) → least p count from ≡ Some a → p a ≡ true
unfolding least
least_passes p zero from a e = absurd (cc e)
least_passes p (suc count) from a e = by (p from) refl e (least_passes p count (from + 1) a)
  where
    by : (t : Bool) → p from ≡ t → (if t then Some from else least p count (from + 1)) ≡ Some a → (least p count (from + 1) ≡ Some a → p a ≡ true) → p a ≡ true
    by true q f go = let s : from ≡ a = cc f in subst (λ (x : ℕ). p x ≡ true) s q
    by false q f go = go f

even_step : (kind : SegKind) (a : ℕ) → (a % step_of kind == 0) ≡ true → a % 2 ≡ 0
even_step Reg a e = let f : a % 4 ≡ 0 = grind (arith, nat_tests, e) in omega (arith, f)
even_step Code a e = grind (arith, nat_tests, e)
even_step Ram a e = grind (arith, nat_tests, e)
even_step Stack a e = grind (arith, nat_tests, e)

free_even : (taken : List Stand) (range : ℕ × ℕ) (kind : SegKind) (count a : ℕ) → least_free taken range (step_of kind) count ≡ Some a → a % 2 ≡ 0
free_even taken range kind count a e =
    let passes : suits taken range.1 (step_of kind) count a ≡ true = least_passes (suits taken range.1 (step_of kind) count) (range.1 + 1 - range.0) range.0 a e in
    even_step kind a (and_parts (a % step_of kind == 0) (nat_le (a + count) (range.1 + 1) && leaves_room taken a count) passes).0

-- ---- pieces that are put

abbrev AllEvenStands : List Stand → Type 0
AllEvenStands [] = Unit {0}
AllEvenStands (s ∷ ss) = (s.at % 2 ≡ 0) × AllEvenStands ss

push : (ss : List Stand) (s : Stand) → AllEvenStands ss → s.at % 2 ≡ 0 → AllEvenStands (ss ++ s ∷ [])
push [] s h e = (e, tt)
push (x ∷ ss) s h e = (h.0, push ss s h.1 e)

puts_even : (ranges : Ranges) (fixed before puts : List Stand) (ps : List Piece) → AllEvenStands before → put_all ranges fixed before ps ≡ Ok puts → AllEvenStands puts
unfolding put_all
puts_even ranges fixed before puts [] h e = let f : before ≡ puts = cc e in subst AllEvenStands f h
puts_even ranges fixed before puts (p ∷ ps) h e = by (least_free (fixed ++ before) (range_of ranges p.kind) (step_of p.kind) p.size) refl e (λ a even f. puts_even ranges fixed (before ++ stand_at p a ∷ []) puts ps (push before (stand_at p a) h even) f)
  where
    by : (o : Option ℕ) → least_free (fixed ++ before) (range_of ranges p.kind) (step_of p.kind) p.size ≡ o
        → (elim o as (λ _. Result (List Stand) Piece) [ None ↦ Err p | Some a ↦ put_all ranges fixed (before ++ stand_at p a ∷ []) ps ]) ≡ Ok puts
        → ((a : ℕ) → a % 2 ≡ 0 → put_all ranges fixed (before ++ stand_at p a ∷ []) ps ≡ Ok puts → AllEvenStands puts) → AllEvenStands puts
    by None q f go = absurd (cc f)
    by (Some a) q f go = go a (free_even (fixed ++ before) (range_of ranges p.kind) p.kind p.size a q) f

put_even : (ss : List Stand) (index number : ℕ) → AllEvenStands ss → put_at ss index number % 2 ≡ 0
unfolding put_at
put_even [] index number h = refl
put_even (s ∷ ss) index number h = by (is_at s index number) (put_even ss index number h.1)
  where
    by : (t : Bool) → put_at ss index number % 2 ≡ 0 → (if t then s.at else put_at ss index number) % 2 ≡ 0
    by true g = h.0
    by false g = g

-- ---- the places

record IsEvenBy (ms : List Object) (places : Places) : Type 0 where
  puts : List Stand
  stack : ℕ
  is : places.pieces ≡ places_from puts stack 0 ms
  even : AllEvenStands puts
  stack_even : stack % 2 ≡ 0

unless_ok : (o : Option LinkFault) (r : Result Places LinkFault) (places : Places) → unless o r ≡ Ok places → r ≡ Ok places
unless_ok None r places e = e
unless_ok (Some f) r places e = absurd (cc e)

stack_even_of : (taken : List Stand) (range : ℕ × ℕ) (size stack : ℕ) → stack_at size (least_free taken range 2 size) ≡ Some stack → stack % 2 ≡ 0
stack_even_of taken range size stack e = by (least_free taken range 2 size) refl e
  where
    no_stack : (t : Bool) → (if t then Some 0 else None) ≡ Some stack → stack % 2 ≡ 0
    no_stack true f = let s : 0 ≡ stack = cc f in subst (λ (n : ℕ). n % 2 ≡ 0) s refl
    no_stack false f = absurd (cc f)

    by : (o : Option ℕ) → least_free taken range 2 size ≡ o → stack_at size o ≡ Some stack → stack % 2 ≡ 0
    by None q f = no_stack (size == 0) f
    by (Some a) q f = let s : a ≡ stack = cc f in subst (λ (n : ℕ). n % 2 ≡ 0) s (free_even taken range Stack size a q)

stack_ok : (ms : List Object) (puts : List Stand) (size : ℕ) (o : Option ℕ) (places : Places) → ((stack : ℕ) → o ≡ Some stack → stack % 2 ≡ 0) → AllEvenStands puts → with_stack ms puts size o ≡ Ok places → IsEvenBy ms places
stack_ok ms puts size None places h even e = absurd (cc e)
stack_ok ms puts size (Some stack) places h even e =
    let f : places_with ms puts size stack ≡ places = cc e in
    record { puts = puts; stack = stack; is = sym (ap (λ (p : Places). p.pieces) f); even = even; stack_even = h stack refl }

puts_ok : (ms : List Object) (ranges : Ranges) (r : Result (List Stand) Piece) (places : Places) → ((puts : List Stand) → r ≡ Ok puts → AllEvenStands puts) → with_puts ms ranges r ≡ Ok places → IsEvenBy ms places
puts_ok ms ranges (Err p) places h e = absurd (cc e)
puts_ok ms ranges (Ok puts) places h e =
    stack_ok ms puts (stack_size ranges ms) (stack_at (stack_size ranges ms) (least_free (fixed_from 0 ms ++ puts) (range_of ranges Stack) 2 (stack_size ranges ms))) places
    (λ stack q. stack_even_of (fixed_from 0 ms ++ puts) (range_of ranges Stack) (stack_size ranges ms) stack q) (h puts refl) e

located_even : (ms : List Object) (ranges : Ranges) (places : Places) → located ms ranges ≡ Ok places → IsEvenBy ms places
unfolding located
located_even ms ranges places e =
    let a = unless_ok (option_map Unresolved (unresolved ms (stack_size ranges ms) ms)) _ places e in
    let b = unless_ok (option_map OverlapName (doubled ms 0 ms)) _ places a in
    let c = unless_ok (option_map OverlapPlace (overlap (fixed_from 0 ms))) _ places b in
    puts_ok ms ranges (put_all ranges (fixed_from 0 ms) [] (wanted ms)) places (λ puts q. puts_even ranges (fixed_from 0 ms) [] puts (wanted ms) tt q) c

abbrev IsOk : Places → Result Places LinkFault → Type 0
IsOk places r = r ≡ Ok places

placed_located : (ms : List Object) (r : Result Places LinkFault) (places : Places) → with_places ms r ≡ Ok places → r ≡ Ok places
placed_located ms (Err f) places e = absurd (cc e)
placed_located ms (Ok p) places e = by (unfit ms p 0 ms) e
  where
    by : (o : Option LinkFault) → or_fault o p ≡ Ok places → IsOk places (Ok p)
    by None f = f
    by (Some x) f = absurd (cc f)

place_even : (puts : List Stand) (stack index number : ℕ) (s : Segment) → AllEvenStands puts → stack % 2 ≡ 0 → s.at ≡ None → place_of puts stack index number s % 2 ≡ 0
place_even puts stack index number s even stack_is none = rw none (by (same_kind Stack s.kind))
  where
    by : (t : Bool) → (if t then stack else put_at puts index number) % 2 ≡ 0
    by true = stack_is
    by false = put_even puts index number even

pub relocatable_even : (ms : List Object) (ranges : Ranges) (places : Places) (i piece : ℕ) (m : Object) (s : Segment) → placed ms ranges ≡ Ok places → slice_get ms i ≡ Some m
    → slice_get m.segments piece ≡ Some s → s.at ≡ None → base_at places.pieces i piece % 2 ≡ 0
unfolding placed
relocatable_even ms ranges places i piece m s ok there in_it none =
    let e = located_even ms ranges places (placed_located ms (located ms ranges) places ok) in
    let base : base_at places.pieces i piece ≡ place_of e.puts e.stack i piece s = ap (λ (l : List (List ℕ)). base_at l i piece) e.is ∙ base-is e.puts e.stack ms i piece m s there in_it in
    subst (λ (n : ℕ). n % 2 ≡ 0) (sym base) (place_even e.puts e.stack i piece s e.even e.stack_even none)
