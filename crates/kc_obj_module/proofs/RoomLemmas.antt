-- Room for relocations in what is left of the contents.
use Rattle.std.proofs.Common.{◌≡◌, ℕ, ◌+◌, ◌<◌, Bool, true, false, ◌&&◌, ◌||◌, eqb, ltb, leb, List, [], ◌∷◌, length, drop, get_or, add-one, drop-cons, refl, sym, ap, ◌∙◌, arith}
use Rattle.std.specs.List.{list_all}
use Rattle.std.proofs.lemmas.Bool.{and_parts}
use Rattle.std.proofs.lemmas.Bool.Decides.{nat_tests}
use Rattle.kc_obj_module.specs.declared.parts.Content.{Content}
use Rattle.kc_obj_module.specs.declared.parts.Fixup.{Fixup}
use Rattle.kc_obj_module.specs.Contents.{content_at, is_from, SameFrom}
use Rattle.kc_obj_module.specs.Numbers.{width}
use Rattle.kc_obj_module.specs.Fixups.{fixup_follows, fixups_in_order, may_begin, is_zero, has_room}

from_same : (p o : ℕ) → is_from p o p o ≡ true
from_same p o = grind (arith, nat_tests)

from_next : (p o : ℕ) → is_from p o p (o + 1) ≡ true
from_next p o = grind (arith, nat_tests)

from_following : (p o w q r : ℕ) → (ltb p q || (eqb p q && leb (o + w) r)) ≡ true → is_from p o q r ≡ true
from_following p o w q r h = grind (arith, nat_tests)

pub from_joined : (p o q r s t : ℕ) → is_from p o q r ≡ true → is_from q r s t ≡ true → is_from p o s t ≡ true
from_joined p o q r s t h k = grind (arith, nat_tests)

pub rest_in_order : (f : Fixup) (fs : List Fixup) → fixups_in_order (f ∷ fs) ≡ true → fixups_in_order fs ≡ true
unfolding fixups_in_order
rest_in_order f [] h = refl
rest_in_order f (g ∷ fs) h = (and_parts (fixup_follows f g) (fixups_in_order (g ∷ fs)) h).1

pub next_follows : (f g : Fixup) (fs : List Fixup) → fixups_in_order (f ∷ g ∷ fs) ≡ true → fixup_follows f g ≡ true
unfolding fixups_in_order
next_follows f g fs h = (and_parts (fixup_follows f g) (fixups_in_order (g ∷ fs)) h).0

same_room : (cs all : List Content) (f : Fixup) (p o : ℕ) → SameFrom p o cs all → is_from p o f.piece f.offset ≡ true → has_room cs f ≡ has_room all f
same_room cs all f p o same from =
    let first : content_at cs f.piece f.offset ≡ content_at all f.piece f.offset = same f.piece f.offset from in
    let second : content_at cs f.piece (f.offset + 1) ≡ content_at all f.piece (f.offset + 1) = same f.piece (f.offset + 1) (from_joined p o f.piece f.offset f.piece (f.offset + 1) from (from_next f.piece f.offset)) in
    (λ i. may_begin f.kind (first i) && (eqb (width f.kind) 1 || is_zero (second i)))

-- each relocation from a place on has the same room
rooms_from : (cs all : List Content) (f : Fixup) (fs : List Fixup) (p o : ℕ) → SameFrom p o cs all → is_from p o f.piece f.offset ≡ true → fixups_in_order (f ∷ fs) ≡ true → list_all (has_room cs) (f ∷ fs) ≡ list_all (has_room all) (f ∷ fs)
rooms_from cs all f [] p o same from h = ap (λ b. b && true) (same_room cs all f p o same from)
rooms_from cs all f (g ∷ fs) p o same from h =
    let later : is_from p o g.piece g.offset ≡ true = from_joined p o f.piece f.offset g.piece g.offset from (from_following f.piece f.offset (width f.kind) g.piece g.offset (next_follows f g fs h)) in
    let rest : list_all (has_room cs) (g ∷ fs) ≡ list_all (has_room all) (g ∷ fs) = rooms_from cs all g fs p o same later (rest_in_order f (g ∷ fs) h) in
    (λ i. same_room cs all f p o same from i && rest i)

pub same_rooms : (cs all : List Content) (f : Fixup) (fs : List Fixup) → SameFrom f.piece f.offset cs all → fixups_in_order (f ∷ fs) ≡ true → list_all (has_room cs) (f ∷ fs) ≡ list_all (has_room all) (f ∷ fs)
same_rooms cs all f fs same h = rooms_from cs all f fs f.piece f.offset same (from_same f.piece f.offset) h

module _ (cs ahead : List Content) (fixups : List Fixup) (i : ℕ) (d : Fixup) (all : Bool) (lt : i < length fixups)
    (same : SameFrom (get_or fixups i d).piece (get_or fixups i d).offset ahead cs)
    (ordered : fixups_in_order (drop i fixups) ≡ true)
    (kept : list_all (has_room cs) (drop i fixups) ≡ all) where
  abbrev here : Fixup
  here = get_or fixups i d

  abbrev rest : List Fixup
  rest = drop (i + 1) fixups

  parts : drop i fixups ≡ here ∷ rest
  parts = rw add-one (drop-cons fixups i d lt)

  in_order : fixups_in_order (here ∷ rest) ≡ true
  in_order = rw parts at ordered

  both : (has_room ahead here && list_all (has_room ahead) rest) ≡ all
  both = same_rooms ahead cs here rest same in_order ∙ (rw parts at kept)

  -- there is room: on to the next relocation
  pub room_step : has_room ahead here ≡ true → (fixups_in_order rest ≡ true) × (list_all (has_room ahead) rest ≡ all)
  room_step has = (rest_in_order here rest in_order, sym (ap (λ b. b && list_all (has_room ahead) rest) has) ∙ both)

  -- there is none
  pub room_stop : has_room ahead here ≡ false → false ≡ all
  room_stop none = sym (ap (λ b. b && list_all (has_room ahead) rest) none) ∙ both
