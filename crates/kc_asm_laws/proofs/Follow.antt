-- The stretches of the statements of a piece follow one another from where the piece begins.
use Rattle.std.proofs.Common.{◌≡◌, ◌≢◌, ℕ, zero, suc, ◌+◌, ◌<◌, ◌≤◌, Bool, true, false, ◌&&◌, ◌||◌, not, ◌==◌, List, [], ◌∷◌, length, drop, refl, sym, ap, ◌∙◌, subst, ◌⊎◌, inl, inr, arith}
use Rattle.std.specs.Prelude.{nat_lt, nat_le, if◌then◌else◌, Option, Some, None, unwrap_or, slice_get, slice_index, slice_set}
use Rattle.std.specs.List.{filter}
use Rattle.std.proofs.lemmas.Bool.{and_parts, eqb-true}
use Rattle.std.proofs.lemmas.Bool.Decides.{nat_tests}
use Rattle.std.proofs.lemmas.List.{length-append, length-set, get_or-set_same, get_or-set_other, get_or_append_left, get_or_push}
use Rattle.kc_lex.specs.declared.token.Line.{Line}
use Rattle.kc_source_statement.specs.Operands.{is_nil}
use Rattle.kc_asm_symbols.specs.declared.segments.Segment.{Segment}
use Rattle.kc_asm_symbols.specs.Located.{first_segment}
use Rattle.kc_branch.specs.declared.piece.Form.{Form}
use Rattle.kc_branch.specs.Forms.{head_form, forms}
use Rattle.kc_asm_layout.specs.declared.size_record.SizeRecord.{SizeRecord}
use Rattle.kc_asm_layout.specs.Numbered.{may_follow, is_same_piece, is_relocatable, aligns_well, numbered_after, IsNumbered}
use Rattle.kc_asm_layout.specs.StatementSizes.{statement_sizes}
use Rattle.kc_asm_layout.specs.SizesLaws.{SizesAreNumbered}
use Rattle.kc_asm_layout.specs.Places.{no_bytes, begun, end_of, ends_after, address_added, opened, addresses, address_in, location_of, locations_from}
use Rattle.kc_asm_layout.specs.Text.{statement_forms, text}
use Rattle.kc_asm_list.specs.declared.spot.Spot.{Spot}
use Rattle.kc_asm_list.specs.Spots.{spot_of, spots_from}
use Rattle.kc_asm_laws.specs.Laws.{is_of, Follow, FollowFromStart, StretchesFollow}

-- ---- where pieces end, behind a statement

abbrev one : Option ℕ → ℕ
one None = 0
one (Some a) = 1

longer : (ends : List ℕ) (p v : ℕ) (opens : Option ℕ) → length (begun opens (slice_set ends p v)) ≡ length ends + one opens
longer ends p v None = omega (arith, length-set ends p v)
longer ends p v (Some a) = omega (arith, length-set ends p v, length-append (slice_set ends p v) (a ∷ []))

here : (ends : List ℕ) (p v : ℕ) (opens : Option ℕ) → p < length ends → slice_index (begun opens (slice_set ends p v)) p ≡ v
here ends p v None lt = get_or-set_same ends p v 0 lt
here ends p v (Some a) lt =
    let within : p < length (slice_set ends p v) = omega (arith, lt, length-set ends p v) in
    get_or_append_left (slice_set ends p v) (a ∷ []) 0 p within ∙ get_or-set_same ends p v 0 lt

there : (ends : List ℕ) (p q v : ℕ) (opens : Option ℕ) → q < length ends → q ≢ p → slice_index (begun opens (slice_set ends p v)) q ≡ slice_index ends q
there ends p q v None lt other = get_or-set_other ends p q v 0 other
there ends p q v (Some a) lt other =
    let within : q < length (slice_set ends p v) = omega (arith, lt, length-set ends p v) in
    get_or_append_left (slice_set ends p v) (a ∷ []) 0 q within ∙ get_or-set_other ends p q v 0 other

fresh : (ends : List ℕ) (p v a q : ℕ) → q ≡ length ends → slice_index (begun (Some a) (slice_set ends p v)) q ≡ a
fresh ends p v a q e = get_or_push (slice_set ends p v) a 0 q (length-set ends p v ∙ sym e)

-- ---- where a piece begins or has come to

module _ (list : List (Option ℕ)) (piece : ℕ) where
  abbrev begins : ℕ
  begins = unwrap_or (address_in list piece) 0

  abbrev start : List ℕ → ℕ
  start ends = if nat_lt piece (length ends) then slice_index ends piece else begins

  start_in : (ends : List ℕ) → piece < length ends → start ends ≡ slice_index ends piece
  start_in ends lt = let is : nat_lt piece (length ends) ≡ true = grind (arith, nat_tests, lt) in rw is refl

  start_out : (ends : List ℕ) → length ends ≤ piece → start ends ≡ begins
  start_out ends le = let is : nat_lt piece (length ends) ≡ false = grind (arith, nat_tests, le) in rw is refl

  -- of a statement of another piece
  passes : (ends : List ℕ) (p v : ℕ) (opens : Option ℕ) → piece ≢ p → ((a : ℕ) → opens ≡ Some a → piece ≡ length ends → begins ≡ a)
      → start (begun opens (slice_set ends p v)) ≡ start ends
  passes ends p v opens other opened_at = by (nat_lt piece (length ends)) refl opens refl
    where
      by : (b : Bool) → nat_lt piece (length ends) ≡ b → (o : Option ℕ) → opens ≡ o → start (begun o (slice_set ends p v)) ≡ start ends
      by true is o e =
          let lt : piece < length ends = grind (arith, nat_tests, is) in
          start_in (begun o (slice_set ends p v)) (omega (arith, lt, longer ends p v o)) ∙ (there ends p piece v o lt other ∙ sym (start_in ends lt))
      by false is None e =
          let le : length ends ≤ piece = grind (arith, nat_tests, is) in
          start_out (begun None (slice_set ends p v)) (omega (arith, le, longer ends p v None)) ∙ sym (start_out ends le)
      by false is (Some a) e =
          let le : length ends ≤ piece = grind (arith, nat_tests, is) in
          new (piece == length ends) refl a e le
        where
          new : (b : Bool) → (piece == length ends) ≡ b → (a : ℕ) → opens ≡ Some a → length ends ≤ piece → start (begun (Some a) (slice_set ends p v)) ≡ start ends
          new true is a e le =
              let same : piece ≡ length ends = eqb-true piece (length ends) is in
              start_in (begun (Some a) (slice_set ends p v)) (omega (arith, same, longer ends p v (Some a)))
              ∙ (fresh ends p v a piece same ∙ (sym (opened_at a e same) ∙ sym (start_out ends le)))
          new false is a e le =
              let more : length ends < piece = grind (arith, nat_tests, is, le) in
              start_out (begun (Some a) (slice_set ends p v)) (omega (arith, more, longer ends p v (Some a))) ∙ sym (start_out ends le)

-- ---- what may follow

record Before (g : Segment) (opens : Option ℕ) (ends : List ℕ) : Type 0 where
  count : length ends ≡ g.count + one opens
  many : 3 ≤ g.count
  within : g.piece < g.count

either : (a b : Bool) → (a || b) ≡ true → (a ≡ true) ⊎ (b ≡ true)
either true b h = inl refl
either false b h = inr h

next : (g h : Segment) (opens : Option ℕ) (ends : List ℕ) → Before g opens ends → may_follow g opens h ≡ true → (h.piece < length ends) × (h.count ≡ length ends)
next g h (Some address) ends b may =
    let parts = and_parts (h.piece == g.count) (h.count == g.count + 1) may in
    let piece = eqb-true h.piece g.count parts.0 in
    let count = eqb-true h.count (g.count + 1) parts.1 in
    (omega (arith, piece, b.count), omega (arith, count, b.count))
next g h None ends b may =
    let parts = and_parts (is_same_piece g h || is_relocatable h) (h.count == g.count) may in
    let count = eqb-true h.count g.count parts.1 in
    (by (either (is_same_piece g h) (is_relocatable h) parts.0), omega (arith, count, b.count))
  where
    by : (is_same_piece g h ≡ true) ⊎ (is_relocatable h ≡ true) → h.piece < length ends
    by (inl same) =
        let piece = eqb-true g.piece h.piece (and_parts (g.piece == h.piece) _ same).0 in
        omega (arith, piece, b.count, b.within)
    by (inr relocatable) =
        let low : not (nat_le 3 h.piece) ≡ true = (and_parts (not (nat_le 3 h.piece)) _ relocatable).0 in
        let few : h.piece < 3 = grind (arith, nat_tests, low) in
        omega (arith, few, b.many, b.count)

-- ---- pieces that are still to be opened

drop_tail : {A : Type 0} (k : ℕ) (xs : List A) (y : A) (ys : List A) → drop k xs ≡ y ∷ ys → drop (suc k) xs ≡ ys
drop_tail zero [] y ys e = absurd (cc e)
drop_tail zero (x ∷ xs) y ys e = cc e
drop_tail (suc k) [] y ys e = absurd (cc e)
drop_tail (suc k) (x ∷ xs) y ys e = drop_tail k xs y ys e

got : {A : Type 0} (k : ℕ) (xs : List A) (y : A) (ys : List A) → drop k xs ≡ y ∷ ys → slice_get xs k ≡ Some y
got zero [] y ys e = absurd (cc e)
got zero (x ∷ xs) y ys e = cc e
got (suc k) [] y ys e = absurd (cc e)
got (suc k) (x ∷ xs) y ys e = got k xs y ys e

left : (list : List (Option ℕ)) (ends : List ℕ) (p v : ℕ) (opens : Option ℕ) (rest : List (Option ℕ))
    → drop (length ends) list ≡ address_added opens rest → drop (length (begun opens (slice_set ends p v))) list ≡ rest
left list ends p v None rest e = ap (λ k. drop k list) (longer ends p v None ∙ none) ∙ e
  where
    none : length ends + 0 ≡ length ends
    none = omega arith
left list ends p v (Some a) rest e = ap (λ k. drop k list) (longer ends p v (Some a) ∙ some) ∙ drop_tail (length ends) list (Some a) rest e
  where
    some : length ends + 1 ≡ suc (length ends)
    some = omega arith

opened_here : (list : List (Option ℕ)) (piece : ℕ) (ends : List ℕ) (opens : Option ℕ) (rest : List (Option ℕ)) → drop (length ends) list ≡ address_added opens rest
    → (a : ℕ) → opens ≡ Some a → piece ≡ length ends → begins list piece ≡ a
opened_here list piece ends opens rest e a is at =
    let first : drop (length ends) list ≡ Some a ∷ rest = e ∙ ap (λ o. address_added o rest) is in
    let found : slice_get list piece ≡ Some (Some a) = ap (slice_get list) at ∙ got (length ends) list (Some a) rest first in
    ap (λ o. unwrap_or (unwrap_or o None) 0) found

-- ---- the statements of a piece

module _ (list : List (Option ℕ)) (piece : ℕ) where
  abbrev AreAt : List Spot → Type 0
  AreAt [] = Unit {0}
  AreAt (s ∷ ss) = (s.at ≡ address_in list piece) × AreAt ss

  abbrev Reported : ℕ → List Spot → Type 0
  Reported from ss = Follow from ss × AreAt ss

  step : (l : Line) (d : ℕ) (f : Form) (ends : List ℕ) (n : SizeRecord) (ss : List Spot) → n.segment.piece < length ends
      → ((a : ℕ) → n.opens ≡ Some a → piece ≡ length ends → begins list piece ≡ a)
      → Reported (start list piece (ends_after f ends n)) (filter (is_of piece) ss)
      → Reported (start list piece ends) (filter (is_of piece) (spot_of l d n (location_of list f ends n) ∷ ss))
  step l d f ends n ss within opened_at more = by (n.segment.piece == piece) refl
    where
      by : (b : Bool) → (n.segment.piece == piece) ≡ b
          → Reported (start list piece ends) (if b then spot_of l d n (location_of list f ends n) ∷ filter (is_of piece) ss else filter (is_of piece) ss)
      by true is =
          let same : n.segment.piece ≡ piece = eqb-true n.segment.piece piece is in
          let inside : piece < length ends = omega (arith, same, within) in
          let before : slice_index ends n.segment.piece ≡ start list piece ends = ap (slice_index ends) same ∙ sym (start_in list piece ends inside) in
          let after : start list piece (ends_after f ends n) ≡ end_of f ends n =
          start_in list piece (ends_after f ends n) (omega (arith, inside, longer ends n.segment.piece (end_of f ends n) n.opens))
          ∙ (ap (slice_index (ends_after f ends n)) (sym same) ∙ here ends n.segment.piece (end_of f ends n) n.opens within) in
          ((before, subst (λ k. Follow k (filter (is_of piece) ss)) after more.0), (ap (address_in list) same, more.1))
      by false is =
          let other : piece ≢ n.segment.piece = λ e. absurd (let same : (n.segment.piece == piece) ≡ true = grind (arith, nat_tests, e) in cc (sym same ∙ is)) in
          subst (λ k. Reported k (filter (is_of piece) ss)) (passes list piece ends n.segment.piece (end_of f ends n) n.opens other opened_at) more

  follows : (text : List Line) (ds : List ℕ) (fs : List Form) (ends : List ℕ) (g : Segment) (opens : Option ℕ) (ns : List SizeRecord)
      → Before g opens ends → numbered_after g opens ns ≡ true → drop (length ends) list ≡ opened ns
      → Reported (start list piece ends) (filter (is_of piece) (spots_from text ds ns (locations_from list fs ends ns)))
  unfolding spots_from locations_from numbered_after opened
  follows [] ds fs ends g opens ns b num rest = (tt, tt)
  follows (l ∷ ls) ds fs ends g opens [] b num rest = by (is_nil l.tokens) (follows ls (drop 1 ds) fs ends g opens [] b num rest)
    where
      by : (blank : Bool) → Reported (start list piece ends) (filter (is_of piece) (spots_from ls (drop 1 ds) [] []))
          → Reported (start list piece ends) (filter (is_of piece) (if blank then spots_from ls (drop 1 ds) [] [] else spots_from ls (drop 1 ds) [] []))
      by true h = h
      by false h = h
  follows (l ∷ ls) ds fs ends g opens (n ∷ ns) b num rest =
      let parts = and_parts (may_follow g opens n.segment && aligns_well n) (numbered_after n.segment n.opens ns) num in
      let at = next g n.segment opens ends b (and_parts (may_follow g opens n.segment) (aligns_well n) parts.0).0 in
      let f = head_form fs in
      let behind : Before n.segment n.opens (ends_after f ends n) = record {
        count = omega (arith, at.1, longer ends n.segment.piece (end_of f ends n) n.opens);
        many = omega (arith, at.1, b.count, b.many);
        within = omega (arith, at.0, at.1);
      } in
      by (is_nil l.tokens) (follows ls (drop 1 ds) fs ends g opens (n ∷ ns) b num rest)
      (step l (slice_index ds 0) f ends n (spots_from ls (drop 1 ds) ns (locations_from list (drop 1 fs) (ends_after f ends n) ns)) at.0 (opened_here list piece ends n.opens (opened ns) rest)
      (follows ls (drop 1 ds) (drop 1 fs) (ends_after f ends n) n.segment n.opens ns behind parts.1 (left list ends n.segment.piece (end_of f ends n) n.opens (opened ns) rest)))
    where
      by : (blank : Bool) → Reported (start list piece ends) (filter (is_of piece) (spots_from ls (drop 1 ds) (n ∷ ns) (locations_from list fs ends (n ∷ ns))))
          → Reported (start list piece ends) (filter (is_of piece) (spot_of l (slice_index ds 0) n (location_of list (head_form fs) ends n) ∷ spots_from ls (drop 1 ds) ns (locations_from list (drop 1 fs) (ends_after (head_form fs) ends n) ns)))
          → Reported (start list piece ends) (filter (is_of piece) (if blank then spots_from ls (drop 1 ds) (n ∷ ns) (locations_from list fs ends (n ∷ ns)) else spot_of l (slice_index ds 0) n (location_of list (head_form fs) ends n) ∷ spots_from ls (drop 1 ds) ns (locations_from list (drop 1 fs) (ends_after (head_form fs) ends n) ns)))
      by true h k = h
      by false h k = k

  from_start : (ss : List Spot) → Reported (begins list piece) ss → FollowFromStart ss
  from_start [] h = tt
  from_start (s ∷ ss) h = subst (λ k. Follow k (s ∷ ss)) (ap (λ o. unwrap_or o 0) (sym h.1.0)) h.0

first_start : (ns : List SizeRecord) (piece : ℕ) → start (addresses ns) piece no_bytes ≡ begins (addresses ns) piece
first_start ns zero = refl
first_start ns (suc zero) = refl
first_start ns (suc (suc zero)) = refl
first_start ns (suc (suc (suc k))) = start_out (addresses ns) (suc (suc (suc k))) no_bytes (omega arith)

all_follow : (out : List Line) (ds : List ℕ) (ns : List SizeRecord) (fs : List Form) (piece : ℕ) → IsNumbered ns
    → FollowFromStart (filter (is_of piece) (spots_from out ds ns (locations_from (addresses ns) fs no_bytes ns)))
all_follow out ds ns fs piece numbered =
    let begun_well : Before first_segment None no_bytes = record { count = refl; many = omega arith; within = omega arith } in
    let reported = follows (addresses ns) piece out ds fs no_bytes first_segment None ns begun_well numbered refl in
    let spots = filter (is_of piece) (spots_from out ds ns (locations_from (addresses ns) fs no_bytes ns)) in
    from_start (addresses ns) piece spots (subst (λ k. Reported (addresses ns) piece k spots) (first_start ns piece) reported)

pub stretches_follow : SizesAreNumbered → StretchesFollow
stretches_follow numbered out ds stmts piece =
    all_follow out ds (statement_sizes stmts) (statement_forms (forms (text (statement_sizes stmts))) (statement_sizes stmts)) piece (numbered stmts)
