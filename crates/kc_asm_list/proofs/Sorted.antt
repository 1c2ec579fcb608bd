-- Runs and relocations in order: what stands at a place is found where what ends before it ends.
use Rattle.std.proofs.Common.{◌≡◌, ℕ, zero, suc, ◌+◌, ◌≤◌, Bool, true, false, ◌&&◌, ◌||◌, eqb, ltb, leb, List, [], ◌∷◌, length, Option, Some, None, refl, sym, ap, ◌∙◌, arith}
use Rattle.std.specs.Prelude.{slice_get}
use Rattle.std.specs.List.{list_any}
use Rattle.std.specs.List.Sorted.{IsPartitionedBy, IsPartitionPoint}
use Rattle.std.proofs.lemmas.Bool.{and_parts}
use Rattle.std.specs.Borrow.{Bor}
use Rattle.std.specs.Slice.{IsItemAt}
use Rattle.std.specs.Option.{option_copied}
use Rattle.std.proofs.lemmas.Bool.Decides.{nat_tests}
use Rattle.std.proofs.lemmas.Option.{slice_get_past, slice_get_read}
use Rattle.kc_obj_module.specs.declared.parts.Content.{Content}
use Rattle.kc_obj_module.specs.declared.parts.Fixup.{Fixup}
use Rattle.kc_obj_module.specs.Contents.{content_end, content_follows, contents_in_order, byte_of, content_at, is_over}
use Rattle.kc_obj_module.specs.Fixups.{fixups_in_order, fills}
use Rattle.kc_obj_module.proofs.ContentLemmas.{over_skips, only_first, ordered_rest, none_at}
use Rattle.kc_obj_module.proofs.RoomLemmas.{rest_in_order, next_follows}
use Rattle.kc_obj_module.specs.Numbers.{width}

-- ---- items of slices

item_there : {X : Type 0} (xs : List X) (i : ℕ) (r : Option (Bor X)) → IsItemAt xs i r → option_copied r ≡ slice_get xs i
item_there xs i None h = sym (slice_get_past xs i h.3)
item_there xs i (Some x) h = sym (slice_get_read xs (length xs) i x.now refl h.3.0 (h.3.1 x.now))

pub no_item : {X : Type 0} (xs : List X) (i : ℕ) (r : Option (Bor X)) → IsItemAt xs i r → r ≡ None → slice_get xs i ≡ None
no_item xs i r h e = sym (item_there xs i r h) ∙ ap option_copied e

pub one_item : {X : Type 0} (xs : List X) (i : ℕ) (r : Option (Bor X)) (x : Bor X) → IsItemAt xs i r → r ≡ Some x → slice_get xs i ≡ Some x.now
one_item xs i r x h e = sym (item_there xs i r h) ∙ ap option_copied e

-- ---- runs

-- on plain numbers: a run of piece q that ends before e, and one behind it from g of r to h
over_step : (q e r g h p o : ℕ) (full : Bool) → g ≤ h → (ltb q r || (eqb q r && (ltb e g || (eqb e g && full)))) ≡ true
    → (ltb r p || (eqb r p && leb h o)) ≡ true → (ltb q p || (eqb q p && leb e o)) ≡ true
over_step q e r g h p o true le follows over = grind (arith, nat_tests)
over_step q e r g h p o false le follows over = grind (arith, nat_tests)

next_run : (c d : Content) (cs : List Content) → contents_in_order (c ∷ d ∷ cs) ≡ true → content_follows c d ≡ true
unfolding contents_in_order
next_run c d cs h = (and_parts (content_follows c d) (contents_in_order (d ∷ cs)) h).0

pub runs_partitioned : (p o : ℕ) (cs : List Content) → contents_in_order cs ≡ true → IsPartitionedBy (λ c. is_over c p o) cs
runs_partitioned p o [] h i j d le lt t = absurd (omega arith)
runs_partitioned p o (c ∷ cs) h zero zero d le lt t = t
runs_partitioned p o (c ∷ []) h zero (suc j) d le lt t = absurd (omega arith)
runs_partitioned p o (c ∷ d ∷ cs) h zero (suc j) x le lt t =
    let next : is_over d p o ≡ true = runs_partitioned p o (d ∷ cs) (ordered_rest c (d ∷ cs) h) zero j x (omega arith) (omega arith) t in
    over_step c.piece (content_end c) d.piece d.offset (content_end d) p o (eqb (length c.bytes) 1024) (omega arith) (next_run c d cs h) next
runs_partitioned p o (c ∷ cs) h (suc i) zero d le lt t = absurd (omega arith)
runs_partitioned p o (c ∷ cs) h (suc i) (suc j) d le lt t = runs_partitioned p o cs (ordered_rest c cs h) i j d (omega arith) (omega arith) t

abbrev pub byte_there : ℕ → ℕ → Option Content → Option ℕ
byte_there p o None = None
byte_there p o (Some c) = byte_of c p o

pub byte_found : (p o : ℕ) (cs : List Content) (i : ℕ) → contents_in_order cs ≡ true → IsPartitionPoint (λ c. is_over c p o ≡ true) (λ c. is_over c p o ≡ false) cs i
    → byte_there p o (slice_get cs i) ≡ content_at cs p o
byte_found p o [] i h point = sym (none_at p o)
byte_found p o (c ∷ cs) zero h point = sym (only_first c cs p o h (point.1 zero c (omega arith) (omega arith)))
byte_found p o (c ∷ cs) (suc i) h point =
    byte_found p o cs i (ordered_rest c cs h) ((λ n d l m. point.0 (suc n) d (omega arith) (omega arith)), (λ n d l m. point.1 (suc n) d (omega arith) (omega arith)))
    ∙ sym (over_skips c cs p o (point.0 zero c (omega arith) (omega arith)))

-- ---- relocations

-- all bytes of a relocation stand before a place
abbrev pub is_past : ℕ → ℕ → Fixup → Bool
is_past p o f = ltb f.piece p || (eqb f.piece p && leb (f.offset + width f.kind) o)

-- on plain numbers: a relocation of piece q from f to e, and one behind it from g of r to h
past_step : (q e r g h p o : ℕ) → g ≤ h → (ltb q r || (eqb q r && leb e g)) ≡ true → (ltb r p || (eqb r p && leb h o)) ≡ true → (ltb q p || (eqb q p && leb e o)) ≡ true
past_step q e r g h p o le follows past = grind (arith, nat_tests)

past_apart : (q f e p o : ℕ) → (ltb q p || (eqb q p && leb e o)) ≡ true → (eqb q p && leb f o && ltb o e) ≡ false
past_apart q f e p o past = grind (arith, nat_tests)

-- the place is before the relocation
abbrev is_ahead : ℕ → ℕ → ℕ → ℕ → Bool
is_ahead q f p o = ltb p q || (eqb p q && ltb o f)

ahead_of : (q f e p o : ℕ) → (ltb q p || (eqb q p && leb e o)) ≡ false → (eqb q p && leb f o && ltb o e) ≡ false → is_ahead q f p o ≡ true
ahead_of q f e p o past fills = grind (arith, nat_tests)

ahead_apart : (q f e p o : ℕ) → is_ahead q f p o ≡ true → (eqb q p && leb f o && ltb o e) ≡ false
ahead_apart q f e p o ahead = grind (arith, nat_tests)

ahead_step : (q f e r g p o : ℕ) → f ≤ e → (ltb q r || (eqb q r && leb e g)) ≡ true → is_ahead q f p o ≡ true → is_ahead r g p o ≡ true
ahead_step q f e r g p o le follows ahead = grind (arith, nat_tests)

pub fixups_partitioned : (p o : ℕ) (fs : List Fixup) → fixups_in_order fs ≡ true → IsPartitionedBy (is_past p o) fs
fixups_partitioned p o [] h i j d le lt t = absurd (omega arith)
fixups_partitioned p o (f ∷ fs) h zero zero d le lt t = t
fixups_partitioned p o (f ∷ []) h zero (suc j) d le lt t = absurd (omega arith)
fixups_partitioned p o (f ∷ g ∷ fs) h zero (suc j) d le lt t =
    let next : is_past p o g ≡ true = fixups_partitioned p o (g ∷ fs) (rest_in_order f (g ∷ fs) h) zero j d (omega arith) (omega arith) t in
    past_step f.piece (f.offset + width f.kind) g.piece g.offset (g.offset + width g.kind) p o (omega arith) (next_follows f g fs h) next
fixups_partitioned p o (f ∷ fs) h (suc i) zero d le lt t = absurd (omega arith)
fixups_partitioned p o (f ∷ fs) h (suc i) (suc j) d le lt t = fixups_partitioned p o fs (rest_in_order f fs h) i j d (omega arith) (omega arith) t

none_ahead : (p o : ℕ) (f : Fixup) (fs : List Fixup) → fixups_in_order (f ∷ fs) ≡ true → is_ahead f.piece f.offset p o ≡ true → list_any (fills p o) (f ∷ fs) ≡ false
none_ahead p o f [] h ahead = λ i. ahead_apart f.piece f.offset (f.offset + width f.kind) p o ahead i || false
none_ahead p o f (g ∷ fs) h ahead =
    let next = ahead_step f.piece f.offset (f.offset + width f.kind) g.piece g.offset p o (omega arith) (next_follows f g fs h) ahead in
    λ i. ahead_apart f.piece f.offset (f.offset + width f.kind) p o ahead i || none_ahead p o g fs (rest_in_order f (g ∷ fs) h) next i

-- where the first relocation does not end before a place, it alone can fill it in
only_first_fills : (p o : ℕ) (f : Fixup) (fs : List Fixup) → fixups_in_order (f ∷ fs) ≡ true → is_past p o f ≡ false → fills p o f ≡ list_any (fills p o) (f ∷ fs)
only_first_fills p o f fs h past = by (fills p o f) refl
  where
    by : (b : Bool) → fills p o f ≡ b → fills p o f ≡ list_any (fills p o) (f ∷ fs)
    by true e = rw e refl
    by false e = e ∙ sym (none_ahead p o f fs h (ahead_of f.piece f.offset (f.offset + width f.kind) p o past e))

abbrev pub fills_there : ℕ → ℕ → Option Fixup → Bool
fills_there p o None = false
fills_there p o (Some f) = fills p o f

pub fill_found : (p o : ℕ) (fs : List Fixup) (i : ℕ) → fixups_in_order fs ≡ true → IsPartitionPoint (λ f. is_past p o f ≡ true) (λ f. is_past p o f ≡ false) fs i
    → fills_there p o (slice_get fs i) ≡ list_any (fills p o) fs
fill_found p o [] i h point = refl
fill_found p o (f ∷ fs) zero h point = only_first_fills p o f fs h (point.1 zero f (omega arith) (omega arith))
fill_found p o (f ∷ fs) (suc i) h point =
    fill_found p o fs i (rest_in_order f fs h) ((λ n d l m. point.0 (suc n) d (omega arith) (omega arith)), (λ n d l m. point.1 (suc n) d (omega arith) (omega arith)))
    ∙ (λ j. sym (past_apart f.piece f.offset (f.offset + width f.kind) p o (point.0 zero f (omega arith) (omega arith))) j || list_any (fills p o) fs)
