-- Sources that are added one after another: what follows of the rest follows of the whole.
use Rattle.std.proofs.Common.{◌≡◌, ℕ, zero, suc, ◌+◌, ◌<◌, ◌≤◌, List, [], ◌∷◌, ◌++◌, length, drop, get_or, string_bytes, String, Global, refl, sym, ap, subst, ◌∙◌, arith}
use Rattle.std.specs.Global.{Vec}
use Rattle.std.proofs.lemmas.List.{append_assoc, append-nil, get_or-map, length-map}
use Rattle.kc_obj_module.specs.Object.{Object}
use Rattle.kc_link_place.specs.BaseLists.{BaseLists}
use Rattle.kc_link_place.specs.Placing.{Places, bases_from}
use Rattle.kc_asm.specs.Assembled.{IsModule}
use Rattle.kc_kit_messages.proofs.Words.{names_in, texts_in}
use Rattle.kc_profile.specs.declared.source.Source.{Source}
use Rattle.kc_kit_inputs.specs.Sources.{AreModules}
use Rattle.kc_kit_answer.specs.Cover.{AreSources, IsSource}

pub record Ahead (names texts : List (List ℕ)) (image : List ℕ) (ms : List Object) (bases : List BaseLists) (sources : List Source) (rest-names rest-texts : List (List ℕ)) (rest : List Object) (rest-bases : List BaseLists) : Type 0 where
  pub onward : (more : List Source) → AreSources rest-names rest-texts image rest rest-bases more → AreSources names texts image ms bases (sources ++ more)

pub drop_get : {A : Type 0} (xs : List A) (i : ℕ) (x : A) → i < length xs → x ≡ get_or xs i x → drop i xs ≡ x ∷ drop (suc i) xs
drop_get [] i x lt e = absurd (omega (arith, lt))
drop_get (a ∷ xs) zero x lt e = ap (λ y. y ∷ xs) (sym e)
drop_get (a ∷ xs) (suc i) x lt e = drop_get xs i x (omega (arith, lt)) e

pub ahead_start : (names texts : List (List ℕ)) (image : List ℕ) (ms : List Object) (bases : List BaseLists) (sources : List Source) → sources ≡ [] → Ahead names texts image ms bases sources names texts ms bases
ahead_start names texts image ms bases sources e = record { onward = λ more h. subst (λ l. AreSources names texts image ms bases (l ++ more)) (sym e) h }

pub ahead_next : (names texts : List (List ℕ)) (image : List ℕ) (ms : List Object) (bases : List BaseLists) (sources : List Source) (i : ℕ) (name text : List ℕ) (m : Object) (b : BaseLists) (s : Source) →
    drop i names ≡ name ∷ drop (suc i) names → drop i texts ≡ text ∷ drop (suc i) texts → drop i ms ≡ m ∷ drop (suc i) ms → drop i bases ≡ b ∷ drop (suc i) bases → IsSource name text image m b s →
    Ahead names texts image ms bases sources (drop i names) (drop i texts) (drop i ms) (drop i bases) →
    Ahead names texts image ms bases (sources ++ s ∷ []) (drop (suc i) names) (drop (suc i) texts) (drop (suc i) ms) (drop (suc i) bases)
unfolding AreSources
ahead_next names texts image ms bases sources i name text m b s n t o p is h = record {
  onward = λ more a.
      subst (AreSources names texts image ms bases) (sym (append_assoc sources (s ∷ []) more))
      (h.onward (s ∷ more) (subst (λ (x : Type 0). x) (λ k. AreSources (sym n k) (sym t k) image (sym o k) (sym p k) (s ∷ more)) (is, a)));
}

drop_past : (xs : List (List ℕ)) (i : ℕ) → length xs ≤ i → drop i xs ≡ []
drop_past [] zero h = refl
drop_past [] (suc i) h = refl
drop_past (a ∷ xs) zero h = absurd (omega (arith, h))
drop_past (a ∷ xs) (suc i) h = drop_past xs i (omega (arith, h))

pub ahead_end : (names texts : List (List ℕ)) (image : List ℕ) (ms : List Object) (bases : List BaseLists) (sources : List Source) (i : ℕ) (rest-texts : List (List ℕ)) (rest : List Object) (rest-bases : List BaseLists) → length names ≤ i →
    Ahead names texts image ms bases sources (drop i names) rest-texts rest rest-bases → AreSources names texts image ms bases sources
unfolding AreSources
ahead_end names texts image ms bases sources i rest-texts rest rest-bases le h =
    subst (AreSources names texts image ms bases) (append-nil sources) (h.onward [] (subst (λ l. AreSources l rest-texts image rest rest-bases []) (sym (drop_past names i le)) refl))

-- one module of each text
pub modules_count : (texts : List (List ℕ)) (ms : List Object) → AreModules texts ms → length ms ≡ length texts
modules_count [] [] a = refl
modules_count (t ∷ texts) (m ∷ ms) a = ap suc (modules_count texts ms a.1)
modules_count [] (m ∷ ms) a = absurd a
modules_count (t ∷ texts) [] a = absurd a

-- the module at a place is that of the text there
pub made_at : (ts : List (Vec ℕ)) (ms : List Object) (i : ℕ) (t : Vec ℕ) (m : Object) → AreModules (texts_in ts) ms → i < length ts → t ≡ get_or ts i t → m ≡ get_or ms i m → IsModule t.items m
made_at [] ms i t m made lt e f = absurd (omega (arith, lt))
made_at (a ∷ ts) [] i t m made lt e f = absurd made
made_at (a ∷ ts) (x ∷ ms) zero t m made lt e f = subst (λ (v : Vec ℕ). IsModule v.items m) (sym e) (subst (λ y. IsModule a.items y) (sym f) made.0)
made_at (a ∷ ts) (x ∷ ms) (suc i) t m made lt e f = made_at ts ms i t m made.1 (omega (arith, lt)) e f

bases_count : (all : List Object) (places : Places) (index : ℕ) (ms : List Object) → length (bases_from all places index ms) ≡ length ms
unfolding bases_from
bases_count all places index [] = refl
bases_count all places index (m ∷ ms) = ap suc (bases_count all places (index + 1) ms)

-- names, texts, modules and bases are as many
pub record AreAsMany (ws : List (String Global)) (ts : List (Vec ℕ)) (ms : List Object) (bs : List BaseLists) : Type 0 where
  pub texts : length ts ≡ length ws
  pub modules : length ms ≡ length ws
  pub bases : length bs ≡ length ws

pub as_many : (ws : List (String Global)) (ts : List (Vec ℕ)) (ms : List Object) (bases : List BaseLists) (places : Places) → length ts ≡ length ws → AreModules (texts_in ts) ms → bases ≡ bases_from ms places 0 ms → AreAsMany ws ts ms bases
as_many ws ts ms bases places count made is =
    let all : length ms ≡ length ws = modules_count (texts_in ts) ms made ∙ (length-map ts (λ (t : Vec ℕ). t.items) ∙ count) in
    record { texts = count; modules = all; bases = ap length is ∙ (bases_count ms places 0 ms ∙ all) }

pub one_more : (ws : List (String Global)) (ts : List (Vec ℕ)) (image : List ℕ) (ms : List Object) (bases : List BaseLists) (sources : List Source) (i : ℕ) (w : String Global) (t : Vec ℕ) (m : Object) (b : BaseLists) (s : Source) →
    AreAsMany ws ts ms bases → i < length ws → w ≡ get_or ws i w → t ≡ get_or ts i t → m ≡ get_or ms i m → b ≡ get_or bases i b → IsSource (string_bytes w) t.items image m b s →
    Ahead (names_in ws) (texts_in ts) image ms bases sources (drop i (names_in ws)) (drop i (texts_in ts)) (drop i ms) (drop i bases) →
    Ahead (names_in ws) (texts_in ts) image ms bases (sources ++ s ∷ []) (drop (i + 1) (names_in ws)) (drop (i + 1) (texts_in ts)) (drop (i + 1) ms) (drop (i + 1) bases)
one_more ws ts image ms bases sources i w t m b s many lt e f g h is a =
    let more : i + 1 ≡ suc i = omega arith in
    let name : string_bytes w ≡ get_or (names_in ws) i (string_bytes w) = ap string_bytes e ∙ sym (get_or-map string_bytes ws i w (string_bytes w) lt) in
    let text : t.items ≡ get_or (texts_in ts) i t.items = ap (λ (v : Vec ℕ). v.items) f ∙ sym (get_or-map (λ (v : Vec ℕ). v.items) ts i t t.items (omega (arith, lt, many.texts))) in
    rw more
    (ahead_next (names_in ws) (texts_in ts) image ms bases sources i (string_bytes w) t.items m b s (drop_get (names_in ws) i (string_bytes w) (omega (arith, lt, length-map ws string_bytes)) name)
    (drop_get (texts_in ts) i t.items (omega (arith, lt, many.texts, length-map ts (λ (v : Vec ℕ). v.items))) text) (drop_get ms i m (omega (arith, lt, many.modules)) g) (drop_get bases i b (omega (arith, lt, many.bases)) h) is a)
