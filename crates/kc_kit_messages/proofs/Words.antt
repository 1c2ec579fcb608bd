-- Names and texts as they stand in lists.
use Rattle.std.proofs.Common.{◌≡◌, ℕ, zero, suc, ◌<◌, ◌≤◌, List, [], ◌∷◌, length, map, get_or, string_bytes, String, Global, Option, Some, None, refl, sym, ◌∙◌, ap, subst, arith}
use Rattle.std.specs.Prelude.{slice_get}
use Rattle.std.specs.Global.{Vec}
use Rattle.std.proofs.lemmas.Option.{slice_get-map, slice_get_read}
use Rattle.kc_kit_files.specs.Reads.{AllShort}

-- the names and the texts of a list
abbrev pub names_in : List (String Global) → List (List ℕ)
names_in ws = map string_bytes ws

abbrev pub texts_in : List (Vec ℕ) → List (List ℕ)
texts_in ts = map (λ t. t.items) ts

pub name-get : (ws : List (String Global)) (i : ℕ) (x : String Global) → i < length ws → x ≡ get_or ws i x → slice_get (names_in ws) i ≡ Some (string_bytes x)
name-get ws i x h e = slice_get-map string_bytes ws i ∙ ap (λ (o : Option (String Global)). elim o [ None ↦ None | Some w ↦ Some (string_bytes w) ]) (slice_get_read ws (length ws) i x refl h e)

pub text-get : (ts : List (Vec ℕ)) (i : ℕ) (x : Vec ℕ) → i < length ts → x ≡ get_or ts i x → slice_get (texts_in ts) i ≡ Some x.items
text-get ts i x h e = slice_get-map (λ (t : Vec ℕ). t.items) ts i ∙ ap (λ (o : Option (Vec ℕ)). elim o [ None ↦ None | Some w ↦ Some w.items ]) (slice_get_read ts (length ts) i x refl h e)

pub length-names : (ws : List (String Global)) → length (names_in ws) ≡ length ws
length-names [] = refl
length-names (w ∷ ws) = ap suc (length-names ws)

pub short-at : (ts : List (Vec ℕ)) (i : ℕ) (t : Vec ℕ) → AllShort (texts_in ts) → i < length ts → t ≡ get_or ts i t → length t.items ≤ 1048576
short-at [] i t short h e = absurd (omega (arith, h))
short-at (a ∷ ts) zero t short h e = subst (λ (v : Vec ℕ). length v.items ≤ 1048576) (sym e) short.0
short-at (a ∷ ts) (suc i) t short h e = short-at ts i t short.1 (omega (arith, h)) e
