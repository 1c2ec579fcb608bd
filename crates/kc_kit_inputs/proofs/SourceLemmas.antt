-- Sources one after the other.
use Rattle.std.proofs.Common.{◌≡◌, inl, inr, ℕ, zero, suc, ◌+◌, ◌<◌, ◌≤◌, List, [], ◌∷◌, ◌++◌, length, drop, get_or, string_bytes, String, Global, Some, refl, sym, ap, subst, append_assoc, arith}
use Rattle.std.specs.Prelude.{slice_get}
use Rattle.std.specs.Global.{Vec}
use Rattle.std.proofs.lemmas.List.{append-nil}
use Rattle.kc_obj_module.specs.Object.{Object}
use Rattle.kc_asm.specs.Assembled.{IsModule}
use Rattle.kc_kit_files.specs.Response.{Response}
use Rattle.kc_kit_inputs.specs.FaultDiagnostics.{IsFaultDiagnostic}
use Rattle.kc_kit_inputs.specs.Sources.{AreModules, ReportsFault, ReportsFirst}
use Rattle.kc_kit_messages.proofs.Words.{names_in, texts_in, name-get, text-get}

-- what follows of the rest follows of the whole
pub record Onward (names texts : List (List ℕ)) (ms : List Object) (rest-names rest-texts : List (List ℕ)) : Type 0 where
  pub made : (more : List Object) → AreModules rest-texts more → AreModules texts (ms ++ more)
  pub reported : (r : Response) → ReportsFirst IsFaultDiagnostic rest-names rest-texts r → ReportsFirst IsFaultDiagnostic names texts r

pub onward-start : (names texts : List (List ℕ)) → Onward names texts [] names texts
onward-start names texts = record { made = λ more h. h; reported = λ r h. h }

drop-one : (xs : List (List ℕ)) (i : ℕ) (x : List ℕ) → slice_get xs i ≡ Some x → drop i xs ≡ x ∷ drop (suc i) xs
drop-one [] i x e = absurd (cc)
drop-one (a ∷ xs) zero x e = let same : a ≡ x = cc in ap (λ y. y ∷ xs) same
drop-one (a ∷ xs) (suc i) x e = drop-one xs i x e

pub onward-next : (ws : List (String Global)) (ts : List (Vec ℕ)) (i : ℕ) (w : String Global) (t : Vec ℕ) (ms : List Object) (m : Object) → i < length ws → length ts ≡ length ws → w ≡ get_or ws i w → t ≡ get_or ts i t →
    IsModule t.items m → Onward (names_in ws) (texts_in ts) ms (drop i (names_in ws)) (drop i (texts_in ts)) →
    Onward (names_in ws) (texts_in ts) (ms ++ m ∷ []) (drop (i + 1) (names_in ws)) (drop (i + 1) (texts_in ts))
onward-next ws ts i w t ms m h k e f is o =
    let more : i + 1 ≡ suc i = omega arith in
    let name = drop-one (names_in ws) i (string_bytes w) (name-get ws i w h e) in
    let text = drop-one (texts_in ts) i t.items (text-get ts i t (omega (arith, k)) f) in
    rw more (record {
      made = λ rest a. subst (AreModules (texts_in ts)) (sym (append_assoc ms (m ∷ []) rest)) (o.made (m ∷ rest) (subst (λ l. AreModules l (m ∷ rest)) (sym text) (is, a)));
      reported = λ r a. o.reported r (subst (λ l. ReportsFirst IsFaultDiagnostic l (drop i (texts_in ts)) r) (sym name) (subst (λ l. ReportsFirst IsFaultDiagnostic (string_bytes w ∷ drop (suc i) (names_in ws)) l r) (sym text) (inr ((m, is), a))));
    })

pub onward-stop : (ws : List (String Global)) (ts : List (Vec ℕ)) (i : ℕ) (w : String Global) (t : Vec ℕ) (ms : List Object) (r : Response) → i < length ws → length ts ≡ length ws → w ≡ get_or ws i w → t ≡ get_or ts i t →
    ReportsFault IsFaultDiagnostic (string_bytes w) t.items r → Onward (names_in ws) (texts_in ts) ms (drop i (names_in ws)) (drop i (texts_in ts)) → ReportsFirst IsFaultDiagnostic (names_in ws) (texts_in ts) r
onward-stop ws ts i w t ms r h k e f bad o =
    let name = drop-one (names_in ws) i (string_bytes w) (name-get ws i w h e) in
    let text = drop-one (texts_in ts) i t.items (text-get ts i t (omega (arith, k)) f) in
    o.reported r (subst (λ l. ReportsFirst IsFaultDiagnostic l (drop i (texts_in ts)) r) (sym name) (subst (λ l. ReportsFirst IsFaultDiagnostic (string_bytes w ∷ drop (suc i) (names_in ws)) l r) (sym text) (inl bad)))

drop-past : (xs : List (List ℕ)) (i : ℕ) → length xs ≤ i → drop i xs ≡ []
drop-past [] zero h = refl
drop-past [] (suc i) h = refl
drop-past (a ∷ xs) zero h = absurd (omega (arith, h))
drop-past (a ∷ xs) (suc i) h = drop-past xs i (omega (arith, h))

length-texts : (ts : List (Vec ℕ)) → length (texts_in ts) ≡ length ts
length-texts [] = refl
length-texts (t ∷ ts) = ap suc (length-texts ts)

pub onward-end : (ws : List (String Global)) (ts : List (Vec ℕ)) (i : ℕ) (ms : List Object) → length ws ≤ i → length ts ≡ length ws → Onward (names_in ws) (texts_in ts) ms (drop i (names_in ws)) (drop i (texts_in ts)) → AreModules (texts_in ts) ms
onward-end ws ts i ms h k o =
    subst (AreModules (texts_in ts)) (append-nil ms) (o.made [] (subst (λ l. AreModules l []) (sym (drop-past (texts_in ts) i (omega (arith, h, k, length-texts ts)))) tt))
