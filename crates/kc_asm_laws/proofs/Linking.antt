-- Texts without a fault have modules, and these an image and a line map.
use Rattle.std.proofs.Common.{◌≡◌, ℕ, zero, suc, ◌<◌, List, [], ◌∷◌, length, refl, ap, subst, arith}
use Rattle.std.specs.Prelude.{Some, slice_get}
use Rattle.std.proofs.lemmas.Option.{slice_get_within}
use Rattle.kc_obj_module.specs.Object.{Object}
use Rattle.kc_link_place.specs.Apart.{AllKeepRules}
use Rattle.kc_link.specs.Linked.{ArePlaced, PlacedHaveImage, PlacedHaveLines}
use Rattle.kc_asm.specs.Assembled.{IsModule}
use Rattle.kc_asm_laws.specs.Images.{AreModulesOf}
use Rattle.kc_asm_laws.specs.Made.{TextsHaveModules, AreFaultless, TextsAreLinked}

record Modules (texts : List (List ℕ)) : Type 0 where
  ms : List Object
  are : AreModulesOf texts ms

with_one : (t : List ℕ) (texts : List (List ℕ)) (m : Object) → IsModule t m → Modules texts → Modules (t ∷ texts)
with_one t texts m is more = record { ms = m ∷ more.ms; are = record { count = ap suc more.are.count; of = each } }
  where
    each : (i : ℕ) (text : List ℕ) (n : Object) → slice_get (t ∷ texts) i ≡ Some text → slice_get (m ∷ more.ms) i ≡ Some n → IsModule text n
    each zero text n e f =
        let one : t ≡ text = cc e in
        let two : m ≡ n = cc f in
        subst (λ (x : List ℕ). IsModule x n) one (subst (λ (x : Object). IsModule t x) two is)
    each (suc i) text n e f = more.are.of i text n e f

modules_of : TextsHaveModules → (texts : List (List ℕ)) → AreFaultless texts → Modules texts
modules_of law [] none = record { ms = []; are = record { count = refl; of = λ i text m e f. absurd (cc e) } }
modules_of law (t ∷ texts) none =
    let m = law t (none 0 t refl) in
    with_one t texts m.0 m.1 (modules_of law texts (λ i text e. none (suc i) text e))

get_some : {A : Type 0} (xs : List A) (i : ℕ) → i < length xs → (x : A) × (slice_get xs i ≡ Some x)
get_some [] i h = absurd (omega arith)
get_some (x ∷ xs) zero h = (x, refl)
get_some (x ∷ xs) (suc i) h = get_some xs i (omega (arith, h))

rules_of : (texts : List (List ℕ)) (ms : List Object) → AreModulesOf texts ms → AllKeepRules ms
rules_of texts ms are i m e =
    let l = slice_get_within ms i m e in
    let n = are.count in
    let t = get_some texts i (omega (arith, l, n)) in
    (are.of i t.0 m t.1 e).made.rules

pub texts_are_linked : TextsHaveModules → PlacedHaveImage → PlacedHaveLines → TextsAreLinked
texts_are_linked law image lines texts ranges bounds none =
    let k = modules_of law texts none in (
      k.ms,
      k.are,
      λ places ok.
          let are : ArePlaced k.ms ranges places = record { rules = rules_of texts k.ms k.are; bounds = bounds; placed = ok } in
          let i = image k.ms ranges places are in
          let l = lines k.ms ranges places are in
          record { image = i.0; is_filled = i.1; entries = l.0; is_line_map = l.1 },
    )
