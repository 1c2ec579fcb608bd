-- What the map of the entries of an `IndexMap` has at a name; and a name that is noted among others.
use Rattle.std.proofs.Common.{◌≡◌, ℕ, Bool, true, false, cond, List, [], ◌∷◌, Option, Some, None, refl, sym, ap, subst, ◌∙◌}
use Rattle.std.specs.Prelude.{if◌then◌else◌}
use Rattle.std.specs.Ordering.{nat_cmp}
use Rattle.std.specs.Option.{option_or}
use Rattle.std.specs.Cmp.Lexicographic.{slice_cmp, nat_list_cmp_total, bytes_decides, nat_list_eq_equiv}
use Rattle.std.specs.FinMap.{get, insert, remove, find, get-from_entries, get-insert, get-remove, same_map}
use Rattle.std.specs.Map.{lookup, KeepsOthers}
use Rattle.std.specs.Str.{bytes_eq}
use Rattle.std.specs.Global.{Vec}
use Rattle.std.proofs.lemmas.Map.Lookups.{exact_bytes}
use Rattle.std.proofs.lemmas.Map.Text.{is_eq-slice_cmp}
use Rattle.kc_base.specs.ByName.{named, by_name}

-- the test by which the bytes of a name look it up
abbrev pub is_named : List ℕ → Vec ℕ → Bool
is_named q k = bytes_eq q k.items

find_named : {V : Type 0} (es : List (Vec ℕ × V)) (q : List ℕ) → find (slice_cmp nat_cmp) q (named es) ≡ lookup (is_named q) es
find_named [] q = refl
find_named (e ∷ es) q = λ i. cond (is_eq-slice_cmp q e.0.items i) (Some e.1) (find_named es q i)

pub get_named : {V : Type 0} (es : List (Vec ℕ × V)) (q : List ℕ) → get (by_name es) q ≡ lookup (is_named q) es
get_named es q = get-from_entries nat_list_cmp_total (named es) q ∙ find_named es q

each_name : {W : Type 0} (f g : List ℕ → W) (k : List ℕ) (w : W) → g k ≡ w → ((q : List ℕ) → bytes_eq k q ≡ false → g q ≡ f q) → (q : List ℕ) → g q ≡ cond (bytes_eq k q) w (f q)
each_name f g k w here other q =
    elim (bytes_eq k q) as (λ b. bytes_eq k q ≡ b → g q ≡ cond b w (f q)) [
      | true ↦ λ y. subst (λ l. g l ≡ w) ((bytes_decides k q).0 y) here
      | false ↦ λ n. other q n
    ] refl

pub apart : (k q : List ℕ) → bytes_eq k q ≡ false → (x : Vec ℕ) → is_named k x ≡ true → is_named q x ≡ false
apart k q e x h =
    let same : k ≡ x.items = (bytes_decides k x.items).0 h in
    nat_list_eq_equiv.symm q x.items ∙ ap (λ (l : List ℕ). bytes_eq l q) (sym same) ∙ e

-- two lists of entries that differ at one name make maps that differ there
pub one_set : {V : Type 0} (es fs : List (Vec ℕ × V)) (k : Vec ℕ) (v : V) → lookup (is_named k.items) fs ≡ Some v → KeepsOthers (λ (x y : Vec ℕ). bytes_eq x.items y.items) (is_named k.items) es fs
    → by_name fs ≡ insert (by_name es) k.items v
unfolding KeepsOthers
one_set es fs k v at_key others =
    let reads = each_name (λ q. lookup (is_named q) es) (λ q. lookup (is_named q) fs) k.items (Some v) at_key (λ q e. others (is_named q) (λ x y. nat_list_eq_equiv.congr q x.items y.items) (apart k.items q e)) in
    same_map nat_list_cmp_total exact_bytes (by_name fs) (insert (by_name es) k.items v) (λ q.
    get_named fs q ∙ reads q ∙ ap (λ b. cond b (Some v) (lookup (is_named q) es)) (nat_list_eq_equiv.symm k.items q)
    ∙ sym (get-insert nat_list_cmp_total (by_name es) k.items v q ∙ ap (λ b. cond b (Some v) (get (by_name es) q)) (is_eq-slice_cmp q k.items) ∙ ap (cond (bytes_eq q k.items) (Some v)) (get_named es q)))

-- two lists of entries of which the second lacks a name
pub one_removed : {V : Type 0} (es fs : List (Vec ℕ × V)) (k : List ℕ) → lookup (is_named k) fs ≡ None → KeepsOthers (λ (x y : Vec ℕ). bytes_eq x.items y.items) (is_named k) es fs
    → by_name fs ≡ remove (by_name es) k
unfolding KeepsOthers
one_removed es fs k at_key others =
    let reads = each_name (λ q. lookup (is_named q) es) (λ q. lookup (is_named q) fs) k None at_key (λ q e. others (is_named q) (λ x y. nat_list_eq_equiv.congr q x.items y.items) (apart k q e)) in
    same_map nat_list_cmp_total exact_bytes (by_name fs) (remove (by_name es) k) (λ q.
    get_named fs q ∙ reads q ∙ ap (λ b. cond b None (lookup (is_named q) es)) (nat_list_eq_equiv.symm k q)
    ∙ sym (get-remove nat_list_cmp_total (by_name es) k q ∙ ap (λ b. cond b None (get (by_name es) q)) (is_eq-slice_cmp q k) ∙ ap (cond (bytes_eq q k) None) (get_named es q)))

alone : {V : Type 0} (o : Option V) → o ≡ option_or o None
alone None = refl
alone (Some v) = refl

-- a new name is noted, and the others are found as before
pub noted : {V : Type 0} (es fs : List (Vec ℕ × V)) (k : Vec ℕ) (name : List ℕ) (v : V) → k.items ≡ name → lookup (is_named name) es ≡ None → lookup (is_named k.items) fs ≡ Some v
    → KeepsOthers (λ (x y : Vec ℕ). bytes_eq x.items y.items) (is_named k.items) es fs
    → (q : List ℕ) → lookup (is_named q) fs ≡ option_or (lookup (is_named q) es) (if bytes_eq name q then Some v else None)
unfolding KeepsOthers
noted es fs k name v is none at_key others q =
    elim (bytes_eq name q) as (λ b. bytes_eq name q ≡ b → lookup (is_named q) fs ≡ option_or (lookup (is_named q) es) (if b then Some v else None)) [
      | true ↦ λ y.
          let same : name ≡ q = (bytes_decides name q).0 y in
          let here : lookup (is_named q) fs ≡ Some v = subst (λ (l : List ℕ). lookup (is_named l) fs ≡ Some v) (is ∙ same) at_key in
          let before : lookup (is_named q) es ≡ None = subst (λ (l : List ℕ). lookup (is_named l) es ≡ None) same none in
          rw (here, before) refl
      | false ↦ λ n.
          let differ : bytes_eq k.items q ≡ false = rw is n in
          let kept : lookup (is_named q) fs ≡ lookup (is_named q) es = others (is_named q) (λ x y. nat_list_eq_equiv.congr q x.items y.items) (apart k.items q differ) in
          rw kept (alone (lookup (is_named q) es))
    ] refl
