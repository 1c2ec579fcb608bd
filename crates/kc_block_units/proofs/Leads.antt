-- Edges that are handed out one after the other.
use Rattle.std.proofs.Common.{◌≡◌, ℕ, ◌+◌, ◌*◌, ◌/◌, ◌%◌, ◌^◌, ◌<◌, ◌≤◌, zero, suc, ◌==◌, inl, inr, false, List, [], ◌∷◌, ◌++◌, length, take, get_or, refl, subst, sym, ◌∙◌, ap, add-one, arith}
use Rattle.std.specs.Int.Bits.{bit_xor}
use Rattle.std.proofs.lemmas.Nat.Bits.{bit_at_above}
use Rattle.std.proofs.lemmas.Nat.{div-add-mod', pow_pos}
use Rattle.std.proofs.Math.Nat.{mod-lt}
use Rattle.std.proofs.Math.Seq.{take-suc}
use Rattle.std.proofs.lemmas.Bool.{cases_lt}
use Rattle.std.proofs.lemmas.List.{map-append, append-nil}
use Rattle.kc_base.specs.Bits.{bit}
use Rattle.kc_base.specs.declared.types.Edge.{Edge}
use Rattle.kc_block_spec.specs.Levels.{edges_below, edges_between, edge_at}
use Rattle.kc_block_spec.specs.Touch.{in_state}
use Rattle.kc_block_spec.specs.Leading.{Leads}

pub leads_on : {O : Type 0} (led : O → ℕ → Edge → O → Type 0) (o q p : O) (xs ys : List (ℕ × Edge)) → Leads led o xs q → Leads led q ys p → Leads led o (xs ++ ys) p
leads_on led o q p [] ys first then = subst (λ z. Leads led z ys p) (sym first) then
leads_on led o q p (x ∷ xs) ys first then = (first.0, (first.1.0, leads_on led first.0 q p xs ys first.1.1 then))

-- the edges of one pin more
pub edges_next : (old new pin t : ℕ) → in_state t (edges_below old new (pin + 1)) ≡ in_state t (edges_below old new pin) ++ in_state t (edge_at old new pin)
unfolding edges_below
edges_next old new pin t =
    ap (λ n. in_state t (edges_below old new n)) (add-one pin)
    ∙ map-append (λ edge. (t, edge)) (edges_below old new pin) (edge_at old new pin)

-- one edge more of a list
pub edges_taken : (es : List Edge) (k t : ℕ) (d : Edge) → k < length es → in_state t (take (k + 1) es) ≡ in_state t (take k es) ++ (t, get_or es k d) ∷ []
edges_taken es k t d lt =
    ap (λ n. in_state t (take n es)) (add-one k)
    ∙ ap (in_state t) (take-suc es k d lt)
    ∙ map-append (λ edge. (t, edge)) (take k es) (get_or es k d ∷ [])

-- a pin above those that differ
none_at : (old new pin n : ℕ) → bit_xor old new < 2 ^ pin → pin ≤ n → edge_at old new n ≡ []
none_at old new pin n small above =
    let off : bit (bit_xor old new) n ≡ false = ap (λ v. v == 1) (bit_at_above (bit_xor old new) pin n small above) in
    rw off refl

none_from : (old new pin n : ℕ) → bit_xor old new < 2 ^ pin → pin ≤ n → edges_below old new n ≡ edges_below old new pin
unfolding edges_below
none_from old new pin zero small within = let e : 0 ≡ pin = omega (arith, within) in ap (edges_below old new) e
none_from old new pin (suc n) small within = elim (cases_lt n pin) [
  | inl low ↦ let e : suc n ≡ pin = omega (arith, low, within) in ap (edges_below old new) e
  | inr high ↦ rw (none_at old new pin n small high) (append-nil (edges_below old new n) ∙ none_from old new pin n small high)
]

-- a number of which nothing is left when it is shifted
is_small : (x pin : ℕ) → x / 2 ^ pin ≡ 0 → x < 2 ^ pin
is_small x pin none =
    let whole : x / 2 ^ pin * 2 ^ pin + x % 2 ^ pin ≡ x = div-add-mod' x (2 ^ pin) in
    let left : 0 * 2 ^ pin + x % 2 ^ pin ≡ x = subst (λ q. q * 2 ^ pin + x % 2 ^ pin ≡ x) none whole in
    let rest : x % 2 ^ pin ≡ x = omega (arith, left) in
    subst (λ v. v < 2 ^ pin) rest (mod-lt x (pow_pos pin))

-- where nothing differs from a pin on, the edges below it are all of them
pub all_below : (old new pin : ℕ) → pin ≤ 18 → (bit_xor old new) / 2 ^ pin ≡ 0 → edges_below old new pin ≡ edges_between old new
all_below old new pin within none = sym (none_from old new pin 18 (is_small (bit_xor old new) pin none) within)
