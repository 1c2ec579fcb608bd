-- The sets of the requests that are served, and the tests that pick them.
use Rattle.std.proofs.Common.{◌≡◌, ℕ, zero, suc, ◌<◌, ◌^◌, ◌&&◌, ◌||◌, Bool, true, false, refl, ap, ◌∙◌, arith}
use Rattle.std.specs.Prelude.{bit_and, bit_or}
use Rattle.std.specs.Int.{w16, bit_not}
use Rattle.kc_base.specs.Limits.{transfer_count}
use Rattle.kc_base.specs.Bits.{bit}
use Rattle.kc_base.proofs.BitLemmas.{bit_both, bit_either, bit_missing}
use Rattle.kc_intc.specs.declared.requests.Requests.{Requests}
use Rattle.kc_intc.specs.Choosing.{greatest, wants_cycle, wants_entry}

greatest_same : (a b : ℕ → Bool) (n : ℕ) → ((k : ℕ) → k < n → a k ≡ b k) → greatest a n ≡ greatest b n
unfolding greatest
greatest_same a b zero same = refl
greatest_same a b (suc n) same =
    let rest : greatest a n ≡ greatest b n = greatest_same a b n (λ k within. same k (omega (arith, within))) in
    rw (same n (omega arith), rest) refl

grouped : (a b c : Bool) → ((a && b) && c) ≡ (a && (b && c))
grouped true b c = refl
grouped false b c = refl

-- the requests that the transfer server serves
pub cycles : (r : Requests) → greatest (bit (bit_and (bit_and r.pending r.mask) r.select)) 15 ≡ greatest (wants_cycle r) 15
cycles r = greatest_same (bit (bit_and (bit_and r.pending r.mask) r.select)) (wants_cycle r) 15 each
  where
    each : (k : ℕ) → k < transfer_count → bit (bit_and (bit_and r.pending r.mask) r.select) k ≡ wants_cycle r k
    each k within =
        bit_both (bit_and r.pending r.mask) r.select k
        ∙ ap (λ b. b && bit r.select k) (bit_both r.pending r.mask k)
        ∙ grouped (bit r.pending k) (bit r.mask k) (bit r.select k)

-- the requests that are entered
pub entries : (r : Requests) → r.select < 2 ^ 16 →
    greatest (bit (bit_and r.mask (bit_or r.service (bit_and r.pending (bit_not w16 r.select))))) 15 ≡ greatest (wants_entry r) 15
entries r small = greatest_same (bit (bit_and r.mask (bit_or r.service (bit_and r.pending (bit_not w16 r.select))))) (wants_entry r) 15 each
  where
    each : (k : ℕ) → k < transfer_count → bit (bit_and r.mask (bit_or r.service (bit_and r.pending (bit_not w16 r.select)))) k ≡ wants_entry r k
    each k within =
        bit_both r.mask (bit_or r.service (bit_and r.pending (bit_not w16 r.select))) k
        ∙ ap (λ b. bit r.mask k && b) (bit_either r.service (bit_and r.pending (bit_not w16 r.select)) k)
        ∙ ap (λ b. bit r.mask k && (bit r.service k || b)) (bit_both r.pending (bit_not w16 r.select) k)
        ∙ ap (λ b. bit r.mask k && (bit r.service k || (bit r.pending k && b))) (bit_missing r.select k small (omega (arith, within)))
