-- Statistics after a state are those before it, and what the state shows.
use Rattle.std.proofs.Common.{◌≡◌, ℕ, ◌+◌, Bool, true, false, cond, List, [], ◌∷◌, ◌++◌, Option, Some, None, refl, sym, ◌∙◌, ap, arith}
use Rattle.std.specs.Prelude.{count_by}
use Rattle.std.proofs.lemmas.List.Sums.{sum_by-append}
use Rattle.kc_profile.specs.declared.sight.Sight.{Sight}
use Rattle.kc_profile.specs.declared.spread.Spread.{Spread}
use Rattle.kc_profile.specs.declared.waits.Waits.{Waits}
use Rattle.kc_profile.specs.Spreads.{Dated, spread_of, with_number}
use Rattle.kc_base.specs.Bits.{bit}
use Rattle.kc_profile.specs.Sights.{enters, sets_up}
use Rattle.kc_profile.specs.Waits.{row, pending, handed, latency, latencies, services, moment, missed, is_missed, one_if, came, pending_after, handed_after, since_after, time_since, AreConsecutive, AreWaitsOf, wait_of_entry, see}
use Rattle.kc_profile.proofs.Times.{times-rows}

pub counted-first : (p : Sight → Bool) (s : Sight) (ss : List Sight) → count_by p (s ∷ ss) ≡ cond (p s) 1 0 + count_by p ss
counted-first p s ss =
    let one : 0 + cond {A = ℕ} (p s) 1 0 ≡ cond (p s) 1 0 = omega arith in
    sum_by-append (λ (x : Sight). cond (p x) 1 0) (s ∷ []) ss ∙ ap (λ (n : ℕ). n + count_by p ss) one

-- one number more, where there is one
spread-more : (b : Bool) (number statistics : ℕ) (w : Option Spread) (s : Sight) (life : ℕ) (numbers : List Dated) → w ≡ spread_of numbers → statistics ≡ number →
    cond b (Some (with_number statistics (moment life s) w)) w ≡ spread_of (cond b ((number, moment life s) ∷ numbers) numbers)
unfolding spread_of
spread-more false number statistics w s life numbers e same = e
spread-more true number statistics w s life numbers e same = ap (λ o. Some (with_number statistics (moment life s) o)) e ∙ ap (λ k. Some (with_number k (moment life s) (spread_of numbers))) same

pub waits-seen : (n life : ℕ) (s : Sight) (sights : List Sight) (w : Waits) → AreConsecutive s sights → AreWaitsOf n life sights w → AreWaitsOf n life (s ∷ sights) (see n life s w)
unfolding came latencies services
waits-seen n life s sights w h k =
    let times = times-rows n s sights h in
    let pended : time_since w.waiting.pending s.at ≡ row pending n (s ∷ sights) = ap (λ o. time_since o s.at) k.pending ∙ times.0 in
    let served : time_since w.waiting.handed s.at ≡ row handed n (s ∷ sights) = ap (λ o. time_since o s.at) k.handed ∙ times.1 in
    let waited : wait_of_entry n s w.waiting ≡ latency n (s ∷ sights) =
    ap (λ t. cond (bit s.before.service n) t (time_since w.waiting.pending s.at)) served ∙ ap (λ t. cond (bit s.before.service n) (row handed n (s ∷ sights)) t) pended in
    let count = counted-first (is_missed n) s sights in
    let so_many = k.missed in
    record {
      pending = ap (λ o. since_after o (bit s.after.pending n) s.at) k.pending;
      handed = ap (λ o. since_after o (bit s.after.service n) s.at) k.handed;
      latency = spread-more (enters n s) (latency n (s ∷ sights)) (wait_of_entry n s w.waiting) w.latency s life (latencies n life sights) k.latency waited;
      served = spread-more (sets_up n s) (row pending n (s ∷ sights)) (time_since w.waiting.pending s.at) w.served s life (services n life sights) k.served pended;
      missed = (let e : w.missed + one_if (is_missed n s) ≡ one_if (is_missed n s) + missed n sights = omega (arith, so_many) in e ∙ sym count);
    }
