-- A state that shows nothing leaves the statistics as they were.
use Rattle.std.proofs.Common.{◌≡◌, ℕ, ◌+◌, ◌<◌, Bool, true, false, cond, not, ◌&&◌, ◌⊎◌, inl, inr, List, [], ◌∷◌, Option, Some, None, refl, sym, ◌∙◌, ap, arith}
use Rattle.std.specs.Prelude.{◌==◌, count_by}
use Rattle.kc_base.specs.Bits.{bit}
use Rattle.kc_intc.specs.declared.requests.Requests.{Requests}
use Rattle.kc_machine_spec.specs.declared.doing.Activity.{Activity}
use Rattle.kc_machine_spec.specs.declared.doing.Activity.TheVariants.{Idles}
use Rattle.kc_profile.specs.declared.sight.Sight.{Sight}
use Rattle.kc_profile.specs.declared.sight.Way.{Way}
use Rattle.kc_profile.specs.declared.sight.Way.TheVariants.{Taken, Passed}
use Rattle.kc_profile.specs.declared.statistics.Depth.{Depth}
use Rattle.kc_profile.specs.declared.spread.Spread.{Spread}
use Rattle.kc_profile.specs.declared.waits.Waits.{Waits}
use Rattle.kc_profile.specs.Spreads.{Dated, spread_of}
use Rattle.kc_profile.specs.Sights.{done, enters, sets_up, is_entry, is_setup, is_done, hits, way, way_of, moves_stack}
use Rattle.kc_profile.specs.Waits.{AreConsecutive, AreWaitsOf, came, is_missed, latencies, latency, missed, moment, pending, pending_after, handed_after, row, services, since_after}
use Rattle.kc_profile.specs.Statistics.{Statistics, AreStatisticsOf, deepest, deeper, depth, goes, is_hit, is_way}
use Rattle.kc_profile.proofs.Seen.{counted-first}

-- a state in which nothing is raised, moved or done
pub record IsQuietSight (s : Sight) : Type 0 where
  pub raised : s.raised.0 ≡ 0
  pub same : s.after ≡ s.before
  pub ends : (s.ends ≡ None) ⊎ (s.ends ≡ Some Idles)
  pub stack : s.next_stack ≡ s.stack

zero-has-none : (n : ℕ) → bit 0 n ≡ false
zero-has-none n = grind arith

since-again : (o : Option ℕ) (b : Bool) (at later : ℕ) → since_after (since_after o b at) b later ≡ since_after o b at
since-again o false at later = refl
since-again None true at later = refl
since-again (Some since) true at later = refl

-- since when a request is there does not change where its sets do not
came-kept : (field : Requests → ℕ) (n : ℕ) (none : (r : Requests) → (r.pending ≡ 0) × (r.service ≡ 0) → field r ≡ 0) (s : Sight) (sights : List Sight) → AreConsecutive s sights → s.after ≡ s.before →
    came (λ (x : Sight). field x.after) n (s ∷ sights) ≡ came (λ (x : Sight). field x.after) n sights
unfolding came AreConsecutive
came-kept field n none s [] h same = ap (λ (r : Requests). since_after None (bit (field r) n) s.at) same ∙ ap (λ v. since_after None (bit v n) s.at) (none s.before h) ∙ ap (λ b. since_after None b s.at) (zero-has-none n)
came-kept field n none s (last ∷ earlier) h same =
    ap (λ (r : Requests). since_after (came (λ (x : Sight). field x.after) n (last ∷ earlier)) (bit (field r) n) s.at) (same ∙ h.0.1)
    ∙ since-again (came (λ (x : Sight). field x.after) n earlier) (bit (field last.after) n) last.at s.at

-- what ends there is none of these
not-done : (b : Bool) (o : Option Activity) → (o ≡ None) ⊎ (o ≡ Some Idles) → (cond b None o ≡ None) ⊎ (cond b None o ≡ Some Idles)
not-done true o h = inl refl
not-done false o h = h

entry-not : (n : ℕ) (o : Option Activity) → (o ≡ None) ⊎ (o ≡ Some Idles) → is_entry n o ≡ false
entry-not n o (inl e) = ap (is_entry n) e
entry-not n o (inr e) = ap (is_entry n) e

setup-not : (n : ℕ) (o : Option Activity) → (o ≡ None) ⊎ (o ≡ Some Idles) → is_setup n o ≡ false
setup-not n o (inl e) = ap (is_setup n) e
setup-not n o (inr e) = ap (is_setup n) e

done-not : (o : Option Activity) → (o ≡ None) ⊎ (o ≡ Some Idles) → is_done o ≡ false
done-not o (inl e) = ap is_done e
done-not o (inr e) = ap is_done e

way-not : (o : Option Activity) (pc next : ℕ) → (o ≡ None) ⊎ (o ≡ Some Idles) → way_of o pc next ≡ None
way-not o pc next (inl e) = ap (λ x. way_of x pc next) e
way-not o pc next (inr e) = ap (λ x. way_of x pc next) e

-- a state that is not counted
not-counted : (p : Sight → Bool) (s : Sight) (sights : List Sight) → p s ≡ false → count_by p sights ≡ count_by p (s ∷ sights)
not-counted p s sights off =
    let none : cond {A = ℕ} (p s) 1 0 + count_by p sights ≡ 0 + count_by p sights = ap (λ b. cond {A = ℕ} b 1 0 + count_by p sights) off in
    let e : count_by p sights ≡ 0 + count_by p sights = omega arith in
    e ∙ sym none ∙ sym (counted-first p s sights)

waits-kept : (n life : ℕ) (s : Sight) (sights : List Sight) (w : Waits) → AreConsecutive s sights → IsQuietSight s → AreWaitsOf n life sights w → AreWaitsOf n life (s ∷ sights) w
unfolding latencies services
waits-kept n life s sights w h quiet k =
    let ends = not-done s.is_broken s.ends quiet.ends in
    let raised : is_missed n s ≡ false = ap (λ v. bit v n && bit s.before.pending n) quiet.raised ∙ ap (λ b. b && bit s.before.pending n) (zero-has-none n) in
    record {
      pending = k.pending ∙ sym (came-kept (λ r. r.pending) n (λ r z. z.0) s sights h quiet.same);
      handed = k.handed ∙ sym (came-kept (λ r. r.service) n (λ r z. z.1) s sights h quiet.same);
      latency = k.latency ∙ ap spread_of (sym (ap (λ b. cond b ((latency n (s ∷ sights), moment life s) ∷ latencies n life sights) (latencies n life sights)) (entry-not n (done s) ends)));
      served = k.served ∙ ap spread_of (sym (ap (λ b. cond b ((row pending n (s ∷ sights), moment life s) ∷ services n life sights) (services n life sights)) (setup-not n (done s) ends)));
      missed = k.missed ∙ not-counted (is_missed n) s sights raised;
    }

same-stack : (a b : ℕ) → a ≡ b → not (a == b) ≡ false
same-stack a b e = grind (arith, e)

deepest-kept : (life : ℕ) (s : Sight) (sights : List Sight) → moves_stack s ≡ false → deepest life sights ≡ deepest life (s ∷ sights)
unfolding deepest
deepest-kept life s sights off = sym (ap (λ b. cond b (Some (deeper (deepest life sights) (depth life s))) (deepest life sights)) off)

pub statistics-kept : (life : ℕ) (s : Sight) (sights : List Sight) (t : Statistics) → AreConsecutive s sights → IsQuietSight s → AreStatisticsOf life sights t → AreStatisticsOf life (s ∷ sights) t
statistics-kept life s sights t h quiet k =
    let ends = not-done s.is_broken s.ends quiet.ends in
    let no-hit : (addr : ℕ) → is_hit addr s ≡ false = λ addr. ap (λ b. b && s.pc == addr) (done-not s.ends quiet.ends) in
    let no-way : (w : Way) (addr : ℕ) → is_way w addr s ≡ false = λ w addr. ap (λ o. goes o w && s.pc == addr) (way-not (done s) s.pc s.next_pc ends) in
    record {
      whole = k.whole;
      waits = λ n below. waits-kept n life s sights _ h quiet (k.waits n below);
      deepest = k.deepest ∙ deepest-kept life s sights (same-stack s.next_stack s.stack quiet.stack);
      hits = λ addr. k.hits addr ∙ not-counted (is_hit addr) s sights (no-hit addr);
      taken = λ addr. k.taken addr ∙ not-counted (is_way Taken addr) s sights (no-way Taken addr);
      passed = λ addr. k.passed addr ∙ not-counted (is_way Passed addr) s sights (no-way Passed addr);
    }
