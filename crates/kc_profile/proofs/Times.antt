-- The time since a request came is the number of states in a row at whose start it is there.
use Rattle.std.proofs.Common.{◌≡◌, ℕ, ◌+◌, ◌-◌, ◌<◌, ◌≤◌, Bool, true, false, cond, List, [], ◌∷◌, Option, Some, None, refl, sym, ◌∙◌, ap, arith}
use Rattle.std.specs.List.{prefix_len}
use Rattle.std.specs.Option.{unwrap_or}
use Rattle.kc_base.specs.Bits.{bit}
use Rattle.kc_intc.specs.declared.requests.Requests.{Requests}
use Rattle.kc_profile.specs.declared.sight.Sight.{Sight}
use Rattle.kc_profile.specs.Waits.{row, pending, handed, Follows, AreConsecutive, since_after, time_since, came, pending_after, handed_after}

zero-has-none : (n : ℕ) → bit 0 n ≡ false
zero-has-none n = grind arith

module _ (field : Requests → ℕ) (n : ℕ) (none : (r : Requests) → (r.pending ≡ 0) × (r.service ≡ 0) → field r ≡ 0) where
  before : Sight → ℕ
  before s = field s.before

  behind : Sight → ℕ
  behind s = field s.after

  -- a request came in a state before
  came-sooner : (s : Sight) (earlier : List Sight) (r : ℕ) → AreConsecutive s earlier → came (λ (x : Sight). field x.after) n earlier ≡ Some r → r < s.at
  unfolding came AreConsecutive
  came-sooner s [] r h e = absurd (cc e)
  came-sooner s (last ∷ earlier) r h e = by (came (λ (x : Sight). field x.after) n earlier) refl (bit (field last.after) n) refl (λ q g. came-sooner last earlier q h.1 g)
    where
      same : (a b : ℕ) → Some a ≡ Some b → a ≡ b
      same a b i = ap (λ (o : Option ℕ). unwrap_or o 0) i

      by : (o : Option ℕ) → came (λ (x : Sight). field x.after) n earlier ≡ o → (b : Bool) → bit (field last.after) n ≡ b → ((q : ℕ) → came (λ (x : Sight). field x.after) n earlier ≡ Some q → q < last.at) → r < s.at
      by o f false g again = absurd (cc (sym e ∙ ap (λ b. since_after (came (λ (x : Sight). field x.after) n earlier) b last.at) g))
      by None f true g again =
          let is : last.at ≡ r = same last.at r (ap (λ o. since_after o true last.at) (sym f) ∙ ap (λ b. since_after (came (λ (x : Sight). field x.after) n earlier) b last.at) (sym g) ∙ e) in
          omega (arith, h.0.0, is)
      by (Some q) f true g again =
          let is : q ≡ r = same q r (ap (λ o. since_after o true last.at) (sym f) ∙ ap (λ b. since_after (came (λ (x : Sight). field x.after) n earlier) b last.at) (sym g) ∙ e) in
          let sooner : q < last.at = again q f in
          omega (arith, h.0.0, is, sooner)

  pub time-row : (s : Sight) (earlier : List Sight) → AreConsecutive s earlier → time_since (came (λ (x : Sight). field x.after) n earlier) s.at ≡ row (λ (x : Sight). field x.before) n (s ∷ earlier)
  unfolding came AreConsecutive
  time-row s [] h = sym (ap (λ b. cond b (1 + row (λ (x : Sight). field x.before) n []) 0) (ap (λ v. bit v n) (none s.before h) ∙ zero-has-none n))
  time-row s (last ∷ earlier) h = by (came (λ (x : Sight). field x.after) n earlier) refl (bit (field last.after) n) refl (time-row last earlier h.1) (λ q g. came-sooner last earlier q h.1 g)
    where
      own : bit (field s.before) n ≡ bit (field last.after) n
      own = ap (λ (r : Requests). bit (field r) n) h.0.1

      after-last : (o : Option ℕ) (b : Bool) → came (λ (x : Sight). field x.after) n earlier ≡ o → bit (field last.after) n ≡ b → time_since (since_after (came (λ (x : Sight). field x.after) n earlier) (bit (field last.after) n) last.at) s.at ≡ time_since (since_after o b last.at) s.at
      after-last o b f g = ap (λ p. time_since (since_after p (bit (field last.after) n) last.at) s.at) f ∙ ap (λ c. time_since (since_after o c last.at) s.at) g

      rows : (b : Bool) → bit (field last.after) n ≡ b → row (λ (x : Sight). field x.before) n (s ∷ last ∷ earlier) ≡ cond b (1 + row (λ (x : Sight). field x.before) n (last ∷ earlier)) 0
      rows b g = ap (λ c. cond c (1 + row (λ (x : Sight). field x.before) n (last ∷ earlier)) 0) (own ∙ g)

      by : (o : Option ℕ) → came (λ (x : Sight). field x.after) n earlier ≡ o → (b : Bool) → bit (field last.after) n ≡ b
          → time_since (came (λ (x : Sight). field x.after) n earlier) last.at ≡ row (λ (x : Sight). field x.before) n (last ∷ earlier)
          → ((q : ℕ) → came (λ (x : Sight). field x.after) n earlier ≡ Some q → q < last.at)
          → time_since (since_after (came (λ (x : Sight). field x.after) n earlier) (bit (field last.after) n) last.at) s.at ≡ row (λ (x : Sight). field x.before) n (s ∷ last ∷ earlier)
      by None f false g again sooner = after-last None false f g ∙ sym (rows false g)
      by (Some q) f false g again sooner = after-last (Some q) false f g ∙ sym (rows false g)
      by None f true g again sooner =
          let zero : 0 ≡ row (λ (x : Sight). field x.before) n (last ∷ earlier) = ap (λ o. time_since o last.at) (sym f) ∙ again in
          let one : s.at - last.at ≡ 1 + row (λ (x : Sight). field x.before) n (last ∷ earlier) = omega (arith, h.0.0, zero) in
          after-last None true f g ∙ one ∙ sym (rows true g)
      by (Some q) f true g again sooner =
          let so_far : last.at - q ≡ row (λ (x : Sight). field x.before) n (last ∷ earlier) = ap (λ o. time_since o last.at) (sym f) ∙ again in
          let lt : q < last.at = sooner q f in
          let more : s.at - q ≡ 1 + row (λ (x : Sight). field x.before) n (last ∷ earlier) = omega (arith, h.0.0, so_far, lt) in
          after-last (Some q) true f g ∙ more ∙ sym (rows true g)

pub times-rows : (n : ℕ) (s : Sight) (earlier : List Sight) → AreConsecutive s earlier →
    (time_since (came pending_after n earlier) s.at ≡ row pending n (s ∷ earlier)) × (time_since (came handed_after n earlier) s.at ≡ row handed n (s ∷ earlier))
times-rows n s earlier h = (time-row (λ r. r.pending) n (λ r z. z.0) s earlier h, time-row (λ r. r.service) n (λ r z. z.1) s earlier h)
