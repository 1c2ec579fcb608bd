-- A request that is pending has waited since the state in which it came.
use Rattle.std.proofs.Common.{◌≡◌, ℕ, ◌+◌, ◌-◌, ◌<◌, Bool, true, false, cond, List, [], ◌∷◌, ◌++◌, All, refl, sym, ◌∙◌, ap, arith}
use Rattle.std.specs.List.{prefix_len}
use Rattle.std.proofs.lemmas.List.Elements.{All-nil, All-cons}
use Rattle.kc_base.specs.Bits.{bit}
use Rattle.kc_intc.specs.declared.requests.Requests.{Requests}
use Rattle.kc_profile.specs.declared.sight.Sight.{Sight}
use Rattle.kc_profile.specs.Waits.{pending, row, AreConsecutive, Came}

zero-has-none : (n : ℕ) → bit 0 n ≡ false
zero-has-none n = grind arith

row-on : (n : ℕ) (s : Sight) (earlier : List Sight) → bit s.before.pending n ≡ true → row pending n (s ∷ earlier) ≡ 1 + row pending n earlier
row-on n s earlier is = ap (λ b. cond b (1 + row pending n earlier) 0) is

row-off : (n : ℕ) (s : Sight) (earlier : List Sight) → bit s.before.pending n ≡ false → row pending n (s ∷ earlier) ≡ 0
row-off n s earlier is = ap (λ b. cond b (1 + row pending n earlier) 0) is

pub since-came : (n : ℕ) (s : Sight) (earlier : List Sight) → AreConsecutive s earlier → bit s.before.pending n ≡ true → Came n s earlier
unfolding AreConsecutive
since-came n s [] h is = absurd (cc (sym is ∙ ap (λ v. bit v n) h.0 ∙ zero-has-none n))
since-came n s (last ∷ earlier) h is = by (bit last.before.pending n) refl (λ on. since-came n last earlier h.1 on)
  where
    then : bit last.after.pending n ≡ true
    then = ap (λ (r : Requests). bit r.pending n) (sym h.0.1) ∙ is

    by : (b : Bool) → bit last.before.pending n ≡ b → (bit last.before.pending n ≡ true → Came n last earlier) → Came n s (last ∷ earlier)
    by false off again =
        let one : row pending n (last ∷ earlier) ≡ 0 = row-off n last earlier off in
        let all : row pending n (s ∷ last ∷ earlier) ≡ 1 + row pending n (last ∷ earlier) = row-on n s (last ∷ earlier) is in
        record {
          came = last;
          since = [];
          before = earlier;
          stands = refl;
          was_not = off;
          is_then = then;
          stays = All-nil (λ (r : Sight). bit r.before.pending n ≡ true);
          sooner = omega (arith, h.0.0);
          waited = omega (arith, h.0.0, one, all);
        }
    by true on again =
        let c : Came n last earlier = again on in
        let all : row pending n (s ∷ last ∷ earlier) ≡ 1 + row pending n (last ∷ earlier) = row-on n s (last ∷ earlier) is in
        record {
          came = c.came;
          since = last ∷ c.since;
          before = c.before;
          stands = ap (λ l. last ∷ l) c.stands;
          was_not = c.was_not;
          is_then = c.is_then;
          stays = All-cons (λ (r : Sight). bit r.before.pending n ≡ true) last c.since on c.stays;
          sooner = omega (arith, h.0.0, c.sooner);
          waited = omega (arith, h.0.0, c.sooner, c.waited, all);
        }
