-- The first of so many addresses that passes a test, from one address on.
use Rattle.std.proofs.Common.{◌≡◌, ℕ, suc, ◌+◌, ◌-◌, ◌<◌, ◌≤◌, Bool, true, false, cond, Some, None, refl, sym, ◌∙◌, ap, subst, arith}
use Rattle.kc_kit_bound.specs.Stops.{first_among}

module _ (test : ℕ → Bool) (a : ℕ) where
  step : a < 0x6000 → first_among test a (0x6000 - a) ≡ cond (test a) (Some a) (first_among test (a + 1) (0x6000 - (a + 1)))
  unfolding first_among
  step less =
      let e : 0x6000 - a ≡ suc (0x6000 - (a + 1)) = omega (arith, less) in
      subst (λ n. first_among test a n ≡ cond (test a) (Some a) (first_among test (a + 1) (0x6000 - (a + 1)))) (sym e) refl

  pub found_here : a < 0x6000 → test a ≡ true → first_among test a (0x6000 - a) ≡ Some a
  found_here less e = step less ∙ ap (λ b. cond b (Some a) (first_among test (a + 1) (0x6000 - (a + 1)))) e

  pub not_here : a < 0x6000 → test a ≡ false → first_among test a (0x6000 - a) ≡ first_among test (a + 1) (0x6000 - (a + 1))
  not_here less e = step less ∙ ap (λ b. cond b (Some a) (first_among test (a + 1) (0x6000 - (a + 1)))) e

  pub none_left : 0x6000 ≤ a → first_among test a (0x6000 - a) ≡ None
  unfolding first_among
  none_left more =
      let e : 0x6000 - a ≡ 0 = omega (arith, more) in
      subst (λ n. first_among test a n ≡ None) (sym e) refl
