use Rattle.std.proofs.Common.{◌≡◌, ℕ, ◌+◌, ◌<◌, Bool, true, false, get_or, List, refl, subst, arith}
use Rattle.std.specs.Prelude.{nat_lt}
use Rattle.std.proofs.lemmas.Bool.Decides.{nat_tests}
use Rattle.std.proofs.lemmas.List.{get_or_read}
use Rattle.std.proofs.lemmas.Option.{slice_get_within, get_or_from_slice_get}
use Rattle.kc_obj_module.specs.Object.{Object}
use Rattle.kc_obj_module.specs.Rules.{is_module}
use Rattle.kc_link.proofs.linking.keep_rules.Goals as goal

one_more : (ms : List Object) (i : ℕ) → ((k : ℕ) (d : Object) → k < i → is_module (get_or ms k d) ≡ true) → ((d : Object) → is_module (get_or ms i d) ≡ true) → (k : ℕ) (d : Object) → k < i + 1 → is_module (get_or ms k d) ≡ true
one_more ms i below here k d l = by (nat_lt k i) refl
  where
    by : (t : Bool) → nat_lt k i ≡ t → is_module (get_or ms k d) ≡ true
    by true e = below k d (grind (arith, nat_tests, e))
    by false e =
        let q : i ≡ k = grind (arith, nat_tests, e, l) in
        subst (λ (n : ℕ). is_module (get_or ms n d) ≡ true) q (here d)

pub loop-module-preserved : goal.loop-module-preserved
loop-module-preserved c = one_more c.args.modules.now c.loop-module.module-index c.loop-module.invariant (λ d.
    let e = get_or_read c.args.modules.now c.loop-module.module-index c.module-item.result c.loop-module-test.true c.module-item.is d in
    subst (λ (m : Object). is_module m ≡ true) e c.keeps_rules.ensures)

pub returns : goal.returns
returns c = λ i m e.
    let l = slice_get_within c.args.modules.now i m e in
    let q = get_or_from_slice_get c.args.modules.now i m m e in
    subst (λ (x : Object). is_module x ≡ true) q (c.loop-module.invariant i m (omega (arith, l)))
