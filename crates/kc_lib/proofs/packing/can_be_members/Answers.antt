use Rattle.std.proofs.Common.{◌≡◌, ℕ, ◌+◌, ◌<◌, Bool, true, false, get_or, List, refl, subst, arith}
use Rattle.std.specs.Prelude.{nat_lt}
use Rattle.std.proofs.lemmas.Bool.Decides.{nat_tests}
use Rattle.std.proofs.lemmas.List.{get_or_read}
use Rattle.kc_obj_module.specs.Object.{Object}
use Rattle.kc_lib.specs.Format.{IsMember}
use Rattle.kc_lib.proofs.packing.can_be_members.Goals as goal

one_more : (ms : List Object) (i : ℕ) → ((k : ℕ) (d : Object) → k < i → IsMember (get_or ms k d)) → ((d : Object) → IsMember (get_or ms i d)) → (k : ℕ) (d : Object) → k < i + 1 → IsMember (get_or ms k d)
one_more ms i below here k d l = by (nat_lt k i) refl
  where
    by : (t : Bool) → nat_lt k i ≡ t → IsMember (get_or ms k d)
    by true e = below k d (grind (arith, nat_tests, e))
    by false e =
        let q : i ≡ k = grind (arith, nat_tests, e, l) in
        subst (λ (n : ℕ). IsMember (get_or ms n d)) q (here d)

pub loop-module-preserved : goal.loop-module-preserved
loop-module-preserved c = one_more c.args.modules.now c.loop-module.module-index c.loop-module.invariant (λ d.
    let e = get_or_read c.args.modules.now c.loop-module.module-index c.module-item.result c.loop-module-test.true c.module-item.is d in
    let fits = c.requires c.loop-module.module-index c.module-item.result c.loop-module-test.true in
    subst IsMember e (record {
      is_object = record { sound = c.keeps_rules.ensures; numbers = c.has_room.ensures; spelled = refl };
      fits = rw c.module-item.is fits;
    }))

pub returns : goal.returns
returns c = λ k d l. c.loop-module.invariant k d (omega (arith, l))
