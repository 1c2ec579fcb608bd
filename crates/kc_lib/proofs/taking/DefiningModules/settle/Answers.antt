use Rattle.std.proofs.Common.{◌≡◌, ◌<◌, ◌∙◌, sym, ap, subst, List, Some, length, set, refl, arith}
use Rattle.std.specs.Prelude.{slice_get}
use Rattle.std.proofs.lemmas.Option.{slice_get_read, slice_get_within}
use Rattle.kc_obj_module.specs.declared.parts.Taken.{Taken}
use Rattle.kc_lib.specs.declared.taking.Standing.{Standing}
use Rattle.kc_lib.specs.declared.taking.Standing.TheVariants.{Called, Settled}
use Rattle.kc_lib.specs.Standings.{called_all, IsUnderWay}
use Rattle.kc_lib.proofs.StandingLemmas.{settled_work, one_called, none_called, under_way_next, found_least}
use Rattle.kc_lib.proofs.taking.DefiningModules.settle.Goals as goal

pub loop-number-smaller : goal.loop-number-smaller
loop-number-smaller c =
    let st = c.loop-number.standings in
    let n = c.in-Some.number in
    let here : slice_get st n ≡ Some Called = one_called st n (sym c.first_called.ensures ∙ c.in-Some.is) in
    settled_work st c.call_all.new.standings n here c.call_all.ensures.work

pub loop-number-preserved : goal.loop-number-preserved
loop-number-preserved c = λ modules given held once way.
    let members = c.args.members.now in
    let st = c.loop-number.standings in
    let n = c.in-Some.number in
    let m = c.index-members-number.result in
    let here : slice_get st n ≡ Some Called = one_called st n (sym c.first_called.ensures ∙ c.in-Some.is) in
    let long : length st ≡ length members = c.loop-number.auto.standings ∙ c.requires in
    let within : n < length members = omega (arith, long, slice_get_within st n Called here) in
    let there : slice_get members n ≡ Some m = slice_get_read members (length members) n m refl within c.index-members-number.is in
    let called : c.call_all.new.standings ≡ called_all modules members m.externals (set st n Settled) =
    c.call_all.ensures.called modules members given held ∙ ap (λ (ts : List Taken). called_all modules members ts (set st n Settled)) c.externals.ensures in
    subst (λ (new : List Standing). IsUnderWay modules members new) (sym called) (under_way_next modules members st n m once long here there (c.loop-number.invariant modules given held once way))

pub returns : goal.returns
returns c = λ modules given held once way.
    found_least modules c.args.members.now c.loop-number.standings (λ n. none_called c.loop-number.standings n (sym c.first_called.ensures ∙ c.in_default.is)) (c.loop-number.invariant modules given held once way)
