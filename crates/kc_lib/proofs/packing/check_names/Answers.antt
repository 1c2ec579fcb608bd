use Rattle.std.proofs.Common.{◌≡◌, ◌∙◌, sym, None, Some, ap, take, length, arith}
use Rattle.std.proofs.lemmas.List.{length-take-le}
use Rattle.kc_lib.specs.Names.{second_of}
use Rattle.kc_lib.proofs.GiverLemmas.{knows_next}
use Rattle.kc_lib.proofs.NameLemmas.{doubled_step, doubled_stop, doubled_end}
use Rattle.kc_lib.proofs.packing.check_names.Goals as goal

pub returns-in-Some : goal.returns-in-Some
returns-in-Some c =
    let ms = c.args.modules.now in
    let n = c.loop-number.number in
    let m = c.index-modules-number.result in
    let reported : second_of (take n ms) m.publics ≡ Some c.in_ok-of.field-0 =
    ap (second_of (take n ms)) (sym c.publics.ensures) ∙ (sym (c.in-Some.ensures (take n ms) c.loop-number.invariant.knows) ∙ ap (λ t. Some t) (sym (c.in_ok-of.ensures ∙ c.as_slice.ensures))) in
    sym c.loop-number.invariant.same ∙ doubled_stop ms n m _ c.loop-number-test.true c.index-modules-number.is reported

pub loop-number-preserved : goal.loop-number-preserved
loop-number-preserved c =
    let ms = c.args.modules.now in
    let n = c.loop-number.number in
    let m = c.index-modules-number.result in
    let none : second_of (take n ms) m.publics ≡ None = ap (second_of (take n ms)) (sym c.publics.ensures) ∙ sym (c.in_default.ensures (take n ms) c.loop-number.invariant.knows) in
    let size : n ≡ length (take n ms) = sym (length-take-le n ms (omega arith)) in
    record {
      knows = knows_next _ ms n m c.loop-number-test.true c.index-modules-number.is (c.in_ok-add.ensures (take n ms) size c.loop-number.invariant.knows);
      same = sym (doubled_step ms n m c.loop-number-test.true c.index-modules-number.is none) ∙ c.loop-number.invariant.same;
    }

pub returns : goal.returns
returns c = sym c.loop-number.invariant.same ∙ doubled_end _ c.args.modules.now c.loop-number.number c.loop-number-test.false
