use Rattle.std.proofs.Common.{◌≡◌, ◌∙◌, ◌+◌, ◌-◌, ◌≤◌, ◌∷◌, ◌++◌, [], suc, sym, ap, subst, List, ℕ, Ok, Err, Result, drop, take, length, arith}
use Rattle.std.proofs.lemmas.List.{length-drop, length-take-le}
use Rattle.std.specs.Global.{Vec}
use Rattle.std.specs.Result.{IsErrAnd}
use Rattle.kc_obj_module.specs.Object.{Object}
use Rattle.kc_lib.specs.declared.faults.LibFault.{LibFault}
use Rattle.kc_lib.specs.Answers.{IsCause, AreRead}
use Rattle.kc_lib.specs.Reading.{member_size, object_in, member_of, lengths_fault, members}
use Rattle.kc_lib.proofs.ReadingLemmas.{cause_by, lengths_whole, members_next, members_stop, members_done}
use Rattle.kc_lib.proofs.reading.read_members.Goals as goal

-- the fault that `?` hands on
reported_on : (r : Result (Vec Object) LibFault) (fault : LibFault) (answer : Result (List Object) LibFault) → IsErrAnd r (λ reported. reported ≡ fault) → IsCause fault (answer ≡ Err fault) → AreRead r answer
reported_on (Ok ms) fault answer is h = absurd is
reported_on (Err reported) fault answer is h = subst (λ (f : LibFault). IsCause f (answer ≡ Err f)) (sym is) h

pub prefix-requires : goal.prefix-requires
prefix-requires c =
    let n = c.args.count in
    let i = c.loop-member._member in
    let rest = c.loop-member.left.now in
    let more : n - i ≡ suc (n - (i + 1)) = omega (arith, c.loop-member-test.true) in
    let whole = (lengths_whole _ (n - i) (n - (i + 1)) rest more c.loop-member.invariant.whole).0 in
    subst (λ k. k ≤ length rest) (sym c.member_size-size.ensures) whole

pub after-object-requires : goal.after-object-requires
after-object-requires c =
    let n = c.args.count in
    let i = c.loop-member._member in
    let rest = c.loop-member.left.now in
    let more : n - i ≡ suc (n - (i + 1)) = omega (arith, c.loop-member-test.true) in
    let whole = (lengths_whole _ (n - i) (n - (i + 1)) rest more c.loop-member.invariant.whole).0 in
    let prefix : c.prefix.result.now ≡ take (member_size rest) rest = c.prefix.ensures ∙ ap (λ (k : ℕ). take k rest) c.member_size-size.ensures in
    let size : length c.prefix.result.now ≡ member_size rest = ap (λ (l : List ℕ). length l) prefix ∙ length-take-le (member_size rest) rest whole in
    omega (arith, size)

pub returns-in_err-member : goal.returns-in_err-member
returns-in_err-member c =
    let n = c.args.count in
    let i = c.loop-member._member in
    let k = n - (i + 1) in
    let rest = c.loop-member.left.now in
    let all = length c.args.bytes.now in
    let before = c.loop-member.members.items in
    let fault = c.in_err-member.field-0.0 in
    let more : n - i ≡ suc k = omega (arith, c.loop-member-test.true) in
    let object : c.after-object.result.now ≡ object_in rest = c.after-object.ensures ∙ ap (λ (l : List ℕ). drop 4 l) (c.prefix.ensures ∙ ap (λ (j : ℕ). take j rest) c.member_size-size.ensures) in
    let at = all - length rest in
    reported_on c.from_residual.result fault (members all n [] (drop 4 c.args.bytes.now)) c.from_residual.ensures.1
    (cause_by fault (member_of at before c.after-object.result.now ≡ Err fault) (members all n [] (drop 4 c.args.bytes.now) ≡ Err fault)
    (λ wrong. sym c.loop-member.invariant.same ∙ members_stop all (n - i) k before rest fault more (subst (λ (o : List ℕ). member_of at before o ≡ Err fault) object wrong))
    (c.in_err-member.ensures before c.loop-member.invariant.knows))

pub after-left-requires-in-loop-member : goal.after-left-requires-in-loop-member
after-left-requires-in-loop-member c =
    let n = c.args.count in
    let i = c.loop-member._member in
    let rest = c.loop-member.left.now in
    let more : n - i ≡ suc (n - (i + 1)) = omega (arith, c.loop-member-test.true) in
    let whole = (lengths_whole _ (n - i) (n - (i + 1)) rest more c.loop-member.invariant.whole).0 in
    subst (λ k. k ≤ length rest) (sym c.member_size-size.ensures) whole

pub loop-member-preserved : goal.loop-member-preserved
loop-member-preserved c =
    let n = c.args.count in
    let i = c.loop-member._member in
    let k = n - (i + 1) in
    let rest = c.loop-member.left.now in
    let all = length c.args.bytes.now in
    let before = c.loop-member.members.items in
    let m = c.in_ok-member.member in
    let more : n - i ≡ suc k = omega (arith, c.loop-member-test.true) in
    let whole = lengths_whole all (n - i) k rest more c.loop-member.invariant.whole in
    let left : c.after-left-in-loop-member.result.now ≡ drop (member_size rest) rest = c.after-left-in-loop-member.ensures ∙ ap (λ (j : ℕ). drop j rest) c.member_size-size.ensures in
    let object : c.after-object.result.now ≡ object_in rest = c.after-object.ensures ∙ ap (λ (l : List ℕ). drop 4 l) (c.prefix.ensures ∙ ap (λ (j : ℕ). take j rest) c.member_size-size.ensures) in
    let ok : member_of (all - length rest) before (object_in rest) ≡ Ok m =
    subst (λ (o : List ℕ). member_of (all - length rest) before o ≡ Ok m) object (c.in_ok-member.ensures before c.loop-member.invariant.knows) in
    record {
      within = subst (λ (l : List ℕ). length l ≤ all) (sym left) (omega (arith, length-drop (member_size rest) rest, c.loop-member.invariant.within));
      whole = ap (lengths_fault all k) left ∙ whole.1;
      knows = c.in_ok-keep.ensures.names c.loop-member.invariant.knows;
      same =
          ap (λ (b : List Object). members all k b c.after-left-in-loop-member.result.now) c.in_ok-keep.ensures.items
          ∙ (ap (members all k (before ++ m ∷ [])) left ∙ (sym (members_next all (n - i) k before rest m more ok) ∙ c.loop-member.invariant.same));
    }

pub returns : goal.returns
returns c =
    let none : c.args.count - c.loop-member._member ≡ 0 = omega (arith, c.loop-member-test.false) in
    sym c.loop-member.invariant.same ∙ members_done (length c.args.bytes.now) _ c.loop-member.members.items c.loop-member.left.now none
