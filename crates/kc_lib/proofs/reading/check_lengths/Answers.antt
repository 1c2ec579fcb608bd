use Rattle.std.proofs.Common.{◌≡◌, ◌∙◌, ◌+◌, ◌-◌, ◌<◌, ◌≤◌, suc, sym, ap, subst, List, ℕ, drop, length, arith}
use Rattle.std.proofs.lemmas.Bool.{eqb-true, eqb-false}
use Rattle.std.proofs.lemmas.List.{length-drop}
use Rattle.kc_lib.specs.Reading.{member_size, lengths_fault}
use Rattle.kc_lib.proofs.ReadingLemmas.{lengths_next, lengths_stop, lengths_done, lengths_behind}
use Rattle.kc_lib.proofs.reading.check_lengths.Goals as goal

pub returns-then-left-size : goal.returns-then-left-size
returns-then-left-size c =
    let n = c.args.count in
    let i = c.loop-member._member in
    let rest = c.loop-member.left.now in
    let more : n - i ≡ suc (n - (i + 1)) = omega (arith, c.loop-member-test.true) in
    let short : length rest < member_size rest = subst (λ k. length rest < k) c.member_size-size.ensures c.if-left-size.true in
    sym c.loop-member.invariant.same ∙ lengths_stop _ (n - i) (n - (i + 1)) rest more short

pub loop-member-preserved : goal.loop-member-preserved
loop-member-preserved c =
    let n = c.args.count in
    let i = c.loop-member._member in
    let rest = c.loop-member.left.now in
    let all = length c.args.bytes.now in
    let more : n - i ≡ suc (n - (i + 1)) = omega (arith, c.loop-member-test.true) in
    let whole : member_size rest ≤ length rest = subst (λ k. k ≤ length rest) c.member_size-size.ensures c.if-left-size.false in
    let left : c.after-left-in-loop-member.result.now ≡ drop (member_size rest) rest = c.after-left-in-loop-member.ensures ∙ ap (λ (k : ℕ). drop k rest) c.member_size-size.ensures in
    record {
      within = subst (λ (l : List ℕ). length l ≤ all) (sym left) (omega (arith, length-drop (member_size rest) rest, c.loop-member.invariant.within));
      same = ap (lengths_fault all (n - (i + 1))) left ∙ sym (lengths_next all (n - i) (n - (i + 1)) rest more whole) ∙ c.loop-member.invariant.same;
    }

pub returns-then-is_empty : goal.returns-then-is_empty
returns-then-is_empty c =
    let rest = c.loop-member.left.now in
    let none : c.args.count - c.loop-member._member ≡ 0 = omega (arith, c.loop-member-test.false) in
    let empty : length rest ≡ 0 = eqb-true (length rest) 0 (sym c.is_empty.ensures ∙ c.if-is_empty.true) in
    sym c.loop-member.invariant.same ∙ lengths_done (length c.args.bytes.now) _ rest none empty

pub returns-else-is_empty : goal.returns-else-is_empty
returns-else-is_empty c =
    let rest = c.loop-member.left.now in
    let none : c.args.count - c.loop-member._member ≡ 0 = omega (arith, c.loop-member-test.false) in
    sym c.loop-member.invariant.same ∙ lengths_behind (length c.args.bytes.now) _ rest none (eqb-false (length rest) 0 (sym c.is_empty.ensures ∙ c.if-is_empty.false))
