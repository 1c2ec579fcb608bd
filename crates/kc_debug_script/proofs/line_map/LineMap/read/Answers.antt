use Rattle.std.proofs.Common.{◌≡◌, ℕ, ◌+◌, ◌-◌, None, Some, Err, List, [], ◌∷◌, ◌++◌, length, take, drop, sym, ap, subst, ◌∙◌, IfSome, length-append, length-drop, arith}
use Rattle.std.proofs.lemmas.Bool.{eqb-true}
use Rattle.kc_base.specs.TextLines.{text_lines}
use Rattle.kc_debug_script.specs.declared.line_map.MapEntry.{MapEntry}
use Rattle.kc_debug_script.specs.Reading.{said}
use Rattle.kc_debug_script.specs.LineMap.{entry_after, IsOrdered}
use Rattle.kc_debug_script.proofs.Saying.{text-some, text-none, text-nil}
use Rattle.kc_debug_script.proofs.line_map.LineMap.read.Goals as goal

-- the entry of the first line, where what stands before and the line are lent
reported : (before lent : List MapEntry) (line prefix : List ℕ) → lent ≡ before → prefix ≡ line → entry_after lent prefix ≡ entry_after before line
reported before lent line prefix e h = λ i. entry_after (e i) (h i)

pub returns-in-None : goal.returns-in-None
returns-in-None c =
    let before = c.loop-rest.entries.items in
    let line = take c.first_line-len.result.0 c.loop-rest.rest.now in
    let none : entry_after before line ≡ None = sym (reported before _ line _ c.as_slice.ensures.value c.prefix.ensures) ∙ sym c.in_ok-entry.ensures.value ∙ c.in-None.is in
    let count : length before ≡ c.len.result = sym (ap length c.as_slice.ensures.value) ∙ c.as_slice.ensures.len ∙ sym c.len.ensures in
    sym c.loop-rest.invariant.0
    ∙ text-none entry_after before c.loop-rest.rest.now line (drop c.first_line-len.result.1 c.loop-rest.rest.now) c.first_line-len.ensures.read none
    ∙ ap (λ n. Err (n + 1)) count

pub loop-rest-preserved : goal.loop-rest-preserved
loop-rest-preserved c =
    let before = c.loop-rest.entries.items in
    let entry = c.in-Some.entry in
    let line = take c.first_line-len.result.0 c.loop-rest.rest.now in
    let rest = drop c.first_line-len.result.1 c.loop-rest.rest.now in
    let some : entry_after before line ≡ Some entry = sym (reported before _ line _ c.as_slice.ensures.value c.prefix.ensures) ∙ sym c.in_ok-entry.ensures.value ∙ c.in-Some.is in
    let pushed = c.in_ok-push-in-Some.ensures in
    let ordered : IsOrdered (c.as_slice.result.now ++ entry ∷ []) = subst (λ o. IfSome o (λ e. IsOrdered (c.as_slice.result.now ++ e ∷ []))) c.in-Some.is c.in_ok-entry.ensures.ordered in
    let longer : length c.push.new.entries.items ≡ length before + 1 = ap length pushed ∙ length-append before (entry ∷ []) in
    let shorter : length c.after-rest.result.now ≡ length c.loop-rest.rest.now - c.first_line-len.result.1 = ap length c.after-rest.ensures ∙ length-drop c.first_line-len.result.1 c.loop-rest.rest.now in (
      (λ i. said entry_after (pushed i) (text_lines (c.after-rest.ensures i)))
          ∙ text-some entry_after before c.loop-rest.rest.now line rest entry c.first_line-len.ensures.read some
          ∙ c.loop-rest.invariant.0,
      subst IsOrdered (sym pushed) (subst (λ xs. IsOrdered (xs ++ entry ∷ [])) c.as_slice.ensures.value ordered),
      omega (arith, longer, shorter, c.first_line-len.ensures.goes, c.first_line-len.ensures.within, c.loop-rest.invariant.2),
    )

pub returns : goal.returns
returns c = sym c.loop-rest.invariant.0 ∙ text-nil entry_after c.loop-rest.entries.items c.loop-rest.rest.now (eqb-true _ _ (sym c.loop-rest-test.ensures))
