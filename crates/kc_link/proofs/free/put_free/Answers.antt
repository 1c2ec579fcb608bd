use Rattle.std.proofs.Common.{◌≡◌, ◌+◌, ◌-◌, ◌++◌, ◌&&◌, not, false, get_or, ℕ, Bool, sym, ◌∙◌, arith}
use Rattle.std.specs.Prelude.{OnOk, Ok, Err}
use Rattle.kc_link.specs.Free as spec
use Rattle.kc_link.specs.Map as map
use Rattle.kc_link.proofs.Runs.{text_passes, text_does_not, text_ends}
use Rattle.kc_link.proofs.free.put_free.Goals.{then-is_free, else-is_free+in_ok-put_run}
use Rattle.kc_link.proofs.free.put_free.Goals as goal

pub loop-at-preserved : goal.loop-at-preserved
loop-at-preserved c =
    let end = c.from-end.result + 1 in
    let at = c.loop-at.at in
    let word = c.args.word.now in
    let free : ℕ → Bool = λ a. not (spec.covers c.args.stack.first c.args.stack.size a) && not (get_or c.args.taken.now a false) in
    let all = c.args.text.now.items ++ map.free_lines word (spec.free_runs free (c.args.range.1 + 1 - c.args.range.0) c.args.range.0 0) in
    elim c.if-is_free.branch [
      | then-is_free w ↦ record {
        goes_on = rw (w.text-is, w.length-is) (text_passes word c.loop-at.text.items all free end at c.loop-at.length (omega (arith, c.loop-at-test.true)) (sym c.is_free.ensures ∙ w.if-is_free.true) c.loop-at.invariant.goes_on);
        ahead = omega (arith, c.loop-at-test.true);
        begun = omega (arith, w.length-is, c.loop-at.invariant.begun);
      }
      | else-is_free+in_ok-put_run w ↦ record {
        goes_on = rw (w.text-is, w.length-is, w.in_ok-put_run.ensures) (text_does_not word c.loop-at.text.items all free end at c.loop-at.length (omega (arith, c.loop-at-test.true)) (sym c.is_free.ensures ∙ w.if-is_free.false) c.loop-at.invariant.goes_on);
        ahead = omega (arith, c.loop-at-test.true);
        begun = omega (arith, w.length-is);
      }
    ]

pub returns : goal.returns
returns c =
    let end = c.from-end.result + 1 in
    let word = c.args.word.now in
    let free : ℕ → Bool = λ a. not (spec.covers c.args.stack.first c.args.stack.size a) && not (get_or c.args.taken.now a false) in
    let all = c.args.text.now.items ++ map.free_lines word (spec.free_runs free (c.args.range.1 + 1 - c.args.range.0) c.args.range.0 0) in
    let is_end : c.loop-at.at ≡ end = omega (arith, c.loop-at-test.false, c.loop-at.invariant.ahead) in
    let ends : c.loop-at.text.items ++ map.free_lines word (spec.run end c.loop-at.length) ≡ all = text_ends word c.loop-at.text.items all free end c.loop-at.at c.loop-at.length is_end c.loop-at.invariant.goes_on in
    elim c.put_run-2.result as (λ r. OnOk r (c.put_run-2.new.text.items ≡ c.loop-at.text.items ++ map.free_lines word (spec.run end c.loop-at.length)) → OnOk r (c.put_run-2.new.text.items ≡ all)) [
      | Ok x ↦ λ so. so ∙ ends
      | Err e ↦ λ so. tt
    ] c.put_run-2.ensures
