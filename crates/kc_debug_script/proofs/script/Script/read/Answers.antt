use Rattle.std.proofs.Common.{◌≡◌, ℕ, ◌+◌, None, Some, Err, List, [], ◌∷◌, ◌++◌, length, take, drop, sym, ap, subst, ◌∙◌}
use Rattle.std.proofs.lemmas.Bool.{eqb-true}
use Rattle.kc_base.specs.TextLines.{text_lines}
use Rattle.kc_debug_script.specs.declared.command.Command.{Command}
use Rattle.kc_debug_script.specs.Reading.{said}
use Rattle.kc_debug_script.specs.Script.{command_after, AreBounded}
use Rattle.kc_debug_script.proofs.Saying.{text-some, text-none, text-nil}
use Rattle.kc_debug_script.proofs.script.Script.read.Goals as goal

-- the command of the first line, where what stands before and the line are lent
reported : (before lent : List Command) (line prefix : List ℕ) → lent ≡ before → prefix ≡ line → command_after lent prefix ≡ command_after before line
reported before lent line prefix e h = λ i. command_after (e i) (h i)

pub returns-in-None : goal.returns-in-None
returns-in-None c =
    let before = c.loop-rest.commands.items in
    let line = take c.first_line-len.result.0 c.loop-rest.rest.now in
    let none : command_after before line ≡ None = sym (reported before _ line _ c.as_slice.ensures.value c.prefix.ensures) ∙ sym c.next_command.ensures.value ∙ c.in-None.is in
    let count : length before ≡ c.len.result = sym (ap length c.as_slice.ensures.value) ∙ c.as_slice.ensures.len ∙ sym c.len.ensures in
    sym c.loop-rest.invariant.0
    ∙ text-none command_after before c.loop-rest.rest.now line (drop c.first_line-len.result.1 c.loop-rest.rest.now) c.first_line-len.ensures.read none
    ∙ ap (λ n. Err (n + 1)) count

pub loop-rest-preserved : goal.loop-rest-preserved
loop-rest-preserved c =
    let before = c.loop-rest.commands.items in
    let command = c.in-Some.command in
    let line = take c.first_line-len.result.0 c.loop-rest.rest.now in
    let rest = drop c.first_line-len.result.1 c.loop-rest.rest.now in
    let some : command_after before line ≡ Some command = sym (reported before _ line _ c.as_slice.ensures.value c.prefix.ensures) ∙ sym c.next_command.ensures.value ∙ c.in-Some.is in
    let pushed = c.in_ok-push-in-Some.ensures in (
      (λ i. said command_after (pushed i) (text_lines (c.after-rest.ensures i)))
          ∙ text-some command_after before c.loop-rest.rest.now line rest command c.first_line-len.ensures.read some
          ∙ c.loop-rest.invariant.0,
      subst AreBounded (sym pushed) (subst (λ xs. AreBounded (xs ++ command ∷ [])) c.as_slice.ensures.value c.in-Some.ensures.bounded),
    )

pub returns : goal.returns
returns c = sym c.loop-rest.invariant.0 ∙ text-nil command_after c.loop-rest.commands.items c.loop-rest.rest.now (eqb-true _ _ (sym c.loop-rest-test.ensures))
