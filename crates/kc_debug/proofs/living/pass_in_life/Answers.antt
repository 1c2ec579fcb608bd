use Rattle.std.proofs.Common.{◌+◌, sym, ap, refl, ◌∙◌, arith}
use Rattle.kc_machine.specs.Board.{Whole}
use Rattle.kc_debug.proofs.Lived.{passes-state, passes-whole}
use Rattle.kc_debug.proofs.living.pass_in_life.Goals as goal

pub pass_state-requires-clause-lives : goal.pass_state-requires-clause-lives
pass_state-requires-clause-lives g c = ap (λ (w : Whole _). w.machine.ended) c.current.ensures.same ∙ c.requires.lives

pub pass_activity-requires-clause-lives : goal.pass_activity-requires-clause-lives
pass_activity-requires-clause-lives g c = ap (λ (w : Whole _). w.machine.ended) c.current.ensures.same ∙ c.requires.lives

pub returns-in-Ok-clause-passes : goal.returns-in-Ok-clause-passes
returns-in-Ok-clause-passes g c =
    passes-state _ _ c.args.machine.now.machine c.current.new.self.machine _ _ _ _ _ _ c.current.result c.deadline_in.result (c.now.result + c.states_left-left.result) c.states_left-left.result c.comes_before.result
    (ap (λ (w : Whole _). w.machine) c.current.ensures.same) c.requires.ahead c.current.ensures.activity c.states_left-left.ensures.same c.states_left-left.ensures.few c.deadline_in.ensures
    (ap (λ n. n + c.states_left-left.result) c.now.ensures) c.comes_before.ensures c.if-comes_before.true c.pass_state.ensures.passed (λ less. less)

pub returns-in-Err-clause-passes : goal.returns-in-Err-clause-passes
returns-in-Err-clause-passes g c =
    passes-state _ _ c.args.machine.now.machine c.current.new.self.machine _ _ _ _ _ _ c.current.result c.deadline_in.result (c.now.result + c.states_left-left.result) c.states_left-left.result c.comes_before.result
    (ap (λ (w : Whole _). w.machine) c.current.ensures.same) c.requires.ahead c.current.ensures.activity c.states_left-left.ensures.same c.states_left-left.ensures.few c.deadline_in.ensures
    (ap (λ n. n + c.states_left-left.result) c.now.ensures) c.comes_before.ensures c.if-comes_before.true c.pass_state.ensures.passed (λ less. tt)

pub returns-in-Ok-pass_activity-clause-passes : goal.returns-in-Ok-pass_activity-clause-passes
returns-in-Ok-pass_activity-clause-passes g c =
    passes-whole _ _ c.args.machine.now.machine c.current.new.self.machine _ _ _ _ _ _ c.current.result c.deadline_in.result (c.now.result + c.states_left-left.result) c.states_left-left.result c.comes_before.result
    (ap (λ (w : Whole _). w.machine) c.current.ensures.same) c.current.ensures.activity c.states_left-left.ensures.same c.states_left-left.ensures.few c.deadline_in.ensures
    (ap (λ n. n + c.states_left-left.result) c.now.ensures) c.comes_before.ensures c.if-comes_before.false c.pass_activity.ensures.passed (refl, refl)

pub returns-in-Err-pass_activity-clause-passes : goal.returns-in-Err-pass_activity-clause-passes
returns-in-Err-pass_activity-clause-passes g c =
    passes-whole _ _ c.args.machine.now.machine c.current.new.self.machine _ _ _ _ _ _ c.current.result c.deadline_in.result (c.now.result + c.states_left-left.result) c.states_left-left.result c.comes_before.result
    (ap (λ (w : Whole _). w.machine) c.current.ensures.same) c.current.ensures.activity c.states_left-left.ensures.same c.states_left-left.ensures.few c.deadline_in.ensures
    (ap (λ n. n + c.states_left-left.result) c.now.ensures) c.comes_before.ensures c.if-comes_before.false c.pass_activity.ensures.passed tt
