use Rattle.std.proofs.Common.{◌+◌, ◌-◌, ◌^◌, inl, refl, sym, ap, ◌∙◌, arith}
use Rattle.std.specs.Option.{unwrap_or}
use Rattle.kc_machine_spec.specs.declared.doing.End.TheVariants as end
use Rattle.kc_machine_spec.specs.Run.{end_of}
use Rattle.kc_machine_spec.proofs.Coming.{Came-lines, Came-machine, Came-cut}
use Rattle.kc_machine_spec.proofs.Calls.{always-failed}
use Rattle.kc_profile.proofs.Going.{along-first, along-next, fails-later, spots-done, over-same, over-goes}
use Rattle.kc_profile.proofs.Few.{few-more, few-further}
use Rattle.kc_profile.proofs.Histories.{counts-first, counts-next, shown-far, shown-over}
use Rattle.kc_profile.proofs.running.run_profiled.Goals as goal

pub loop-machine-init : goal.loop-machine-init
loop-machine-init g c = record {
  along = along-first g.X.Extra.further _ _ _ _ _ _;
  unbroken = c.requires.unbroken;
  statistics = counts-first g.X.Extra.further c.args.statistics.now.life c.args.machine.now.machine c.args.statistics.now;
  life = refl;
  few = λ n few. few-more n _ c.args.statistics.now (omega arith) few;
}

pub loop-machine-preserved : goal.loop-machine-preserved
loop-machine-preserved g c = record {
  along = along-next g.X.Extra.further _ _ _ _ _ _ _ _ _ _ _ _ _ _ _ _ c.loop-machine.invariant.along c.count.ensures.went.passed c.count.ensures.went.costs.spent c.count.ensures.went.costs.moves c.count.ensures.profile c.count.ensures.total;
  unbroken = c.in_ok-count.ensures.went.written;
  statistics = counts-next g.X.Extra.further c.args.statistics.now.life c.loop-machine.statistics.life c.args.machine.now.machine c.args.statistics.now c.loop-machine.machine.machine c.loop-machine.statistics c.count.new.machine.machine c.count.new.statistics c.loop-machine.invariant.along.came.forward c.loop-machine.invariant.along.came.machine c.loop-machine.invariant.life c.loop-machine.invariant.statistics c.in_ok-count.ensures.statistics;
  life = c.count.ensures.life ∙ c.loop-machine.invariant.life;
  few = λ n few. few-further _ _ _ n c.count.new.statistics c.loop-machine.invariant.along.came.forward c.count.ensures.went.passed.forward (c.count.ensures.few _ (c.loop-machine.invariant.few n few));
}

pub count-requires-clause-few : goal.count-requires-clause-few
count-requires-clause-few g c = few-more _ (2 ^ 64 - 2) c.loop-machine.statistics (omega (arith, c.loop-machine-test.true, c.now.ensures, c.requires.until, c.loop-machine.invariant.along.came.forward)) (c.loop-machine.invariant.few (2 ^ 64 - 1 - c.args.until) c.requires.few)

-- ---- the machine has ended

pub returns-in-Some-clause-end : goal.returns-in-Some-clause-end
returns-in-Some-clause-end g c =
    let f = g.X.Extra.further in
    let i = c.loop-machine.invariant in
    let over = sym c.ended.ensures ∙ c.in-Some.is in
    let same = over-same f _ _ _ _ _ _ _ _ _ _ _ c.in-Some.end i.along over in
    sym (ap (λ o. unwrap_or o end.Spent) over) ∙ ap end_of (Came-machine f _ _ _ _ c.args.until i.along.came same)

pub returns-in-Some-clause-machine : goal.returns-in-Some-clause-machine
returns-in-Some-clause-machine g c =
    let f = g.X.Extra.further in
    let i = c.loop-machine.invariant in
    let over = sym c.ended.ensures ∙ c.in-Some.is in
    Came-machine f _ _ _ _ c.args.until i.along.came (over-same f _ _ _ _ _ _ _ _ _ _ _ c.in-Some.end i.along over)

pub returns-in-Some-clause-lines : goal.returns-in-Some-clause-lines
returns-in-Some-clause-lines g c =
    let f = g.X.Extra.further in
    let i = c.loop-machine.invariant in
    let over = sym c.ended.ensures ∙ c.in-Some.is in
    (Came-lines f _ _ _ _ c.args.until i.along.came (over-same f _ _ _ _ _ _ _ _ _ _ _ c.in-Some.end i.along over)).text

pub returns-in-Some-clause-counts : goal.returns-in-Some-clause-counts
returns-in-Some-clause-counts g c =
    let f = g.X.Extra.further in
    let i = c.loop-machine.invariant in
    let over = sym c.ended.ensures ∙ c.in-Some.is in
    (Came-lines f _ _ _ _ c.args.until i.along.came (over-same f _ _ _ _ _ _ _ _ _ _ _ c.in-Some.end i.along over)).counts i.unbroken

pub returns-in-Some-clause-goes : goal.returns-in-Some-clause-goes
returns-in-Some-clause-goes g c = λ lives ahead.
    let f = g.X.Extra.further in
    let i = c.loop-machine.invariant in
    let over = sym c.ended.ensures ∙ c.in-Some.is in
    over-goes f _ _ _ _ _ _ _ _ _ _ _ c.in-Some.end i.along over lives

pub returns-in-Some-clause-all : goal.returns-in-Some-clause-all
returns-in-Some-clause-all g c =
    let f = g.X.Extra.further in
    let i = c.loop-machine.invariant in
    let over = sym c.ended.ensures ∙ c.in-Some.is in
    spots-done f c.args.until _ _ _ _ i.along.came i.along.within (inl (c.in-Some.end, over))

-- ---- the sink has failed

pub returns-in_err-count-clause-lines : goal.returns-in_err-count-clause-lines
returns-in_err-count-clause-lines g c =
    let f = g.X.Extra.further in
    let reported = c.count.ensures in
    let next = along-next f _ _ _ _ _ _ _ _ _ _ _ _ _ _ _ _ c.loop-machine.invariant.along reported.went.passed reported.went.costs.spent reported.went.costs.moves reported.profile reported.total in
    (Came-cut f _ _ _ _ c.args.until next.came reported.went.passed.within c.in_err-count.ensures.went.fails.failed).text

pub returns-in_err-count-clause-fails : goal.returns-in_err-count-clause-fails
returns-in_err-count-clause-fails g c =
    always-failed _ (fails-later g.X.Extra.further c.args.until _ _ _ _ _ _ c.loop-machine.invariant.along.came c.in_err-count.ensures.went.fails)

pub returns-in_err-count-clause-stands : goal.returns-in_err-count-clause-stands
returns-in_err-count-clause-stands g c =
    let reported = c.count.ensures in
    (along-next g.X.Extra.further _ _ _ _ _ _ _ _ _ _ _ _ _ _ _ _ c.loop-machine.invariant.along reported.went.passed reported.went.costs.spent reported.went.costs.moves reported.profile reported.total).came.machine

pub returns-in_err-count-clause-spent : goal.returns-in_err-count-clause-spent
returns-in_err-count-clause-spent g c =
    let reported = c.count.ensures in
    (along-next g.X.Extra.further _ _ _ _ _ _ _ _ _ _ _ _ _ _ _ _ c.loop-machine.invariant.along reported.went.passed reported.went.costs.spent reported.went.costs.moves reported.profile reported.total).steps

pub returns-in_err-count-clause-moves : goal.returns-in_err-count-clause-moves
returns-in_err-count-clause-moves g c =
    let reported = c.count.ensures in
    (along-next g.X.Extra.further _ _ _ _ _ _ _ _ _ _ _ _ _ _ _ _ c.loop-machine.invariant.along reported.went.passed reported.went.costs.spent reported.went.costs.moves reported.profile reported.total).moves

pub returns-in_err-count-clause-profile : goal.returns-in_err-count-clause-profile
returns-in_err-count-clause-profile g c =
    let reported = c.count.ensures in
    (along-next g.X.Extra.further _ _ _ _ _ _ _ _ _ _ _ _ _ _ _ _ c.loop-machine.invariant.along reported.went.passed reported.went.costs.spent reported.went.costs.moves reported.profile reported.total).tally

pub returns-in_err-count-clause-passed : goal.returns-in_err-count-clause-passed
returns-in_err-count-clause-passed g c =
    let reported = c.count.ensures in
    (along-next g.X.Extra.further _ _ _ _ _ _ _ _ _ _ _ _ _ _ _ _ c.loop-machine.invariant.along reported.went.passed reported.went.costs.spent reported.went.costs.moves reported.profile reported.total).states

pub returns-in_err-count-clause-few : goal.returns-in_err-count-clause-few
returns-in_err-count-clause-few g c = λ n few. few-further _ _ _ n c.count.new.statistics c.loop-machine.invariant.along.came.forward c.count.ensures.went.passed.forward (c.count.ensures.few _ (c.loop-machine.invariant.few n few))

pub returns-in_err-count-clause-life : goal.returns-in_err-count-clause-life
returns-in_err-count-clause-life g c = c.count.ensures.life ∙ c.loop-machine.invariant.life

-- ---- what is seen

pub returns-in-Some-clause-shown : goal.returns-in-Some-clause-shown
returns-in-Some-clause-shown g c = λ first there none.
    let i = c.loop-machine.invariant in
    shown-over g.X.Extra.further c.args.until c.args.machine.now.machine c.loop-machine.machine.machine first c.in-Some.end i.along.came.forward i.along.came.machine i.along.within there none (sym c.ended.ensures ∙ c.in-Some.is)

pub returns-clause-shown : goal.returns-clause-shown
returns-clause-shown g c = λ first there none.
    let i = c.loop-machine.invariant in
    shown-far g.X.Extra.further c.args.until c.args.machine.now.machine c.loop-machine.machine.machine first i.along.came.forward i.along.within (omega (arith, c.loop-machine-test.false, c.now.ensures))
