use Rattle.std.proofs.Common.{◌≡◌, ℕ, ◌+◌, ◌∷◌, sym, ap, subst, ◌∙◌, arith}
use Rattle.kc_machine_spec.specs.Machine.{current}
use Rattle.kc_machine_spec.specs.Run.{run_to}
use Rattle.kc_profile.specs.Sights.{history}
use Rattle.kc_profile.specs.Statistics.{AreStatisticsOf}
use Rattle.kc_profile.specs.Waits.{AreConsecutive}
use Rattle.kc_profile.proofs.Histories.{seen-from, statistics-further}
use Rattle.kc_profile.proofs.Few.{few-more}
use Rattle.kc_profile.proofs.running.count.Goals as goal

pub returns-in-Ok-clause-statistics : goal.returns-in-Ok-clause-statistics
returns-in-Ok-clause-statistics g c = λ first begins there before.
    let f = g.X.Extra.further in
    let m = c.current-activity.new.self.machine in
    let n = c.pass-passed.new.machine.machine in
    let life : ℕ = c.args.statistics.now.life in
    let same : c.args.machine.now.machine ≡ m = sym (ap (λ w. w.machine) c.current-activity.ensures.same) in
    let start = c.start_of-start.ensures in
    let seen = c.sight_of.ensures ∙ seen-from m c.start_of-start.result c.current-activity.result c.in-Ok.raised n start.at start.requests start.pc start.stack (c.current-activity.ensures.activity ∙ ap current same) in
    statistics-further f life first m n c.args.statistics.now c.see.new.self c.in-Ok.raised begins (subst (λ k. k ≡ (run_to f k.time first).machine) same there)
    c.pass-passed.ensures.went.passed.forward c.pass-passed.ensures.went.passed.machine c.in-Ok.ensures.alone c.in-Ok.ensures.raised
    (λ sights follows counted. subst (λ s. AreStatisticsOf life (s ∷ sights) c.see.new.self) seen (c.see.ensures.statistics sights (subst (λ s. AreConsecutive s sights) (sym seen) follows) counted))
    (subst (λ k. AreStatisticsOf life (history f k.time first) c.args.statistics.now) same before)

pub returns-in-Err-clause-few : goal.returns-in-Err-clause-few
returns-in-Err-clause-few g c = λ n few. few-more n (n + 1) c.args.statistics.now (omega arith) few
