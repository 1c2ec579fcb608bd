use Rattle.std.proofs.Common.{◌≡◌, ◌≤◌, ◌+◌, [], sym, ap, ◌∙◌, arith}
use Rattle.std.proofs.lemmas.Bool.{cond-false}
use Rattle.kc_monitor.specs.Watching.{AreKept, total_in, first_in, end_in, end_by, state_of}
use Rattle.kc_monitor.proofs.WatchLemmas.{first_end, end_end, end_by_ahead, end_by_within}
use Rattle.kc_monitor.proofs.monitor.Monitor.over.Goals as goal

pub returns-clause-total : goal.returns-clause-total
returns-clause-total c = λ next one other short le opened kept.
    let m = c.args.self.now in
    let rule = c.args.rule.now in
    let last = c.args.last in
    let o = opened c.if-self.false in
    let k = kept c.if-self.false in
    let end : c.end_by.result ≡ end_by (state_of rule.scope.before) last = c.end_by.ensures short ∙ ap (λ s. end_by s last) c.state_of.ensures in
    let ahead : next ≤ c.end_by.result = omega (arith, end, end_by_ahead (state_of rule.scope.before) next last o.ahead le) in
    let within : c.end_by.result ≤ last + 1 = omega (arith, end, end_by_within (state_of rule.scope.before) last) in
    let kept_end : AreKept m.one m.other next c.end_by.result one other = record {
      one_kept = λ t from to. k.one_kept t from (omega arith);
      other_kept = λ t from to. k.other_kept t from (omega arith);
    } in
    cond-false m.closed m.tally (total_in rule.form m [] next one other (first_in rule.scope.from m.from []) (end_in rule.scope.before [] last)) c.if-self.false
    ∙ (λ i. total_in rule.form m [] next one other (first_end rule.scope.from m.from i) ((end_end rule.scope.before last ∙ sym end) i))
    ∙ c.finish.ensures.total rule.form next one other ahead o.going.level o.going.unbegun kept_end
