use Rattle.std.proofs.Common.{◌≡◌, ◌∷◌, ◌≤◌, ◌+◌, sym, ap, ◌∙◌, inl, inr, arith}
use Rattle.std.proofs.lemmas.Bool.{cond-true, cond-false}
use Rattle.kc_trace.specs.Tables.{level_in}
use Rattle.kc_monitor.specs.Watching.{Moment, moment, AreMomentsFrom, AreKept, IsGoing, total_in, first_in, end_in}
use Rattle.kc_monitor.proofs.WatchLemmas.{total_past, end_reported, end_later, end_ahead, first_goes, first_is, from_stays, from_ahead}
use Rattle.kc_monitor.proofs.monitor.Monitor.state.Goals as goal

pub returns-in-Some-clause-total : goal.returns-in-Some-clause-total
unfolding AreMomentsFrom
returns-in-Some-clause-total c = λ next last future one other later within order opened kept now.
    let m = c.args.self.now in
    let n = c.finish.new.self in
    let rule = c.args.rule.now in
    let at = c.args.at in
    let mo : Moment = moment at (level_in c.args.levels.now) c.args.seens.now in
    let end = c.in-Some.end in
    let o = opened c.if-self.false in
    let k = kept c.if-self.false in
    let reported = end_reported rule.scope.before end last mo future (sym c.end_now.ensures ∙ c.in-Some.is) within in
    let before : end ≤ at = reported.1 in
    let order_all : AreMomentsFrom at (mo ∷ future) = (omega arith, order) in
    let ahead : next ≤ end = elim reported.2 [ inl same ↦ omega (arith, same) | inr state ↦ rw state at o.ahead ] in
    let kept_end : AreKept m.one m.other next end one other = record {
      one_kept = λ t from to. k.one_kept t from (omega arith);
      other_kept = λ t from to. k.other_kept t from (omega arith);
    } in
    cond-false m.closed m.tally (total_in rule.form m (mo ∷ future) next one other (first_in rule.scope.from m.from (mo ∷ future)) (end_in rule.scope.before (mo ∷ future) last)) c.if-self.false
    ∙ ap (λ e. total_in rule.form m (mo ∷ future) next one other (first_in rule.scope.from m.from (mo ∷ future)) e) reported.0
    ∙ total_past rule.form m rule.scope.from at end (mo ∷ future) next one other m.from before order_all
    ∙ c.finish.ensures.total rule.form next one other ahead o.going.level o.going.unbegun kept_end
    ∙ sym (cond-true n.closed n.tally (total_in rule.form n future (at + 1) one other (first_in rule.scope.from n.from future) (end_in rule.scope.before future last)) c.finish.ensures.closed)

pub returns-in_ok-go_on-in-None-clause-total : goal.returns-in_ok-go_on-in-None-clause-total
returns-in_ok-go_on-in-None-clause-total c = λ next last future one other later within order opened kept now.
    let m = c.args.self.now in
    let n = c.go_on.new.self in
    let rule = c.args.rule.now in
    let at = c.args.at in
    let levels = level_in c.args.levels.now in
    let seens = c.args.seens.now in
    let mo : Moment = moment at levels seens in
    let from = c.from_after-self.result in
    let when = rule.scope.from in
    let is_open = opened c.if-self.false in
    let g = is_open.going in
    let same = c.go_on.ensures.same in
    let reported = end_later rule.scope.before last mo future (sym c.end_now.ensures ∙ c.in-None.is) within order in
    let end = end_in rule.scope.before future last in
    let going : IsGoing (record m { from = from }) next = record {
      ready = g.ready;
      level = g.level;
      begun = λ b. let known = g.begun b in (known.0, c.from_after-self.ensures ∙ from_stays when m.from at seens levels known.0 known.1, known.2);
      unbegun = λ not. rw c.from_after-self.ensures (from_ahead when m.from at next seens levels later (g.unbegun not));
    } in
    let first : first_in when m.from (mo ∷ future) ≡ first_in when from future =
    first_goes when m.from mo future ∙ ap (λ f. first_in when f future) (sym c.from_after-self.ensures) in
    cond-false m.closed m.tally (total_in rule.form m (mo ∷ future) next one other (first_in when m.from (mo ∷ future)) (end_in rule.scope.before (mo ∷ future) last)) c.if-self.false
    ∙ (λ i. total_in rule.form m (mo ∷ future) next one other (first i) (reported.0 i))
    ∙ c.in_ok-go_on-in-None.ensures.total next end (first_in when from future) future one other later reported.1 order going (first_is when from at future order)
    (kept c.if-self.false) (now c.if-self.false)
    ∙ ap (λ f. total_in rule.form n future (at + 1) one other (first_in when f future) end) (sym (ap (λ m. m.from) same))
    ∙ sym (cond-false n.closed n.tally (total_in rule.form n future (at + 1) one other (first_in when n.from future) end) (ap (λ m. m.closed) same ∙ c.if-self.false))

pub returns-in_ok-go_on-in-None-clause-going : goal.returns-in_ok-go_on-in-None-clause-going
returns-in_ok-go_on-in-None-clause-going c = λ next le opened closed.
    let m = c.args.self.now in
    let rule = c.args.rule.now in
    let at = c.args.at in
    let levels = level_in c.args.levels.now in
    let seens = c.args.seens.now in
    let from = c.from_after-self.result in
    let when = rule.scope.from in
    let is_open = opened c.if-self.false in
    let g = is_open.going in
    let going : IsGoing (record m { from = from }) next = record {
      ready = g.ready;
      level = g.level;
      begun = λ b. let known = g.begun b in (known.0, c.from_after-self.ensures ∙ from_stays when m.from at seens levels known.0 known.1, known.2);
      unbegun = λ not. rw c.from_after-self.ensures (from_ahead when m.from at next seens levels le (g.unbegun not));
    } in
    record {
      going = c.in_ok-go_on-in-None.ensures.going next le going;
      ahead = end_ahead rule.scope.before at seens levels (sym c.end_now.ensures ∙ c.in-None.is);
    }
