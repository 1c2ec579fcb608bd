use Rattle.std.proofs.Common.{arith}
use Rattle.kc_kit_verdict.proofs.VerdictLemmas.{first_put, last_put, none_ahead}
use Rattle.kc_kit_verdict.proofs.verdict.verdict_of.Goals as goal

pub returns-in-empty : goal.returns-in-empty
returns-in-empty c = none_ahead c.args.name.now c.args.text.now c.args.rules.now c.args.monitors.now c.loop-left.left.now c.loop-left.ahead.now c.loop-left.verdict (omega arith) c.loop-left.invariant

pub loop-left-preserved : goal.loop-left-preserved
loop-left-preserved c =
    let put = c.in_ok-put-in-len1-up-ahead.ensures in
    first_put c.args.name.now c.args.text.now c.args.rules.now c.args.monitors.now c.loop-left.left.now c.loop-left.ahead.now c.rule-item.result c.monitor-item.result c.loop-left.verdict c.put.new.self
    c.in-len1-up.len_at_least c.in-len1-up-ahead.len_at_least c.rule-item.is c.monitor-item.is c.loop-left.invariant put.printed put.said put.broken

pub returns : goal.returns
returns c = last_put c.args.name.now c.args.text.now c.args.rules.now c.args.monitors.now c.loop-left.left.now c.loop-left.ahead.now c.loop-left.verdict (omega arith) c.loop-left.invariant
