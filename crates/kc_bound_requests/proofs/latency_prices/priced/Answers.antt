use Rattle.kc_bound_requests.specs.Times.{times_of}
use Rattle.kc_bound_requests.proofs.PriceLemmas.{none_left, no_prices, ended}
use Rattle.kc_bound_requests.proofs.latency_prices.priced.Goals as goal

pub returns-in_default-prices_left : goal.returns-in_default-prices_left
returns-in_default-prices_left c =
    ended c.loop-loops_left.sum _ _ c.loop-loops_left.invariant.0 c.loop-loops_left.invariant.1
    (no_prices (times_of c.args.kind) c.loop-loops_left.loops_left.now c.loop-loops_left.prices_left.now c.in_default-prices_left.len_below)

pub returns : goal.returns
returns c =
    ended c.loop-loops_left.sum _ _ c.loop-loops_left.invariant.0 c.loop-loops_left.invariant.1
    (none_left (times_of c.args.kind) c.loop-loops_left.loops_left.now c.loop-loops_left.prices_left.now c.in_default.len_below)
