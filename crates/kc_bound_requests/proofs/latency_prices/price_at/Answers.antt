use Rattle.kc_bound_requests.proofs.latency_prices.price_at.Goals as goal

pub returns-clause-value : goal.returns-clause-value
returns-clause-value c = rw c.as_slice-loops.ensures.value at (rw c.as_slice-prices.ensures.value at c.price_of.ensures.value)
