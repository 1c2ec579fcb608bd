use Rattle.kc_bound_requests.proofs.latency_prices.credit_at.Goals as goal

pub returns : goal.returns
returns c = rw c.as_slice-loops.ensures.value at (rw c.as_slice-prices.ensures.value at c.priced.ensures)
