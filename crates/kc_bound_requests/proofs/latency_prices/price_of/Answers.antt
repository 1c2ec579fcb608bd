use Rattle.std.proofs.Common.{ℕ, ◌*◌, ◌^◌, ◌<◌, ◌≤◌, length, arith}
use Rattle.std.proofs.lemmas.List.Elements.{All-from_get_or}
use Rattle.kc_bound.specs.Certified.{priced, begins_at}
use Rattle.kc_bound_requests.proofs.PriceLemmas.{begins_within, is_over}
use Rattle.kc_bound_requests.proofs.latency_prices.price_of.Goals as goal

pub unreachable-requires : goal.unreachable-requires
unreachable-requires c =
    let prices = c.args.prices.now in
    let total = priced (begins_at c.args.at) c.args.loops.now prices in
    let small = All-from_get_or (λ (p : ℕ). p < 2 ^ 64) prices 0 (λ k h. let fits = c.type_inv.prices k in omega arith) in
    let most : total ≤ 2 ^ 64 * length prices = begins_within c.args.at c.args.loops.now prices small in
    let over : 2 ^ 128 ≤ total = is_over c.priced.result total c.priced.ensures c.in_default.not-Some in
    omega arith

pub returns-clause-bound : goal.returns-clause-bound
returns-clause-bound c =
    let prices = c.args.prices.now in
    let total = priced (begins_at c.args.at) c.args.loops.now prices in
    let small = All-from_get_or (λ (p : ℕ). p < 2 ^ 64) prices 0 (λ k h. let fits = c.type_inv.prices k in omega arith) in
    let most : total ≤ 2 ^ 64 * length prices = begins_within c.args.at c.args.loops.now prices small in
    omega (arith, c.in-Some.ensures.1)
