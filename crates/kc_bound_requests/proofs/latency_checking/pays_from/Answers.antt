use Rattle.std.proofs.Common.{◌≡◌, ◌+◌, ◌<◌, ◌≤◌, ◌^◌, sym, ◌∙◌, subst, arith}
use Rattle.std.specs.Prelude.{SomeIff}
use Rattle.kc_bound_requests.specs.Latency.{shut_at, price_at, credit_at}
use Rattle.kc_bound_requests.proofs.PriceLemmas.{is_over}
use Rattle.kc_bound_requests.proofs.LatencyChecks.{none-pays-from}
use Rattle.kc_bound_requests.proofs.latency_checking.pays_from.Goals as goal

pub returns-in_default : goal.returns-in_default
returns-in_default c =
    let over : 2 ^ 128 ≤ credit_at c.args.notes.now c.args.c.now c.args.at = is_over c.args.credit (credit_at c.args.notes.now c.args.c.now c.args.at) c.requires.credit c.in_default.not-Some in
    let shut : shut_at c.args.c.now c.args.at c.args.e < 2 ^ 64 = subst (λ n. n < 2 ^ 64) c.shut_at.ensures c.shut_at.type_inv in
    let price : price_at c.args.notes.now c.args.c.now c.args.at < 2 ^ 127 = subst (λ n. n < 2 ^ 127) c.requires.price c.requires.bound in
    sym (none-pays-from c.args.notes.now c.args.c.now c.args.work c.args.at c.args.ways.now c.args.e c.requires.some (omega (arith, over, shut, price)))

pub returns-then-has-credit : goal.returns-then-has-credit
returns-then-has-credit c =
    let given = subst (λ o. SomeIff o (credit_at c.args.notes.now c.args.c.now c.args.at < 2 ^ 128) (credit_at c.args.notes.now c.args.c.now c.args.at)) c.in-Some.is c.requires.credit in
    let same : c.in-Some.credit ≡ credit_at c.args.notes.now c.args.c.now c.args.at = given.1 in
    let price : c.args.price ≡ price_at c.args.notes.now c.args.c.now c.args.at = c.requires.price in
    let shut : c.from.result ≡ shut_at c.args.c.now c.args.at c.args.e = c.from.ensures ∙ c.shut_at.ensures in
    let above : c.from.result + c.args.price < c.in-Some.credit = c.if-has-credit.true in
    sym (none-pays-from c.args.notes.now c.args.c.now c.args.work c.args.at c.args.ways.now c.args.e c.requires.some (omega (arith, above, same, price, shut)))
