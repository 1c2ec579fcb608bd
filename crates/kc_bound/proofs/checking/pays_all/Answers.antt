use Rattle.std.proofs.Common.{◌+◌, ◌<◌, ◌≤◌, ◌^◌, sym, arith}
use Rattle.kc_bound.specs.Certified.{price_at, credit_at}
use Rattle.kc_bound.proofs.CheckLemmas.{nothing_pays_all, is_over}
use Rattle.kc_bound.proofs.checking.pays_all.Goals as goal

pub returns-in_default : goal.returns-in_default
returns-in_default c =
    let notes = c.args.notes.now in
    let given = c.args.c.now in
    let over : 2 ^ 128 ≤ credit_at notes given c.args.at = is_over c.credit_at.result (credit_at notes given c.args.at) c.credit_at.ensures c.in_default.not-Some in
    let above : c.args.here.potential + price_at notes given c.args.at + given.floor < credit_at notes given c.args.at = omega arith in
    sym (nothing_pays_all notes given c.args.at c.args.here c.args.ways.now above)
