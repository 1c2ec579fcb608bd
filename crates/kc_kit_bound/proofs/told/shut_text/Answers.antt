use Rattle.std.proofs.Common.{◌≤◌, true, inl, subst}
use Rattle.std.specs.Prelude.{IfSome}
use Rattle.std.proofs.lemmas.Result.{IfOk-weaker}
use Rattle.kc_base.specs.Limits.{max_states}
use Rattle.kc_bound_requests.specs.Latency.{ShowsShut}
use Rattle.kc_kit_bound.specs.Told.{shut_text, IsLatencyText}
use Rattle.kc_kit_bound.proofs.told.shut_text.Goals as goal

pub returns-in-Some : goal.returns-in-Some
returns-in-Some c =
    IfOk-weaker c.shut_lines.result _ (λ text. IsLatencyText true c.args.image.now c.args.notes.now c.args.from c.args.first text.items)
    (λ text printed. inl (record {
      certificate = c.in_ok-shut.shut;
      most = c.in-Some.most;
      shows = subst (λ found. IfSome found (λ most. ShowsShut c.args.image.now c.args.notes.now c.args.from c.args.first c.in_ok-shut.shut most)) c.in-Some.is c.in_ok-most.ensures.shows;
      limit = subst (λ found. IfSome found (λ most. most ≤ max_states)) c.in-Some.is c.in_ok-most.ensures.most;
      printed = printed;
    }))
    c.shut_lines.ensures
