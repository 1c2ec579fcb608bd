use Rattle.std.proofs.Common.{◌≡◌, sym, subst}
use Rattle.kc_kit_files.specs.Response.{Response, IsSaid}
use Rattle.kc_kit_files.specs.Outside.{kept}
use Rattle.kc_kit_files.proofs.EndLemmas.{Ends-widen}
use Rattle.kc_kit_answer.specs.Jobs.{does, IsOf}
use Rattle.kc_kit.proofs.top.finish.Goals as goal

pub returns-in-Ok-clause-answer : goal.returns-in-Ok-clause-answer
returns-in-Ok-clause-answer g c =
    Ends-widen (λ (response : Response). response ≡ does c.in-Ok.job) (IsOf c.args.prepared) _ _ _ _ _ _ (λ r e. subst (λ p. IsOf p r) (sym c.in-Ok.is) e) c.perform.ensures.answer

pub returns-in-Err-clause-answer : goal.returns-in-Err-clause-answer
returns-in-Err-clause-answer g c =
    Ends-widen (IsSaid c.in-Err.refusal) (IsOf c.args.prepared) _ _ _ _ _ _ (λ r e. subst (λ p. IsOf p r) (sym c.in-Err.is) e)
    (c.refuse.ensures.response (kept (g.F.Files.held c.args.files.now) (g.F.Files.write_faults c.args.files.now)))
