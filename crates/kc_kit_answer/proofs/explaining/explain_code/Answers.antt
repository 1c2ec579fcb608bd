use Rattle.std.proofs.Common.{◌≡◌, ◌∙◌, ap, sym}
use Rattle.std.specs.Option.{option_map}
use Rattle.kc_kit_files.specs.declared.status.Status.TheVariants as status
use Rattle.kc_kit_files.specs.Response.{Response, says, reports, IsSaid}
use Rattle.kc_kit_files.proofs.EndLemmas.{Ends-widen, ends-by}
use Rattle.kc_kit_files.proofs.ResponseLemmas.{said-refused}
use Rattle.kc_kit_messages.specs.Meanings.{said}
use Rattle.kc_kit_answer.specs.Explain.{no_code_line, explained, explained_by}
use Rattle.kc_kit_answer.specs.Explain.{no_code_diagnostic}
use Rattle.kc_kit_answer.proofs.explaining.explain_code.Goals as goal

pub returns-in-Ok : goal.returns-in-Ok
returns-in-Ok g c = λ files.
    let code = c.args.code.now in
    let may : Response → Type 0 = λ (response : Response). response ≡ says status.Done c.deref.result.now in
    let reported : says status.Done c.deref.result.now ≡ explained code =
    ap (says status.Done) (c.deref.ensures.value ∙ c.in-Ok.ensures) ∙ ap (explained_by code) (sym (ap (option_map said) c.in-Some.is) ∙ c.explain.ensures.row) in
    Ends-widen may (λ (response : Response). response ≡ explained code) files _ _ _ files _ (λ r e. e ∙ reported)
    (ends-by may files _ c.by.result c.say.result files _ c.by.ensures.status c.by.ensures.said (λ r e. ap (λ (w : Response). w.writes) e) (λ r e. ap (λ (w : Response). w.diagnostic) e) (c.say.ensures.response files))

pub returns-in-None : goal.returns-in-None
returns-in-None g c = λ files.
    let code = c.args.code.now in
    let none : reports status.Missing (no_code_line code) (no_code_diagnostic code) ≡ explained code = ap (explained_by code) (sym (ap (option_map said) c.in-None.is) ∙ c.explain.ensures.row) in
    Ends-widen (IsSaid c.no_code.result) (λ (response : Response). response ≡ explained code) files _ _ _ files _
    (λ r e. said-refused (λ (response : Response). response ≡ reports status.Missing (no_code_line c.as_bytes.result.now) (no_code_diagnostic c.as_bytes.result.now)) c.no_code.result c.no_code.ensures r e ∙ ap (λ t. reports status.Missing (no_code_line t) (no_code_diagnostic t)) c.as_bytes.ensures.value ∙ none)
    (c.refuse.ensures.response files)
