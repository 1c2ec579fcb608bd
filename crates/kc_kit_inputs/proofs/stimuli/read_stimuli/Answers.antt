use Rattle.std.proofs.Common.{◌≡◌, ◌∙◌, Some, None, Err, sym, ap}
use Rattle.kc_kit_files.specs.Response.{Response, IsRefused}
use Rattle.kc_kit_files.proofs.ReadLemmas.{refused-widen}
use Rattle.kc_kit_inputs.specs.Responses.{line_response}
use Rattle.kc_stim.specs.Faults.{place_of}
use Rattle.kc_kit_inputs.specs.Stimuli.{response_at, stimuli_of}
use Rattle.kc_kit_inputs.proofs.InputLemmas.{stimuli-refused}
use Rattle.kc_kit_inputs.proofs.stimuli.read_stimuli.Goals as goal

pub returns-in-Some-clause-refusal : goal.returns-in-Some-clause-refusal
returns-in-Some-clause-refusal c =
    let name = c.args.name.now in
    let text = c.args.text.now in
    let fault = c.in-Err.fault in
    let reported : response_at name text (place_of fault) ≡ line_response name text c.in-Some.line c.in-Some.code.now = ap (response_at name text) (sym c.in-Some.ensures) in
    stimuli-refused name text fault (IsRefused (λ (response : Response). stimuli_of name text ≡ Err response) c.line_refusal.result) c.in-Err.ensures.read
    (λ e. absurd (let k : Some (c.in-Some.line, c.in-Some.code.now) ≡ None = c.in-Some.ensures ∙ ap place_of e in cc))
    (λ e. refused-widen (λ (response : Response). response ≡ line_response name text c.in-Some.line c.in-Some.code.now) (λ (response : Response). stimuli_of name text ≡ Err response) c.line_refusal.result
    (λ r k. e ∙ ap Err (reported ∙ sym k)) c.line_refusal.ensures)
