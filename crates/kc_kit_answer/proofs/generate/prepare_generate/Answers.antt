use Rattle.std.proofs.Common.{◌∙◌, ap, map, string_bytes}
use Rattle.kc_kit_files.specs.Response.{IsRefused}
use Rattle.kc_kit_messages.proofs.Words.{texts_in}
use Rattle.kc_kit_running.specs.Counted.{summary_of}
use Rattle.kc_kit_inputs.specs.FaultDiagnostics.{IsFaultDiagnostic}
use Rattle.kc_kit_answer.specs.Run.{SourcesReported}
use Rattle.kc_kit_answer.proofs.MadeLemmas.{same-input, default-ranges}
use Rattle.kc_kit_answer.proofs.generate.prepare_generate.Goals as goal

pub returns-in-Ok-board_of_sources : goal.returns-in-Ok-board_of_sources
returns-in-Ok-board_of_sources c =
    let report = summary_of c.args.number in
    let board = c.in-Ok-board_of_sources.board in (
      same-input c.args.number (λ names given ranges texts. SourcesReported IsFaultDiagnostic names given ranges texts report (report board.driving board.image)) (map string_bytes c.deref.result.now) c.as_slice.result.now c.new.result (texts_in c.deref-2.result.now)
          (ap (map string_bytes) c.deref.ensures.value ∙ c.in-Ok.ensures.names) (c.as_slice.ensures.value ∙ c.in-Ok.ensures.stimuli) (c.new.ensures ∙ default-ranges) (ap texts_in c.deref-2.ensures.value ∙ c.in-Ok.ensures.texts)
          (c.in-Ok-board_of_sources.ensures report),
      tt,
    )

pub returns : goal.returns
returns c =
    let report = summary_of c.args.number in
    same-input c.args.number (λ names given ranges texts. IsRefused (SourcesReported IsFaultDiagnostic names given ranges texts report) c.in-Err.refusal) (map string_bytes c.deref.result.now) c.as_slice.result.now c.new.result (texts_in c.deref-2.result.now)
    (ap (map string_bytes) c.deref.ensures.value ∙ c.in-Ok.ensures.names) (c.as_slice.ensures.value ∙ c.in-Ok.ensures.stimuli) (c.new.ensures ∙ default-ranges) (ap texts_in c.deref-2.ensures.value ∙ c.in-Ok.ensures.texts)
    (c.in-Err.ensures report)
