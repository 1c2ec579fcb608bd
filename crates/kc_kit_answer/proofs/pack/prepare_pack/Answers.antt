use Rattle.std.proofs.Common.{map, string_bytes}
use Rattle.std.specs.Prelude.{Some}
use Rattle.kc_base.specs.Causes.{Rose}
use Rattle.kc_kit_words.specs.Commands.{Packs}
use Rattle.kc_kit_messages.proofs.Words.{texts_in}
use Rattle.kc_kit_inputs.specs.FaultDiagnostics.{IsFaultDiagnostic}
use Rattle.kc_kit_answer.specs.Answer.{MayAnswer}
use Rattle.kc_kit_answer.specs.Pack.{PackAnswer}
use Rattle.kc_kit_answer.proofs.AnswerSteps.{held-then, prepared-widen}
use Rattle.kc_kit_answer.proofs.pack.prepare_pack.Goals as goal

pub returns-in-Ok : goal.returns-in-Ok
returns-in-Ok g c =
    let pack = c.args.pack.now in
    let names = map string_bytes pack.files.now in
    let rose : Type 0 = Rose (g.F.Files.read_faults c.args.files.now) (g.F.Files.read_faults c.read_files.new.files) in
    record {
      answer = prepared-widen (PackAnswer names pack.out.now (texts_in c.in-Ok.texts.items)) (MayAnswer IsFaultDiagnostic (Some (Packs names pack.out.now)) (g.F.Files.held c.args.files.now) rose) c.pack_texts.result
          (λ r m. held-then names (PackAnswer names pack.out.now) (g.F.Files.held c.args.files.now) rose (texts_in c.in-Ok.texts.items) r c.in-Ok.ensures.read m)
          (rw c.deref.ensures.value at c.pack_texts.ensures);
      only_read = c.read_files.ensures.stays;
    }
