use Rattle.std.proofs.Common.{◌≤◌, ◌<◌, ◌+◌, ◌∷◌, [], ◌∙◌, ap, sym, subst, length, arith}
use Rattle.std.proofs.lemmas.List.{length-append}
use Rattle.kc_asm.specs.Assembled.{IsModule}
use Rattle.kc_kit_files.proofs.ReadLemmas.{refused-widen}
use Rattle.kc_kit_inputs.specs.FaultDiagnostics.{IsFaultDiagnostic}
use Rattle.kc_kit_inputs.specs.Sources.{ReportsFault, ReportsFirst}
use Rattle.kc_kit_messages.proofs.Words.{names_in, texts_in, short-at}
use Rattle.kc_kit_inputs.proofs.SourceLemmas.{onward-next, onward-stop, onward-end}
use Rattle.kc_kit_inputs.proofs.sources.assemble_sources.Goals as goal

pub assemble_source-requires : goal.assemble_source-requires
assemble_source-requires c =
    subst (λ b. length b ≤ 1048576) (sym c.deref.ensures.value)
    (short-at c.args.texts.now c.loop-i.i c.index-texts-i.result c.requires.short (omega (arith, c.loop-i-test.true, c.requires.count)) c.index-texts-i.is)

pub returns-clause-made : goal.returns-clause-made
returns-clause-made c = onward-end c.args.names.now c.args.texts.now c.loop-i.i c.loop-i.modules.items (omega (arith, c.loop-i-test.false)) c.requires.count c.loop-i.invariant.onward

pub returns-in-Err-clause-refusal : goal.returns-in-Err-clause-refusal
returns-in-Err-clause-refusal c =
    let l = c.loop-i in
    let within : l.i < length c.args.names.now = omega (arith, c.loop-i-test.true) in
    refused-widen (ReportsFault IsFaultDiagnostic c.as_str.result.now c.deref.result.now) (ReportsFirst IsFaultDiagnostic (names_in c.args.names.now) (texts_in c.args.texts.now)) c.in-Err.refusal
    (λ r e. onward-stop c.args.names.now c.args.texts.now l.i c.index-names-i.result c.index-texts-i.result l.modules.items r within c.requires.count c.index-names-i.is c.index-texts-i.is
    (subst (λ n. ReportsFault IsFaultDiagnostic n c.index-texts-i.result.items r) c.as_str.ensures.value (subst (λ b. ReportsFault IsFaultDiagnostic c.as_str.result.now b r) c.deref.ensures.value e)) l.invariant.onward)
    c.in-Err.ensures.refusal

pub loop-i-preserved : goal.loop-i-preserved
loop-i-preserved c =
    let l = c.loop-i in
    let within : l.i < length c.args.names.now = omega (arith, c.loop-i-test.true) in
    let pushed = c.in_ok-push-in-Ok.ensures in
    record {
      onward = rw pushed (onward-next c.args.names.now c.args.texts.now l.i c.index-names-i.result c.index-texts-i.result l.modules.items c.in-Ok.made within c.requires.count c.index-names-i.is c.index-texts-i.is
          (subst (λ b. IsModule b c.in-Ok.made) c.deref.ensures.value c.in-Ok.ensures.made) l.invariant.onward);
      count = ap length pushed ∙ length-append l.modules.items (c.in-Ok.made ∷ []) ∙ ap (λ n. n + 1) l.invariant.count;
    }
