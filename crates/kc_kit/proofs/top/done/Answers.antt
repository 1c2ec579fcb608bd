use Rattle.std.proofs.Common.{◌≡◌, ◌∙◌, [], Some, inl, refl, sym, ap, subst}
use Rattle.kc_base.specs.Causes.{Rose}
use Rattle.kc_kit_files.specs.declared.status.Status.TheVariants as status
use Rattle.kc_kit_files.specs.Response.{Response, says}
use Rattle.kc_kit_files.specs.Outside.{kept}
use Rattle.kc_kit_files.proofs.EndLemmas.{Ends-widen}
use Rattle.kc_kit.proofs.Ending.{printed}
use Rattle.kc_kit_words.specs.Asked.{asked}
use Rattle.kc_kit_words.specs.declared.command.Command.TheVariants as command
use Rattle.kc_kit_inputs.specs.FaultDiagnostics.{IsFaultDiagnostic}
use Rattle.kc_kit_answer.specs.Answer.{MayAnswer}
use Rattle.kc_kit_answer.specs.Explain.{explained}
use Rattle.kc_kit_answer.specs.Help.{help_text, help_on}
use Rattle.kc_kit_answer.proofs.AnswerSteps.{holds-none, finished}
use Rattle.kc_kit.proofs.top.done.Goals as goal

pub returns-in-Help : goal.returns-in-Help
returns-in-Help g c =
    let reported = g.F.Files.held c.args.files.now in
    let rose : Type 0 = Rose (g.F.Files.read_faults c.args.files.now) (g.F.Files.read_faults c.args.files.now) in
    printed (says status.Done help_text) (MayAnswer IsFaultDiagnostic (Some (asked c.args.command.now)) reported rose) _ _ c.by.result c.report_help.result _ _ refl refl c.by.ensures.status c.by.ensures.said
    (λ r e. subst (λ k. MayAnswer IsFaultDiagnostic (Some (asked k)) reported rose r) (sym c.in-Help.is) ([], holds-none reported, inl e))
    (c.report_help.ensures (kept reported (g.F.Files.write_faults c.args.files.now)))

pub returns-in-HelpOn : goal.returns-in-HelpOn
returns-in-HelpOn g c =
    let reported = g.F.Files.held c.args.files.now in
    let rose : Type 0 = Rose (g.F.Files.read_faults c.args.files.now) (g.F.Files.read_faults c.args.files.now) in
    printed (says status.Done (help_on c.in-HelpOn.help.verb.now)) (MayAnswer IsFaultDiagnostic (Some (asked c.args.command.now)) reported rose) _ _ c.by-in-HelpOn.result c.report_help_on.result _ _ refl refl c.by-in-HelpOn.ensures.status c.by-in-HelpOn.ensures.said
    (λ r e. subst (λ k. MayAnswer IsFaultDiagnostic (Some (asked k)) reported rose r) (sym c.in-HelpOn.is) ([], holds-none reported, inl e))
    (c.report_help_on.ensures (kept reported (g.F.Files.write_faults c.args.files.now)))

pub returns-in-Version : goal.returns-in-Version
returns-in-Version g c =
    let reported = g.F.Files.held c.args.files.now in
    let rose : Type 0 = Rose (g.F.Files.read_faults c.args.files.now) (g.F.Files.read_faults c.args.files.now) in
    printed (says status.Done c.as_bytes.result.now) (MayAnswer IsFaultDiagnostic (Some (asked c.args.command.now)) reported rose) _ _ c.by-in-Version.result c.say.result _ _ refl refl c.by-in-Version.ensures.status c.by-in-Version.ensures.said
    (λ r e. subst (λ k. MayAnswer IsFaultDiagnostic (Some (asked k)) reported rose r) (sym c.in-Version.is) ([], holds-none reported, inl (e ∙ ap (says status.Done) c.as_bytes.ensures.value)))
    (c.say.ensures.response (kept reported (g.F.Files.write_faults c.args.files.now)))

pub returns-in-Profile : goal.returns-in-Profile
returns-in-Profile g c =
    finished g.F.Files.held g.F.Files.read_faults g.F.Files.write_faults c.args.command.now _ c.args.files.now c.prepare_profile.new.files c.finish-in-Profile.new.files c.prepare_profile.result _ _ _
    c.in-Profile.is c.prepare_profile.ensures c.finish-in-Profile.ensures.answer c.finish-in-Profile.ensures.no_read

pub returns-in-ProfileHex : goal.returns-in-ProfileHex
returns-in-ProfileHex g c =
    finished g.F.Files.held g.F.Files.read_faults g.F.Files.write_faults c.args.command.now _ c.args.files.now c.prepare_profile_hex.new.files c.finish-in-ProfileHex.new.files c.prepare_profile_hex.result _ _ _
    c.in-ProfileHex.is c.prepare_profile_hex.ensures c.finish-in-ProfileHex.ensures.answer c.finish-in-ProfileHex.ensures.no_read

pub returns-in-Run : goal.returns-in-Run
returns-in-Run g c =
    finished g.F.Files.held g.F.Files.read_faults g.F.Files.write_faults c.args.command.now _ c.args.files.now c.prepare_run.new.files c.finish.new.files c.prepare_run.result _ _ _
    c.in-Run.is c.prepare_run.ensures c.finish.ensures.answer c.finish.ensures.no_read

pub returns-in-Assemble : goal.returns-in-Assemble
returns-in-Assemble g c =
    finished g.F.Files.held g.F.Files.read_faults g.F.Files.write_faults c.args.command.now _ c.args.files.now c.prepare_assemble.new.files c.finish-in-Assemble.new.files c.prepare_assemble.result _ _ _
    c.in-Assemble.is c.prepare_assemble.ensures c.finish-in-Assemble.ensures.answer c.finish-in-Assemble.ensures.no_read

pub returns-in-Link : goal.returns-in-Link
returns-in-Link g c =
    finished g.F.Files.held g.F.Files.read_faults g.F.Files.write_faults c.args.command.now _ c.args.files.now c.prepare_link.new.files c.finish-in-Link.new.files c.prepare_link.result _ _ _
    c.in-Link.is c.prepare_link.ensures c.finish-in-Link.ensures.answer c.finish-in-Link.ensures.no_read

pub returns-in-RunHex : goal.returns-in-RunHex
returns-in-RunHex g c =
    finished g.F.Files.held g.F.Files.read_faults g.F.Files.write_faults c.args.command.now _ c.args.files.now c.prepare_hex.new.files c.finish-in-RunHex.new.files c.prepare_hex.result _ _ _
    c.in-RunHex.is c.prepare_hex.ensures c.finish-in-RunHex.ensures.answer c.finish-in-RunHex.ensures.no_read

pub returns-in-List : goal.returns-in-List
returns-in-List g c =
    finished g.F.Files.held g.F.Files.read_faults g.F.Files.write_faults c.args.command.now _ c.args.files.now c.prepare_list.new.files c.finish-in-List.new.files c.prepare_list.result _ _ _
    c.in-List.is c.prepare_list.ensures c.finish-in-List.ensures.answer c.finish-in-List.ensures.no_read

pub returns-in-Pack : goal.returns-in-Pack
returns-in-Pack g c =
    finished g.F.Files.held g.F.Files.read_faults g.F.Files.write_faults c.args.command.now _ c.args.files.now c.prepare_pack.new.files c.finish-in-Pack.new.files c.prepare_pack.result _ _ _
    c.in-Pack.is c.prepare_pack.ensures c.finish-in-Pack.ensures.answer c.finish-in-Pack.ensures.no_read

pub returns-in-Debug : goal.returns-in-Debug
returns-in-Debug g c =
    finished g.F.Files.held g.F.Files.read_faults g.F.Files.write_faults c.args.command.now _ c.args.files.now c.prepare_debug.new.files c.finish-in-Debug.new.files c.prepare_debug.result _ _ _
    c.in-Debug.is c.prepare_debug.ensures c.finish-in-Debug.ensures.answer c.finish-in-Debug.ensures.no_read

pub returns-in-Generate : goal.returns-in-Generate
returns-in-Generate g c =
    let reported = g.F.Files.held c.args.files.now in
    let rose : Type 0 = Rose (g.F.Files.read_faults c.args.files.now) (g.F.Files.read_faults c.generated.new.files) in
    Ends-widen (MayAnswer IsFaultDiagnostic (Some (asked (command.Generate c.in-Generate.generate))) reported rose) (MayAnswer IsFaultDiagnostic (Some (asked c.args.command.now)) reported rose) _ _ _ _ _ _
    (λ r e. subst (λ k. MayAnswer IsFaultDiagnostic (Some (asked k)) reported rose r) (sym c.in-Generate.is) e) c.generated.ensures

pub returns-in-Dump : goal.returns-in-Dump
returns-in-Dump g c =
    finished g.F.Files.held g.F.Files.read_faults g.F.Files.write_faults c.args.command.now _ c.args.files.now c.prepare_dump.new.files c.finish-in-Dump.new.files c.prepare_dump.result _ _ _
    c.in-Dump.is c.prepare_dump.ensures c.finish-in-Dump.ensures.answer c.finish-in-Dump.ensures.no_read

pub returns-in-Check : goal.returns-in-Check
returns-in-Check g c =
    finished g.F.Files.held g.F.Files.read_faults g.F.Files.write_faults c.args.command.now _ c.args.files.now c.prepare_check.new.files c.finish-in-Check.new.files c.prepare_check.result _ _ _
    c.in-Check.is c.prepare_check.ensures c.finish-in-Check.ensures.answer c.finish-in-Check.ensures.no_read

pub returns-in-Bound : goal.returns-in-Bound
returns-in-Bound g c =
    finished g.F.Files.held g.F.Files.read_faults g.F.Files.write_faults c.args.command.now _ c.args.files.now c.prepare_bound.new.files c.finish-in-Bound.new.files c.prepare_bound.result _ _ _
    c.in-Bound.is c.prepare_bound.ensures c.finish-in-Bound.ensures.answer c.finish-in-Bound.ensures.no_read

pub returns-in-Explain : goal.returns-in-Explain
returns-in-Explain g c =
    let reported = g.F.Files.held c.args.files.now in
    let rose : Type 0 = Rose (g.F.Files.read_faults c.args.files.now) (g.F.Files.read_faults c.args.files.now) in
    Ends-widen (λ (response : Response). response ≡ explained c.in-Explain.explain.code.now) (MayAnswer IsFaultDiagnostic (Some (asked c.args.command.now)) reported rose) _ _ _ _ _ _
    (λ r e. subst (λ k. MayAnswer IsFaultDiagnostic (Some (asked k)) reported rose r) (sym c.in-Explain.is) ([], holds-none reported, inl e))
    (c.explain_code.ensures (kept reported (g.F.Files.write_faults c.args.files.now)))
