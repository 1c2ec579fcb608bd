use Rattle.std.proofs.Common.{ap, sym, subst, ◌∙◌, Some}
use Rattle.std.specs.Option.{option_copied, option_map}
use Rattle.kc_kit_messages.specs.Codes.{all_codes}
use Rattle.kc_kit_messages.specs.Meanings.{IsAnswer, source_rows, input_rows, run_rows, instruction_rows, all_said}
use Rattle.kc_kit_messages.proofs.Rows.{join}
use Rattle.kc_kit_messages.proofs.Distinct.{meaning-is}
use Rattle.kc_kit_messages.proofs.lookup.meaning_of.Goals as goal

pub returns-in-Some-clause-row : goal.returns-in-Some-clause-row
unfolding all_said
returns-in-Some-clause-row c =
    ap Some c.meaning_in.ensures ∙ ap (option_map _) (sym (ap option_copied c.in-Some.is))
    ∙ join _ c.args.code.now c.sources.result.now _ _ _ source_rows _ c.sources.ensures c.find_in-in_sources.ensures
    (join _ c.args.code.now c.inputs.result.now _ _ _ input_rows _ c.inputs.ensures c.find_in-in_inputs.ensures
    (join _ c.args.code.now c.runs.result.now _ _ _ run_rows instruction_rows c.runs.ensures c.find_in-in_runs.ensures c.find_instruction-in_instructions.ensures
    c.earlier-later.ensures) c.earlier-others.ensures) c.earlier.ensures

pub returns-in-Some-clause-answer : goal.returns-in-Some-clause-answer
returns-in-Some-clause-answer c = subst (IsAnswer all_codes c.args.code.now) (sym (returns-in-Some-clause-row c)) (meaning-is c.args.code.now)

pub returns-in-None-clause-row : goal.returns-in-None-clause-row
unfolding all_said
returns-in-None-clause-row c =
    ap (option_map _) (sym (ap option_copied c.in-None.is))
    ∙ join _ c.args.code.now c.sources.result.now _ _ _ source_rows _ c.sources.ensures c.find_in-in_sources.ensures
    (join _ c.args.code.now c.inputs.result.now _ _ _ input_rows _ c.inputs.ensures c.find_in-in_inputs.ensures
    (join _ c.args.code.now c.runs.result.now _ _ _ run_rows instruction_rows c.runs.ensures c.find_in-in_runs.ensures c.find_instruction-in_instructions.ensures
    c.earlier-later.ensures) c.earlier-others.ensures) c.earlier.ensures

pub returns-in-None-clause-answer : goal.returns-in-None-clause-answer
returns-in-None-clause-answer c = subst (IsAnswer all_codes c.args.code.now) (sym (returns-in-None-clause-row c)) (meaning-is c.args.code.now)
