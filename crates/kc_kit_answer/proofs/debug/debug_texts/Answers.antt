use Rattle.std.proofs.Common.{subst, List, ℕ}
use Rattle.kc_kit_words.specs.Inputs.{inputs_in}
use Rattle.kc_kit_words.specs.declared.inputs.Role.TheVariants as role
use Rattle.kc_kit_files.specs.Response.{IsRefused}
use Rattle.kc_kit_inputs.specs.Driving.{given_for}
use Rattle.kc_kit_inputs.specs.Inputs.{input_for}
use Rattle.kc_kit_messages.proofs.Words.{texts_in}
use Rattle.kc_kit_answer.specs.Debug.{debug_response}
use Rattle.kc_kit_answer.specs.Hex.{HexReported}
use Rattle.kc_kit_answer.proofs.DebugLemmas.{IsGivenBoard, script-refused, lines-refused, script-carried}
use Rattle.kc_kit_answer.proofs.debug.debug_texts.Goals as goal

pub returns-in-Err : goal.returns-in-Err
returns-in-Err c =
    let debug = c.args.debug.now in
    let script : List ℕ × List ℕ = (debug.script.now, c.args.script.now) in
    let lines = input_for role.Lines (inputs_in debug.inputs) (texts_in c.args.inputs.now) in
    subst (λ s. IsRefused (HexReported debug.file.now s c.args.text.now (debug_response script lines debug.lives)) c.in-Err.refusal) c.given_for-given.ensures.given (c.in-Err.ensures (debug_response script lines debug.lives))

pub returns-in-Err-read_script : goal.returns-in-Err-read_script
returns-in-Err-read_script c =
    let debug = c.args.debug.now in
    let script : List ℕ × List ℕ = (debug.script.now, c.args.script.now) in
    let inputs = inputs_in debug.inputs in
    let texts = texts_in c.args.inputs.now in
    let board = c.in-Ok.board in
    script-refused debug.file.now c.args.text.now (given_for inputs texts) script (input_for role.Lines inputs texts) debug.lives board.driving board.image c.in-Err-read_script.refusal
    (subst (λ s. IsGivenBoard debug.file.now s c.args.text.now board.driving board.image) c.given_for-given.ensures.given c.in-Ok.ensures) c.in-Err-read_script.ensures.refusal

pub returns-in-Ok-lines_in : goal.returns-in-Ok-lines_in
returns-in-Ok-lines_in c =
    let debug = c.args.debug.now in
    let script : List ℕ × List ℕ = (debug.script.now, c.args.script.now) in
    let inputs = inputs_in debug.inputs in
    let texts = texts_in c.args.inputs.now in
    let board = c.in-Ok.board in (
      script-carried debug.file.now c.args.text.now (given_for inputs texts) script (input_for role.Lines inputs texts) debug.lives board.driving board.image c.in-Ok-read_script.script c.in-Ok-lines_in.lines
          (subst (λ s. IsGivenBoard debug.file.now s c.args.text.now board.driving board.image) c.given_for-given.ensures.given c.in-Ok.ensures) c.in-Ok-read_script.ensures.script
          (rw c.input_for.ensures.input at c.in-Ok-lines_in.ensures.lines),
      c.requires.lives,
    )

pub returns-in-Err-lines_in : goal.returns-in-Err-lines_in
returns-in-Err-lines_in c =
    let debug = c.args.debug.now in
    let script : List ℕ × List ℕ = (debug.script.now, c.args.script.now) in
    let inputs = inputs_in debug.inputs in
    let texts = texts_in c.args.inputs.now in
    let board = c.in-Ok.board in
    lines-refused debug.file.now c.args.text.now (given_for inputs texts) script (input_for role.Lines inputs texts) debug.lives board.driving board.image c.in-Ok-read_script.script c.in-Err-lines_in.refusal
    (subst (λ s. IsGivenBoard debug.file.now s c.args.text.now board.driving board.image) c.given_for-given.ensures.given c.in-Ok.ensures) c.in-Ok-read_script.ensures.script
    (rw c.input_for.ensures.input at c.in-Err-lines_in.ensures.refusal)
