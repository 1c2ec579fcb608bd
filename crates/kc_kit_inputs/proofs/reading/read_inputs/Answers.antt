use Rattle.std.proofs.Common.{◌≡◌, ◌∷◌, ◌++◌, [], ◌∙◌, ap, sym, append_assoc, arith}
use Rattle.kc_base.specs.Causes.{Rose}
use Rattle.kc_kit_files.proofs.ReadLemmas.{missed-step, held-step, stays-onward}
use Rattle.kc_kit_words.specs.Inputs.{input_in, inputs_in}
use Rattle.kc_kit_words.specs.Commands.{names_of}
use Rattle.kc_kit_inputs.proofs.InputLemmas.{first-some}
use Rattle.kc_kit_messages.proofs.Words.{texts_in}
use Rattle.kc_kit_inputs.proofs.reading.read_inputs.Goals as goal

pub loop-input-preserved : goal.loop-input-preserved
loop-input-preserved g c =
    let l = c.loop-input in
    let i = l.invariant in
    let name = c.in-Some.input.name.now in
    let left : inputs_in l.left ≡ input_in c.in-Some.input ∷ inputs_in c.in-Some.others = first-some _ _ _ c.in-Some.ensures in
    record {
      done = i.done ++ name ∷ [];
      split = i.split ∙ ap (λ k. i.done ++ names_of k) left ∙ sym (append_assoc i.done (name ∷ []) (names_of (inputs_in c.in-Some.others)));
      read = held-step (g.F.Files.held c.args.files.now) (g.F.Files.held l.files) i.done l.texts.items c.push.new.texts.items name c.in-Ok.bytes i.stays.same i.read c.in-Ok.ensures.read.0 c.in-Ok.ensures.read.1 c.in_ok-push-in-Ok.ensures;
      stays = stays-onward g.F.Files.held g.F.Files.read_faults g.F.Files.write_faults _ _ _ i.stays c.in-Ok.ensures.stays;
    }

pub returns-in-Err-clause-read : goal.returns-in-Err-clause-read
returns-in-Err-clause-read g c =
    let l = c.loop-input in
    let i = l.invariant in
    let name = c.in-Some.input.name.now in
    let left : inputs_in l.left ≡ input_in c.in-Some.input ∷ inputs_in c.in-Some.others = first-some _ _ _ c.in-Some.ensures in
    let rose : Type 0 = Rose (g.F.Files.read_faults l.files) (g.F.Files.read_faults c.read_file.new.files) in
    let later : Type 0 = Rose (g.F.Files.read_faults c.args.files.now) (g.F.Files.read_faults c.read_file.new.files) in
    missed-step (g.F.Files.held c.args.files.now) (g.F.Files.held l.files) (names_of (inputs_in c.args.inputs)) i.done (texts_in l.texts.items) name (names_of (inputs_in c.in-Some.others)) rose later c.in-Err.refusal
    i.stays.same (i.split ∙ ap (λ k. i.done ++ names_of k) left) i.read (λ r. omega (arith, r, i.stays.later)) c.in-Err.ensures.read
