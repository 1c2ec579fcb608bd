use Rattle.std.proofs.Common.{◌≡◌, ◌≢◌, ◌∷◌, None, subst, arith}
use Rattle.kc_base.specs.Causes.{Rose}
use Rattle.kc_base.specs.Held.{Reported}
use Rattle.kc_kit_files.proofs.ReadLemmas.{stays-onward}
use Rattle.kc_kit_words.specs.Inputs.{inputs_in}
use Rattle.kc_kit_words.specs.Commands.{names_whole}
use Rattle.kc_kit_messages.proofs.Words.{texts_in}
use Rattle.kc_kit_answer.specs.Check.{CheckTexts}
use Rattle.kc_kit_answer.proofs.TraceLemmas.{trace-missed, trace-open}
use Rattle.kc_kit_answer.proofs.CheckLemmas.{rules-missed, inputs-missed, held-whole}
use Rattle.kc_kit_answer.proofs.check.prepare_check.Goals as goal

pub returns-in-Err : goal.returns-in-Err
returns-in-Err g c =
    let check = c.args.check.now in
    let reported = g.F.Files.held c.args.files.now in
    let rose : Type 0 = Rose (g.F.Files.read_faults c.args.files.now) (g.F.Files.read_faults c.read_file.new.files) in
    record {
      answer = rules-missed check.trace.now check.rules.now (inputs_in check.inputs) check.clock reported rose c.in-Err.refusal c.in-Err.ensures.read;
      only_read = c.read_file.ensures.stays;
    }

pub returns-in-Err-read_inputs : goal.returns-in-Err-read_inputs
returns-in-Err-read_inputs g c =
    let check = c.args.check.now in
    let reported = g.F.Files.held c.args.files.now in
    let rose : Type 0 = Rose (g.F.Files.read_faults c.read_file.new.files) (g.F.Files.read_faults c.read_inputs.new.files) in
    let later : Type 0 = Rose (g.F.Files.read_faults c.args.files.now) (g.F.Files.read_faults c.read_inputs.new.files) in
    record {
      answer = inputs-missed check.trace.now check.rules.now (inputs_in check.inputs) check.clock reported (g.F.Files.held c.read_file.new.files) c.in-Ok.text.items rose later c.in-Err-read_inputs.refusal
          c.read_file.ensures.stays.same c.in-Ok.ensures.read.0 c.in-Ok.ensures.read.1 (λ r. omega (arith, r, c.read_file.ensures.stays.later)) c.in-Err-read_inputs.ensures.read;
      only_read = stays-onward g.F.Files.held g.F.Files.read_faults g.F.Files.write_faults _ _ _ c.read_file.ensures.stays c.read_inputs.ensures.stays;
    }

pub returns-in-Ok-open : goal.returns-in-Ok-open
returns-in-Ok-open g c =
    let check = c.args.check.now in
    let trace = check.trace.now in
    let rules = check.rules.now in
    let inputs = inputs_in check.inputs in
    let reported = g.F.Files.held c.args.files.now in
    let text = c.in-Ok.text.items in
    let more = texts_in c.in-Ok-read_inputs.inputs.items in
    let rose : Type 0 = Rose (g.F.Files.read_faults c.open.new.self) (g.F.Files.read_faults c.check_stream.new.files) in
    let later : Type 0 = Rose (g.F.Files.read_faults c.args.files.now) (g.F.Files.read_faults c.check_stream.new.files) in
    let left = g.F.Stream.Source.to_come c.in-Ok-open.stream in
    let read = stays-onward g.F.Files.held g.F.Files.read_faults g.F.Files.write_faults _ _ _ c.read_file.ensures.stays c.read_inputs.ensures.stays in
    let opened = stays-onward g.F.Files.held g.F.Files.read_faults g.F.Files.write_faults _ _ _ read (record { same = c.open.ensures.same; later = c.open.ensures.later; no_write = c.open.ensures.no_write }) in
    record {
      answer = trace-open trace (names_whole rules inputs) (λ printed. CheckTexts trace rules inputs check.clock printed) reported rose later (text ∷ more) left c.check_stream.result
          (held-whole trace rules inputs check.clock reported (g.F.Files.held c.read_file.new.files) text more c.read_file.ensures.stays.same c.in-Ok.ensures.read.0 c.in-Ok.ensures.read.1 c.in-Ok-read_inputs.ensures.read)
          (λ r. omega (arith, r, opened.later))
          (subst (λ h. Reported h (λ held. (held trace ≢ None) × (left ≡ held trace))) read.same c.in-Ok-open.ensures.bytes)
          (rw (c.deref.ensures.value, c.deref-in-Ok-open.ensures.value) at c.check_stream.ensures.answer);
      only_read = stays-onward g.F.Files.held g.F.Files.read_faults g.F.Files.write_faults _ _ _ opened c.check_stream.ensures.only_read;
    }

pub returns : goal.returns
returns g c =
    let check = c.args.check.now in
    let trace = check.trace.now in
    let rules = check.rules.now in
    let inputs = inputs_in check.inputs in
    let reported = g.F.Files.held c.args.files.now in
    let text = c.in-Ok.text.items in
    let more = texts_in c.in-Ok-read_inputs.inputs.items in
    let rose : Type 0 = Rose (g.F.Files.read_faults c.read_inputs.new.files) (g.F.Files.read_faults c.open.new.self) in
    let later : Type 0 = Rose (g.F.Files.read_faults c.args.files.now) (g.F.Files.read_faults c.open.new.self) in
    let read = stays-onward g.F.Files.held g.F.Files.read_faults g.F.Files.write_faults _ _ _ c.read_file.ensures.stays c.read_inputs.ensures.stays in
    record {
      answer = trace-missed trace (names_whole rules inputs) (λ printed. CheckTexts trace rules inputs check.clock printed) reported (g.F.Files.held c.read_inputs.new.files) rose later (text ∷ more) c.in-Err-open.fault c.unread.result
          (held-whole trace rules inputs check.clock reported (g.F.Files.held c.read_file.new.files) text more c.read_file.ensures.stays.same c.in-Ok.ensures.read.0 c.in-Ok.ensures.read.1 c.in-Ok-read_inputs.ensures.read)
          read.same (λ r. omega (arith, r, read.later)) c.in-Err-open.ensures.missing c.in-Err-open.ensures.not_long c.in-Err-open.ensures.failed c.unread.ensures;
      only_read = stays-onward g.F.Files.held g.F.Files.read_faults g.F.Files.write_faults _ _ _ read (record { same = c.open.ensures.same; later = c.open.ensures.later; no_write = c.open.ensures.no_write });
    }
