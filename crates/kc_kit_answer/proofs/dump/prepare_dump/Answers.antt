use Rattle.std.proofs.Common.{◌≡◌, ◌≢◌, None, subst, arith}
use Rattle.kc_base.specs.Causes.{Rose}
use Rattle.kc_base.specs.Held.{Reported}
use Rattle.kc_kit_files.proofs.ReadLemmas.{stays-onward}
use Rattle.kc_kit_words.specs.Inputs.{inputs_in}
use Rattle.kc_kit_words.specs.Commands.{names_of}
use Rattle.kc_kit_messages.proofs.Words.{texts_in}
use Rattle.kc_kit_answer.specs.Dump.{DumpAnswer}
use Rattle.kc_kit_answer.proofs.TraceLemmas.{trace-missed, trace-open}
use Rattle.kc_kit_answer.proofs.DumpLemmas.{inputs-missed}
use Rattle.kc_kit_answer.proofs.dump.prepare_dump.Goals as goal

pub returns-in-Err : goal.returns-in-Err
returns-in-Err g c =
    let dump = c.args.dump.now in
    let reported = g.F.Files.held c.args.files.now in
    let rose : Type 0 = Rose (g.F.Files.read_faults c.args.files.now) (g.F.Files.read_faults c.read_inputs.new.files) in
    record {
      answer = inputs-missed dump.trace.now (inputs_in dump.inputs) dump.out.now dump.clock reported rose c.in-Err.refusal c.in-Err.ensures.read;
      only_read = c.read_inputs.ensures.stays;
    }

pub returns-in-Ok-open : goal.returns-in-Ok-open
returns-in-Ok-open g c =
    let dump = c.args.dump.now in
    let trace = dump.trace.now in
    let inputs = inputs_in dump.inputs in
    let reported = g.F.Files.held c.args.files.now in
    let texts = texts_in c.in-Ok.inputs.items in
    let rose : Type 0 = Rose (g.F.Files.read_faults c.open.new.self) (g.F.Files.read_faults c.dump_stream.new.files) in
    let later : Type 0 = Rose (g.F.Files.read_faults c.args.files.now) (g.F.Files.read_faults c.dump_stream.new.files) in
    let left = g.F.Stream.Source.to_come c.in-Ok-open.stream in
    let opened = stays-onward g.F.Files.held g.F.Files.read_faults g.F.Files.write_faults _ _ _ c.read_inputs.ensures.stays (record { same = c.open.ensures.same; later = c.open.ensures.later; no_write = c.open.ensures.no_write }) in
    record {
      answer = trace-open trace (names_of inputs) (λ printed. DumpAnswer trace inputs dump.out.now dump.clock printed) reported rose later texts left c.dump_stream.result
          c.in-Ok.ensures.read (λ r. omega (arith, r, opened.later))
          (subst (λ h. Reported h (λ held. (held trace ≢ None) × (left ≡ held trace))) c.read_inputs.ensures.stays.same c.in-Ok-open.ensures.bytes)
          (rw c.deref.ensures.value at c.dump_stream.ensures.answer);
      only_read = stays-onward g.F.Files.held g.F.Files.read_faults g.F.Files.write_faults _ _ _ opened c.dump_stream.ensures.only_read;
    }

pub returns : goal.returns
returns g c =
    let dump = c.args.dump.now in
    let trace = dump.trace.now in
    let inputs = inputs_in dump.inputs in
    let reported = g.F.Files.held c.args.files.now in
    let rose : Type 0 = Rose (g.F.Files.read_faults c.read_inputs.new.files) (g.F.Files.read_faults c.open.new.self) in
    let later : Type 0 = Rose (g.F.Files.read_faults c.args.files.now) (g.F.Files.read_faults c.open.new.self) in
    record {
      answer = trace-missed trace (names_of inputs) (λ printed. DumpAnswer trace inputs dump.out.now dump.clock printed) reported (g.F.Files.held c.read_inputs.new.files) rose later (texts_in c.in-Ok.inputs.items) c.in-Err-open.fault c.unread.result
          c.in-Ok.ensures.read c.read_inputs.ensures.stays.same (λ r. omega (arith, r, c.read_inputs.ensures.stays.later)) c.in-Err-open.ensures.missing c.in-Err-open.ensures.not_long c.in-Err-open.ensures.failed c.unread.ensures;
      only_read = stays-onward g.F.Files.held g.F.Files.read_faults g.F.Files.write_faults _ _ _ c.read_inputs.ensures.stays (record { same = c.open.ensures.same; later = c.open.ensures.later; no_write = c.open.ensures.no_write });
    }
