use Rattle.std.proofs.Common.{◌≡◌, ◌≢◌, ◌∙◌, ap, sym, map, string_bytes}
use Rattle.kc_base.specs.Causes.{Rose}
use Rattle.kc_kit_files.specs.declared.status.Status.TheVariants as status
use Rattle.kc_kit_files.specs.Outside.{Kept, kept, shown}
use Rattle.kc_kit_words.specs.Words.{command_of}
use Rattle.kc_kit_words.specs.Commands.{names_written}
use Rattle.kc_kit_inputs.specs.Sources.{AnyDiagnostic}
use Rattle.kc_kit_answer.specs.Answer.{MayAnswer}
use Rattle.kc_kit.proofs.AnswerLemmas.{done-of, may-usage, may-read, may-named, status-of, fault-of, ends-of, ends-same, ends-stay}
use Rattle.kc_kit.proofs.top.kit.Goals as goal

pub returns-clause-complete : goal.returns-clause-complete
returns-clause-complete g c =
    let command = command_of (map string_bytes c.args.words.now) in
    let reported = g.F.Files.held c.args.files.now in
    let rose : Type 0 = Rose (g.F.Files.read_faults c.args.files.now) (g.F.Files.read_faults c.answered.new.files) in
    let old = kept reported (g.F.Files.write_faults c.args.files.now) in
    let new = kept (g.F.Files.held c.answered.new.files) (g.F.Files.write_faults c.answered.new.files) in
    let before = shown (g.S.Sink.written c.args.out.now.sink) (g.S.Sink.faults c.args.out.now.sink) in
    let now = shown (g.S.Sink.written c.answered.new.out.sink) (g.S.Sink.faults c.answered.new.out.sink) in
    done-of command reported rose old before c.answered.result new now c.answered.ensures.answer

pub returns-clause-usage : goal.returns-clause-usage
returns-clause-usage g c =
    let command = command_of (map string_bytes c.args.words.now) in
    let reported = g.F.Files.held c.args.files.now in
    let rose : Type 0 = Rose (g.F.Files.read_faults c.args.files.now) (g.F.Files.read_faults c.answered.new.files) in
    let old = kept reported (g.F.Files.write_faults c.args.files.now) in
    let new = kept (g.F.Files.held c.answered.new.files) (g.F.Files.write_faults c.answered.new.files) in
    let before = shown (g.S.Sink.written c.args.out.now.sink) (g.S.Sink.faults c.args.out.now.sink) in
    let now = shown (g.S.Sink.written c.answered.new.out.sink) (g.S.Sink.faults c.answered.new.out.sink) in
    λ e.
    let write : c.answered.result ≢ status.WriteFault = λ f. let h : status.Usage ≡ status.WriteFault = sym e ∙ f in cc in
    let memory : c.answered.result ≢ status.NoMemory = λ f. let h : status.Usage ≡ status.NoMemory = sym e ∙ f in cc in
    let k = status-of (MayAnswer AnyDiagnostic command reported rose) old before c.answered.result new now write memory c.answered.ensures.answer in
    may-usage command reported rose k.0 k.1 (sym k.2 ∙ e)

pub returns-clause-read_fault : goal.returns-clause-read_fault
returns-clause-read_fault g c =
    let command = command_of (map string_bytes c.args.words.now) in
    let reported = g.F.Files.held c.args.files.now in
    let rose : Type 0 = Rose (g.F.Files.read_faults c.args.files.now) (g.F.Files.read_faults c.answered.new.files) in
    let old = kept reported (g.F.Files.write_faults c.args.files.now) in
    let new = kept (g.F.Files.held c.answered.new.files) (g.F.Files.write_faults c.answered.new.files) in
    let before = shown (g.S.Sink.written c.args.out.now.sink) (g.S.Sink.faults c.args.out.now.sink) in
    let now = shown (g.S.Sink.written c.answered.new.out.sink) (g.S.Sink.faults c.answered.new.out.sink) in
    λ e.
    let write : c.answered.result ≢ status.WriteFault = λ f. let h : status.ReadFault ≡ status.WriteFault = sym e ∙ f in cc in
    let memory : c.answered.result ≢ status.NoMemory = λ f. let h : status.ReadFault ≡ status.NoMemory = sym e ∙ f in cc in
    let k = status-of (MayAnswer AnyDiagnostic command reported rose) old before c.answered.result new now write memory c.answered.ensures.answer in
    may-read command reported rose k.0 k.1 (sym k.2 ∙ e)

pub returns-clause-write_fault : goal.returns-clause-write_fault
returns-clause-write_fault g c =
    let command = command_of (map string_bytes c.args.words.now) in
    let reported = g.F.Files.held c.args.files.now in
    let rose : Type 0 = Rose (g.F.Files.read_faults c.args.files.now) (g.F.Files.read_faults c.answered.new.files) in
    let old = kept reported (g.F.Files.write_faults c.args.files.now) in
    let new = kept (g.F.Files.held c.answered.new.files) (g.F.Files.write_faults c.answered.new.files) in
    let before = shown (g.S.Sink.written c.args.out.now.sink) (g.S.Sink.faults c.args.out.now.sink) in
    let now = shown (g.S.Sink.written c.answered.new.out.sink) (g.S.Sink.faults c.answered.new.out.sink) in
    fault-of (MayAnswer AnyDiagnostic command reported rose) old before c.answered.result new now (names_written command) (may-named command reported rose) c.answered.ensures.answer

pub returns-clause-others : goal.returns-clause-others
returns-clause-others g c =
    let command = command_of (map string_bytes c.args.words.now) in
    let reported = g.F.Files.held c.args.files.now in
    let rose : Type 0 = Rose (g.F.Files.read_faults c.args.files.now) (g.F.Files.read_faults c.answered.new.files) in
    let old = kept reported (g.F.Files.write_faults c.args.files.now) in
    let new = kept (g.F.Files.held c.answered.new.files) (g.F.Files.write_faults c.answered.new.files) in
    let before = shown (g.S.Sink.written c.args.out.now.sink) (g.S.Sink.faults c.args.out.now.sink) in
    let now = shown (g.S.Sink.written c.answered.new.out.sink) (g.S.Sink.faults c.answered.new.out.sink) in
    ends-stay (MayAnswer AnyDiagnostic command reported rose) old new (names_written command) (may-named command reported rose) (ends-of (MayAnswer AnyDiagnostic command reported rose) old before c.answered.result new now c.answered.ensures.answer)

pub returns-clause-same : goal.returns-clause-same
returns-clause-same g c =
    let command = command_of (map string_bytes c.args.words.now) in
    let reported = g.F.Files.held c.args.files.now in
    let rose : Type 0 = Rose (g.F.Files.read_faults c.args.files.now) (g.F.Files.read_faults c.answered.new.files) in
    let old = kept reported (g.F.Files.write_faults c.args.files.now) in
    let new = kept (g.F.Files.held c.answered.new.files) (g.F.Files.write_faults c.answered.new.files) in
    let before = shown (g.S.Sink.written c.args.out.now.sink) (g.S.Sink.faults c.args.out.now.sink) in
    let now = shown (g.S.Sink.written c.answered.new.out.sink) (g.S.Sink.faults c.answered.new.out.sink) in
    λ e. ap (λ (k : Kept). k.held) (ends-same (MayAnswer AnyDiagnostic command reported rose) old new (names_written command) (may-named command reported rose) e (ends-of (MayAnswer AnyDiagnostic command reported rose) old before c.answered.result new now c.answered.ensures.answer))

pub returns-clause-no_write : goal.returns-clause-no_write
returns-clause-no_write g c =
    let command = command_of (map string_bytes c.args.words.now) in
    let reported = g.F.Files.held c.args.files.now in
    let rose : Type 0 = Rose (g.F.Files.read_faults c.args.files.now) (g.F.Files.read_faults c.answered.new.files) in
    let old = kept reported (g.F.Files.write_faults c.args.files.now) in
    let new = kept (g.F.Files.held c.answered.new.files) (g.F.Files.write_faults c.answered.new.files) in
    let before = shown (g.S.Sink.written c.args.out.now.sink) (g.S.Sink.faults c.args.out.now.sink) in
    let now = shown (g.S.Sink.written c.answered.new.out.sink) (g.S.Sink.faults c.answered.new.out.sink) in
    λ e. ap (λ (k : Kept). k.faults) (ends-same (MayAnswer AnyDiagnostic command reported rose) old new (names_written command) (may-named command reported rose) e (ends-of (MayAnswer AnyDiagnostic command reported rose) old before c.answered.result new now c.answered.ensures.answer))
