use Rattle.std.proofs.Common.{◌∷◌, ◌++◌, []}
use Rattle.kc_kit_files.specs.Outside.{kept}
use Rattle.kc_kit_running.specs.Writing.{written}
use Rattle.kc_kit_running.proofs.WritingLemmas.{written-behind, written-prefix}
use Rattle.kc_kit_answer.specs.Jobs.{maybe_written}
use Rattle.kc_kit_answer.proofs.job.write_files.Goals as goal

pub returns-in-Done-clause-written : goal.returns-in-Done-clause-written
returns-in-Done-clause-written g c =
    let old = kept (g.F.Files.held c.args.files.now) (g.F.Files.write_faults c.args.files.now) in
    let one = kept (g.F.Files.held c.write_output-first.new.files) (g.F.Files.write_faults c.write_output-first.new.files) in
    let two = kept (g.F.Files.held c.write_beside.new.files) (g.F.Files.write_faults c.write_beside.new.files) in
    written-behind old one two (written c.args.file.now ∷ []) (maybe_written c.args.lines.now ++ maybe_written c.args.map.now) c.write_output-first.result c.write_beside.result c.in-Done.is c.write_output-first.ensures.written
    c.write_output-first.ensures.later c.write_beside.ensures.written

pub returns-clause-written : goal.returns-clause-written
returns-clause-written g c =
    let old = kept (g.F.Files.held c.args.files.now) (g.F.Files.write_faults c.args.files.now) in
    let one = kept (g.F.Files.held c.write_output-first.new.files) (g.F.Files.write_faults c.write_output-first.new.files) in
    written-prefix old one (written c.args.file.now ∷ []) (maybe_written c.args.lines.now ++ maybe_written c.args.map.now) c.write_output-first.result c.in_default.not-Done c.write_output-first.ensures.written
