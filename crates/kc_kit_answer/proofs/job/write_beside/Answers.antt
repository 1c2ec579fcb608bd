use Rattle.kc_kit_files.specs.Outside.{kept}
use Rattle.kc_kit_running.proofs.WritingLemmas.{written-behind, written-prefix}
use Rattle.kc_kit_answer.specs.Jobs.{maybe_written}
use Rattle.kc_kit_answer.proofs.job.write_beside.Goals as goal

pub returns-in-Done-clause-written : goal.returns-in-Done-clause-written
returns-in-Done-clause-written g c =
    let old = kept (g.F.Files.held c.args.files.now) (g.F.Files.write_faults c.args.files.now) in
    let one = kept (g.F.Files.held c.write_some-second.new.files) (g.F.Files.write_faults c.write_some-second.new.files) in
    let two = kept (g.F.Files.held c.write_some.new.files) (g.F.Files.write_faults c.write_some.new.files) in
    written-behind old one two (maybe_written c.args.lines.now) (maybe_written c.args.map.now) c.write_some-second.result c.write_some.result c.in-Done.is c.write_some-second.ensures.written c.write_some-second.ensures.later c.write_some.ensures.written

pub returns-clause-written : goal.returns-clause-written
returns-clause-written g c =
    let old = kept (g.F.Files.held c.args.files.now) (g.F.Files.write_faults c.args.files.now) in
    let one = kept (g.F.Files.held c.write_some-second.new.files) (g.F.Files.write_faults c.write_some-second.new.files) in
    written-prefix old one (maybe_written c.args.lines.now) (maybe_written c.args.map.now) c.write_some-second.result c.in_default.not-Done c.write_some-second.ensures.written
