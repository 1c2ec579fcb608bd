use Rattle.std.proofs.Common.{refl}
use Rattle.kc_kit_files.specs.declared.ended.Said.TheVariants as said
use Rattle.kc_kit_files.specs.Outside.{kept}
use Rattle.kc_kit_running.specs.Writing.{written}
use Rattle.kc_kit_running.proofs.WritingLemmas.{written-one}
use Rattle.kc_kit_running.proofs.output.write_output.Goals as goal

pub returns-clause-written : goal.returns-clause-written
returns-clause-written g c =
    let old = kept (g.F.Files.held c.args.files.now) (g.F.Files.write_faults c.args.files.now) in
    let new = kept (g.F.Files.held c.write_file-status.new.files) (g.F.Files.write_faults c.write_file-status.new.files) in
    record {
      written = written-one old new (written c.args.file.now) c.write_file-status.result (said.File c.args.file.now.name) refl c.write_file-status.ensures.status (rw c.deref.ensures.value at c.write_file-status.ensures.written)
          c.write_file-status.ensures.others c.write_file-status.ensures.failed;
      silent = refl;
    }
