use Rattle.kc_kit_files.specs.Outside.{kept}
use Rattle.kc_kit_words.specs.Asked.{behind_in}
use Rattle.kc_kit_running.specs.Profiled.{write_of}
use Rattle.kc_kit_running.proofs.WritingLemmas.{written-behind, written-prefix}
use Rattle.kc_kit_running.proofs.accounts.Accounts.write.Goals as goal

pub returns-in-Done-clause-written : goal.returns-in-Done-clause-written
returns-in-Done-clause-written g c =
    let old = kept (g.F.Files.held c.args.files.now) (g.F.Files.write_faults c.args.files.now) in
    let one = kept (g.F.Files.held c.write_named-wrote.new.files) (g.F.Files.write_faults c.write_named-wrote.new.files) in
    let two = kept (g.F.Files.held c.write_named.new.files) (g.F.Files.write_faults c.write_named.new.files) in
    let behind = behind_in c.args.behind in
    written-behind old one two (write_of behind.profile c.args.self.profile.items) (write_of behind.cover c.args.self.cover.items) c.write_named-wrote.result c.write_named.result c.in-Done.is c.write_named-wrote.ensures.written
    c.write_named-wrote.ensures.later c.write_named.ensures.written

pub returns-clause-written : goal.returns-clause-written
returns-clause-written g c =
    let old = kept (g.F.Files.held c.args.files.now) (g.F.Files.write_faults c.args.files.now) in
    let one = kept (g.F.Files.held c.write_named-wrote.new.files) (g.F.Files.write_faults c.write_named-wrote.new.files) in
    let behind = behind_in c.args.behind in
    written-prefix old one (write_of behind.profile c.args.self.profile.items) (write_of behind.cover c.args.self.cover.items) c.write_named-wrote.result c.in_default.not-Done c.write_named-wrote.ensures.written
