use Rattle.kc_base.specs.Causes.{Rose}
use Rattle.kc_kit_files.specs.Reads.{IsUnread, MissedOne}
use Rattle.kc_kit_files.proofs.ReadLemmas.{refused-widen, missed-unread}
use Rattle.kc_kit_files.proofs.reading.read_file.Goals as goal

pub returns-in-Err-clause-read : goal.returns-in-Err-clause-read
returns-in-Err-clause-read g c =
    let name = c.args.name.now in
    let rose : Type 0 = Rose (g.F.Files.read_faults c.args.files.now) (g.F.Files.read_faults c.read.new.self) in
    refused-widen (IsUnread name c.in-Err.fault) (MissedOne (g.F.Files.held c.args.files.now) name rose) c.unread.result
    (missed-unread (g.F.Files.held c.args.files.now) name rose c.in-Err.fault (rw c.in-Err.is at c.read.ensures.missing) (rw c.in-Err.is at c.read.ensures.too_long) (rw c.in-Err.is at c.read.ensures.failed))
    c.unread.ensures
