use Rattle.std.proofs.Common.{arith}
use Rattle.kc_base.specs.Causes.{Rose}
use Rattle.kc_kit_answer.proofs.DebugLemmas.{first-of-both, second-of-both}
use Rattle.kc_kit_answer.proofs.debug.read_both.Goals as goal

pub returns-in-Err-clause-missed : goal.returns-in-Err-clause-missed
returns-in-Err-clause-missed g c =
    first-of-both (g.F.Files.held c.args.files.now) c.args.first.now c.args.second.now (Rose (g.F.Files.read_faults c.args.files.now) (g.F.Files.read_faults c.read_file.new.files)) c.in-Err.refusal c.in-Err.ensures.read

pub returns-in-Err-read_file-clause-missed : goal.returns-in-Err-read_file-clause-missed
returns-in-Err-read_file-clause-missed g c =
    let rose : Type 0 = Rose (g.F.Files.read_faults c.read_file.new.files) (g.F.Files.read_faults c.read_file-2.new.files) in
    let later : Type 0 = Rose (g.F.Files.read_faults c.args.files.now) (g.F.Files.read_faults c.read_file-2.new.files) in
    second-of-both (g.F.Files.held c.args.files.now) (g.F.Files.held c.read_file.new.files) c.args.first.now c.args.second.now c.in-Ok.one.items rose later c.in-Err-read_file.refusal c.read_file.ensures.stays.same
    c.in-Ok.ensures.read.0 c.in-Ok.ensures.read.1 (λ r. omega (arith, r, c.read_file.ensures.stays.later)) c.in-Err-read_file.ensures.read
