use Rattle.kc_lib.proofs.StandingLemmas.{under_way_out}
use Rattle.kc_lib.proofs.taking.DefiningModules.find.Goals as goal

pub returns : goal.returns
returns c =
    let modules = c.args.modules.now in
    let members = c.args.members.now in
    c.settle.ensures modules c.requires.given c.requires.held c.requires.once
    (under_way_out modules members c.args.standings.now c.call_by.new.standings c.requires.once c.requires.out (c.call_by.ensures modules members c.requires.given c.requires.held))
