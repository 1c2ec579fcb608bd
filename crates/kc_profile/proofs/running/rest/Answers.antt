use Rattle.std.proofs.Common.{◌-◌, arith}
use Rattle.kc_block_spec.specs.Touch.{block_rule}
use Rattle.kc_machine_spec.proofs.Calls.{on-fault}
use Rattle.kc_profile.proofs.Alone.{alone-idle, none-answered, none-raised-last, quiet-for}
use Rattle.kc_profile.proofs.Going.{fails-idle}
use Rattle.kc_profile.proofs.Spotted.{idle-first, lasts-idle, lives-idle, spots-idle}
use Rattle.kc_profile.proofs.running.rest.Goals as goal

pub go_to-requires-clause-lives : goal.go_to-requires-clause-lives
go_to-requires-clause-lives g c = lives-idle g.X.Extra.further _ c.args.machine.now.machine c.requires.idles (omega (arith, c.requires.ahead))

pub go_to-requires-clause-lasts : goal.go_to-requires-clause-lasts
go_to-requires-clause-lasts g c = lasts-idle g.X.Extra.further _ c.args.machine.now.machine c.requires.idles

pub returns : goal.returns
returns g c =
    let f = g.X.Extra.further in
    let m = c.args.machine.now.machine in
    let n = c.go_to.new.machine.machine in
    let went = c.go_to.ensures in
    let first = idle-first f (c.args.stop - m.time) m c.requires.idles (omega (arith, c.requires.ahead)) in
    let alone = alone-idle f (n.time - m.time) m first.0 first.1 (quiet-for (block_rule f) m.time (c.args.stop - m.time) (n.time - m.time - 1) m.board.units (omega (arith, went.within)) c.requires.quiet) in
    record {
      went = record {
        passed = record {
          forward = went.forward;
          within = omega (arith, went.within, c.requires.within);
          machine = went.machine;
          lines = went.lines;
          spots = spots-idle f (c.args.stop - m.time) (n.time - m.time) m c.requires.idles (omega (arith, went.forward)) (omega (arith, went.within));
        };
        fails = on-fault c.go_to.result went.fails (fails-idle f c.args.stop c.args.until m _ n _ c.requires.idles c.requires.within went.within);
        costs = record { spent = went.spent; moves = went.moves };
        written = went.written;
      };
      alone = alone;
      raised = none-answered c.go_to.result _ went.none
          (none-raised-last f (n.time - m.time) m (omega (arith, went.forward)) alone (quiet-for (block_rule f) m.time (c.args.stop - m.time) (n.time - m.time) m.board.units (omega (arith, went.within)) c.requires.quiet));
    }
