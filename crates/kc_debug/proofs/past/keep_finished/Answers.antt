use Rattle.std.proofs.Common.{arith}
use Rattle.kc_debug.proofs.Shown.{got, got-within, lost-behind}
use Rattle.kc_debug.proofs.Kept.{finished-first, finished-more, finished-same}
use Rattle.kc_debug.proofs.past.keep_finished.Goals as goal
use Rattle.kc_debug.proofs.past.keep_finished.Goals.{in-Some, in-None}

pub loop-index-init : goal.loop-index-init
loop-index-init c = finished-first c.args.life c.args.past.now c.args.begun.now.items c.requires

pub loop-index-preserved : goal.loop-index-preserved
loop-index-preserved c =
    let xs = c.args.begun.now.items in
    let n = c.loop-index.index in
    elim c.match-get.branch [
      | in-Some w ↦
          let x = w.in-Some.activity.now in
          rw w.past-is (finished-more c.args.past.now.items c.args.life n xs x c.loop-index.past w.push_back.new.self (got-within xs n x w.in-Some.ensures) (got xs n x w.in-Some.ensures) c.loop-index.invariant w.push_back.ensures.items)
      | in-None w ↦ rw w.past-is (finished-same c.args.past.now.items c.args.life n xs c.loop-index.past (lost-behind xs n w.in-None.ensures) c.loop-index.invariant)
    ]
