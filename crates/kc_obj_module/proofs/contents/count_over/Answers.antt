use Rattle.std.proofs.Common.{sym, ◌∙◌, arith}
use Rattle.kc_obj_module.proofs.ContentLemmas.{one_over}
use Rattle.kc_obj_module.proofs.contents.count_over.Goals as goal

pub loop-n-preserved : goal.loop-n-preserved
loop-n-preserved c =
    let both = one_over c.args.contents.now c.loop-n.n c.args.piece c.args.offset c.index-contents-n.result c.loop-n-test.true c.index-contents-n.is (sym c.over.ensures ∙ c.if-not-over.false) c.loop-n.invariant.ordered c.loop-n.invariant.same in
    record { within = omega arith; ordered = both.0; same = both.1 }
