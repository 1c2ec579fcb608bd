use Rattle.std.proofs.Common.{◌∙◌, sym, arith}
use Rattle.kc_link_place.specs.BaseLists.{bases_in}
use Rattle.kc_link.proofs.WriteLemmas.{runs_step, runs_stand, runs_end}
use Rattle.kc_link.proofs.filling.fill_runs.Goals as goal

pub loop-left-preserved : goal.loop-left-preserved
loop-left-preserved c = record {
  goes_on = runs_step c.loop-left.image c.fill_run.new.image (bases_in c.args.bases.now) c.args.object.now c.loop-left.left.now c.run-item.result c.in-len1-up.len_at_least c.run-item.is c.fill_run.ensures ∙ c.loop-left.invariant.goes_on;
  stand = (runs_stand (bases_in c.args.bases.now) c.args.object.now c.loop-left.left.now c.run-item.result c.in-len1-up.len_at_least c.run-item.is c.loop-left.invariant.stand).1;
}

pub returns : goal.returns
returns c = sym (runs_end c.loop-left.image (bases_in c.args.bases.now) c.args.object.now c.loop-left.left.now (omega arith)) ∙ c.loop-left.invariant.goes_on
