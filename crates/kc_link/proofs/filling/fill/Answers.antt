use Rattle.std.proofs.Common.{◌≡◌, ◌∙◌, sym, ap, arith}
use Rattle.kc_link_place.specs.BaseLists.{bases_in}
use Rattle.kc_obj_module.specs.declared.parts.Content.{Content}
use Rattle.std.specs.Prelude.{List}
use Rattle.kc_link.specs.Writes.{written, runs_of}
use Rattle.kc_link.proofs.WriteLemmas.{fill_step, fill_stand, fill_end, fill_short}
use Rattle.kc_link.proofs.filling.fill.Goals as goal

pub returns-in-empty : goal.returns-in-empty
returns-in-empty c = sym (fill_short c.loop-left.image c.loop-left.left.now c.loop-left.ahead.now (omega arith)) ∙ c.loop-left.invariant.goes_on

pub loop-left-preserved : goal.loop-left-preserved
loop-left-preserved c =
    let new : c.fill_runs.new.image ≡ written c.loop-left.image (runs_of (bases_in c.own-item.result) c.object-item.result c.object-item.result.contents) =
    c.fill_runs.ensures ∙ ap (λ (l : List Content). written c.loop-left.image (runs_of (bases_in c.own-item.result) c.object-item.result l)) c.contents.ensures in
    record {
      goes_on = fill_step c.loop-left.image c.fill_runs.new.image c.loop-left.left.now c.loop-left.ahead.now c.object-item.result c.own-item.result c.in-len1-up.len_at_least c.in-len1-up-ahead.len_at_least c.object-item.is c.own-item.is new ∙ c.loop-left.invariant.goes_on;
      stand = (fill_stand c.loop-left.left.now c.loop-left.ahead.now c.object-item.result c.own-item.result c.in-len1-up.len_at_least c.in-len1-up-ahead.len_at_least c.object-item.is c.own-item.is c.loop-left.invariant.stand).1;
    }

pub returns : goal.returns
returns c = sym (fill_end c.loop-left.image c.loop-left.left.now c.loop-left.ahead.now (omega arith)) ∙ c.loop-left.invariant.goes_on
