use Rattle.kc_trace.specs.Tables.{level_in}
use Rattle.kc_vcd.proofs.Written.{levels_step, levels_over, life_after}
use Rattle.kc_vcd.proofs.dumping.Writer.change_levels.Goals as goal

pub loop-left-preserved : goal.loop-left-preserved
loop-left-preserved c = record {
  changes = levels_step c.args.self.now c.loop-left.self c.change_variable.new.self c.loop-left.left.now _ c.args.at (level_in c.args.levels.now) c.in-len1-up.len_at_least c.loop-left.invariant.same.levels
      c.in_ok-change_variable.ensures.changed c.loop-left.invariant.changes;
  same = life_after c.args.self.now c.loop-left.self c.change_variable.new.self c.loop-left.invariant.same c.in_ok-change_variable.ensures.same;
}

pub returns-clause-changed : goal.returns-clause-changed
returns-clause-changed c = levels_over c.args.self.now c.loop-left.self c.loop-left.left.now c.args.at (level_in c.args.levels.now) c.in_default.len_below c.loop-left.invariant.changes
