use Rattle.std.proofs.Common.{[], sym, ◌∙◌}
use Rattle.kc_macro.specs.Expansion as expansion
use Rattle.kc_macro.specs.Expansion.{begun}
use Rattle.kc_macro.proofs.Ends.{expanded_ends}
use Rattle.kc_asm_list.specs.Depths.{so_far, run_out, depths_of}
use Rattle.kc_asm_list.proofs.Course.{run_settled, run_counted, begun_are, depths_begun}
use Rattle.kc_asm_list.proofs.Agreement.{all_agree, begun_agree, goes_ok, goes_err}
use Rattle.kc_asm_list.proofs.reporting.depths.Goals as goal

pub loop-depths-preserved : goal.loop-depths-preserved
loop-depths-preserved c =
    let read = rw c.in-Counted.is at c.in_ok-settle.ensures.read in
    let left = rw c.in-Counted.is at c.in_ok-settle.ensures.left in
    record {
      same = run_counted (so_far c.loop-depths.state c.loop-depths.depths.items) (so_far c.settle.new.state c.settle.new.depths.items) read left.0 ∙ c.loop-depths.invariant.same;
    }

pub returns-in-Ended-clause-longer : goal.returns-in-Ended-clause-longer
returns-in-Ended-clause-longer c =
    let read = rw c.in-Ended.is at c.in_ok-settle.ensures.read in
    begun_are c.args.lines.items c.in_ok-state.state c.new-depths.result.items c.in_ok-state.ensures c.new-depths.ensures.items ∙ sym c.loop-depths.invariant.same
    ∙ run_settled (so_far c.loop-depths.state c.loop-depths.depths.items) ∙ read _

pub returns-in-Ended-clause-longer_lines : goal.returns-in-Ended-clause-longer_lines
returns-in-Ended-clause-longer_lines c =
    let lines = c.args.lines.items in
    goes_ok (expansion.run_out (begun lines)) (run_out (so_far (begun lines) [])) c.settle.new.depths.items (begun_agree lines) (returns-in-Ended-clause-longer c)

pub returns-in-Ended-clause-depths : goal.returns-in-Ended-clause-depths
returns-in-Ended-clause-depths c = λ numbered. depths_begun c.args.lines.items numbered ∙ returns-in-Ended-clause-longer c

pub returns-in-Ended-clause-lines : goal.returns-in-Ended-clause-lines
returns-in-Ended-clause-lines c = λ numbered.
    let lines = c.args.lines.items in
    goes_ok (expansion.expanded lines) (depths_of lines) c.settle.new.depths.items (all_agree expanded_ends lines) (returns-in-Ended-clause-depths c numbered)

pub returns-in-Fault-clause-longer : goal.returns-in-Fault-clause-longer
returns-in-Fault-clause-longer c =
    let read = rw c.in-Fault.is at c.in_ok-settle.ensures.read in
    begun_are c.args.lines.items c.in_ok-state.state c.new-depths.result.items c.in_ok-state.ensures c.new-depths.ensures.items ∙ sym c.loop-depths.invariant.same
    ∙ run_settled (so_far c.loop-depths.state c.loop-depths.depths.items) ∙ read _

pub returns-in-Fault-clause-longer_lines : goal.returns-in-Fault-clause-longer_lines
returns-in-Fault-clause-longer_lines c =
    let lines = c.args.lines.items in
    goes_err (expansion.run_out (begun lines)) (run_out (so_far (begun lines) [])) (c.in-Fault.line, c.in-Fault.code) (begun_agree lines) (returns-in-Fault-clause-longer c)

pub returns-in-Fault-clause-depths : goal.returns-in-Fault-clause-depths
returns-in-Fault-clause-depths c = λ numbered. depths_begun c.args.lines.items numbered ∙ returns-in-Fault-clause-longer c

pub returns-in-Fault-clause-lines : goal.returns-in-Fault-clause-lines
returns-in-Fault-clause-lines c = λ numbered.
    let lines = c.args.lines.items in
    goes_err (expansion.expanded lines) (depths_of lines) (c.in-Fault.line, c.in-Fault.code) (all_agree expanded_ends lines) (returns-in-Fault-clause-depths c numbered)
