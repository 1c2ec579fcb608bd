use Rattle.kc_asm_list.proofs.Order.{prefix, later, others}
use Rattle.kc_asm_list.proofs.rows_listing.count_on.Goals as goal

pub returns-clause-own : goal.returns-clause-own
returns-clause-own c = rw c.prefix_count.ensures.value (prefix c.args.line c.args.spots.now c.requires)

pub returns-clause-later : goal.returns-clause-later
returns-clause-later c = rw c.prefix_count.ensures.value (later c.args.line c.args.spots.now c.requires)

pub returns-clause-others : goal.returns-clause-others
returns-clause-others c = λ n lt. rw c.prefix_count.ensures.value (others c.args.line c.args.spots.now n lt)
