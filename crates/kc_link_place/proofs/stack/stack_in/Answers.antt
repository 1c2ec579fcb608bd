use Rattle.std.proofs.Common.{sym, ◌∙◌, None}
use Rattle.kc_obj_module.specs.declared.parts.SegKind.TheVariants.{Reg}
use Rattle.kc_obj_module.specs.declared.parts.Segment.{Segment}
use Rattle.kc_link_place.proofs.StackLemmas.{first_is_stack, first_is_none}
use Rattle.kc_link_place.proofs.stack.stack_in.Goals as goal

abbrev nothing : Segment
nothing = record { kind = Reg; at = None; length = 0 }

pub returns-then-is_kind-clause-value : goal.returns-then-is_kind-clause-value
returns-then-is_kind-clause-value c =
    first_is_stack c.loop-left.left.now nothing c.in-len1-up.len_at_least c.loop-left.invariant.ordered c.loop-left.invariant.placed (sym c.is_kind.ensures ∙ c.if-is_kind.true) ∙ c.loop-left.invariant.goes_on

pub loop-left-preserved : goal.loop-left-preserved
loop-left-preserved c =
    let r = first_is_none c.loop-left.left.now nothing c.in-len1-up.len_at_least c.loop-left.invariant.ordered c.loop-left.invariant.placed (sym c.is_kind.ensures ∙ c.if-is_kind.false) in
    record { goes_on = r.0 ∙ c.loop-left.invariant.goes_on; placed = r.1.0; ordered = r.1.1 }
