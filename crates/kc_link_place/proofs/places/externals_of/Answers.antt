use Rattle.std.proofs.Common.{◌∙◌, sym, ap, arith}
use Rattle.kc_link_place.specs.Placing.{name_number}
use Rattle.kc_link_place.proofs.StepLemmas.{map_step, map_end}
use Rattle.kc_link_place.proofs.places.externals_of.Goals as goal

pub loop-left-preserved : goal.loop-left-preserved
loop-left-preserved c = λ modules k.
    map_step (λ t. name_number modules (record { pieces = c.args.pieces.now; after_stack = c.args.after_stack }) t.name) c.loop-left.left.now c.taken-item.result c.loop-left.numbers.items c.push.new.self.items c.number_of.result
    c.in-len1-up.len_at_least c.in_ok-push.ensures.items c.taken-item.is
    (c.number_of.ensures modules k ∙ ap (name_number modules (record { pieces = c.args.pieces.now; after_stack = c.args.after_stack })) c.as_slice.ensures)
    ∙ c.loop-left.invariant modules k

pub returns : goal.returns
returns c = λ modules k.
    sym (map_end (λ t. name_number modules (record { pieces = c.args.pieces.now; after_stack = c.args.after_stack }) t.name) c.loop-left.left.now c.loop-left.numbers.items (omega arith)) ∙ c.loop-left.invariant modules k
