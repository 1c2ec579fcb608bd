use Rattle.std.proofs.Common.{◌≡◌, ◌∙◌, ap, List, map}
use Rattle.kc_link_place.specs.Placing.{base_lists, list_at, name_number}
use Rattle.kc_obj_module.specs.declared.parts.Taken.{Taken}
use Rattle.kc_link_place.proofs.places.bases_of.Goals as goal

pub returns : goal.returns
unfolding base_lists
returns c = λ modules k.
    let a : c.in_ok-addresses.addresses.items ≡ list_at c.args.pieces.now c.args.index = c.in_ok-addresses.ensures.items ∙ c.addresses_at.ensures in
    let n : c.in_ok-numbers.numbers.items ≡ map (λ t. name_number modules (record { pieces = c.args.pieces.now; after_stack = c.args.after_stack }) t.name) c.args.object.now.externals =
    c.in_ok-numbers.ensures modules k ∙ ap (λ (ts : List Taken). map (λ t. name_number modules (record { pieces = c.args.pieces.now; after_stack = c.args.after_stack }) t.name) ts) c.externals.ensures in
    c.new.ensures ∙ (λ i. record { pieces = a i; externals = n i })
