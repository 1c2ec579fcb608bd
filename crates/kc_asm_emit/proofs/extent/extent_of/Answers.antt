use Rattle.std.proofs.Common.{◌≡◌, ◌∙◌, ap, sym, length, map}
use Rattle.std.specs.Prelude.{min}
use Rattle.kc_source_statement.specs.Trees.{item_tree, arg_tree, action_tree}
use Rattle.kc_asm_encode.specs.Instructions.{instructions}
use Rattle.kc_asm_encode.specs.RelocatableBytes.{all_relocatable_bytes}
use Rattle.kc_asm_emit.specs.declared.extent.Extent.TheVariants as extent
use Rattle.kc_asm_emit.specs.Arguments as arguments
use Rattle.kc_asm_emit.specs.Content as content
use Rattle.kc_asm_emit.specs.Seen.{most, counted}
use Rattle.kc_asm_emit.proofs.Stays.{counted_data}
use Rattle.kc_asm_emit.proofs.extent.extent_of.Goals as goal

pub returns-in-Define : goal.returns-in-Define
returns-in-Define g c = λ place.
    let e : c.data_length.result ≡ min (content.data_count c.in-Define.size (map item_tree c.in-Define.items)) most = cc in
    ap extent.Bytes (e ∙ ap (λ n. min n most) (sym (counted_data (g.S.Scope.answers c.args.scope.now) c.in-Define.size (map item_tree c.in-Define.items))))
    ∙ ap (λ a. counted (content.extent_of (content.content (g.S.Scope.answers c.args.scope.now) c.args.form place (action_tree a)))) (sym c.in-Define.is)

pub returns-in_ok-count-in-Operation : goal.returns-in_ok-count-in-Operation
returns-in_ok-count-in-Operation g c = λ place.
    ap extent.Bytes (c.in_ok-count-in-Operation.ensures place
    ∙ (λ i. min (length (all_relocatable_bytes (instructions (c.as_slice-in-Operation.ensures i) (arguments.arguments (g.S.Scope.answers c.args.scope.now) (map arg_tree (c.as_slice-in-Operation-2.ensures i))) c.args.form place))) most))
    ∙ ap (λ a. counted (content.extent_of (content.content (g.S.Scope.answers c.args.scope.now) c.args.form place (action_tree a)))) (sym c.in-Operation.is)
