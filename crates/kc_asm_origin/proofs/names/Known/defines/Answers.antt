use Rattle.std.proofs.Common.{◌≡◌, ◌||◌, ap, ◌∙◌}
use Rattle.kc_source.specs.Faults.{has_use, is_once, is_again}
use Rattle.kc_asm_origin.proofs.names.Known.defines.Goals as goal

pub returns : goal.returns
returns c = λ us known.
    let name = c.args.name.now in
    let once : c.has-once.result ≡ has_use is_once name us = c.has-once.ensures ∙ ap (λ f. f name) known.once in
    let again : c.has-again.result ≡ has_use is_again name us = c.has-again.ensures ∙ ap (λ f. f name) known.again in
    c.either.ensures ∙ (λ j. once j || again j)
