use Rattle.std.proofs.Common.{◌≡◌, true, false, length, refl, sym, ◌∙◌}
use Rattle.std.proofs.lemmas.Slice.Eq.{bytes_eq-Decides}
use Rattle.std.specs.Str.{bytes_eq}
use Rattle.kc_trace.specs.Text.{fields_of}
use Rattle.kc_events.proofs.Spelled.{without_last}
use Rattle.kc_events.proofs.candidates.is_spelled.Goals as goal

pub returns-clause-spelled : goal.returns-clause-spelled
returns-clause-spelled c = λ yes.
    let text = c.as_slice-text.result.now in
    let fields = c.prefix.ensures ∙ without_last (fields_of c.args.item.now) text (length text) (c.as_slice-text.ensures.value ∙ c.line-text.ensures) refl in
    sym fields ∙ (bytes_eq-Decides c.prefix.result.now c.args.line.now).0 (sym c.eq.ensures ∙ yes)

pub returns-clause-other : goal.returns-clause-other
returns-clause-other c = λ no e.
    let text = c.as_slice-text.result.now in
    let fields = c.prefix.ensures ∙ without_last (fields_of c.args.item.now) text (length text) (c.as_slice-text.ensures.value ∙ c.line-text.ensures) refl in
    let same : bytes_eq c.prefix.result.now c.args.line.now ≡ true = (bytes_eq-Decides c.prefix.result.now c.args.line.now).1 (fields ∙ e) in
    let clash : true ≡ false = sym same ∙ sym c.eq.ensures ∙ no in
    cc
