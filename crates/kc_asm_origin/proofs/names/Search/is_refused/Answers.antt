use Rattle.std.proofs.Common.{◌≡◌, ◌&&◌, true, false, sym, ap, ◌∙◌, eq-eqb}
use Rattle.std.proofs.lemmas.Bool.{ne_eqb}
use Rattle.std.specs.Prelude.{◌==◌}
use Rattle.kc_source.specs.Faults.{use_code}
use Rattle.kc_asm_origin.specs.Uses.{is_code}
use Rattle.kc_asm_origin.proofs.names.Search.is_refused.Goals as goal

pub returns-then-at-self : goal.returns-then-at-self
returns-then-at-self c = λ all earlier known before.
    let here : true ≡ (c.args.at == c.args.self.now.line) = sym (eq-eqb c.args.at c.args.self.now.line c.if-at-self.true) in
    let coded = c.is_code.ensures ∙ ap (is_code c.args.self.now.code) (c.code_of-code.ensures earlier all before known) in
    λ j. here j && coded j

pub returns-else-at-self : goal.returns-else-at-self
returns-else-at-self c = λ all earlier known before.
    let elsewhere : false ≡ (c.args.at == c.args.self.now.line) = sym (ne_eqb c.args.at c.args.self.now.line c.if-at-self.false) in
    sym elsewhere ∙ (λ j. elsewhere j && is_code c.args.self.now.code (use_code c.args.kind c.args.name.now false all earlier))
