use Rattle.std.proofs.Common.{◌≡◌, ℕ, Bool, true, false, cond, not, ◌||◌, Some, None, refl, sym, ap, ◌∙◌}
use Rattle.kc_lex.specs.Codes.{defined_twice, not_external, not_public}
use Rattle.kc_source.specs.Faults.{has_use, is_taken, is_defined, use_code}
use Rattle.kc_asm_origin.proofs.names.code_of.Goals as goal

pub returns-in-Once : goal.returns-in-Once
returns-in-Once c = λ earlier whole before all.
    c.when.ensures ∙ ap (λ b. cond b (Some defined_twice) None) (c.defines.ensures earlier before) ∙ ap (λ k. use_code k c.args.name.now false whole earlier) (sym c.in-Once.is)

pub returns-in-Again : goal.returns-in-Again
returns-in-Again c = λ earlier whole before all.
    c.when-in-Again.ensures ∙ ap (λ b. cond b (Some defined_twice) None) (c.has.ensures ∙ ap (λ f. f c.args.name.now) before.once) ∙ ap (λ k. use_code k c.args.name.now false whole earlier) (sym c.in-Again.is)

pub returns-in-Taken : goal.returns-in-Taken
returns-in-Taken c = λ earlier whole before all.
    let taken : c.has-taken.result ≡ has_use is_taken c.args.name.now earlier = c.has-taken.ensures ∙ ap (λ f. f c.args.name.now) before.taken in
    let defined : c.defines-defined.result ≡ is_defined c.args.name.now whole = c.defines-defined.ensures whole all in
    c.when-in-Taken.ensures ∙ ap (λ b. cond b (Some not_external) None) (c.either.ensures ∙ (λ j. taken j || defined j)) ∙ ap (λ k. use_code k c.args.name.now false whole earlier) (sym c.in-Taken.is)

turned : (b : Bool) (code : ℕ) → cond (not b) (Some code) None ≡ cond b None (Some code)
turned true code = refl
turned false code = refl

pub returns-in-Given : goal.returns-in-Given
returns-in-Given c = λ earlier whole before all.
    c.when-in-Given.ensures ∙ ap (λ b. cond (not b) (Some not_public) None) (c.defines-defined-in-Given.ensures whole all) ∙ turned (is_defined c.args.name.now whole) not_public
    ∙ ap (λ k. use_code k c.args.name.now false whole earlier) (sym c.in-Given.is)
