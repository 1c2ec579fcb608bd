-- Where all operands have their values, their expressions have no faults.
use Rattle.std.proofs.Common.{◌≡◌, true, List, [], ◌∷◌, ◌++◌, ap, refl, ◌∙◌}
use Rattle.std.specs.Prelude.{◌&&◌, Ok, Err}
use Rattle.std.proofs.lemmas.Bool.{and_parts, false≢true}
use Rattle.std.specs.List.{flat_map, list_all}
use Rattle.std.specs.Option.{is_some}
use Rattle.kc_expr.specs.Meaning.{Answer, answer_by}
use Rattle.kc_source_statement.specs.Trees.{ArgTree}
use Rattle.kc_source_statement.specs.Trees as trees
use Rattle.kc_asm_emit.specs.Arguments.{Look, value_in, argument, arguments, has_values}
use Rattle.kc_asm_emit.specs.Faults.{faults_in, value_faults, operand_faults}

valued : (a : Answer) → is_some (value_in a) ≡ true → faults_in a ≡ []
valued (Ok v) e = refl
valued (Err fault) e = absurd (false≢true e)

both_valued : (a b : Answer) → (is_some (value_in a) && is_some (value_in b)) ≡ true → faults_in a ++ faults_in b ≡ []
both_valued a b e =
    let parts = and_parts (is_some (value_in a)) (is_some (value_in b)) e in
    ap (λ fs. fs ++ faults_in b) (valued a parts.0) ∙ valued b parts.1

operand_valued : (look : Look) (a : ArgTree) → has_values (argument look a) ≡ true → operand_faults look a ≡ []
operand_valued look (trees.Plain x) e = valued (answer_by look x) e
operand_valued look (trees.Immediate x) e = valued (answer_by look x) e
operand_valued look (trees.Indirect r) e = valued (answer_by look r) e
operand_valued look (trees.Increment r) e = valued (answer_by look r) e
operand_valued look (trees.Indexed x r) e = both_valued (answer_by look x) (answer_by look r) e

pub no_faults : (look : Look) (args : List ArgTree) → list_all has_values (arguments look args) ≡ true → flat_map (operand_faults look) args ≡ []
no_faults look [] e = refl
no_faults look (a ∷ args) e =
    let parts = and_parts (has_values (argument look a)) (list_all has_values (arguments look args)) e in
    ap (λ fs. fs ++ flat_map (operand_faults look) args) (operand_valued look a parts.0) ∙ no_faults look args parts.1
