-- How far a statement goes on does not depend on where it stands, nor on numbers that are not fixed.
use Rattle.std.specs.Prelude.{◌≡◌}
use Rattle.kc_expr.specs.declared.values.Value.{Value}
use Rattle.kc_expr.specs.Alike.{AllAlike}
use Rattle.kc_source_statement.specs.Trees.{ActionTree}
use Rattle.kc_branch.specs.declared.piece.Form.{Form}
use Rattle.kc_asm_emit.specs.Arguments.{Look}
use Rattle.kc_asm_emit.specs.Content.{content, extent_of}

abbrev pub ExtentsStay : Type 0
ExtentsStay =
    (look other : Look) → AllAlike look other → (form : Form) (here there : Value) (action : ActionTree)
    → extent_of (content look form here action) ≡ extent_of (content other form there action)
