-- The second byte of a number stands behind its first one in the bytes of every statement.
use Rattle.kc_expr.specs.declared.values.Value.{Value}
use Rattle.kc_source_statement.specs.Trees.{ActionTree}
use Rattle.kc_branch.specs.declared.piece.Form.{Form}
use Rattle.kc_asm_encode.specs.Pairs.{IsPaired}
use Rattle.kc_asm_emit.specs.Arguments.{Look}
use Rattle.kc_asm_emit.specs.Content.{Content, Nothing, RelocatableBytes, Reserved, Upto, Even, content}

abbrev pub ArePaired : Content → Type 0
ArePaired (RelocatableBytes os) = IsPaired os
ArePaired Nothing = Unit {0}
ArePaired (Reserved n) = Unit {0}
ArePaired (Upto place) = Unit {0}
ArePaired Even = Unit {0}

abbrev pub ContentsArePaired : Type 0
ContentsArePaired = (look : Look) (form : Form) (place : Value) (action : ActionTree) → ArePaired (content look form place action)
