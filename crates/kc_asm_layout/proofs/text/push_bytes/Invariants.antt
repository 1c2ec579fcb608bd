use Rattle.std.proofs.Common.{◌≡◌, ◌++◌}
use Rattle.std.specs.Prelude.{replicate}
use Rattle.kc_branch.specs.declared.piece.Piece.TheVariants.{Bytes}
use Rattle.kc_asm_layout.proofs.text.push_bytes.Given as goal

abbrev pub invariant-loop-part : goal.invariant-loop-part
invariant-loop-part l = l.text.items ≡ l.fn.text.items ++ replicate l._part (Bytes 65535)
