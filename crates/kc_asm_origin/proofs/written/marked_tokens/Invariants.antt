use Rattle.std.proofs.Common.{◌≡◌, ◌++◌, drop, map}
use Rattle.kc_asm_origin.specs.Written.{marked_token}
use Rattle.kc_asm_origin.proofs.written.marked_tokens.Given as goal

abbrev pub invariant-loop-token : goal.invariant-loop-token
invariant-loop-token l = l.copy ++ map (marked_token l.number) (drop l.token-index l.tokens) ≡ map (marked_token l.number) l.tokens
