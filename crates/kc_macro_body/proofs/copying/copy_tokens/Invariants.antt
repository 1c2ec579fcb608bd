use Rattle.std.proofs.Common.{◌≡◌, take}
use Rattle.kc_macro_body.proofs.copying.copy_tokens.Given as goal

abbrev pub invariant-loop-token : goal.invariant-loop-token
invariant-loop-token l = l.copy ≡ take l.token-index l.tokens
