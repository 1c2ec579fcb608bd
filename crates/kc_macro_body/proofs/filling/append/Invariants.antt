use Rattle.std.proofs.Common.{◌≡◌, ◌++◌, take}
use Rattle.kc_macro_body.proofs.filling.append.Given as goal

abbrev pub invariant-loop-token : goal.invariant-loop-token
invariant-loop-token l = l.line ≡ l.initial.line ++ take l.token-index l.tokens
