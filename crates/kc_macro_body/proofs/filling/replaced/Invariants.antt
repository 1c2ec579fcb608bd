use Rattle.std.proofs.Common.{◌≡◌, ◌++◌, drop}
use Rattle.kc_macro_body.specs.Filling.{replaced}
use Rattle.kc_macro_body.proofs.filling.replaced.Given as goal

abbrev pub invariant-loop-token : goal.invariant-loop-token
invariant-loop-token l = l.line ++ replaced l.formals l.args l.given (drop l.token-index l.tokens) ≡ replaced l.formals l.args l.given l.tokens
