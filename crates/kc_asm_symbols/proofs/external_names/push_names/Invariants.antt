use Rattle.std.proofs.Common.{◌≡◌, ◌++◌, drop}
use Rattle.std.specs.Prelude.{map}
use Rattle.kc_asm_symbols.specs.Externals.{taken}
use Rattle.kc_asm_symbols.proofs.external_names.push_names.Given as goal

abbrev pub invariant-loop-name : goal.invariant-loop-name
invariant-loop-name l = l.taken.items ++ map (taken l.register) (drop l.name-index l.names) ≡ l.initial.taken.items ++ map (taken l.register) l.names
