use Rattle.std.proofs.Common.{◌≡◌, drop}
use Rattle.std.specs.List.{fold}
use Rattle.std.specs.Option.{option_copied}
use Rattle.kc_addresses.specs.Names.{nearer, nearest_below}
use Rattle.kc_addresses.proofs.names.Names.nearest.Given as goal

abbrev pub invariant-loop-name : goal.invariant-loop-name
invariant-loop-name l = fold (nearer l.addr) (option_copied l.nearest) (drop l.name-index l.names) ≡ nearest_below l.addr l.names
