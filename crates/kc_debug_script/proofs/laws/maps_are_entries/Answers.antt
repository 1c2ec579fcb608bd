use Rattle.kc_debug_script.proofs.Orders.{maps_are_entries}
use Rattle.kc_debug_script.proofs.laws.maps_are_entries.Goals as goal

pub returns : goal.returns
returns c = maps_are_entries
