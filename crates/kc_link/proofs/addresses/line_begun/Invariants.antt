use Rattle.std.proofs.Common.{◌≡◌, length}
use Rattle.std.specs.Prelude.{find}
use Rattle.std.specs.Option.{option_map}
use Rattle.kc_obj_module.specs.declared.parts.Lines.{Lines}
use Rattle.kc_link_place.specs.BaseLists.{bases_in}
use Rattle.kc_link.specs.SourceLine.{begins_at}
use Rattle.kc_link.proofs.addresses.line_begun.Given as goal

abbrev pub invariant-loop-left : goal.invariant-loop-left
invariant-loop-left l = option_map (λ (e : Lines). e.line) (find (begins_at (bases_in l.bases) l.addr) l.left) ≡ option_map (λ (e : Lines). e.line) (find (begins_at (bases_in l.bases) l.addr) l.fn.lines)

abbrev pub decreases-loop-left : goal.decreases-loop-left
decreases-loop-left l = length l.left
