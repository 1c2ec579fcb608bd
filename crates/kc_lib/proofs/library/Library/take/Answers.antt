use Rattle.std.proofs.Common.{List, subst, sym}
use Rattle.kc_obj_module.specs.Object.{Object}
use Rattle.kc_lib.specs.Names.{GivenOnce}
use Rattle.kc_lib.proofs.ReadingLemmas.{once_of}
use Rattle.kc_lib.proofs.library.Library.take.Goals as goal

pub standings_of-requires : goal.standings_of-requires
standings_of-requires c = subst (λ (ms : List Object). GivenOnce ms) (sym c.as_slice-members.ensures.value) (once_of c.self.inside.members.items c.self.invariant)
