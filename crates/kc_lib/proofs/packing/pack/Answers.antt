use Rattle.kc_lib.proofs.ReadingLemmas.{packed_is_library}
use Rattle.kc_lib.proofs.packing.pack.Goals as goal

pub returns-clause-library : goal.returns-clause-library
returns-clause-library c = packed_is_library c.args.modules.now c.packed.result c.requires.some c.requires.few c.can_be_members.ensures c.packed.ensures
