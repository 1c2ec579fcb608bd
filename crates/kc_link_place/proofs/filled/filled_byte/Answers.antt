use Rattle.std.proofs.Common.{◌≡◌, ◌+◌, arith, refl}
use Rattle.kc_link_place.specs.BaseLists.{bases_in}
use Rattle.kc_obj_module.specs.Fixups.{fixup_at}
use Rattle.kc_link_place.specs.Filled.{first_of_fixup, second_at, filled_at}
use Rattle.kc_link_place.proofs.Modules.{kept}
use Rattle.kc_link_place.proofs.Room.{sum_fits}
use Rattle.kc_link_place.proofs.filled.filled_byte.Goals as goal

pub overflow_add-result : goal.overflow_add-result
overflow_add-result c =
    let k = kept c.args.object.now c.keeps_rules.ensures in
    let f : c.first_of-first.result ≡ first_of_fixup (bases_in c.args.bases.now) ((bases_in c.args.bases.now).piece c.args.piece + c.args.offset) (fixup_at c.args.object.now.fixups c.args.piece c.args.offset) = cc in
    let s : c.second_there-second.result ≡ second_at (bases_in c.args.bases.now) c.args.object.now.fixups c.args.piece c.args.offset = cc in
    let t = sum_fits c.args.object.now.contents (bases_in c.args.bases.now) c.args.object.now.fixups c.args.piece k.rooms c.requires.fit k.fixups_ordered c.args.offset c.args.byte _ _ c.requires.stands (omega arith) c.first_of-first.type_inv c.second_there-second.type_inv f s in
    omega (arith, t)

pub overflow_add-result-2 : goal.overflow_add-result-2
overflow_add-result-2 c =
    let k = kept c.args.object.now c.keeps_rules.ensures in
    let f : c.first_of-first.result ≡ first_of_fixup (bases_in c.args.bases.now) ((bases_in c.args.bases.now).piece c.args.piece + c.args.offset) (fixup_at c.args.object.now.fixups c.args.piece c.args.offset) = cc in
    let s : c.second_there-second.result ≡ second_at (bases_in c.args.bases.now) c.args.object.now.fixups c.args.piece c.args.offset = cc in
    let t = sum_fits c.args.object.now.contents (bases_in c.args.bases.now) c.args.object.now.fixups c.args.piece k.rooms c.requires.fit k.fixups_ordered c.args.offset c.args.byte _ _ c.requires.stands (omega arith) c.first_of-first.type_inv c.second_there-second.type_inv f s in
    omega (arith, t)

pub returns : goal.returns
unfolding filled_at
returns c =
    let f : c.first_of-first.result ≡ first_of_fixup (bases_in c.args.bases.now) ((bases_in c.args.bases.now).piece c.args.piece + c.args.offset) (fixup_at c.args.object.now.fixups c.args.piece c.args.offset) = cc in
    let s : c.second_there-second.result ≡ second_at (bases_in c.args.bases.now) c.args.object.now.fixups c.args.piece c.args.offset = cc in
    rw (c.requires.stands) (rw (f, s) refl)
