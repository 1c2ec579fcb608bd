-- From the pieces that are put to the answer of placing.
use Rattle.std.proofs.Common.{◌≡◌, ℕ, List, [], ◌++◌, refl, subst}
use Rattle.std.specs.Prelude.{Result, Ok, Err}
use Rattle.kc_obj_module.specs.Object.{Object}
use Rattle.kc_obj_module.specs.declared.parts.SegKind.TheVariants.{Stack}
use Rattle.kc_link_place.specs.declared.ranges.Ranges.{Ranges}
use Rattle.kc_link_place.specs.declared.ranges.LinkFault.{LinkFault}
use Rattle.kc_link_place.specs.declared.pieces.Piece.{Piece}
use Rattle.kc_link_place.specs.declared.pieces.Stand.{Stand}
use Rattle.kc_link_place.specs.declared.gaps.Gap.{Gap}
use Rattle.kc_link_place.specs.declared.putting.NoPlace.{NoPlace}
use Rattle.kc_link_place.specs.declared.putting.NoPlace.TheVariants.{NoRoom, NoMemoryLeft}
use Rattle.kc_link_place.specs.Ranges.{range_of}
use Rattle.kc_link_place.specs.Stands.{least_free, fixed_from, wanted}
use Rattle.kc_link_place.specs.Placing.{put_all, stack_size, stack_at, with_stack, with_puts, fault_of, IsCause, Places, ArePlaced, ArePut}

pub ok_case : (ms : List Object) (ranges : Ranges) (size : ℕ) (puts slice : List Stand) (res : Result Places LinkFault) → slice ≡ puts → size ≡ stack_size ranges ms →
    put_all ranges (fixed_from 0 ms) [] (wanted ms) ≡ Ok puts →
    ArePlaced (with_stack ms slice size (stack_at size (least_free (fixed_from 0 ms ++ slice) (range_of ranges Stack) 2 size))) res →
    ArePlaced (with_puts ms ranges (put_all ranges (fixed_from 0 ms) [] (wanted ms))) res
ok_case ms ranges size puts slice res e s p a =
    rw p
    (subst (λ (n : ℕ). ArePlaced (with_stack ms puts n (stack_at n (least_free (fixed_from 0 ms ++ puts) (range_of ranges Stack) 2 n))) res) s
    (subst (λ (l : List Stand). ArePlaced (with_stack ms l size (stack_at size (least_free (fixed_from 0 ms ++ l) (range_of ranges Stack) 2 size))) res) e a))

pub err_case : (ms : List Object) (ranges : Ranges) (cause : NoPlace) (fault : LinkFault) (pieces : List Piece) (gaps : List Gap) → fault ≡ fault_of cause → pieces ≡ wanted ms →
    ArePut ranges (fixed_from 0 ms) pieces gaps (Err cause) → IsCause fault (with_puts ms ranges (put_all ranges (fixed_from 0 ms) [] (wanted ms)) ≡ Err fault)
err_case ms ranges (NoRoom p) fault pieces gaps f e a = let q : put_all ranges (fixed_from 0 ms) [] (wanted ms) ≡ Err p = rw (← e) a in rw (f, q) refl
err_case ms ranges NoMemoryLeft fault pieces gaps f e a = rw f tt
