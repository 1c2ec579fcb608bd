use Rattle.std.proofs.Common.{◌≡◌, ℕ, ◌<◌, Some, refl, sym, ap, ◌∙◌, arith}
use Rattle.kc_link_place.specs.Ranges.{step_of}
use Rattle.kc_link_place.specs.Stands.{least_free, stand_at}
use Rattle.kc_link_place.specs.Gaps.{Represents}
use Rattle.kc_link_place.proofs.FirstFit.{cut_is_taken, empty_is_taken, room_of_least}
use Rattle.kc_link_place.proofs.putting.put.Goals as goal

pub returns-in_ok-cut-in-Some : goal.returns-in_ok-cut-in-Some
returns-in_ok-cut-in-Some c = λ taken r.
    let same : Represents c.deref.result.now taken = rw c.deref.ensures.value r in
    let found : least_free taken (c.range_for-range.result.0, c.range_for-range.result.1) (step_of c.args.piece.kind) c.args.piece.size ≡ Some c.in-Some.at = sym (c.in-Some.ensures taken same) in
    let room = room_of_least taken c.range_for-range.result.0 c.range_for-range.result.1 (step_of c.args.piece.kind) c.args.piece.size c.in-Some.at found in
    let top : c.range_for-range.result.1 < 65536 = omega arith in (
      ap (λ (rg : ℕ × ℕ). least_free taken rg (step_of c.args.piece.kind) c.args.piece.size) (sym c.range_for-range.ensures) ∙ found,
      (refl, rw c.in_ok-cut-in-Some.ensures (cut_is_taken c.args.gaps.now.items taken (stand_at c.args.piece c.in-Some.at) r c.if-piece-gt0.true room.room (omega (arith, room.fits, top)))),
    )

pub returns-else-piece-gt0 : goal.returns-else-piece-gt0
returns-else-piece-gt0 c = λ taken r.
    let same : Represents c.deref.result.now taken = rw c.deref.ensures.value r in
    let found : least_free taken (c.range_for-range.result.0, c.range_for-range.result.1) (step_of c.args.piece.kind) c.args.piece.size ≡ Some c.in-Some.at = sym (c.in-Some.ensures taken same) in (
      ap (λ (rg : ℕ × ℕ). least_free taken rg (step_of c.args.piece.kind) c.args.piece.size) (sym c.range_for-range.ensures) ∙ found,
      (refl, empty_is_taken c.args.gaps.now.items taken (stand_at c.args.piece c.in-Some.at) r (omega arith)),
    )
