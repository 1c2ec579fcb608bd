use Rattle.std.proofs.Common.{ℕ, ◌+◌, ◌*◌, arith}
use Rattle.std.proofs.lemmas.Grind.{common_steps}
use Rattle.kc_asm_layout.specs.Places.{locations_from}
use Rattle.kc_asm_layout.proofs.places.locations.Goals as goal

pub loop-size_record-preserved : goal.loop-size_record-preserved
unfolding locations_from
loop-size_record-preserved c =
    let most : ℕ = 65536 + (c.loop-size_record.size_record-index + 1) * 8590000128 in
    record {
      bound = c.in_ok-ends-2.ensures.bound most (omega arith) (grind (arith, c.loop-size_record.invariant.bound, c.location_of-location.ensures.bound)) (λ k. omega (arith, c.loop-size_record.invariant.bound k));
      laid = grind (arith, common_steps);
      each = grind (arith, common_steps);
      near = grind (arith, common_steps);
    }
