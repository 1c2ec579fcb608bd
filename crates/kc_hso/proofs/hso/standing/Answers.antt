use Rattle.std.proofs.Common.{None}
use Rattle.std.specs.Prelude.{slice_index_or, is_some}
use Rattle.kc_hso.proofs.Standing.{weights_bit}
use Rattle.kc_hso.proofs.hso.standing.Goals as goal

pub returns : goal.returns
returns c = λ i lt.
    rw (
      c.weight.ensures,
      c.weight-2.ensures,
      c.weight-3.ensures,
      c.weight-4.ensures,
      c.weight-5.ensures,
      c.weight-6.ensures,
      c.weight-7.ensures,
      c.weight-8.ensures,
      c.is_some.ensures,
      c.is_some-2.ensures,
      c.is_some-3.ensures,
      c.is_some-4.ensures,
      c.is_some-5.ensures,
      c.is_some-6.ensures,
      c.is_some-7.ensures,
      c.is_some-8.ensures,
    )
    (weights_bit (λ k. is_some (slice_index_or c.args.slots.now k None)) i lt)
