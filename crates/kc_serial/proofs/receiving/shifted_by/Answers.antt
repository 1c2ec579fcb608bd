use Rattle.std.proofs.Common.{◌≡◌, arith}
use Rattle.kc_serial.proofs.SampleLaws.{shifted_fits, shifted_low}
use Rattle.kc_serial.proofs.receiving.shifted_by.Goals as goal
use Rattle.kc_serial.proofs.receiving.shifted_by.Goals.{then-high, else-high}

pub overflow_cast-result : goal.overflow_cast-result
overflow_cast-result c =
    let whole : c.from.result ≡ c.args.register = c.from.ensures in
    elim c.if-high.branch [
      | then-high w ↦ rw (whole, w.fresh-is) (omega (arith, shifted_fits c.args.count c.args.register c.requires c.ranges.register.fits))
      | else-high w ↦ rw (whole, w.fresh-is) (omega (arith, shifted_low c.args.count c.args.register c.ranges.register.fits))
    ]
