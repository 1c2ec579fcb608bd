use Rattle.std.proofs.Common.{◌-◌, sym, subst}
use Rattle.kc_span.specs.Span.{QuietFor}
use Rattle.kc_convert.proofs.ConverterSpans.{converter_rule, quiet_after}
use Rattle.kc_convert.proofs.converter.ConverterExtra.quiet_to.Goals as goal

pub returns-clause-plain : goal.returns-clause-plain
returns-clause-plain g c =
    let quiet = subst (λ b. QuietFor converter_rule c.args._now (c.args._to - c.args._now) (record { inner = b.inner; moves = 0 })) (sym c.self.view_is) c.requires.quiet in
    rw (← c.self.view_is) (sym (quiet_after c.args._now (c.args._to - c.args._now) _ quiet))
