use Rattle.std.proofs.Common.{◌+◌, sym, ◌∙◌}
use Rattle.kc_events.specs.declared.reader.Stage.TheVariants.{Living}
use Rattle.kc_events.specs.Grammar.{Place, after_line}
use Rattle.kc_events.specs.Printed.{place_in}
use Rattle.kc_events.proofs.PlaceLemmas.{printed_start}
use Rattle.kc_events.proofs.reader.Reader.go.Goals as goal

pub returns-in-Restarted : goal.returns-in-Restarted
returns-in-Restarted c =
    let start = printed_start c.start-self-inside.result c.start-self-inside.ensures in
    let now : Place = place_in (record { base = c.self.inside.base + c.in-Restarted.at + 1; past = 0; levels = c.start-self-inside.result; stage = Living }) in
    (λ i. record now { levels = start i }) ∙ (λ i. after_line (place_in (c.self.view_is i)) (sym c.in-Restarted.is i))
