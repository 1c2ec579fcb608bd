use Rattle.std.proofs.Common.{◌≡◌, false, true, not, Bool, sym, ap, ◌∙◌}
use Rattle.kc_debug.proofs.Idling.{idles-at-breaks, without}
use Rattle.kc_debug.proofs.stops.BreaksStops.passes_idle.Goals as goal

pub returns : goal.returns
returns g c = λ passes states i idles some less. idles-at-breaks g.X.Extra.further c.args.self.now.addresses.now states i c.args.machine.now.machine (sym c.has.ensures ∙ without c.has.result passes) idles some less
