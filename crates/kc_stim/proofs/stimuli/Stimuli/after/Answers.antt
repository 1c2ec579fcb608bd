use Rattle.std.proofs.Common.{◌∙◌, ap}
use Rattle.std.specs.Prelude.{◌+◌}
use Rattle.kc_stim.specs.Drives.{level_at, level_before, start_of}
use Rattle.kc_stim.specs.Parts.{drives_in}
use Rattle.kc_stim.proofs.LaterLaws.{levels_go_on, stays_proper, start_there}
use Rattle.kc_stim.proofs.stimuli.Stimuli.after.Goals as goal

pub invariant_of-result : goal.invariant_of-result
invariant_of-result c = (c.in_ok-from_state.ensures.whole, rw c.in_ok-from_state.ensures.drives (stays_proper (drives_in c.self.inside.index) c.args.at c.self.invariant.1))

pub returns-clause-levels : goal.returns-clause-levels
returns-clause-levels c = λ pin u lt.
    (ap (λ d. level_at d.stimuli pin u) c.in_ok-from_state.ensures.drives ∙ levels_go_on (drives_in c.self.inside.index) c.args.at pin u c.self.invariant.0.rise lt) ∙ ap (λ d. level_at d.stimuli pin (c.args.at + u)) c.self.view_is

pub returns-clause-start : goal.returns-clause-start
returns-clause-start c = λ pin lt.
    (ap (λ d. start_of d.stimuli.start pin) c.in_ok-from_state.ensures.drives ∙ start_there (drives_in c.self.inside.index).stimuli c.args.at pin lt) ∙ ap (λ d. level_before d.stimuli pin c.args.at) c.self.view_is
