use Rattle.std.proofs.Common.{ap, ◌∙◌}
use Rattle.kc_block_spec.specs.Registers.{window_number}
use Rattle.std.specs.Prelude.{◌-◌}
use Rattle.kc_block_sfr.proofs.Acts.{further_act}
use Rattle.kc_block_sfr.proofs.acting.read_further.Goals as goal

pub returns-clause-left : goal.returns-clause-left
returns-clause-left g c =
    further_act g.X.Extra.further g.X.Extra.agrees g.X.Extra.plain (record { rests = g.met.X.Extra.rests; rests_out = g.met.X.Extra.rests_out; rest_keeps = g.met.X.Extra.rest_keeps; keeps = g.met.X.Extra.keeps; start_keeps = g.met.X.Extra.start_keeps })
    c.args.scheduler.now c.catch_up_further.new.self c.ask_further.new.self c.args.now
    (g.X.Extra.further.after_read (window_number c.args.window) c.args.sfr (c.args.now - 1)) c.read-answer.new.self
    (record { scheduled = c.catch_up_further.ensures.left.scheduled; shows = c.catch_up_further.ensures.left.shows }) c.catch_up_further.ensures.standing
    (c.read-answer.ensures.plain ∙ ap (λ w. g.X.Extra.further.after_read w c.args.sfr c.state_before.result (g.X.Extra.plain c.catch_up_further.new.self.further.unit)) c.number.ensures ∙ ap (λ s. g.X.Extra.further.after_read (window_number c.args.window) c.args.sfr s (g.X.Extra.plain c.catch_up_further.new.self.further.unit)) c.state_before.ensures)
    c.ask_further.ensures.rest c.ask_further.ensures.others c.ask_further.ensures.due
    (λ l e d agreed. g.met.X.Extra.read_keeps (window_number c.args.window) c.args.sfr (c.args.now - 1) l e d agreed)
