use Rattle.std.proofs.Common.{false, ap}
use Rattle.kc_block_sfr.proofs.Acts.{hsi_act}
use Rattle.kc_block_sfr.proofs.acting.take_hsi_time.Goals as goal

pub returns-clause-left : goal.returns-clause-left
returns-clause-left g c =
    hsi_act g.X.Extra.further g.X.Extra.agrees g.X.Extra.plain c.args.scheduler.now c.catch_up_hsi.new.self c.ask_hsi.new.self c.args.now
    (λ i. record i { loaded = false }) c.read_time-time.new.self
    (record { scheduled = c.catch_up_hsi.ensures.left.scheduled; shows = c.catch_up_hsi.ensures.left.shows }) c.catch_up_hsi.ensures.standing
    (ap (λ u. u.inner) c.read_time-time.ensures.emptied) c.ask_hsi.ensures.rest c.ask_hsi.ensures.others c.ask_hsi.ensures.due
