use Rattle.kc_block_sfr.proofs.Acts.{flag_act}
use Rattle.kc_block_sfr.proofs.acting.clear_ios1.Goals as goal

pub returns-clause-left : goal.returns-clause-left
returns-clause-left g c =
    flag_act g.X.Extra.further g.X.Extra.agrees g.X.Extra.plain c.args.scheduler.now c.catch_up_flag.new.self c.ask_flag.new.self c.args.now
    (record { scheduled = c.catch_up_flag.ensures.left.scheduled; shows = c.catch_up_flag.ensures.left.shows }) c.catch_up_flag.ensures.standing
    c.ask_flag.ensures.rest c.ask_flag.ensures.others c.ask_flag.ensures.due
