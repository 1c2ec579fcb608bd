use Rattle.kc_block_sfr.proofs.Acts.{gate_act}
use Rattle.kc_block_sfr.proofs.acting.write_ioc1.Goals as goal

pub returns-clause-left : goal.returns-clause-left
returns-clause-left g c =
    gate_act g.X.Extra.further g.X.Extra.agrees g.X.Extra.plain c.args.scheduler.now c.catch_up_flag.new.self c.ask_flag.new.self c.set_wires.new.self c.args.now c.args.value c.board_registers_with-scheduler.result
    (record { scheduled = c.catch_up_flag.ensures.left.scheduled; shows = c.catch_up_flag.ensures.left.shows }) c.catch_up_flag.ensures.standing c.board_registers_with-scheduler.ensures
    c.ask_flag.ensures.rest c.ask_flag.ensures.others c.ask_flag.ensures.due
    c.set_wires.ensures.rest c.set_wires.ensures.others c.set_wires.ensures.wires
