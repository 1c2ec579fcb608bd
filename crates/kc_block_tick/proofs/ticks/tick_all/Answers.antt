use Rattle.std.proofs.Common.{◌≡◌, ◌∙◌, ap}
use Rattle.std.specs.Prelude.{bit_or}
use Rattle.kc_block_spec.specs.declared.board_registers.BoardRegisters.{BoardRegisters}
use Rattle.kc_block_spec.specs.Fired.{fired_ios1, fired_ios2, fired_request}
use Rattle.kc_block_spec.specs.Tick.{request, pin_requests, timer_requests, hsi_requests, board_registers_after, ◌∪◌, raised_at, board_registers_at, tick}
use Rattle.kc_block_units.specs.Scheduler.{Scheduler, shown_units}
use Rattle.kc_block_units.specs.Events.{ticked_scheduler}
use Rattle.kc_block_units.specs.Standing.{standing}
use Rattle.kc_block_tick.proofs.ticks.tick_all.Goals as goal

pub returns-clause-scheduler : goal.returns-clause-scheduler
unfolding tick
returns-clause-scheduler g c =
    let now = c.args.now in
    let e = c.tick_scheduler-given.ensures.scheduler in
    let given = c.tick_scheduler-given.ensures.given in
    let inputs = c.inputs_in-inputs.ensures in
    let kept : c.tick_scheduler-given.new.scheduler.board_registers ≡ c.args.scheduler.now.board_registers = ap (λ l. l.board_registers) e in
    let raised : c.raised-raised.result ≡ raised_at now (shown_units g.X.Extra.further (standing g.X.Extra.plain c.args.scheduler.now) c.args.now) =
    c.raised-raised.ensures
    ∙ (λ i. pin_requests (kept i) (inputs i).rise ∪ timer_requests (kept i) (c.passes.ensures i) (given i).counted ∪ hsi_requests (kept i) (given i).queued ∪ fired_request (given i).fired) in
    let ios1 = c.ios1_bits.ensures ∙ ap (λ x. fired_ios1 x.fired) given in
    let overflow = c.overflow_bit.ensures ∙ ap (λ x. request 4 x.counted.overflow) given in
    let ios2 = c.ios2_bits.ensures ∙ ap (λ x. fired_ios2 x.fired) given in
    let board_registers : c.set_board_registers.new.board_registers ≡ board_registers_at g.X.Extra.further now (shown_units g.X.Extra.further (standing g.X.Extra.plain c.args.scheduler.now) c.args.now) =
    c.set_board_registers.ensures
    ∙ (λ i. board_registers_after (kept i) (inputs i).levels (bit_or (ios1 i) (overflow i)) (ios2 i) (bit_or (raised i) (given i).others.0)) in
    ap (λ (l : Scheduler g.row.X.Denot). record l { board_registers = c.set_board_registers.new.board_registers }) e
    ∙ ap (λ (s : BoardRegisters). record (ticked_scheduler g.X.Extra.further (standing g.X.Extra.plain c.args.scheduler.now) now) { board_registers = s }) board_registers
