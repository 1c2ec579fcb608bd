use Rattle.std.proofs.Common.{sym, subst}
use Rattle.std.specs.Prelude.{IfOk}
use Rattle.kc_block_spec.specs.declared.board_registers.BoardRegisters.{BoardRegisters}
use Rattle.kc_block_spec.specs.Writing.{board_registers_with, with_byte}
use Rattle.kc_block_units.specs.Scheduler.{shown_units, IsLeft}
use Rattle.kc_block_units.specs.Standing.{standing}
use Rattle.kc_block_sfr.proofs.Left.{unread_left}
use Rattle.kc_block_sfr.proofs.Outcomes.{plain_written, plain_unread}
use Rattle.kc_block_sfr.proofs.writing.write_plain.Goals as goal

pub returns-clause-left : goal.returns-clause-left
returns-clause-left g c =
    let h = standing g.X.Extra.plain c.args.scheduler.now in
    let u = shown_units g.X.Extra.further h c.args.now in
    let left = λ (s : BoardRegisters). IsLeft g.X.Extra.further g.X.Extra.agrees c.args.now (record h { board_registers = s }) in
    subst (λ s. IfOk (with_byte u c.args.register c.args.value) (left s)) (sym c.board_registers_with-scheduler.ensures)
    (plain_written (left (board_registers_with h.board_registers c.args.register c.args.value)) u c.args.register c.args.value c.requires.plain
    (unread_left g.X.Extra.further g.X.Extra.agrees h c.args.now (board_registers_with h.board_registers c.args.register c.args.value) c.requires.scheduled
    (plain_unread h.board_registers c.args.register c.args.value c.requires.plain)))
