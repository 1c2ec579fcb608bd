use Rattle.std.proofs.Common.{sym, ap, ◌∙◌, arith}
use Rattle.kc_debug.proofs.Going.{goes_on, is_quit, going-first, going-next, going-cut, going-quit, going-done, going-stands, paid-first, paid-next, paid-steps, paid-moves}
use Rattle.kc_machine_spec.proofs.Calls.{always-failed}
use Rattle.kc_debug.proofs.session.Sitting.carry_out_all.Goals as goal

pub loop-index-init : goal.loop-index-init
loop-index-init g c = record {
  going = going-first g.X.Extra.further c.args.lines.now c.args.commands.now c.args.machine.now.machine c.args.self.now _ c.requires.bounded c.requires.breaks c.requires.begun c.requires.room;
  paid = paid-first g.X.Extra.further c.args.lines.now c.args.commands.now c.args.machine.now.machine _ _;
  capacity = ap (λ b. b.capacity) c.requires.begun;
  unbroken = c.requires.unbroken;
}

pub returns-then-is_quit-clause-text : goal.returns-then-is_quit-clause-text
returns-then-is_quit-clause-text g c =
    let here = c.command_at-command.ensures.here in
    (going-quit g.X.Extra.further c.args.lines.now c.args.commands.now _ _ _ _ _ _ c.command_at-command.result c.loop-index.invariant.going here (is_quit c.command_at-command.result (sym c.is_quit.ensures ∙ c.if-is_quit.true))).text

pub returns-then-is_quit-clause-machine : goal.returns-then-is_quit-clause-machine
returns-then-is_quit-clause-machine g c =
    let here = c.command_at-command.ensures.here in
    (going-quit g.X.Extra.further c.args.lines.now c.args.commands.now _ _ _ _ _ _ c.command_at-command.result c.loop-index.invariant.going here (is_quit c.command_at-command.result (sym c.is_quit.ensures ∙ c.if-is_quit.true))).machine

pub returns-in_err-carry_out-clause-text : goal.returns-in_err-carry_out-clause-text
returns-in_err-carry_out-clause-text g c =
    let here = c.command_at-command.ensures.here in
    going-cut g.X.Extra.further c.args.lines.now c.args.commands.now _ _ _ _ _ _ c.command_at-command.result _ c.loop-index.invariant.going here
    (goes_on c.command_at-command.result (sym c.is_quit.ensures ∙ c.if-is_quit.false)) c.carry_out.ensures.text c.in_err-carry_out.ensures.fault.failed

pub loop-index-preserved : goal.loop-index-preserved
loop-index-preserved g c =
    let here = c.command_at-command.ensures.here in
    record {
      going = going-next g.X.Extra.further c.args.lines.now c.args.commands.now _ _ _ _ _ _ c.command_at-command.result _ _ _ c.loop-index.invariant.going here
          (sym c.is_quit.ensures ∙ c.if-is_quit.false)
          c.in_ok-carry_out.ensures.machine c.in_ok-carry_out.ensures.breaks c.in_ok-carry_out.ensures.begun c.carry_out.ensures.text
          (omega (arith, c.carry_out.ensures.time, c.loop-index.invariant.going.time));
      paid = paid-next g.X.Extra.further c.args.lines.now c.args.commands.now _ _ _ _ _ _ c.command_at-command.result _ _ _ _ _ _ c.loop-index.invariant.going here
          (sym c.is_quit.ensures ∙ c.if-is_quit.false) c.loop-index.invariant.paid c.carry_out.ensures.spent c.carry_out.ensures.moves;
      capacity = c.carry_out.ensures.capacity;
      unbroken = c.in_ok-carry_out.ensures.fault.written;
    }

pub returns-clause-text : goal.returns-clause-text
returns-clause-text g c = (going-done g.X.Extra.further c.args.lines.now c.args.commands.now _ _ _ _ _ _ c.loop-index.invariant.going (omega arith)).text

pub returns-clause-machine : goal.returns-clause-machine
returns-clause-machine g c = (going-done g.X.Extra.further c.args.lines.now c.args.commands.now _ _ _ _ _ _ c.loop-index.invariant.going (omega arith)).machine

pub returns-then-is_quit-clause-spent : goal.returns-then-is_quit-clause-spent
returns-then-is_quit-clause-spent g c = paid-steps g.X.Extra.further c.args.lines.now c.args.commands.now _ _ _ _ _ _ c.loop-index.invariant.paid

pub returns-then-is_quit-clause-moves : goal.returns-then-is_quit-clause-moves
returns-then-is_quit-clause-moves g c = paid-moves g.X.Extra.further c.args.lines.now c.args.commands.now _ _ _ _ _ _ c.loop-index.invariant.paid

pub returns-clause-spent : goal.returns-clause-spent
returns-clause-spent g c = paid-steps g.X.Extra.further c.args.lines.now c.args.commands.now _ _ _ _ _ _ c.loop-index.invariant.paid

pub returns-clause-moves : goal.returns-clause-moves
returns-clause-moves g c = paid-moves g.X.Extra.further c.args.lines.now c.args.commands.now _ _ _ _ _ _ c.loop-index.invariant.paid

pub returns-in_err-carry_out-clause-stands : goal.returns-in_err-carry_out-clause-stands
returns-in_err-carry_out-clause-stands g c =
    always-failed _ (going-stands g.X.Extra.further c.args.lines.now c.args.commands.now _ _ _ _ _ _ c.command_at-command.result _ _ c.loop-index.invariant.going c.loop-index.invariant.unbroken c.command_at-command.ensures.here
    (sym c.is_quit.ensures ∙ c.if-is_quit.false) c.in_err-carry_out.ensures.fails)

pub returns-in_err-carry_out-clause-spent : goal.returns-in_err-carry_out-clause-spent
returns-in_err-carry_out-clause-spent g c =
    paid-steps g.X.Extra.further c.args.lines.now c.args.commands.now _ _ _ _ _ _
    (paid-next g.X.Extra.further c.args.lines.now c.args.commands.now _ _ _ _ _ _ c.command_at-command.result _ _ _ _ _ _ c.loop-index.invariant.going c.command_at-command.ensures.here
    (sym c.is_quit.ensures ∙ c.if-is_quit.false) c.loop-index.invariant.paid c.carry_out.ensures.spent c.carry_out.ensures.moves)

pub returns-in_err-carry_out-clause-moves : goal.returns-in_err-carry_out-clause-moves
returns-in_err-carry_out-clause-moves g c =
    paid-moves g.X.Extra.further c.args.lines.now c.args.commands.now _ _ _ _ _ _
    (paid-next g.X.Extra.further c.args.lines.now c.args.commands.now _ _ _ _ _ _ c.command_at-command.result _ _ _ _ _ _ c.loop-index.invariant.going c.command_at-command.ensures.here
    (sym c.is_quit.ensures ∙ c.if-is_quit.false) c.loop-index.invariant.paid c.carry_out.ensures.spent c.carry_out.ensures.moves)
