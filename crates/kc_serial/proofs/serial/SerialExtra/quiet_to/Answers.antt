use Rattle.std.proofs.Common.{◌-◌, sym, ◌∙◌}
use Rattle.kc_serial.proofs.PortLaws.{port_after, port_fits}
use Rattle.kc_serial.proofs.serial.SerialExtra.quiet_to.Goals as goal

pub older_sending-self-requires : goal.older_sending-self-requires
older_sending-self-requires g c = (port_fits (record c.args.self.now { moves = 0 }) c.args.now (c.args.to - c.args.now) c.requires.quiet).0

pub returns-clause-plain : goal.returns-clause-plain
returns-clause-plain g c =
    (λ i. record c.args.self.now { sending = c.older_sending-self.ensures i; reception = c.older_reception-self.ensures i; moves = 0 })
    ∙ sym (port_after (record c.args.self.now { moves = 0 }) c.args.now (c.args.to - c.args.now) c.requires.quiet)

pub older_reception-self-requires-clause-fits : goal.older_reception-self-requires-clause-fits
older_reception-self-requires-clause-fits g c = (port_fits (record c.args.self.now { moves = 0 }) c.args.now (c.args.to - c.args.now) c.requires.quiet).1
