use Rattle.kc_vcd.proofs.Written.{changed_one}
use Rattle.kc_vcd.proofs.dumping.Writer.change.Goals as goal

pub returns-clause-changed : goal.returns-clause-changed
returns-clause-changed c =
    changed_one c.args.self.now c.put_values.new.self c.put.new.self (record { at = c.args.at; change = c.args.change })
    c.in_ok-put_values.ensures.put c.in_ok-put_values.ensures.samples c.in_ok-put.ensures.put c.in_ok-put.ensures.samples
