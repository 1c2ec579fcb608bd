use Rattle.std.proofs.Common.{◌-◌, ap, is_some, rules, arith}
use Rattle.std.proofs.lemmas.Grind.{common_steps}
use Rattle.kc_block_spec.specs.Registers.{bytes_read_everywhere, row_at}
use Rattle.kc_machine.specs.Bus.{held_of}
use Rattle.kc_machine.proofs.Noting.{byte-was-read, byte-counts}
use Rattle.kc_machine.proofs.common.Common.read_byte.Goals as goal

pub returns-clause-ok : goal.returns-clause-ok
returns-clause-ok g c =
    byte-was-read g.X.Extra.further (held_of c.args.self.now) c.args.by c.args.addr c.window-window.result _ _ _ c.requires c.window-window.ensures
    c.in_ok-value.ensures.ok (ap (λ t. t - 1) c.read8_here.ensures.time) (rw c.weigh_read.ensures.read at c.count-self.ensures)

pub returns-clause-counts : goal.returns-clause-counts
returns-clause-counts g c = record {
  time = first_of (search rules, grind (arith, common_steps));
  later = first_of (search rules, grind (arith, common_steps));
  steps = byte-counts (is_some (row_at bytes_read_everywhere c.args.addr)) _ _ _ _ _ c.weigh_read.ensures.read c.read8_here.ensures.free c.read8_here.ensures.steps c.count-self.ensures;
  moves = byte-counts (is_some (row_at bytes_read_everywhere c.args.addr)) _ _ _ _ _ c.weigh_read.ensures.read c.read8_here.ensures.free_moves c.read8_here.ensures.moves c.count-self.ensures;
}
