use Rattle.std.proofs.Common.{◌-◌, ap, is_some, rules, arith}
use Rattle.std.proofs.lemmas.Grind.{common_steps}
use Rattle.kc_block_spec.specs.Registers.{bytes_written_everywhere, row_at}
use Rattle.kc_block.specs.Seen.{Seen}
use Rattle.kc_machine.specs.Bus.{held_of}
use Rattle.kc_machine.proofs.Noting.{byte-was-written, byte-counts, refused-scene}
use Rattle.kc_machine.proofs.common.Common.write_byte.Goals as goal

pub returns-in-Ok-clause-ok : goal.returns-in-Ok-clause-ok
returns-in-Ok-clause-ok g c =
    byte-was-written g.X.Extra.further (held_of c.args.self.now) c.args.by c.args.addr c.args.value c.window-window.result _ _ _ _ c.requires c.window-window.ensures
    c.in-Ok.ensures.ok (ap (λ t. t - 1) c.write8_here.ensures.time) c.write8_here.ensures.edges (rw c.weigh_write.ensures.written at c.count-self.ensures)

pub returns-in-Ok-clause-counts : goal.returns-in-Ok-clause-counts
returns-in-Ok-clause-counts g c = record {
  time = first_of (search rules, grind (arith, common_steps));
  later = first_of (search rules, grind (arith, common_steps));
  steps = byte-counts (is_some (row_at bytes_written_everywhere c.args.addr)) _ _ _ _ _ c.weigh_write.ensures.written c.write8_here.ensures.free c.write8_here.ensures.steps c.count-self.ensures;
  moves = byte-counts (is_some (row_at bytes_written_everywhere c.args.addr)) _ _ _ _ _ c.weigh_write.ensures.written c.write8_here.ensures.free_moves c.write8_here.ensures.moves c.count-self.ensures;
}

pub returns-in-Err-clause-err : goal.returns-in-Err-clause-err
returns-in-Err-clause-err g c =
    refused-scene g.X.Extra.further (held_of c.args.self.now) _ _ _ (ap (λ t. t - 1) c.write8_here.ensures.time) (ap (λ (b : Seen _). b.units) c.in-Err.ensures.refused) c.write8_here.ensures.edges
