use Rattle.kc_vcd.proofs.Pieces.{declared_step, known_step}
use Rattle.kc_vcd.proofs.shown.put_declarations.Goals as goal

pub loop-left-preserved : goal.loop-left-preserved
loop-left-preserved c = record {
  text = declared_step _ _ _ c.loop-left.left.now _ c.in-len1-up.len_at_least c.in_ok-put_declaration.ensures c.loop-left.invariant.text;
  known = known_step c.loop-left.left.now c.in-len1-up.len_at_least c.loop-left.invariant.known;
}
