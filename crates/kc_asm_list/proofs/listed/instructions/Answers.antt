use Rattle.std.proofs.Common.{◌∙◌}
use Rattle.kc_asm_list.specs.Listed.{instructions_of}
use Rattle.kc_asm_list.proofs.listed.instructions.Goals as goal

pub returns : goal.returns
returns c = record {
  spots = c.in_ok-read.read.spots.items;
  stmts = c.in_ok-read.read.stmts.items;
  standing = c.in_ok-read.ensures;
  own = c.in_ok-own.ensures ∙ (λ i. instructions_of (c.deref.ensures.value i) (c.deref-2.ensures.value i));
}
