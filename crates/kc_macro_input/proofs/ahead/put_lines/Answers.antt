use Rattle.kc_macro_input.proofs.AheadLemmas.{mapped_popped}
use Rattle.kc_macro_input.specs.Pieces.{first_piece}
use Rattle.std.proofs.Common.{◌∙◌}
use Rattle.kc_macro_input.proofs.ahead.put_lines.Goals as goal

pub loop-line-preserved : goal.loop-line-preserved
loop-line-preserved c = mapped_popped first_piece c.loop-line.lines.items c.pop.new.self.items c.in-Some.line c.loop-line.stack.items c.push.new.self.items _ c.in-Some.ensures.items c.in_ok-push.ensures.items (c.in_ok-copy.ensures ∙ c.in_ok-none.ensures) ∙ c.loop-line.invariant
