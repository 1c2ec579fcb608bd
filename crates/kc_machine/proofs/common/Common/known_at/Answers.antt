use Rattle.std.proofs.Common.{sym, ◌∙◌}
use Rattle.kc_machine.proofs.common.Common.known_at.Goals as goal

pub returns-else-is_blank : goal.returns-else-is_blank
returns-else-is_blank g c = c.predecoded_at-predecoded.ensures (sym c.is_blank.ensures ∙ c.if-is_blank.false)
