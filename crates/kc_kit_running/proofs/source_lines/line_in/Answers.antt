use Rattle.std.proofs.Common.{Option, sym, ◌∙◌, ap, subst}
use Rattle.kc_kit_running.specs.declared.sources.Sources.{Sources}
use Rattle.kc_kit_running.specs.Sources.{ArePlacedIn, lines_in}
use Rattle.kc_kit_running.proofs.source_lines.line_in.Goals as goal

pub returns-in-None : goal.returns-in-None
returns-in-None c = sym (ap (λ (s : Option Sources). lines_in s c.args.addr) c.in-None.is)

pub returns-in-Some : goal.returns-in-Some
returns-in-Some c = c.line_at.ensures ∙ sym (ap (λ (s : Option Sources). lines_in s c.args.addr) c.in-Some.is)

pub line_at-requires : goal.line_at-requires
line_at-requires c = subst ArePlacedIn c.in-Some.is c.requires
