use Rattle.std.proofs.Common.{◌∙◌, ap}
use Rattle.kc_link.specs.SourceLine.{source_line_by}
use Rattle.kc_link.proofs.addresses.source_line.Goals as goal

pub returns : goal.returns
returns c = c.line_among.ensures ∙ ap (source_line_by c.args.addr 0 c.args.modules.now) (c.deref.ensures.value ∙ c.requires.placement.1)
