use Rattle.kc_link.proofs.lines.line_map.Goals as goal

pub lines_at-requires : goal.lines_at-requires
lines_at-requires c = record { ranges = c.args.ranges.now; in_bounds = c.requires.ranges; placement = c.in_ok-placement.ensures }

pub returns : goal.returns
returns c = (c.in_ok-placement.placement.places, (c.in_ok-placement.ensures.0, c.in_ok-lines_at.ensures))
