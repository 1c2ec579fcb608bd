use Rattle.kc_link.proofs.linking.link.Goals as goal

pub image_at-requires : goal.image_at-requires
image_at-requires c = record { ranges = c.args.ranges.now; in_bounds = c.requires.ranges; placement = c.in_ok-placement.ensures }

pub returns : goal.returns
returns c = (c.in_ok-placement.placement.places, (c.in_ok-placement.ensures.0, c.in_ok-image_at.ensures))
