use Rattle.std.proofs.Common.{sym, ◌∙◌, ◌-◌}
use Rattle.kc_block_spec.specs.Accesses.{byte_read, after_byte_read}
use Rattle.kc_block_spec.proofs.Named.{reads_are_mild}
use Rattle.kc_block_units.specs.Scheduler.{shown_units}
use Rattle.kc_block_units.specs.Standing.{standing}
use Rattle.kc_block_sfr.proofs.Outcomes.{refused_is, profile_read}
use Rattle.kc_block_sfr.proofs.reading.read8.Goals as goal

pub returns-in-Some-clause-answer : goal.returns-in-Some-clause-answer
returns-in-Some-clause-answer g c =
    refused_is (byte_read g.X.Extra.further (c.args.now - 1) c.args.window (shown_units g.X.Extra.further (standing g.X.Extra.plain c.args.scheduler.now) c.args.now) c.args.sfr) c.in-Some.kind
    (sym c.in-Some.is ∙ c.read_refusal.ensures (c.args.now - 1) (shown_units g.X.Extra.further (standing g.X.Extra.plain c.args.scheduler.now) c.args.now))

pub returns-clause-profile : goal.returns-clause-profile
returns-clause-profile g c =
    let u = shown_units g.X.Extra.further (standing g.X.Extra.plain c.args.scheduler.now) c.args.now in
    profile_read g.X.Extra.further g.X.Extra.agrees c.args.now (standing g.X.Extra.plain c.read_byte.new.scheduler) u
    (after_byte_read g.X.Extra.further (c.args.now - 1) c.args.window u c.args.sfr) c.read_byte.ensures.left
    (reads_are_mild g.X.Extra.further (c.args.now - 1) c.args.window u c.args.sfr).0 c.requires.profile
