use Rattle.std.proofs.Common.{◌≡◌, true, sym, ◌∙◌, ◌-◌}
use Rattle.kc_exec_spec.specs.Window.{is_wsr}
use Rattle.kc_block_spec.specs.Accesses.{byte_written}
use Rattle.kc_block_spec.proofs.Named.{writes_keep_profile}
use Rattle.kc_block_units.specs.Scheduler.{shown_units, IsLeft}
use Rattle.kc_block_units.specs.Standing.{standing}
use Rattle.kc_block_sfr.proofs.Outcomes.{answer_of, none_of_refused, profile_left}
use Rattle.kc_block_sfr.proofs.writing.write8.Goals as goal

pub returns-in-Some-clause-units : goal.returns-in-Some-clause-units
returns-in-Some-clause-units g c =
    let u = shown_units g.X.Extra.further (standing g.X.Extra.plain c.args.scheduler.now) c.args.now in
    none_of_refused (λ v. shown_units g.X.Extra.further (standing g.X.Extra.plain c.args.scheduler.now) c.args.now ≡ v) (byte_written g.X.Extra.further (c.args.now - 1) c.args.window u c.args.sfr c.args.value) c.in-Some.kind
    (sym c.in-Some.is ∙ c.write_refusal.ensures (c.args.now - 1))

pub returns-clause-scheduled : goal.returns-clause-scheduled
returns-clause-scheduled g c =
    let u = shown_units g.X.Extra.further (standing g.X.Extra.plain c.args.scheduler.now) c.args.now in
    let found = answer_of (IsLeft g.X.Extra.further g.X.Extra.agrees c.args.now (standing g.X.Extra.plain c.write_byte.new.scheduler)) (λ v. is_wsr v.board_registers.wsr ≡ true)
    (byte_written g.X.Extra.further (c.args.now - 1) c.args.window u c.args.sfr c.args.value)
    (sym (c.write_refusal.ensures (c.args.now - 1)) ∙ c.in_default.is) c.write_byte.ensures.left
    (writes_keep_profile g.X.Extra.further (c.args.now - 1) c.args.window u c.args.sfr c.args.value c.requires.profile).0 in
    found.1.scheduled

pub returns-clause-profile : goal.returns-clause-profile
returns-clause-profile g c =
    let u = shown_units g.X.Extra.further (standing g.X.Extra.plain c.args.scheduler.now) c.args.now in
    let found = answer_of (IsLeft g.X.Extra.further g.X.Extra.agrees c.args.now (standing g.X.Extra.plain c.write_byte.new.scheduler)) (λ v. is_wsr v.board_registers.wsr ≡ true)
    (byte_written g.X.Extra.further (c.args.now - 1) c.args.window u c.args.sfr c.args.value)
    (sym (c.write_refusal.ensures (c.args.now - 1)) ∙ c.in_default.is) c.write_byte.ensures.left
    (writes_keep_profile g.X.Extra.further (c.args.now - 1) c.args.window u c.args.sfr c.args.value c.requires.profile).0 in
    profile_left g.X.Extra.further g.X.Extra.agrees c.args.now (standing g.X.Extra.plain c.write_byte.new.scheduler) found.0 found.1 found.2
