use Rattle.std.proofs.Common.{◌≡◌, true, sym, ◌∙◌, ap, arith, ◌-◌}
use Rattle.kc_exec_spec.specs.Window.{is_wsr}
use Rattle.kc_block_spec.specs.Accesses.{after_even_word_read}
use Rattle.kc_block_spec.proofs.Named.{even_reads_are_mild}
use Rattle.kc_block_units.specs.Scheduler.{shown_units, IsLeft}
use Rattle.kc_block_units.specs.Standing.{standing}
use Rattle.kc_block_sfr.proofs.Calls.{word_read}
use Rattle.kc_block_sfr.proofs.Outcomes.{profile_read, ok_or_err}
use Rattle.kc_block_sfr.proofs.reading.read_even.Goals as goal

pub returns-in-None-clause-profile : goal.returns-in-None-clause-profile
returns-in-None-clause-profile g c =
    let u = shown_units g.X.Extra.further (standing g.X.Extra.plain c.args.scheduler.now) c.args.now in
    let new = standing g.X.Extra.plain c.read_two.new.scheduler in
    let after = after_even_word_read g.X.Extra.further (c.args.now - 1) c.args.window u c.args.sfr in
    ok_or_err c.read_two.result (IsLeft g.X.Extra.further g.X.Extra.agrees c.args.now new after) (c.read_two.new.scheduler ≡ c.args.scheduler.now)
    (is_wsr c.read_two.new.scheduler.board_registers.wsr ≡ true) c.read_two.ensures.left c.read_two.ensures.refused.same
    (λ left. profile_read g.X.Extra.further g.X.Extra.agrees c.args.now new u after left
    (even_reads_are_mild g.X.Extra.further (c.args.now - 1) c.args.window u c.args.sfr) c.requires.profile)
    (λ same. ap (λ l. is_wsr l.board_registers.wsr) same ∙ c.requires.profile)

pub returns-in-Some-clause-costs : goal.returns-in-Some-clause-costs
returns-in-Some-clause-costs g c =
    let four = word_read c.args.window c.args.sfr c.in-Some.register (sym c.readable_word.ensures ∙ c.in-Some.is) in
    record { spent = omega (arith, four, c.read_word.ensures.steps); moves = omega (arith, four, c.read_word.ensures.moves) }
