use Rattle.std.proofs.Common.{◌≡◌, true, sym, ◌∙◌, ap, arith, subst, Some, ◌-◌}
use Rattle.std.specs.Prelude.{IfOk}
use Rattle.kc_exec_spec.specs.Window.{is_wsr}
use Rattle.kc_block_spec.specs.Registers.{row_at, words_written}
use Rattle.kc_block_spec.specs.Accesses.{even_word_written, word_written_as}
use Rattle.kc_block_spec.specs.Writing.{with_word}
use Rattle.kc_block_spec.proofs.Named.{even_writes_keep_profile}
use Rattle.kc_block_units.specs.Scheduler.{shown_units, IsScheduled, IsLeft}
use Rattle.kc_block_units.specs.Standing.{standing}
use Rattle.kc_block_sfr.proofs.Calls.{word_written}
use Rattle.kc_block_sfr.proofs.Outcomes.{profile_left, both_of, either_way, weaker}
use Rattle.kc_block_sfr.proofs.writing.write_even.Goals as goal

pub returns-in-Some-clause-scheduled : goal.returns-in-Some-clause-scheduled
returns-in-Some-clause-scheduled g c =
    let new = standing g.X.Extra.plain c.write_one.new.scheduler in
    either_way c.write_one.result (with_word (shown_units g.X.Extra.further (standing g.X.Extra.plain c.args.scheduler.now) c.args.now) c.in-Some.register c.args.value)
    (IsLeft g.X.Extra.further g.X.Extra.agrees c.args.now new) (c.write_one.new.scheduler ≡ c.args.scheduler.now) (IsScheduled g.X.Extra.further g.X.Extra.agrees new c.args.now)
    c.write_one.ensures.answer c.write_one.ensures.left c.write_one.ensures.refused.same (λ u left. left.scheduled)
    (λ same. subst (λ l. IsScheduled g.X.Extra.further g.X.Extra.agrees (standing g.X.Extra.plain l) c.args.now) (sym same) c.requires.present.scheduled)

pub returns-in-Some-clause-profile : goal.returns-in-Some-clause-profile
returns-in-Some-clause-profile g c =
    let u = shown_units g.X.Extra.further (standing g.X.Extra.plain c.args.scheduler.now) c.args.now in
    let new = standing g.X.Extra.plain c.write_one.new.scheduler in
    let left = IsLeft g.X.Extra.further g.X.Extra.agrees c.args.now new in
    let one = with_word u c.in-Some.register c.args.value in
    let row : row_at (words_written c.args.window) c.args.sfr ≡ Some c.in-Some.register = sym c.writable_word.ensures ∙ c.in-Some.is in
    let keeps = subst (λ r. IfOk (word_written_as g.X.Extra.further (c.args.now - 1) c.args.window u c.args.sfr c.args.value r) (λ v. is_wsr v.board_registers.wsr ≡ true)) row
    (even_writes_keep_profile g.X.Extra.further (c.args.now - 1) c.args.window u c.args.sfr c.args.value c.requires.profile) in
    either_way c.write_one.result one (λ v. left v × (is_wsr v.board_registers.wsr ≡ true)) (c.write_one.new.scheduler ≡ c.args.scheduler.now) (is_wsr c.write_one.new.scheduler.board_registers.wsr ≡ true)
    c.write_one.ensures.answer (both_of left (λ v. is_wsr v.board_registers.wsr ≡ true) one c.write_one.ensures.left keeps) c.write_one.ensures.refused.same
    (λ v both. profile_left g.X.Extra.further g.X.Extra.agrees c.args.now new v both.0 both.1)
    (λ same. ap (λ l. is_wsr l.board_registers.wsr) same ∙ c.requires.profile)

pub returns-in-None-clause-units : goal.returns-in-None-clause-units
returns-in-None-clause-units g c =
    let new = standing g.X.Extra.plain c.write_two.new.scheduler in
    weaker (IsLeft g.X.Extra.further g.X.Extra.agrees c.args.now new) (λ v. shown_units g.X.Extra.further new c.args.now ≡ v)
    (even_word_written g.X.Extra.further (c.args.now - 1) c.args.window (shown_units g.X.Extra.further (standing g.X.Extra.plain c.args.scheduler.now) c.args.now) c.args.sfr c.args.value) (λ v left. left.shows) c.write_two.ensures.left

pub returns-in-None-clause-scheduled : goal.returns-in-None-clause-scheduled
returns-in-None-clause-scheduled g c =
    let new = standing g.X.Extra.plain c.write_two.new.scheduler in
    either_way c.write_two.result (even_word_written g.X.Extra.further (c.args.now - 1) c.args.window (shown_units g.X.Extra.further (standing g.X.Extra.plain c.args.scheduler.now) c.args.now) c.args.sfr c.args.value)
    (IsLeft g.X.Extra.further g.X.Extra.agrees c.args.now new) (c.write_two.new.scheduler ≡ c.args.scheduler.now) (IsScheduled g.X.Extra.further g.X.Extra.agrees new c.args.now)
    c.write_two.ensures.answer c.write_two.ensures.left c.write_two.ensures.refused.same (λ u left. left.scheduled)
    (λ same. subst (λ l. IsScheduled g.X.Extra.further g.X.Extra.agrees (standing g.X.Extra.plain l) c.args.now) (sym same) c.requires.present.scheduled)

pub returns-in-None-clause-profile : goal.returns-in-None-clause-profile
returns-in-None-clause-profile g c =
    let u = shown_units g.X.Extra.further (standing g.X.Extra.plain c.args.scheduler.now) c.args.now in
    let new = standing g.X.Extra.plain c.write_two.new.scheduler in
    let left = IsLeft g.X.Extra.further g.X.Extra.agrees c.args.now new in
    let two = even_word_written g.X.Extra.further (c.args.now - 1) c.args.window u c.args.sfr c.args.value in
    either_way c.write_two.result two (λ v. left v × (is_wsr v.board_registers.wsr ≡ true)) (c.write_two.new.scheduler ≡ c.args.scheduler.now) (is_wsr c.write_two.new.scheduler.board_registers.wsr ≡ true)
    c.write_two.ensures.answer (both_of left (λ v. is_wsr v.board_registers.wsr ≡ true) two c.write_two.ensures.left
    (even_writes_keep_profile g.X.Extra.further (c.args.now - 1) c.args.window u c.args.sfr c.args.value c.requires.profile)) c.write_two.ensures.refused.same
    (λ v both. profile_left g.X.Extra.further g.X.Extra.agrees c.args.now new v both.0 both.1)
    (λ same. ap (λ l. is_wsr l.board_registers.wsr) same ∙ c.requires.profile)

pub returns-in-Some-clause-costs : goal.returns-in-Some-clause-costs
returns-in-Some-clause-costs g c =
    let four = word_written c.args.window c.args.sfr c.in-Some.register (sym c.writable_word.ensures ∙ c.in-Some.is) in
    record { spent = omega (arith, four, c.write_one.ensures.steps); moves = omega (arith, four, c.write_one.ensures.moves) }
