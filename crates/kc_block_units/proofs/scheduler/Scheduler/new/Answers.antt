use Rattle.std.proofs.Common.{◌≡◌, ◌<◌, false, refl, sym, ◌∙◌, ap, subst, arith}
use Rattle.std.specs.Prelude.{bit_xor}
use Rattle.kc_hsi.specs.Input.{hsi_rule}
use Rattle.kc_span.proofs.DeferredUnits.{asked_shows}
use Rattle.kc_block_spec.specs.declared.board_registers.BoardRegisters.{BoardRegisters}
use Rattle.kc_block_units.specs.Scheduler.{flag_goes, timer2_goes, hso_goes, further_goes, shown_units, IsScheduled}
use Rattle.kc_block_units.specs.declared.scheduler.Scheduler.{Scheduler}
use Rattle.kc_block_units.specs.Standing.{standing}
use Rattle.kc_block_units.specs.Asked.{AreAsked}
use Rattle.kc_block_units.proofs.Started.{start_held, scheduled_from_asked}
use Rattle.kc_block_units.proofs.scheduler.Scheduler.new.Goals as goal

pub returns-clause-scheduled : goal.returns-clause-scheduled
returns-clause-scheduled g c =
    let f = g.X.Extra.further in
    let agrees = g.X.Extra.agrees in
    let plain = g.X.Extra.plain in
    let made : Scheduler g.row.X.Denot = record {
      stimuli = c.args.stimuli;
      board_registers = c.first_board_registers.result;
      due = c.ask_all.new.scheduler.due;
      flag = record { unit = false; at = 0 };
      timer2 = record { unit = c.new-3.result; at = 0 };
      hso = record { unit = c.new-4.result; at = 0 };
      hsi = record { unit = c.in_ok-hsi.hsi; at = 0 };
      further = record { unit = c.args.extra; at = 0 };
    } in
    let rest : c.ask_all.new.scheduler ≡ made = c.ask_all.ensures.rest in
    subst (λ (l : Scheduler g.row.X.Denot). IsScheduled f agrees (standing plain l) 0) (sym rest)
    (scheduled_from_asked f agrees (standing plain made) 0
    (subst (λ (l : Scheduler g.row.X.Denot). AreAsked f (standing plain l) 0) rest c.ask_all.ensures.asked) refl refl refl refl refl
    (start_held c.args.stimuli c.first_board_registers.result.levels (ap (λ (s : BoardRegisters). s.levels) c.first_board_registers.ensures))
    (subst (λ t. t.inner.value < 65536) (sym c.new-3.ensures) (omega arith))
    (λ m. subst (λ (s : BoardRegisters). agrees m (bit_xor s.levels m) (plain c.args.extra)) (sym c.first_board_registers.ensures) (c.requires m)))

pub returns-clause-units : goal.returns-clause-units
returns-clause-units g c =
    let f = g.X.Extra.further in
    let plain = g.X.Extra.plain in
    let made : Scheduler g.row.X.Denot = record {
      stimuli = c.args.stimuli;
      board_registers = c.first_board_registers.result;
      due = c.ask_all.new.scheduler.due;
      flag = record { unit = false; at = 0 };
      timer2 = record { unit = c.new-3.result; at = 0 };
      hso = record { unit = c.new-4.result; at = 0 };
      hsi = record { unit = c.in_ok-hsi.hsi; at = 0 };
      further = record { unit = c.args.extra; at = 0 };
    } in
    let h = standing plain made in
    let rest : c.ask_all.new.scheduler ≡ made = c.ask_all.ensures.rest in
    let timer2 = asked_shows (timer2_goes h) 0 h.timer2.kept ∙ ap (λ t. t.inner) c.new-3.ensures in
    let hso = asked_shows (hso_goes h) 0 h.hso.kept ∙ ap (λ t. t.inner) c.new-4.ensures in
    let hsi = asked_shows hsi_rule 0 h.hsi.kept ∙ ap (λ t. t.inner) c.in_ok-hsi.ensures in
    ap (λ (l : Scheduler g.row.X.Denot). shown_units f (standing plain l) 0) rest
    ∙ (λ i. record {
      drives = c.args.stimuli;
      board_registers = c.first_board_registers.ensures i;
      overflowed = asked_shows (flag_goes h) 0 false i;
      timer2 = timer2 i;
      hso = hso i;
      hsi = hsi i;
      further = asked_shows (further_goes f) 0 (plain c.args.extra) i;
    })
