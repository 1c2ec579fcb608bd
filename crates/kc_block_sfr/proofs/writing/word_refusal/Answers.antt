use Rattle.std.proofs.Common.{ap, sym, ◌∙◌, refl, ◌≡◌, Option, Some, None, ℕ}
use Rattle.kc_base.specs.Bits.{bit}
use Rattle.kc_base.specs.declared.types.Kind.{Kind}
use Rattle.kc_hso.specs.Cam.{load_refusal}
use Rattle.kc_hso.proofs.Kept.{kept_are_seen_alike}
use Rattle.kc_block_spec.specs.Units.{Units}
use Rattle.kc_block_spec.specs.Writing.{loaded_unless}
use Rattle.kc_block_spec.specs.RegisterLaws.{refusal}
use Rattle.kc_block_units.specs.Scheduler.{shown_units}
use Rattle.kc_block_units.specs.Standing.{standing}
use Rattle.kc_block_sfr.proofs.Left.{standing_reports}
use Rattle.kc_block_sfr.proofs.writing.word_refusal.Goals as goal

load_refused : {X : Type 0} (u : Units X) (n : ℕ) (o : Option Kind) → o ≡ refusal (loaded_unless u n o)
load_refused u n (Some kind) = refl
load_refused u n None = refl

pub returns-in-HsoTime : goal.returns-in-HsoTime
returns-in-HsoTime g c =
    let reports = standing_reports g.X.Extra.further g.X.Extra.agrees (standing g.X.Extra.plain c.args.scheduler.now) c.args.now c.requires in
    let seen = (kept_are_seen_alike _ _ reports.hso).refusal (bit c.args.scheduler.now.board_registers.ioc2 0) in
    rw c.in-HsoTime.is
    (c.refusal.ensures ∙ ap (load_refusal c.args.scheduler.now.hso.unit.inner) c.bit.ensures ∙ sym seen ∙ load_refused (shown_units g.X.Extra.further (standing g.X.Extra.plain c.args.scheduler.now) c.args.now) c.args.value _)
