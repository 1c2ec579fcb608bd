use Rattle.std.proofs.Common.{◌≡◌, refl, ap, sym, subst, ◌∙◌, Option, Some, None, Result, Ok, Err}
use Rattle.std.specs.Prelude.{IfErr, OnOk}
use Rattle.kc_base.specs.declared.types.Kind.{Kind}
use Rattle.kc_span.specs.Span.{IsDue, least_of}
use Rattle.kc_due.specs.Due.{at_slot}
use Rattle.kc_block_units.specs.Scheduler.{line, hso_goes, shown_units}
use Rattle.kc_block_units.specs.Standing.{standing}
use Rattle.kc_base.specs.Bits.{bit}
use Rattle.kc_hso.specs.Cam.{load_refusal, with_load}
use Rattle.kc_hso.proofs.Loading.{loads_due}
use Rattle.kc_block_sfr.proofs.Acts.{hso_act}
use Rattle.kc_block_sfr.proofs.acting.load_hso.Goals as goal

loaded : (r : Result (Unit {0}) Kind) (P : Type 0) (refusal : Option Kind) → IfErr r (λ kind. refusal ≡ Some kind) → OnOk r P → refusal ≡ None → P
loaded (Ok u) P refusal refused ok none = ok
loaded (Err kind) P refusal refused ok none = let both : ◌≡◌ {A = Option Kind} (Some kind) None = sym refused ∙ none in cc

pub returns-clause-left : goal.returns-clause-left
returns-clause-left g c =
    let before = c.catch_up_hso.new.self in
    let kept : (shown_units g.X.Extra.further (standing g.X.Extra.plain c.args.scheduler.now) c.args.now).hso ≡ before.hso.unit.inner =
    ap (λ l. l.hso.kept) (sym c.catch_up_hso.ensures.standing) in
    let board_registers : c.args.scheduler.now.board_registers ≡ before.board_registers = ap (λ l. l.board_registers) (sym c.catch_up_hso.ensures.standing) in
    let none : load_refusal before.hso.unit.inner c.bit-fast.result ≡ None =
    ap (load_refusal before.hso.unit.inner) c.bit-fast.ensures
    ∙ (λ j. load_refusal (sym kept j) (bit (sym board_registers j).ioc2 0)) ∙ c.requires.loads in
    let loads = loaded c.load_time.result (c.load_time.new.self ≡ record before.hso.unit { inner = with_load c.args.time before.hso.unit.inner })
    (load_refusal before.hso.unit.inner c.bit-fast.result) c.load_time.ensures.refused c.load_time.ensures.ok none in
    let unit = c.load_time.new.self in
    let rule = hso_goes (standing g.X.Extra.plain before) in
    let there : before.hso.at ≡ c.args.now = ap (λ l. l.hso.at) c.catch_up_hso.ensures.standing in
    let was : IsDue rule c.args.now before.hso.unit.inner (at_slot before.due 1) =
    subst (λ at. IsDue rule at before.hso.unit.inner (at_slot before.due 1)) there c.catch_up_hso.ensures.left.scheduled.hso.due in
    let is : IsDue rule c.args.now (with_load c.args.time before.hso.unit.inner) (least_of (at_slot before.due 1) c.first_empty-visit.result) =
    loads_due (line (standing g.X.Extra.plain before)) c.args.now c.args.time before.hso.unit.inner (at_slot before.due 1) c.first_empty-visit.result was c.first_empty-visit.ensures.first in
    let slot : IsDue rule c.args.now (with_load c.args.time before.hso.unit.inner) (at_slot c.reschedule_hso.new.due 1) =
    subst (IsDue rule c.args.now (with_load c.args.time before.hso.unit.inner)) (sym c.reschedule_hso.ensures.here) is in
    let due : IsDue rule c.args.now unit.inner (at_slot c.reschedule_hso.new.due 1) =
    subst (λ d. IsDue rule c.args.now d (at_slot c.reschedule_hso.new.due 1)) (sym (ap (λ u. u.inner) loads)) slot in
    hso_act g.X.Extra.further g.X.Extra.agrees g.X.Extra.plain c.args.scheduler.now before (record before { hso = record before.hso { unit = unit }; due = c.reschedule_hso.new.due }) c.args.now
    (with_load c.args.time) unit
    (record { scheduled = c.catch_up_hso.ensures.left.scheduled; shows = c.catch_up_hso.ensures.left.shows }) c.catch_up_hso.ensures.standing
    (ap (λ u. u.inner) loads) (λ d. refl) refl c.reschedule_hso.ensures.others due
