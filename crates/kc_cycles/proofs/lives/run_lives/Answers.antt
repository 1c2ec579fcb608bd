use Rattle.std.proofs.Common.{◌-◌, ◌&&◌, refl, sym, ◌∙◌, ap, arith}
use Rattle.std.specs.Prelude.{nat_lt}
use Rattle.kc_machine_spec.specs.Machine.{Machine}
use Rattle.kc_extra.specs.contracts.pair_unit.PairExtra.TheImpl as pair
use Rattle.kc_cycles.specs.contracts.watchdog.Watchdog as watchdog_type
use Rattle.kc_cycles.specs.contracts.watchdog.WatchdogExtra.TheImpl as watchdog
use Rattle.kc_cycles.specs.Life.{life_for}
use Rattle.kc_cycles.specs.Lives.{is_reset}
use Rattle.kc_cycles.specs.Making.{deadline_of}
use Rattle.kc_cycles.proofs.Fitted.{room-left, apart-none, way-first, way-life, way-none, way-cut, way-last, way-cut_last, way-cut_line, way-next, followed-by, restart-of, finals-of}
use Rattle.kc_cycles.proofs.lives.run_lives.Goals as goal

pub lives-init : goal.lives-init
lives-init g c =
    let few = room-left g.M.X.Extra.pins (g.met.M.X.Extra.few_pins (g.M.Maker.made c.args.maker.now c.args.stimuli.now 0)) in
    way-first _ _ _ _ _ _ _ _ few (apart-none g.M.X.Extra.pins) c.requires.some c.requires.unbroken

pub returns-in-Err : goal.returns-in-Err
returns-in-Err g c =
    way-none _ _ _ _ _ _ _ _ _ _ _ _ c.lives.invariant _ refl

pub returns-in-Err-live : goal.returns-in-Err-live
returns-in-Err-live g c =
    let way = c.lives.invariant in
    let same = way-life _ _ _ _ _ _ _ _ _ _ _ _ way c.in-Ok.machine.machine c.in-Ok.ensures.unit c.in-Ok.ensures.machine in
    way-cut _ _ _ _ _ _ _ _ _ _ _ _ way _ same _ _ c.live.ensures.lines c.live.ensures.spent c.in-Err-live.ensures.failed

pub returns-in-Ok-write_finals : goal.returns-in-Ok-write_finals
returns-in-Ok-write_finals g c =
    let way = c.lives.invariant in
    let same = way-life _ _ _ _ _ _ _ _ _ _ _ _ way c.in-Ok.machine.machine c.in-Ok.ensures.unit c.in-Ok.ensures.machine in
    let f = (pair.ghosts g.row.M-X watchdog_type.the_row g.M.X.Extra pair.no_dict watchdog.ghosts pair.no_dict).further in
    let life = life_for f deadline_of (c.args.until - c.lives.from) c.in-Ok.machine.machine in
    let none = ap (λ how. is_reset how && nat_lt 1 c.lives.left) (sym c.in-Ok-live.ensures.how) ∙ sym c.is_followed.ensures ∙ c.if-not-is_followed.true in
    let last = finals-of _ _ _ c.live.new.machine.machine life c.in-Ok-live.ensures.how c.in-Ok-live.ensures.machine c.write_finals.ensures.lines in
    way-last _ _ _ _ _ _ _ _ _ _ _ _ way _ same _ _ c.live.ensures.lines c.live.ensures.spent none _ _ c.in-Ok-live.ensures.how last c.in-Ok-write_finals.ensures.written

pub returns-in-Err-write_finals : goal.returns-in-Err-write_finals
returns-in-Err-write_finals g c =
    let way = c.lives.invariant in
    let same = way-life _ _ _ _ _ _ _ _ _ _ _ _ way c.in-Ok.machine.machine c.in-Ok.ensures.unit c.in-Ok.ensures.machine in
    let f = (pair.ghosts g.row.M-X watchdog_type.the_row g.M.X.Extra pair.no_dict watchdog.ghosts pair.no_dict).further in
    let life = life_for f deadline_of (c.args.until - c.lives.from) c.in-Ok.machine.machine in
    let none = ap (λ how. is_reset how && nat_lt 1 c.lives.left) (sym c.in-Ok-live.ensures.how) ∙ sym c.is_followed.ensures ∙ c.if-not-is_followed.true in
    let last = finals-of _ _ _ c.live.new.machine.machine life c.in-Ok-live.ensures.how c.in-Ok-live.ensures.machine c.write_finals.ensures.lines in
    way-cut_last _ _ _ _ _ _ _ _ _ _ _ _ way _ same _ _ c.live.ensures.lines c.live.ensures.spent none _ last c.in-Err-write_finals.ensures.failed

pub returns-then-failed : goal.returns-then-failed
returns-then-failed g c =
    let way = c.lives.invariant in
    let same = way-life _ _ _ _ _ _ _ _ _ _ _ _ way c.in-Ok.machine.machine c.in-Ok.ensures.unit c.in-Ok.ensures.machine in
    let f = (pair.ghosts g.row.M-X watchdog_type.the_row g.M.X.Extra pair.no_dict watchdog.ghosts pair.no_dict).further in
    let life = life_for f deadline_of (c.args.until - c.lives.from) c.in-Ok.machine.machine in
    let on = followed-by _ c.lives.left (ap (λ how. is_reset how && nat_lt 1 c.lives.left) (sym c.in-Ok-live.ensures.how) ∙ sym c.is_followed.ensures ∙ c.if-not-is_followed.false) in
    let time = c.now-time.ensures ∙ ap (λ (m : Machine _). m.time) c.in-Ok-live.ensures.machine in
    let line = restart-of _ _ c.now-time.result _ life time c.in-Ok-live.ensures.by_watchdog c.put_restart.ensures in
    way-cut_line _ _ _ _ _ _ _ _ _ _ _ _ way _ same _ _ c.live.ensures.lines c.live.ensures.spent on.0 on.1 _ line (sym c.failed.ensures ∙ c.if-failed.true)

pub lives-preserved : goal.lives-preserved
lives-preserved g c =
    let way = c.lives.invariant in
    let same = way-life _ _ _ _ _ _ _ _ _ _ _ _ way c.in-Ok.machine.machine c.in-Ok.ensures.unit c.in-Ok.ensures.machine in
    let f = (pair.ghosts g.row.M-X watchdog_type.the_row g.M.X.Extra pair.no_dict watchdog.ghosts pair.no_dict).further in
    let life = life_for f deadline_of (c.args.until - c.lives.from) c.in-Ok.machine.machine in
    let on = followed-by _ c.lives.left (ap (λ how. is_reset how && nat_lt 1 c.lives.left) (sym c.in-Ok-live.ensures.how) ∙ sym c.is_followed.ensures ∙ c.if-not-is_followed.false) in
    let time = c.now-time.ensures ∙ ap (λ (m : Machine _). m.time) c.in-Ok-live.ensures.machine in
    let line = restart-of _ _ c.now-time.result _ life time c.in-Ok-live.ensures.by_watchdog c.put_restart.ensures in
    way-next _ _ _ _ _ _ _ _ _ _ _ _ way _ same _ _ c.live.ensures.lines c.live.ensures.spent on.0 on.1 _ line c.now-time.result time (omega (arith, way.within, c.live.ensures.within, c.now-time.ensures)) (sym c.failed.ensures ∙ c.if-failed.false)
