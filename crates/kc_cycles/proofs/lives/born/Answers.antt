use Rattle.std.proofs.Common.{refl, sym, ◌∙◌, ap, subst}
use Rattle.std.specs.Prelude.{bit_xor}
use Rattle.kc_stim.specs.Drives.{driven_from}
use Rattle.kc_block_spec.specs.Levels.{stimulated_before}
use Rattle.kc_cycles.specs.declared.watchdog.Watchdog.{Watchdog}
use Rattle.kc_cycles.proofs.Fitted.{room-left, apart-none, made-unit, made-machine}
use Rattle.kc_cycles.proofs.lives.born.Goals as goal

pub of-requires-clause-few : goal.of-requires-clause-few
of-requires-clause-few g c = room-left g.M.X.Extra.pins (g.met.M.X.Extra.few_pins c.in_ok-unit.unit)

pub of-requires-clause-apart : goal.of-requires-clause-apart
of-requires-clause-apart g c = apart-none g.M.X.Extra.pins

pub new-requires-2 : goal.new-requires-2
new-requires-2 g c = λ edges.
    let there = subst (λ u. g.M.X.Extra.agrees edges (bit_xor (stimulated_before (driven_from c.args.from c.args.stimuli.now) 0) edges) (g.M.X.Extra.plain u)) (sym c.of.ensures.first) (c.in_ok-unit.ensures.levels edges) in
    (subst (λ d. g.M.X.Extra.agrees edges (bit_xor (stimulated_before d 0) edges) (g.M.X.Extra.plain c.of.result.first)) (sym c.in_ok-later.ensures.drives) there, tt)

pub returns-clause-unit : goal.returns-clause-unit
returns-clause-unit g c =
    made-unit (λ w. w.machine) (g.M.Maker.made c.args.maker.now c.args.stimuli.now c.args.from) _ _ _ c.new-2.result
    (record {
      first = ap g.M.X.Extra.plain c.of.ensures.first ∙ c.in_ok-unit.ensures.value;
      second = ap (λ (w : Watchdog). record w { idle = record { moves = 0 } }) (c.of.ensures.second ∙ c.new.ensures);
      moves = refl;
    })
    c.new-2.ensures.machine

pub returns-clause-machine : goal.returns-clause-machine
returns-clause-machine g c = made-machine (λ w. w.machine) _ _ _ _ _ c.new-2.result c.in_ok-image.ensures c.in_ok-later.ensures.drives c.new-2.ensures.machine
