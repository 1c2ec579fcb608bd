use Rattle.std.proofs.Common.{◌≡◌, ◌<◌, sym, ◌∙◌, arith}
use Rattle.std.proofs.lemmas.Bool.{eqb-true, eqb-false, false≢true}
use Rattle.kc_unit_tests.proofs.Blinks.{held_never, over_never, beacon_due}
use Rattle.kc_unit_tests.proofs.beacon.BeaconExtra.due.Goals.{then-self, else-self}
use Rattle.kc_unit_tests.proofs.beacon.BeaconExtra.due.Goals as goal

pub returns-then-self-eq0-clause-due : goal.returns-then-self-eq0-clause-due
returns-then-self-eq0-clause-due g c = rw (← c.self.view_is) (elim c.if-self.branch [
  | then-self w ↦ held_never c.args.now _ w.if-self.true
  | else-self w ↦ over_never c.args.now _ (eqb-true c.self.inside.left 0 (sym w.value-is ∙ c.if-self-eq0.true))
])

pub returns-else-self-eq0-clause-due : goal.returns-else-self-eq0-clause-due
returns-else-self-eq0-clause-due g c = rw (← c.self.view_is) (elim c.if-self.branch [
  | then-self w ↦ absurd (false≢true (sym c.if-self-eq0.false ∙ w.value-is ∙ w.if-self.true))
  | else-self w ↦
      let none : c.self.inside.left ≡ 0 → ⊥ = λ e. eqb-false c.self.inside.left 0 (sym w.value-is ∙ c.if-self-eq0.false) e in
      let some : 0 < c.self.inside.left = omega (arith, none) in
      beacon_due c.args.now _ w.if-self.false some
])
