-- What was asked holds on while other slots are set.
use Rattle.std.proofs.Common.{◌≡◌, ℕ, sym, ◌∙◌, ap, subst}
use Rattle.kc_span.specs.Span.{IsDue}
use Rattle.kc_due.specs.Due.{at_slot}
use Rattle.kc_stim.specs.Drives.{IsNextEdge}
use Rattle.kc_stim.specs.Proper.{AreProper}
use Rattle.kc_hsi.specs.Input.{hsi_rule}
use Rattle.kc_extra.specs.Further.{Further}
use Rattle.kc_block_units.specs.Scheduler.{flag_goes, timer2_goes, hso_goes, further_goes}
use Rattle.kc_block_units.specs.declared.scheduler.Scheduler.{Scheduler}
use Rattle.kc_block_units.specs.Standing.{standing}

-- two changes of slots are one
pub slots_join : {X : Type 0} (a b c : Scheduler X) → b ≡ record a { due = b.due } → c ≡ record b { due = c.due } → c ≡ record a { due = c.due }
slots_join a b c first then = then ∙ ap (λ (l : Scheduler _). record l { due = c.due }) first

module _ {X : Type 0} (plain : X → X) (a b : Scheduler X) (now : ℕ) (rest : b ≡ record a { due = b.due }) where
  pub timer2_carried : at_slot b.due 0 ≡ at_slot a.due 0 → IsDue (timer2_goes (standing plain a)) now (standing plain a).timer2.kept (at_slot a.due 0) →
      IsDue (timer2_goes (standing plain b)) now (standing plain b).timer2.kept (at_slot b.due 0)
  timer2_carried same is =
      subst (λ l. IsDue (timer2_goes (standing plain l)) now (standing plain l).timer2.kept (at_slot l.due 0)) (sym rest)
      (subst (λ s. IsDue (timer2_goes (standing plain a)) now (standing plain a).timer2.kept s) (sym same) is)

  pub hso_carried : at_slot b.due 1 ≡ at_slot a.due 1 → IsDue (hso_goes (standing plain a)) now (standing plain a).hso.kept (at_slot a.due 1) →
      IsDue (hso_goes (standing plain b)) now (standing plain b).hso.kept (at_slot b.due 1)
  hso_carried same is =
      subst (λ l. IsDue (hso_goes (standing plain l)) now (standing plain l).hso.kept (at_slot l.due 1)) (sym rest)
      (subst (λ s. IsDue (hso_goes (standing plain a)) now (standing plain a).hso.kept s) (sym same) is)

  pub hsi_carried : at_slot b.due 2 ≡ at_slot a.due 2 → IsDue hsi_rule now (standing plain a).hsi.kept (at_slot a.due 2) →
      IsDue hsi_rule now (standing plain b).hsi.kept (at_slot b.due 2)
  hsi_carried same is =
      subst (λ l. IsDue hsi_rule now (standing plain l).hsi.kept (at_slot l.due 2)) (sym rest)
      (subst (λ s. IsDue hsi_rule now (standing plain a).hsi.kept s) (sym same) is)

  pub further_carried : (f : Further X) → at_slot b.due 3 ≡ at_slot a.due 3 → IsDue (further_goes f) now (standing plain a).further.kept (at_slot a.due 3) →
      IsDue (further_goes f) now (standing plain b).further.kept (at_slot b.due 3)
  further_carried f same is =
      subst (λ l. IsDue (further_goes f) now (standing plain l).further.kept (at_slot l.due 3)) (sym rest)
      (subst (λ s. IsDue (further_goes f) now (standing plain a).further.kept s) (sym same) is)

  pub flag_carried : at_slot b.due 4 ≡ at_slot a.due 4 → IsDue (flag_goes (standing plain a)) now (standing plain a).flag.kept (at_slot a.due 4) →
      IsDue (flag_goes (standing plain b)) now (standing plain b).flag.kept (at_slot b.due 4)
  flag_carried same is =
      subst (λ l. IsDue (flag_goes (standing plain l)) now (standing plain l).flag.kept (at_slot l.due 4)) (sym rest)
      (subst (λ s. IsDue (flag_goes (standing plain a)) now (standing plain a).flag.kept s) (sym same) is)

  pub stimuli_carried : at_slot b.due 5 ≡ at_slot a.due 5 → IsNextEdge a.stimuli.stimuli now (at_slot a.due 5) → IsNextEdge b.stimuli.stimuli now (at_slot b.due 5)
  stimuli_carried same is =
      subst (λ (l : Scheduler X). IsNextEdge l.stimuli.stimuli now (at_slot l.due 5)) (sym rest) (subst (λ s. IsNextEdge a.stimuli.stimuli now s) (sym same) is)

  pub proper_carried : AreProper a.stimuli → AreProper b.stimuli
  proper_carried is = subst (λ (l : Scheduler X). AreProper l.stimuli) (sym rest) is
