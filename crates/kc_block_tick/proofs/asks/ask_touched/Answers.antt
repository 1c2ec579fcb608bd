use Rattle.std.proofs.Common.{◌≡◌, ℕ, ◌<◌, refl, sym, ◌∙◌, subst, arith}
use Rattle.kc_due.specs.Due.{at_slot}
use Rattle.kc_stim.specs.Drives.{IsNextEdge}
use Rattle.kc_hsi.specs.Input.{hsi_rule}
use Rattle.kc_block_units.specs.Scheduler.{flag_goes, timer2_goes, hso_goes, further_goes}
use Rattle.kc_block_units.specs.Events.{AsksWhere}
use Rattle.kc_block_units.specs.declared.scheduler.Scheduler.{Scheduler}
use Rattle.kc_block_units.specs.Standing.{standing}
use Rattle.kc_block_units.proofs.Carried.{slots_join}
use Rattle.kc_block_tick.proofs.Asked.{carried}
use Rattle.kc_block_tick.proofs.asks.ask_touched.Goals as goal

pub returns-clause-asked : goal.returns-clause-asked
returns-clause-asked g c =
    let X = g.row.X.Denot in
    let plain = g.X.Extra.plain in
    let t = c.args.touched in
    let next = c.args.next in
    let m0 : Scheduler X = c.args.scheduler.now in
    let m1 : Scheduler X = c.ask_timer2.new.scheduler in
    let m2 : Scheduler X = c.ask_hso.new.scheduler in
    let m3 : Scheduler X = c.ask_hsi.new.scheduler in
    let m4 : Scheduler X = c.ask_further.new.scheduler in
    let m5 : Scheduler X = c.ask_flag.new.scheduler in
    let m6 : Scheduler X = c.ask_stimuli.new.scheduler in
    let m7 : Scheduler X = c.set_wires.new.self in
    let r6 : m7 ≡ record m6 { due = m7.due } = c.set_wires.ensures.rest in
    let r5 : m7 ≡ record m5 { due = m7.due } = slots_join m5 m6 m7 c.ask_stimuli.ensures.rest r6 in
    let r4 : m7 ≡ record m4 { due = m7.due } = slots_join m4 m5 m7 c.ask_flag.ensures.rest r5 in
    let r3 : m7 ≡ record m3 { due = m7.due } = slots_join m3 m4 m7 c.ask_further.ensures.rest r4 in
    let r2 : m7 ≡ record m2 { due = m7.due } = slots_join m2 m3 m7 c.ask_hsi.ensures.rest r3 in
    let r1 : m7 ≡ record m1 { due = m7.due } = slots_join m1 m2 m7 c.ask_hso.ensures.rest r2 in
    let s6 : (k : ℕ) → k < 6 → at_slot m7.due k ≡ at_slot m6.due k = λ k lt. c.set_wires.ensures.others k (λ e. omega arith) in
    let s5 : (k : ℕ) → k < 5 → at_slot m7.due k ≡ at_slot m5.due k = λ k lt. s6 k (omega arith) ∙ c.ask_stimuli.ensures.others k (λ e. omega arith) in
    let s4 : (k : ℕ) → k < 4 → at_slot m7.due k ≡ at_slot m4.due k = λ k lt. s5 k (omega arith) ∙ c.ask_flag.ensures.others k (λ e. omega arith) in
    let s3 : (k : ℕ) → k < 3 → at_slot m7.due k ≡ at_slot m3.due k = λ k lt. s4 k (omega arith) ∙ c.ask_further.ensures.others k (λ e. omega arith) in
    let s2 : (k : ℕ) → k < 2 → at_slot m7.due k ≡ at_slot m2.due k = λ k lt. s3 k (omega arith) ∙ c.ask_hsi.ensures.others k (λ e. omega arith) in
    let s1 : (k : ℕ) → k < 1 → at_slot m7.due k ≡ at_slot m1.due k = λ k lt. s2 k (omega arith) ∙ c.ask_hso.ensures.others k (λ e. omega arith) in
    let b1 : (k : ℕ) → 0 < k → at_slot m1.due k ≡ at_slot m0.due k = λ k lt. c.ask_timer2.ensures.others k (λ e. omega arith) in
    let b2 : (k : ℕ) → 1 < k → at_slot m2.due k ≡ at_slot m0.due k = λ k lt. c.ask_hso.ensures.others k (λ e. omega arith) ∙ b1 k (omega arith) in
    let b3 : (k : ℕ) → 2 < k → at_slot m3.due k ≡ at_slot m0.due k = λ k lt. c.ask_hsi.ensures.others k (λ e. omega arith) ∙ b2 k (omega arith) in
    let b4 : (k : ℕ) → 3 < k → at_slot m4.due k ≡ at_slot m0.due k = λ k lt. c.ask_further.ensures.others k (λ e. omega arith) ∙ b3 k (omega arith) in
    let b5 : (k : ℕ) → 4 < k → at_slot m5.due k ≡ at_slot m0.due k = λ k lt. c.ask_flag.ensures.others k (λ e. omega arith) ∙ b4 k (omega arith) in
    record {
      timer2 = carried (λ l o n. AsksWhere t.timer2 (timer2_goes (standing plain l)) next (standing plain l).timer2.kept o n) m1 m7 r1 refl (s1 0 (omega arith)) (λ x. x) c.ask_timer2.ensures.asks;
      hso = carried (λ l o n. AsksWhere t.hso (hso_goes (standing plain l)) next (standing plain l).hso.kept o n) m2 m7 r2 (b1 1 (omega arith)) (s2 1 (omega arith)) (λ x. x) c.ask_hso.ensures.asks;
      hsi = carried (λ l o n. AsksWhere t.hsi hsi_rule next (standing plain l).hsi.kept o n) m3 m7 r3 (b2 2 (omega arith)) (s3 2 (omega arith)) (λ x. x) c.ask_hsi.ensures.asks;
      further =
          carried (λ l o n. AsksWhere t.further (further_goes g.X.Extra.further) next (standing plain l).further.kept o n) m4 m7 r4 (b3 3 (omega arith)) (s4 3 (omega arith)) (λ x. x) c.ask_further.ensures.asks;
      flag = carried (λ l o n. AsksWhere t.flag (flag_goes (standing plain l)) next (standing plain l).flag.kept o n) m5 m7 r5 (b4 4 (omega arith)) (s5 4 (omega arith)) (λ x. x) c.ask_flag.ensures.asks;
      next_edge = λ on.
          subst (λ (l : Scheduler X). IsNextEdge l.stimuli.stimuli next (at_slot l.due 5)) (sym r6)
          (subst (λ slot. IsNextEdge m6.stimuli.stimuli next slot) (sym (s6 5 (omega arith))) (c.ask_stimuli.ensures.next on));
      same_edge = λ off. s6 5 (omega arith) ∙ c.ask_stimuli.ensures.same off ∙ b5 5 (omega arith);
      wires = c.set_wires.ensures.wires;
      spare = λ slot le. c.set_wires.ensures.others slot (λ e. omega arith) ∙ c.ask_stimuli.ensures.others slot (λ e. omega arith) ∙ b5 slot (omega arith);
    }
