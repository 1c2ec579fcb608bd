use Rattle.std.proofs.Common.{◌≡◌, ℕ, ◌<◌, sym, ◌∙◌, subst, arith}
use Rattle.kc_due.specs.Due.{at_slot}
use Rattle.kc_block_units.specs.Scheduler.{AreHeld}
use Rattle.kc_block_units.specs.declared.scheduler.Scheduler.{Scheduler}
use Rattle.kc_block_units.proofs.Carried.{slots_join, timer2_carried, hso_carried, hsi_carried, further_carried, flag_carried, stimuli_carried, proper_carried}
use Rattle.kc_block_units.proofs.Started.{start_held}
use Rattle.kc_block_units.proofs.starting.ask_all.Goals as goal

pub set_wires-requires-clause-held : goal.set_wires-requires-clause-held
set_wires-requires-clause-held g c =
    let old = c.args.scheduler.now in
    let m5 = c.set_stimuli.new.self in
    let rest : m5 ≡ record old { due = m5.due } =
    slots_join old c.ask_flag.new.self m5
    (slots_join old c.ask_further.new.self c.ask_flag.new.self
    (slots_join old c.ask_hsi.new.self c.ask_further.new.self
    (slots_join old c.ask_timers.new.self c.ask_hsi.new.self c.ask_timers.ensures.rest c.ask_hsi.ensures.rest) c.ask_further.ensures.rest) c.ask_flag.ensures.rest) c.set_stimuli.ensures.rest in
    subst (λ (l : Scheduler _). AreHeld l.stimuli l.board_registers.levels 0) (sym rest) (start_held old.stimuli old.board_registers.levels c.requires.levels)

pub returns-clause-asked : goal.returns-clause-asked
returns-clause-asked g c =
    let old = c.args.scheduler.now in
    let m1 = c.ask_timers.new.self in
    let m2 = c.ask_hsi.new.self in
    let m3 = c.ask_further.new.self in
    let m4 = c.ask_flag.new.self in
    let m5 = c.set_stimuli.new.self in
    let m6 = c.set_wires.new.self in
    let r5 : m6 ≡ record m5 { due = m6.due } = c.set_wires.ensures.rest in
    let r4 : m6 ≡ record m4 { due = m6.due } = slots_join m4 m5 m6 c.set_stimuli.ensures.rest r5 in
    let r3 : m6 ≡ record m3 { due = m6.due } = slots_join m3 m4 m6 c.ask_flag.ensures.rest r4 in
    let r2 : m6 ≡ record m2 { due = m6.due } = slots_join m2 m3 m6 c.ask_further.ensures.rest r3 in
    let r1 : m6 ≡ record m1 { due = m6.due } = slots_join m1 m2 m6 c.ask_hsi.ensures.rest r2 in
    let s5 : (k : ℕ) → k < 6 → at_slot m6.due k ≡ at_slot m5.due k = λ k lt. c.set_wires.ensures.others k (λ e. omega arith) in
    let s4 : (k : ℕ) → k < 5 → at_slot m6.due k ≡ at_slot m4.due k = λ k lt. s5 k (omega arith) ∙ c.set_stimuli.ensures.others k (λ e. omega arith) in
    let s3 : (k : ℕ) → k < 4 → at_slot m6.due k ≡ at_slot m3.due k = λ k lt. s4 k (omega arith) ∙ c.ask_flag.ensures.others k (λ e. omega arith) in
    let s2 : (k : ℕ) → k < 3 → at_slot m6.due k ≡ at_slot m2.due k = λ k lt. s3 k (omega arith) ∙ c.ask_further.ensures.others k (λ e. omega arith) in
    let s1 : (k : ℕ) → k < 2 → at_slot m6.due k ≡ at_slot m1.due k = λ k lt. s2 k (omega arith) ∙ c.ask_hsi.ensures.others k (λ e. omega arith) in
    record {
      timer2 = timer2_carried g.X.Extra.plain m1 m6 0 r1 (s1 0 (omega arith)) c.ask_timers.ensures.timer2;
      hso = hso_carried g.X.Extra.plain m1 m6 0 r1 (s1 1 (omega arith)) c.ask_timers.ensures.hso;
      hsi = hsi_carried g.X.Extra.plain m2 m6 0 r2 (s2 2 (omega arith)) c.ask_hsi.ensures.due;
      further = further_carried g.X.Extra.plain m3 m6 0 r3 g.X.Extra.further (s3 3 (omega arith)) c.ask_further.ensures.due;
      flag = flag_carried g.X.Extra.plain m4 m6 0 r4 (s4 4 (omega arith)) c.ask_flag.ensures.due;
      stimuli = stimuli_carried g.X.Extra.plain m5 m6 0 r5 (s5 5 (omega arith)) c.set_stimuli.ensures.next;
      wires = c.set_wires.ensures.wires;
      proper = proper_carried g.X.Extra.plain m5 m6 0 r5 c.set_stimuli.ensures.proper;
      spare = λ k le lt.
          c.set_wires.ensures.others k (λ e. omega arith)
          ∙ c.set_stimuli.ensures.others k (λ e. omega arith)
          ∙ c.ask_flag.ensures.others k (λ e. omega arith)
          ∙ c.ask_further.ensures.others k (λ e. omega arith)
          ∙ c.ask_hsi.ensures.others k (λ e. omega arith)
          ∙ c.ask_timers.ensures.others k (λ e. omega arith) (λ e. omega arith)
          ∙ c.requires.empty k lt;
    }
