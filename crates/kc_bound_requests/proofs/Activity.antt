-- How one activity changes what is allowed.
use Rattle.std.proofs.Common.{◌≡◌, ℕ, Bool, true, false, ◌<◌, ◌⊎◌, inl, inr, Some, None, List, [], refl, sym, ◌∙◌, ap, subst}
use Rattle.kc_isa.specs.declared.insn.Insn.{Insn}
use Rattle.kc_isa.specs.declared.table.Mnemonic.{Mnemonic}
use Rattle.kc_isa.specs.Names.{mnemonic_at}
use Rattle.kc_exec_spec.specs.declared.cpu.Cpu.{Cpu}
use Rattle.kc_exec_spec.specs.declared.cpu.Words.{Words}
use Rattle.kc_exec_spec.specs.declared.cpu.After.{After}
use Rattle.kc_exec_spec.specs.declared.cpu.After.TheVariants.{Next, Held, Idle as Idles, Powerdown, Reset as Resets, MoreWords}
use Rattle.kc_exec_spec.specs.declared.plan.Plan.TheVariants.{BlockMove, Trap}
use Rattle.kc_exec_spec.specs.Plans.{plan_of}
use Rattle.kc_exec_spec.specs.Effect.{Outcome, Done, Refused, run}
use Rattle.kc_exec_spec.specs.Effects.{effect_of}
use Rattle.kc_exec_spec.specs.BlockMoves.{moved_word}
use Rattle.kc_exec_spec.specs.Entering.{opcode_trap}
use Rattle.kc_extra.specs.Further.{Further}
use Rattle.kc_trace.specs.declared.record.Record.{Record}
use Rattle.kc_machine_spec.specs.declared.doing.Activity.{Activity}
use Rattle.kc_machine_spec.specs.declared.doing.Activity.TheVariants.{Executes, MovesWord, Traps, Enters, SetsUp, Transfers, Idles as IdlesNow, Breaks}
use Rattle.kc_machine_spec.specs.declared.doing.Going.TheVariants.{Moving}
use Rattle.kc_machine_spec.specs.Scene.{Scene, scene_meaning}
use Rattle.kc_machine_spec.specs.Machine.{Machine, scene_of, current, next_after, own_records, settled, trapped, finished}
use Rattle.kc_bound.specs.Passes.{is_own, plan_in, after_activity, moment}
use Rattle.kc_bound.proofs.Follows.{HasEnded}
use Rattle.kc_bound.proofs.Activities.{last_state, after-finished}
use Rattle.kc_bound_requests.specs.declared.enabled.Enabled.{Enabled}
use Rattle.kc_bound_requests.specs.Enabled.{enabled_in, is_same, may_leave, may_change}
use Rattle.kc_bound_requests.specs.Requests.{ActivitiesChange}
use Rattle.kc_bound_requests.proofs.Ends.{IsEnd, end-run}
use Rattle.kc_bound_requests.proofs.Changes.{left, allowed, same-bits, Leaves, effect-leaves, word-leaves, AreOf, move-of}

module _ {X : Type 0} (f : Further X) where
  -- an instruction, or a word of it
  settled-so : (Q : Enabled → Type 0) (i : Insn) (n : Machine X) (records : List Record) (o : Outcome (After × Cpu) (Scene X)) → IsEnd (λ done. Q (left i done)) o
      → HasEnded (settled n i records o).machine ⊎ Q (enabled_in (settled n i records o).machine)
  settled-so Q i n records (Done done scene) h = inr h
  settled-so Q i n records (Refused kind scene) h = inl (_, refl)

  trapped-so : (n : Machine X) (o : Outcome ℕ (Scene X)) → HasEnded (trapped n o).machine ⊎ (may_leave (Some Trap) (enabled_in n) (enabled_in (trapped n o).machine) ≡ true)
  trapped-so n (Done pc scene) = inr (same-bits (record { interrupts = (enabled_in n).interrupts; server = (enabled_in n).server; held = true }) (record { interrupts = (enabled_in n).interrupts; server = (enabled_in n).server; held = true }) refl refl refl)
  trapped-so n (Refused kind scene) = inl (_, refl)

  -- it ends the run, or changes it so
  abbrev Changes : Activity → Machine X → Machine X → Type 0
  Changes doing m n = HasEnded n ⊎ (may_change doing (enabled_in m) (enabled_in n) ≡ true)

  finished-changes : (doing : Activity) (n : Machine X) → is_own doing ≡ true → Changes doing n (finished f doing n).machine
  unfolding finished
  finished-changes (Executes i) n own =
      settled-so (λ e. may_leave (plan_in i) (enabled_in n) e ≡ true) i n (own_records n.time n.cpu.pc i) (run (scene_meaning f) (effect_of i n.cpu) (scene_of n))
      (end-run (Leaves (plan_in i) i n.cpu n.held) (scene_meaning f) (effect_of i n.cpu) (scene_of n) (effect-leaves i n.cpu n.held))
  finished-changes (MovesWord i w) n own =
      settled-so (λ e. is_same (allowed n.cpu.psw_high false) e ≡ true) i n [] (run (scene_meaning f) (moved_word i w n.cpu) (scene_of n))
      (end-run (λ done. is_same (allowed n.cpu.psw_high false) (left i done) ≡ true) (scene_meaning f) (moved_word i w n.cpu) (scene_of n) (word-leaves i w n.cpu))
  finished-changes Traps n own = trapped-so n (run (scene_meaning f) (opcode_trap n.cpu.pc) (scene_of n))
  finished-changes (Breaks kind) n own = inl (_, refl)
  finished-changes (Enters number) n own = absurd (cc own)
  finished-changes (SetsUp number) n own = absurd (cc own)
  finished-changes (Transfers number cycle) n own = absurd (cc own)
  finished-changes IdlesNow n own = absurd (cc own)

  pub activity-changes : (m : Machine X) → m.ended ≡ None → 0 < (current m).left → is_own (current m).doing ≡ true → (after_activity f m).ended ≡ None → may_change (current m).doing (enabled_in m) (enabled_in (after_activity f m)) ≡ true
  activity-changes m lives some own after =
      let so : Changes (current m).doing m (after_activity f m) = subst (Changes (current m).doing m) (sym (after-finished f m lives some)) (finished-changes (current m).doing (last_state f m) own) in
      elim so [ inl ended ↦ absurd (let e : Some ended.0 ≡ None = sym ended.1 ∙ after in cc e) | inr changes ↦ changes ]

  -- ---- the words of a block move

  -- what goes on with its words is interrupted as it is
  abbrev MovesAs : Bool → Machine X → Type 0
  MovesAs interruptible n = n.ended ≡ None → (j : Insn) (w : Words) → n.going ≡ Some (Moving j w) → w.interruptible ≡ interruptible

  words-as : (interruptible : Bool) (i : Insn) (a : After) → ((w : Words) → a ≡ MoreWords w → w.interruptible ≡ interruptible) → (j : Insn) (w : Words) → (next_after i a).going ≡ Some (Moving j w) → w.interruptible ≡ interruptible
  words-as interruptible i Next h j w is = absurd (cc is)
  words-as interruptible i Held h j w is = absurd (cc is)
  words-as interruptible i Idles h j w is = absurd (cc is)
  words-as interruptible i Powerdown h j w is = absurd (cc is)
  words-as interruptible i Resets h j w is = absurd (cc is)
  words-as interruptible i (MoreWords v) h j w is = let same : v ≡ w = cc is in h w (ap (λ x. MoreWords x) same)

  settled-moves : (interruptible : Bool) (i : Insn) (n : Machine X) (records : List Record) (o : Outcome (After × Cpu) (Scene X)) → IsEnd (AreOf interruptible) o → MovesAs interruptible (settled n i records o).machine
  settled-moves interruptible i n records (Done done scene) h = λ lives j w is. words-as interruptible i done.0 h j w is
  settled-moves interruptible i n records (Refused kind scene) h = λ lives. absurd (cc lives)

  finished-moves : (interruptible : Bool) (mnemonic : Mnemonic) (i : Insn) (n : Machine X) → mnemonic_at i.opcode i.signed ≡ Some mnemonic → plan_of mnemonic ≡ BlockMove interruptible → MovesAs interruptible (finished f (Executes i) n).machine
  unfolding finished
  finished-moves interruptible mnemonic i n named is =
      settled-moves interruptible i n (own_records n.time n.cpu.pc i) (run (scene_meaning f) (effect_of i n.cpu) (scene_of n))
      (end-run (AreOf interruptible) (scene_meaning f) (effect_of i n.cpu) (scene_of n) (move-of interruptible mnemonic i n.cpu named is))

  pub moves-as : (interruptible : Bool) (mnemonic : Mnemonic) (i : Insn) (m : Machine X) → mnemonic_at i.opcode i.signed ≡ Some mnemonic → plan_of mnemonic ≡ BlockMove interruptible → m.ended ≡ None → 0 < (current m).left → (current m).doing ≡ Executes i
      → MovesAs interruptible (after_activity f m)
  moves-as interruptible mnemonic i m named is lives some doing =
      subst (MovesAs interruptible) (sym (after-finished f m lives some ∙ ap (λ d. (finished f d (last_state f m)).machine) doing)) (finished-moves interruptible mnemonic i (last_state f m) named is)

pub activities-change : {X : Type 0} → ActivitiesChange X
unfolding moment
activities-change f n k m stretch less some after = activity-changes f (moment f k m) (stretch.lives k less) some (stretch.own k less) after
