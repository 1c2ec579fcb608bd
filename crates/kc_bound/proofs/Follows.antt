-- What follows an activity of the routine's own, where it is not refused.
use Rattle.std.proofs.Common.{◌≡◌, ℕ, Bool, true, false, ◌+◌, ◌-◌, ◌*◌, ◌%◌, ◌<◌, ◌≤◌, ◌==◌, ◌⊎◌, inl, inr, if◌then◌else◌, Option, Some, None, List, [], slice_index, refl, sym, ◌∙◌, ap, subst, arith}
use Rattle.std.proofs.lemmas.Grind.{common_steps}
use Rattle.kc_base.specs.declared.types.Kind.{Kind}
use Rattle.kc_base.specs.Limits.{image_start}
use Rattle.kc_isa.specs.declared.insn.Insn.{Insn}
use Rattle.kc_isa.specs.declared.table.Mnemonic.{Mnemonic}
use Rattle.kc_isa.specs.Names.{mnemonic_at}
use Rattle.kc_exec_spec.specs.declared.cpu.Cpu.{Cpu}
use Rattle.kc_exec_spec.specs.declared.cpu.Words.{Words}
use Rattle.kc_exec_spec.specs.declared.cpu.After.{After}
use Rattle.kc_exec_spec.specs.declared.cpu.After.TheVariants.{Held, Next, MoreWords}
use Rattle.kc_exec_spec.specs.declared.plan.Plan.{Plan}
use Rattle.kc_exec_spec.specs.declared.plan.Plan.TheVariants.{Compute, Move, Jump, Save, Set, BlockMove, Trap, Idle, Reset}
use Rattle.kc_exec_spec.specs.Plans.{plan_of}
use Rattle.kc_exec_spec.specs.Parts.{push, read_at}
use Rattle.kc_exec_spec.specs.Jumping.{next_pc}
use Rattle.kc_exec_spec.specs.Entering.{trap, opcode_trap}
use Rattle.kc_exec_spec.specs.BlockMoves.{less_one, after_words, cpu_after_words, move_one, moved_word}
use Rattle.kc_exec_spec.specs.Effect.{Effect, End, Look, Meaning, Outcome, Done, Refused, run}
use Rattle.kc_exec_spec.specs.Effects.{effect_of, planned}
use Rattle.kc_extra.specs.Further.{Further}
use Rattle.kc_trace.specs.declared.record.Record.{Record}
use Rattle.kc_machine_spec.specs.declared.doing.Activity.{Activity}
use Rattle.kc_machine_spec.specs.declared.doing.Activity.TheVariants.{Executes, MovesWord, Traps, Breaks}
use Rattle.kc_machine_spec.specs.declared.doing.End.{End as Ending}
use Rattle.kc_machine_spec.specs.Scene.{Scene, scene_meaning}
use Rattle.kc_machine_spec.specs.Machine.{Machine, scene_of, current, next_after, own_records, settled, trapped, finished}
use Rattle.kc_bound.specs.Passes.{after_activity}
use Rattle.kc_bound.specs.Ways.{image_word}
use Rattle.kc_bound.proofs.Rom.{SameRom, LeavesRom, run-rom}
use Rattle.kc_bound.proofs.StandsAt.{RomIs}
use Rattle.kc_bound.proofs.GoingOn.{GoesOn, goes-on, IsDoneBy, done-bind, same-done, same-number}
use Rattle.kc_bound.proofs.Activities.{last_state, after-finished}

-- the run has ended
abbrev pub HasEnded : {X : Type 0} → Machine X → Type 0
HasEnded n = (how : Ending) × (n.ended ≡ Some how)

-- a machine after work that was not refused: what follows it, and where, is so
pub record IsFollowed {X : Type 0} (P : After → ℕ → Type 0) (i : Insn) (n : Machine X) : Type 0 where
  pub behind : After
  pub goes : P behind n.cpu.pc
  pub held : n.held ≡ (next_after i behind).held
  pub going : n.going ≡ (next_after i behind).going
  pub ended : n.ended ≡ (next_after i behind).ended

-- ---- where an instruction goes on, over an image

abbrev pub LeadsTo : List ℕ → Plan → ℕ → Type 0
LeadsTo image Trap pc = pc ≡ image_word image 0x2010
LeadsTo image _ pc = Unit {0}

-- where a word of a block move goes on
abbrev pub MovesOn : Insn → Words → ℕ → After → ℕ → Type 0
MovesOn i w pc after to = ((after ≡ Next) × (to ≡ next_pc i pc)) ⊎ ((after ≡ MoreWords (less_one w)) × (to ≡ pc) × (0 < w.left - 1))

words-left : (i : Insn) (w : Words) (cpu : Cpu) (none : Bool) → ((less_one w).left == 0) ≡ none → (a : After) (c : Cpu) → after_words (less_one w) ≡ a → (cpu_after_words i (less_one w) cpu).pc ≡ c.pc → MovesOn i w cpu.pc a c.pc
words-left i w cpu true e a c is_after is_pc =
    let next : after_words (less_one w) ≡ Next = rw e refl in
    let pc : (cpu_after_words i (less_one w) cpu).pc ≡ next_pc i cpu.pc = rw e refl in
    inl (sym is_after ∙ next, sym is_pc ∙ pc)
words-left i w cpu false e a c is_after is_pc =
    let next : after_words (less_one w) ≡ MoreWords (less_one w) = rw e refl in
    let pc : (cpu_after_words i (less_one w) cpu).pc ≡ cpu.pc = rw e refl in
    inr (sym is_after ∙ next, sym is_pc ∙ pc, some (w.left - 1) e)
  where
    some : (n : ℕ) → (n == 0) ≡ false → 0 < n
    some n h = grind (arith, common_steps)

moves-on : {H : Type 0} (bus : Meaning H) (i : Insn) (w : Words) (cpu : Cpu) (h : H) (a : After) (c : Cpu) (u : H) → run {A = After × Cpu} bus (moved_word i w cpu) h ≡ Done (a, c) u → MovesOn i w cpu.pc a c.pc
unfolding moved_word
moves-on bus i w cpu h a c u d =
    let by = done-bind bus (move_one (bus.masks h).wsr i w) (λ x. End (after_words (less_one w), cpu_after_words i (less_one w) cpu)) h (a, c) u d in
    let s = same-done (after_words (less_one w)) a (cpu_after_words i (less_one w) cpu) c by.between u by.two in
    words-left i w cpu ((less_one w).left == 0) refl a c s.0 s.1

two-bytes : (a b c d : ℕ) → a ≡ c → b ≡ d → a + 256 * b ≡ c + 256 * d
two-bytes a b c d x y = ap (λ n. n + 256 * b) x ∙ ap (λ n. c + 256 * n) y

module _ {X : Type 0} (f : Further X) where
  -- ---- the words of ROM through which a trap goes on

  same-word : (image : List ℕ) (s t : Scene X) → RomIs image s.board.memory → SameRom s.board.memory t.board.memory
      → slice_index t.board.memory 0x2010 + 256 * slice_index t.board.memory 0x2011 ≡ image_word image 0x2010
  same-word image s t holds same = two-bytes _ _ _ _ (same.rom 0x2010 refl ∙ holds 0x2010 refl) (same.rom 0x2011 refl ∙ holds 0x2011 refl)

  same-opcode-word : (image : List ℕ) (s t : Scene X) → RomIs image s.board.memory → SameRom s.board.memory t.board.memory
      → slice_index t.board.memory 0x2012 + 256 * slice_index t.board.memory 0x2013 ≡ image_word image 0x2012
  same-opcode-word image s t holds same = two-bytes _ _ _ _ (same.rom 0x2012 refl ∙ holds 0x2012 refl) (same.rom 0x2013 refl ∙ holds 0x2013 refl)

  word-read : (s t : Scene X) (pc : ℕ) → run (scene_meaning f) (read_at false 0x2010) s ≡ Done pc t → slice_index s.board.memory 0x2010 + 256 * slice_index s.board.memory 0x2011 ≡ pc
  unfolding read_at
  word-read s t pc d = same-number (slice_index s.board.memory 0x2010 + 256 * slice_index s.board.memory 0x2011) pc s t d

  opcode-word-read : (s t : Scene X) (pc : ℕ) → run (scene_meaning f) (read_at false 0x2012) s ≡ Done pc t → slice_index s.board.memory 0x2012 + 256 * slice_index s.board.memory 0x2013 ≡ pc
  unfolding read_at
  opcode-word-read s t pc d = same-number (slice_index s.board.memory 0x2012 + 256 * slice_index s.board.memory 0x2013) pc s t d

  pushed-rom : (s t : Scene X) (n : ℕ) (u : Unit {0}) → run (scene_meaning f) (push n) s ≡ Done u t → SameRom s.board.memory t.board.memory
  pushed-rom s t n u d = subst (λ o. LeavesRom f s.board.memory o) d (run-rom f (push n) s)

  trap-leads : (image : List ℕ) (back : ℕ) (s t : Scene X) (pc : ℕ) → RomIs image s.board.memory → run (scene_meaning f) (trap 0x2010 back) s ≡ Done pc t → pc ≡ image_word image 0x2010
  unfolding trap
  trap-leads image back s t pc holds d =
      let by : IsDoneBy (scene_meaning f) (push back) (λ x. read_at false 0x2010) s pc t = done-bind (scene_meaning f) (push back) (λ x. read_at false 0x2010) s pc t d in
      sym (word-read by.between t pc by.two) ∙ same-word image s by.between holds (pushed-rom s by.between back by.first by.one)

  opcode-trap-leads : (image : List ℕ) (back : ℕ) (s t : Scene X) (pc : ℕ) → RomIs image s.board.memory → run (scene_meaning f) (trap 0x2012 back) s ≡ Done pc t → pc ≡ image_word image 0x2012
  unfolding trap
  opcode-trap-leads image back s t pc holds d =
      let by : IsDoneBy (scene_meaning f) (push back) (λ x. read_at false 0x2012) s pc t = done-bind (scene_meaning f) (push back) (λ x. read_at false 0x2012) s pc t d in
      sym (opcode-word-read by.between t pc by.two) ∙ same-opcode-word image s by.between holds (pushed-rom s by.between back by.first by.one)

  leads-to : (image : List ℕ) (plan : Plan) (i : Insn) (wsr : ℕ) (cpu : Cpu) (s t : Scene X) (a : After) (c : Cpu) → RomIs image s.board.memory
      → run {A = After × Cpu} (scene_meaning f) (planned plan i wsr cpu) s ≡ Done (a, c) t → LeadsTo image plan c.pc
  unfolding planned
  leads-to image Trap i wsr cpu s t a c holds d =
      let by = done-bind (scene_meaning f) (trap 0x2010 (next_pc i cpu.pc)) (λ pc. End (Held, record { pc = pc; psw_high = cpu.psw_high })) s (a, c) t d in
      let same = same-done Held a (record { pc = by.first; psw_high = cpu.psw_high }) c by.between t by.two in
      sym same.1 ∙ trap-leads image (next_pc i cpu.pc) s by.between by.first holds by.one
  leads-to image (Compute how) i wsr cpu s t a c holds d = tt
  leads-to image (Move how) i wsr cpu s t a c holds d = tt
  leads-to image (Save how) i wsr cpu s t a c holds d = tt
  leads-to image (Set bit) i wsr cpu s t a c holds d = tt
  leads-to image (Jump route) i wsr cpu s t a c holds d = tt
  leads-to image (BlockMove interruptible) i wsr cpu s t a c holds d = tt
  leads-to image Idle i wsr cpu s t a c holds d = tt
  leads-to image Reset i wsr cpu s t a c holds d = tt

  -- ---- after each activity

  -- it has ended by an undefined use, or goes on so
  abbrev pub EndsOr : (After → ℕ → Type 0) → Insn → Machine X → Type 0
  EndsOr P i n = HasEnded n ⊎ IsFollowed P i n

  follows-by : (P : After → ℕ → Type 0) (i : Insn) (n : Machine X) (records : List Record) (o : Outcome (After × Cpu) (Scene X))
      → ((done : After × Cpu) (scene : Scene X) → o ≡ Done done scene → P done.0 done.1.pc) → EndsOr P i (settled n i records o).machine
  follows-by P i n records (Done done scene) h = inr (record { behind = done.0; goes = h done scene refl; held = refl; going = refl; ended = refl })
  follows-by P i n records (Refused kind scene) h = inl (_, refl)

  effect-named : (i : Insn) (cpu : Cpu) (mnemonic : Mnemonic) → mnemonic_at i.opcode i.signed ≡ Some mnemonic → effect_of i cpu ≡ Look (λ m. planned (plan_of mnemonic) i m.wsr cpu)
  unfolding effect_of
  effect-named i cpu mnemonic e = rw (e, effect_of) refl

  -- where an instruction goes on
  abbrev pub Leads : List ℕ → Plan → Insn → Cpu → After → ℕ → Type 0
  Leads image plan i cpu after pc = GoesOn plan i cpu after pc × LeadsTo image plan pc

  effect-leads : (image : List ℕ) (i : Insn) (cpu : Cpu) (mnemonic : Mnemonic) (s : Scene X) (done : After × Cpu) (scene : Scene X) → mnemonic_at i.opcode i.signed ≡ Some mnemonic → RomIs image s.board.memory
      → run (scene_meaning f) (effect_of i cpu) s ≡ Done done scene → Leads image (plan_of mnemonic) i cpu done.0 done.1.pc
  effect-leads image i cpu mnemonic s done scene e holds d =
      let wsr : ℕ = ((scene_meaning f).masks s).wsr in
      let ran : run (scene_meaning f) (planned (plan_of mnemonic) i wsr cpu) s ≡ Done (done.0, done.1) scene = sym (ap (λ t. run (scene_meaning f) t s) (effect-named i cpu mnemonic e)) ∙ d in
      (goes-on (scene_meaning f) (plan_of mnemonic) i wsr cpu s done.0 done.1 scene ran, leads-to image (plan_of mnemonic) i wsr cpu s scene done.0 done.1 holds ran)

  finished-leads : (image : List ℕ) (i : Insn) (n : Machine X) (mnemonic : Mnemonic) → mnemonic_at i.opcode i.signed ≡ Some mnemonic → RomIs image n.board.memory
      → EndsOr (Leads image (plan_of mnemonic) i n.cpu) i (finished f (Executes i) n).machine
  unfolding finished
  finished-leads image i n mnemonic e holds =
      follows-by (Leads image (plan_of mnemonic) i n.cpu) i n (own_records n.time n.cpu.pc i) (run (scene_meaning f) (effect_of i n.cpu) (scene_of n))
      (λ done scene d. effect-leads image i n.cpu mnemonic (scene_of n) done scene e holds d)

  finished-moves : (i : Insn) (w : Words) (n : Machine X) → EndsOr (MovesOn i w n.cpu.pc) i (finished f (MovesWord i w) n).machine
  unfolding finished
  finished-moves i w n =
      follows-by (MovesOn i w n.cpu.pc) i n [] (run (scene_meaning f) (moved_word i w n.cpu) (scene_of n))
      (λ done scene d. moves-on (scene_meaning f) i w n.cpu (scene_of n) done.0 done.1 scene d)

  -- a machine behind the trap of an opcode without an instruction
  pub record IsTrapped (image : List ℕ) (n : Machine X) : Type 0 where
    pub pc : n.cpu.pc ≡ image_word image 0x2012
    pub going : n.going ≡ None
    pub ended : n.ended ≡ None

  trapped-by : (image : List ℕ) (n : Machine X) (o : Outcome ℕ (Scene X)) → ((pc : ℕ) (scene : Scene X) → o ≡ Done pc scene → pc ≡ image_word image 0x2012) → HasEnded (trapped n o).machine ⊎ IsTrapped image (trapped n o).machine
  trapped-by image n (Done pc scene) h = inr (record { pc = h pc scene refl; going = refl; ended = refl })
  trapped-by image n (Refused kind scene) h = inl (_, refl)

  finished-traps : (image : List ℕ) (n : Machine X) → RomIs image n.board.memory → HasEnded (finished f Traps n).machine ⊎ IsTrapped image (finished f Traps n).machine
  unfolding finished
  finished-traps image n holds =
      trapped-by image n (run (scene_meaning f) (opcode_trap n.cpu.pc) (scene_of n))
      (λ pc scene d. opcode-trap-leads image ((n.cpu.pc + 1) % 0x10000) (scene_of n) scene pc holds d)

  finished-breaks : (kind : Kind) (n : Machine X) → HasEnded (finished f (Breaks kind) n).machine
  unfolding finished
  finished-breaks kind n = (_, refl)

  -- the same of the machine that begins it
  after-is : (m : Machine X) (doing : Activity) → m.ended ≡ None → 0 < (current m).left → (current m).doing ≡ doing → after_activity f m ≡ (finished f doing (last_state f m)).machine
  after-is m doing lives some is = after-finished f m lives some ∙ ap (λ d. (finished f d (last_state f m)).machine) is

  pub executes-leads : (image : List ℕ) (i : Insn) (m : Machine X) (mnemonic : Mnemonic) → mnemonic_at i.opcode i.signed ≡ Some mnemonic → RomIs image m.board.memory
      → m.ended ≡ None → 0 < (current m).left → (current m).doing ≡ Executes i → EndsOr (Leads image (plan_of mnemonic) i m.cpu) i (after_activity f m)
  executes-leads image i m mnemonic e holds lives some is =
      subst (EndsOr (Leads image (plan_of mnemonic) i m.cpu) i) (sym (after-is m (Executes i) lives some is)) (finished-leads image i (last_state f m) mnemonic e holds)

  pub word-moves : (i : Insn) (w : Words) (m : Machine X) → m.ended ≡ None → 0 < (current m).left → (current m).doing ≡ MovesWord i w → EndsOr (MovesOn i w m.cpu.pc) i (after_activity f m)
  word-moves i w m lives some is =
      subst (EndsOr (MovesOn i w m.cpu.pc) i) (sym (after-is m (MovesWord i w) lives some is)) (finished-moves i w (last_state f m))

  pub traps-lead : (image : List ℕ) (m : Machine X) → RomIs image m.board.memory → m.ended ≡ None → 0 < (current m).left → (current m).doing ≡ Traps → HasEnded (after_activity f m) ⊎ IsTrapped image (after_activity f m)
  traps-lead image m holds lives some is =
      subst (λ (n : Machine X). HasEnded n ⊎ IsTrapped image n) (sym (after-is m Traps lives some is)) (finished-traps image (last_state f m) holds)

  pub breaks-end : (kind : Kind) (m : Machine X) → m.ended ≡ None → 0 < (current m).left → (current m).doing ≡ Breaks kind → HasEnded (after_activity f m)
  breaks-end kind m lives some is = subst (λ (n : Machine X). HasEnded n) (sym (after-is m (Breaks kind) lives some is)) (finished-breaks kind (last_state f m))
