-- Activities in their last state, by what their accesses lead to over the bus.
use Rattle.std.proofs.Common.{◌≡◌, ℕ, Option, ◌+◌, ◌%◌, [], ◌∷◌, refl, sym, ◌∙◌, ap}
use Rattle.kc_base.specs.declared.types.Kind.{Kind}
use Rattle.kc_isa.specs.declared.insn.Insn.{Insn}
use Rattle.kc_exec_spec.specs.declared.cpu.Cpu.{Cpu}
use Rattle.kc_exec_spec.specs.declared.cpu.Words.{Words}
use Rattle.kc_exec_spec.specs.declared.cpu.After.{After}
use Rattle.kc_exec_spec.specs.Effect.{Done, Refused, run}
use Rattle.kc_exec_spec.specs.Effects.{effect_of}
use Rattle.kc_exec_spec.specs.BlockMoves.{moved_word}
use Rattle.kc_exec_spec.proofs.Counting.{effect-most, word-most, entry-most, any_trap-most}
use Rattle.kc_exec_spec.specs.Entering.{entry, opcode_trap, vector_at}
use Rattle.kc_trace.specs.declared.record.Record.TheVariants.{Entered}
use Rattle.kc_machine_spec.specs.declared.doing.Activity.TheVariants.{Executes, MovesWord, Traps, Enters, SetsUp, Transfers, Idles, Breaks}
use Rattle.kc_pts.specs.declared.cycle.Cycle.{Cycle}
use Rattle.kc_pts.specs.Cycles.{vector_of, set_up, served}
use Rattle.kc_pts.proofs.Counts.{transfer_accesses}
use Rattle.kc_extra.specs.Further.{Further}
use Rattle.kc_machine_spec.specs.Scene.{Scene}
use Rattle.kc_machine_spec.specs.Machine.{Machine, finished, settled, entered, trapped, closed, broken, scene_of, taken, prepared, cycled, transferred, claimed, serving, next_after, own_records, holding, idling}
use Rattle.kc_machine.specs.Bus.{bus_meaning}
use Rattle.kc_machine.proofs.Fitting.{fits, setup-most}

module _ {X : Type 0} (f : Further X) where
  pub executed : (i : Insn) (m : Machine X) (s : Scene X) (after : After) (cpu : Cpu) → run (bus_meaning f) (effect_of i m.cpu) (scene_of m) ≡ Done (after, cpu) s → closed m s cpu (next_after i after) (own_records m.time m.cpu.pc i) ≡ finished f (Executes i) m
  unfolding finished
  executed i m s after cpu h = sym (ap (settled m i (own_records m.time m.cpu.pc i)) (sym (fits f (effect_of i m.cpu) m.time m.board (effect-most i m.cpu)) ∙ h))

  pub execute-refused : (i : Insn) (m : Machine X) (s : Scene X) (kind : Kind) → run (bus_meaning f) (effect_of i m.cpu) (scene_of m) ≡ Refused kind s → broken m s m.cpu.pc kind ≡ finished f (Executes i) m
  unfolding finished
  execute-refused i m s kind h = sym (ap (settled m i (own_records m.time m.cpu.pc i)) (sym (fits f (effect_of i m.cpu) m.time m.board (effect-most i m.cpu)) ∙ h))

  pub moved : (i : Insn) (w : Words) (m : Machine X) (s : Scene X) (after : After) (cpu : Cpu) → run (bus_meaning f) (moved_word i w m.cpu) (scene_of m) ≡ Done (after, cpu) s → closed m s cpu (next_after i after) [] ≡ finished f (MovesWord i w) m
  unfolding finished
  moved i w m s after cpu h = sym (ap (settled m i []) (sym (fits f (moved_word i w m.cpu) m.time m.board (word-most i w m.cpu)) ∙ h))

  pub move-refused : (i : Insn) (w : Words) (m : Machine X) (s : Scene X) (kind : Kind) → run (bus_meaning f) (moved_word i w m.cpu) (scene_of m) ≡ Refused kind s → broken m s m.cpu.pc kind ≡ finished f (MovesWord i w) m
  unfolding finished
  move-refused i w m s kind h = sym (ap (settled m i []) (sym (fits f (moved_word i w m.cpu) m.time m.board (word-most i w m.cpu)) ∙ h))

  pub trap-made : (m : Machine X) (s : Scene X) (cpu : Cpu) → run (bus_meaning f) (opcode_trap m.cpu.pc) (scene_of m) ≡ Done cpu.pc s → cpu.psw_high ≡ m.cpu.psw_high → closed m s cpu holding (Entered m.time 17 ((m.cpu.pc + 1) % 0x10000) ∷ []) ≡ finished f Traps m
  unfolding finished
  trap-made m s cpu h same =
      ap (λ high. closed m s (record { pc = cpu.pc; psw_high = high }) holding (Entered m.time 17 ((m.cpu.pc + 1) % 0x10000) ∷ [])) same
      ∙ sym (ap (trapped m) (sym (fits f (opcode_trap m.cpu.pc) m.time m.board (any_trap-most 0x2012 ((m.cpu.pc + 1) % 0x10000))) ∙ h))

  pub trap-refused : (m : Machine X) (s : Scene X) (kind : Kind) → run (bus_meaning f) (opcode_trap m.cpu.pc) (scene_of m) ≡ Refused kind s → broken m s m.cpu.pc kind ≡ finished f Traps m
  unfolding finished
  trap-refused m s kind h = sym (ap (trapped m) (sym (fits f (opcode_trap m.cpu.pc) m.time m.board (any_trap-most 0x2012 ((m.cpu.pc + 1) % 0x10000))) ∙ h))

  pub entry-made : (n : ℕ) (m : Machine X) (s : Scene X) (cpu : Cpu) → run (bus_meaning f) (entry (vector_at n) m.cpu.pc) (scene_of m) ≡ Done cpu.pc s → cpu.psw_high ≡ m.cpu.psw_high → closed m (taken n s) cpu holding (Entered m.time n m.cpu.pc ∷ []) ≡ finished f (Enters n) m
  unfolding finished
  entry-made n m s cpu h same =
      ap (λ high. closed m (taken n s) (record { pc = cpu.pc; psw_high = high }) holding (Entered m.time n m.cpu.pc ∷ [])) same
      ∙ sym (ap (entered m n) (sym (fits f (entry (vector_at n) m.cpu.pc) m.time m.board (entry-most (vector_at n) m.cpu.pc)) ∙ h))

  pub entry-refused : (n : ℕ) (m : Machine X) (s : Scene X) (kind : Kind) → run (bus_meaning f) (entry (vector_at n) m.cpu.pc) (scene_of m) ≡ Refused kind s → broken m s m.cpu.pc kind ≡ finished f (Enters n) m
  unfolding finished
  entry-refused n m s kind h = sym (ap (entered m n) (sym (fits f (entry (vector_at n) m.cpu.pc) m.time m.board (entry-most (vector_at n) m.cpu.pc)) ∙ h))

  pub setup-made : (n : ℕ) (m : Machine X) (s : Scene X) (cycle : Cycle) → run (bus_meaning f) (set_up n) (scene_of m) ≡ Done cycle s → closed m (claimed n s) m.cpu (serving n cycle) [] ≡ finished f (SetsUp n) m
  unfolding finished
  setup-made n m s cycle h = sym (ap (prepared m n) (sym (fits f (set_up n) m.time m.board (setup-most n)) ∙ h))

  pub setup-refused : (n : ℕ) (m : Machine X) (s : Scene X) (kind : Kind) → run (bus_meaning f) (set_up n) (scene_of m) ≡ Refused kind s → broken m s (vector_of n) kind ≡ finished f (SetsUp n) m
  unfolding finished
  setup-refused n m s kind h = sym (ap (prepared m n) (sym (fits f (set_up n) m.time m.board (setup-most n)) ∙ h))

  pub transfer-made : (n : ℕ) (old : Cycle) (m : Machine X) (s : Scene X) (cycle : Cycle) (count : Option ℕ) → run (bus_meaning f) (served old) (scene_of m) ≡ Done (cycle, count) s → cycled m n cycle count s ≡ finished f (Transfers n old) m
  unfolding finished
  transfer-made n old m s cycle count h = sym (ap (transferred m n) (sym (fits f (served old) m.time m.board (transfer_accesses old)) ∙ h))

  pub transfer-refused : (n : ℕ) (old : Cycle) (m : Machine X) (s : Scene X) (kind : Kind) → run (bus_meaning f) (served old) (scene_of m) ≡ Refused kind s → broken m s (vector_of n) kind ≡ finished f (Transfers n old) m
  unfolding finished
  transfer-refused n old m s kind h = sym (ap (transferred m n) (sym (fits f (served old) m.time m.board (transfer_accesses old)) ∙ h))

  pub stayed : (m : Machine X) → closed m (scene_of m) m.cpu idling [] ≡ finished f Idles m
  unfolding finished
  stayed m = refl

  pub break-made : (kind : Kind) (m : Machine X) → broken m (scene_of m) m.cpu.pc kind ≡ finished f (Breaks kind) m
  unfolding finished
  break-made kind m = refl
