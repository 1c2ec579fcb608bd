-- What an activity of a routine's own leaves.
use Rattle.std.proofs.Common.{◌≡◌, ℕ, zero, suc, Bool, true, false, ◌+◌, ◌-◌, ◌*◌, ◌%◌, ◌<◌, ◌≤◌, ◌==◌, if◌then◌else◌, Option, Some, None, Result, Ok, Err, List, [], refl, sym, ◌∙◌, ap, subst, arith}
use Rattle.kc_base.specs.declared.types.Kind.{Kind}
use Rattle.kc_isa.specs.declared.insn.Insn.{Insn}
use Rattle.kc_exec_spec.specs.declared.cpu.Cpu.{Cpu}
use Rattle.kc_exec_spec.specs.declared.cpu.Words.{Words}
use Rattle.kc_exec_spec.specs.declared.cpu.After.{After}
use Rattle.kc_exec_spec.specs.Effect.{Effect, Outcome, Done, Refused, run}
use Rattle.kc_exec_spec.specs.Effects.{effect_of}
use Rattle.kc_exec_spec.specs.BlockMoves.{moved_word, word_states_of}
use Rattle.kc_exec_spec.specs.Entering.{opcode_trap}
use Rattle.kc_intc.specs.declared.requests.Choice.{Choice}
use Rattle.kc_intc.specs.declared.requests.Choice.TheVariants as choice
use Rattle.kc_span.specs.Span.{after}
use Rattle.kc_extra.specs.Further.{Further}
use Rattle.kc_trace.specs.declared.record.Record.{Record}
use Rattle.kc_block_spec.specs.Touch.{block_rule}
use Rattle.kc_machine_spec.specs.declared.doing.Activity.{Activity}
use Rattle.kc_machine_spec.specs.declared.doing.Activity.TheVariants.{Executes, MovesWord, Traps, Enters, SetsUp, Transfers, Idles, Breaks}
use Rattle.kc_machine_spec.specs.declared.doing.Going.{Going}
use Rattle.kc_machine_spec.specs.declared.doing.Going.TheVariants.{Moving}
use Rattle.kc_machine_spec.specs.declared.doing.UnderWay.{UnderWay}
use Rattle.kc_machine_spec.specs.Scene.{Scene, scene_meaning}
use Rattle.kc_machine_spec.specs.Machine.{Machine, scene_of, chosen, current, current_of, serves, fetches, goes_on, goes_first, asked, own_records, settled, trapped, finished}
use Rattle.kc_machine_spec.specs.Run.{run_for}
use Rattle.kc_machine_spec.specs.Passing.{at, whole}
use Rattle.kc_machine_spec.proofs.Runs.{run_for-whole}
use Rattle.kc_bound.specs.Passes.{is_own, after_activity}
use Rattle.kc_bound.proofs.Rom.{SameRom, same-rom, LeavesRom, run-rom}

-- ---- which activity comes

served-own : {X : Type 0} (m : Machine X) (c : Choice) → is_own (serves m c).doing ≡ true → serves m c ≡ goes_on m m.going
served-own m choice.Nmi own = absurd (cc own)
served-own m (choice.Enter n) own = absurd (cc own)
served-own m (choice.Transfer n) own = absurd (cc own)
served-own m choice.Go own = refl

chosen-by : {X : Type 0} (m : Machine X) (first held : Bool) → (if first then goes_on m m.going else if held then fetches m else serves m (asked m)) ≡ chosen m → is_own (chosen m).doing ≡ true → (held ≡ true → m.going ≡ None) → chosen m ≡ goes_on m m.going
chosen-by m true held e own free = sym e
chosen-by m false true e own free = sym e ∙ sym (ap (goes_on m) (free refl))
chosen-by m false false e own free = sym e ∙ served-own m (asked m) (subst (λ (a : UnderWay). is_own a.doing ≡ true) (sym e) own)

-- an own activity is what goes on
pub own-goes_on : {X : Type 0} (m : Machine X) → m.under_way ≡ None → (m.held ≡ true → m.going ≡ None) → is_own (current m).doing ≡ true → current m ≡ goes_on m m.going
unfolding chosen
own-goes_on m between free own =
    let now : current m ≡ chosen m = ap (current_of m) between in
    now ∙ chosen-by m (goes_first m.going) m.held refl (subst (λ (a : UnderWay). is_own a.doing ≡ true) now own) free

-- ---- what it leaves

-- one state on, between two activities, with the same ROM
pub record IsLeft {X : Type 0} (m n : Machine X) : Type 0 where
  pub time : n.time ≡ m.time + 1
  pub between : n.under_way ≡ None
  pub rom : SameRom m.board.memory n.board.memory

module _ {X : Type 0} (f : Further X) where
  settled-left : (m : Machine X) (insn : Insn) (records : List Record) (o : Outcome (After × Cpu) (Scene X)) → LeavesRom f m.board.memory o → IsLeft m (settled m insn records o).machine
  settled-left m insn records (Done done scene) same = record { time = refl; between = refl; rom = same }
  settled-left m insn records (Refused kind scene) same = record { time = refl; between = refl; rom = same }

  trapped-left : (m : Machine X) (o : Outcome ℕ (Scene X)) → LeavesRom f m.board.memory o → IsLeft m (trapped m o).machine
  trapped-left m (Done pc scene) same = record { time = refl; between = refl; rom = same }
  trapped-left m (Refused kind scene) same = record { time = refl; between = refl; rom = same }

  finished-left : (doing : Activity) (m : Machine X) → is_own doing ≡ true → IsLeft m (finished f doing m).machine
  unfolding finished
  finished-left (Executes insn) m own = settled-left m insn (own_records m.time m.cpu.pc insn) _ (run-rom f (effect_of insn m.cpu) (scene_of m))
  finished-left (MovesWord insn words) m own = settled-left m insn [] _ (run-rom f (moved_word insn words m.cpu) (scene_of m))
  finished-left Traps m own = trapped-left m _ (run-rom f (opcode_trap m.cpu.pc) (scene_of m))
  finished-left (Breaks kind) m own = record { time = refl; between = refl; rom = same-rom m.board.memory }
  finished-left (Enters number) m own = absurd (cc own)
  finished-left (SetsUp number) m own = absurd (cc own)
  finished-left (Transfers number cycle) m own = absurd (cc own)
  finished-left Idles m own = absurd (cc own)

  -- the machine in the last state of its activity
  abbrev pub last_state : Machine X → Machine X
  last_state m = at m (m.time + ((current m).left - 1)) (after (block_rule f) m.time (current m).left m.board.units) m.under_way

  -- an activity is what it does in its last state
  pub after-finished : (m : Machine X) → m.ended ≡ None → 0 < (current m).left → after_activity f m ≡ (finished f (current m).doing (last_state m)).machine
  after-finished m lives some = ap (λ s. s.machine) (run_for-whole f m (current m) lives refl some)

  -- after an own activity all its states have gone by, and the ROM is as it was
  pub record HasPassed (m n : Machine X) : Type 0 where
    pub time : n.time ≡ m.time + (current m).left
    pub between : n.under_way ≡ None
    pub rom : SameRom m.board.memory n.board.memory

  pub own-passes : (m : Machine X) → m.ended ≡ None → 0 < (current m).left → is_own (current m).doing ≡ true → HasPassed m (after_activity f m)
  own-passes m lives some own =
      let left : IsLeft (last_state m) (finished f (current m).doing (last_state m)).machine = finished-left (current m).doing (last_state m) own in
      subst (HasPassed m) (sym (after-finished m lives some)) (record {
        time = left.time ∙ (let e : (m.time + ((current m).left - 1)) + 1 ≡ m.time + (current m).left = omega arith in e);
        between = left.between;
        rom = left.rom;
      })
