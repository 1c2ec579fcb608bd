-- What each Tick and each access of a state keeps of the further unit's data is kept by all that a machine does in that state.
use Rattle.std.proofs.Common.{◌≡◌, List, [], ℕ, ◌+◌, ◌%◌, ◌/◌, ◌==◌, Option, Some, None, Result, Ok, Err, refl, sym, ap, subst}
use Rattle.std.specs.Prelude.{if◌then◌else◌, nat_lt}
use Rattle.kc_base.specs.declared.types.Kind.{Kind}
use Rattle.kc_base.specs.declared.types.Kind.TheVariants.{OddWord, NoRegister, ByteAccess, BadWindow, FastTimer2}
use Rattle.kc_isa.specs.declared.insn.Insn.{Insn}
use Rattle.kc_exec_spec.specs.declared.cpu.Cpu.{Cpu}
use Rattle.kc_exec_spec.specs.declared.cpu.After.{After}
use Rattle.kc_exec_spec.specs.declared.access.Access.{Access}
use Rattle.kc_exec_spec.specs.declared.access.Access.TheVariants.{ReadByte, ReadWord, WriteByte, WriteWord, SetMasks}
use Rattle.kc_exec_spec.specs.Effect.{Effect, End, Undefined, Look, Ask, Outcome, Done, Refused, answered, run}
use Rattle.kc_exec_spec.specs.Effects.{effect_of}
use Rattle.kc_exec_spec.specs.Entering.{entry, vector_at, opcode_trap}
use Rattle.kc_exec_spec.specs.BlockMoves.{moved_word}
use Rattle.kc_exec_spec.specs.Window.{is_wsr}
use Rattle.kc_pts.specs.declared.cycle.Cycle.{Cycle}
use Rattle.kc_pts.specs.Cycles.{set_up, served}
use Rattle.kc_base.specs.Bits.{bit}
use Rattle.kc_hso.specs.Cam.{load_refusal}
use Rattle.kc_trace.specs.declared.record.Record.{Record}
use Rattle.kc_extra.specs.Further.{Further}
use Rattle.kc_extra.specs.Two.{either_holds}
use Rattle.kc_block_spec.specs.declared.registers.Window.{Window}
use Rattle.kc_block_spec.specs.declared.registers.ReadableByte.{ReadableByte}
use Rattle.kc_block_spec.specs.declared.registers.ReadableByte.TheVariants as reads
use Rattle.kc_block_spec.specs.declared.registers.WritableByte.{WritableByte}
use Rattle.kc_block_spec.specs.declared.registers.WritableByte.TheVariants as writes
use Rattle.kc_block_spec.specs.declared.registers.ReadableWord.{ReadableWord}
use Rattle.kc_block_spec.specs.declared.registers.ReadableWord.TheVariants as reads_word
use Rattle.kc_block_spec.specs.declared.registers.WritableWord.{WritableWord}
use Rattle.kc_block_spec.specs.declared.registers.WritableWord.TheVariants as writes_word
use Rattle.kc_block_spec.specs.Units.{Units}
use Rattle.kc_block_spec.specs.Registers.{window_number, bytes_read, bytes_written, words_read, words_written, bytes_read_everywhere, bytes_written_everywhere, row_at, is_half}
use Rattle.kc_block_spec.specs.Writing.{with_byte, with_word, loaded_unless, board_registers_with, emptied_by}
use Rattle.kc_block_spec.specs.Accesses.{after_byte_read_as, after_byte_read, byte_written_as, byte_written, after_word_read_as, after_even_word_read, after_word_read, word_written_as, even_word_written, word_written, ◌>>=◌}
use Rattle.kc_block_spec.specs.Fired.{starts}
use Rattle.kc_block_spec.specs.Levels.{levels_at}
use Rattle.kc_block_spec.specs.Tick.{edges_at, fired_at, tick}
use Rattle.kc_machine_spec.specs.declared.doing.Activity.{Activity}
use Rattle.kc_machine_spec.specs.declared.doing.Activity.TheVariants.{Executes, MovesWord, Traps, Enters, SetsUp, Transfers, Idles, Breaks}
use Rattle.kc_machine_spec.specs.declared.doing.UnderWay.{UnderWay}
use Rattle.kc_machine_spec.specs.Board.{with_masks}
use Rattle.kc_machine_spec.specs.Scene.{Scene, all_kept, with_units as scene_with, refusing, put, byte_weight, word_weight, window_at, kept, scene_answer, after_by, scene_meaning}
use Rattle.kc_machine_spec.specs.Machine.{Machine, Stepped, scene_of, settled, entered, trapped, prepared, cycled, transferred, with_asked, own_records, finished, waiting, with_units, stepped, step, current}
use Rattle.kc_intc.specs.Changes.{ended_of}

module _ {X : Type 0} (f : Further X) (t : ℕ) (P : X → Type 0) where
  -- the further unit keeps it in a state
  pub record Keeps : Type 0 where
    pub of_tick : (levels edges : ℕ) (x : X) → P x → P (f.step t levels edges x)
    pub of_start : (x : X) → P x → P (f.started t x)
    pub of_read : (window sfr : ℕ) (x : X) → P x → P (f.after_read window sfr t x)
    pub of_write : (window sfr value : ℕ) (x : X) → P x → P (f.after_write window sfr value t x)

  -- where it is so of units, of a write that is not refused, of a scene of the state, and of a machine after the state
  abbrev Holds : Units X → Type 0
  Holds u = P u.further

  abbrev HoldsIf : Result (Units X) Kind → Type 0
  HoldsIf (Ok u) = P u.further
  HoldsIf (Err kind) = Unit {0}

  abbrev InScene : Scene X → Type 0
  InScene s = (s.time ≡ t) × P s.board.units.further

  abbrev InOutcome : {A : Type 0} → Outcome A (Scene X) → Type 0
  InOutcome (Done a s) = InScene s
  InOutcome (Refused kind s) = InScene s

  abbrev pub InNext : Stepped X → Type 0
  InNext s = (s.machine.time ≡ t + 1) × P s.machine.board.units.further

module _ {X : Type 0} (f : Further X) (t : ℕ) (P : X → Type 0) (k : Keeps f t P) where
  tick_keeps : (u : Units X) → P u.further → P (tick f t u).units.further
  unfolding tick
  tick_keeps u p =
      let ticked : X = f.step t (levels_at t u) (edges_at t u) u.further in
      let q : P ticked = k.of_tick (levels_at t u) (edges_at t u) u.further p in
      either_holds P (starts (fired_at t u)) (f.started t ticked) ticked (k.of_start ticked q) q

  -- ---- reads

  byte_read_keeps : (w : Window) (u : Units X) (addr : ℕ) → P u.further → P (after_byte_read f t w u addr).further
  byte_read_keeps w u addr p = by_row (row_at (bytes_read w) addr)
    where
      by_row : (row : Option ReadableByte) → P (after_byte_read_as f t w u addr row).further
      by_row (Some reads.Ios1) = p
      by_row (Some reads.Ios2) = p
      by_row (Some _) = p
      by_row None =
          either_holds (Holds f t P) (is_half (words_read w) addr) u (record u { further = f.after_read (window_number w) addr t u.further })
          p (k.of_read (window_number w) addr u.further p)

  word_read_keeps : (w : Window) (u : Units X) (addr : ℕ) → P u.further → P (after_word_read f t w u addr).further
  word_read_keeps w u addr p =
      either_holds (Holds f t P) (addr % 2 == 1) u (after_even_word_read f t w u addr) p (by_row (row_at (words_read w) addr))
    where
      by_row : (row : Option ReadableWord) → P (after_word_read_as f t w u addr row).further
      by_row (Some reads_word.HsiTime) = p
      by_row (Some _) = p
      by_row None = byte_read_keeps w (after_byte_read f t w u addr) (addr + 1) (byte_read_keeps w u addr p)

  -- ---- writes

  with_byte_keeps : (u : Units X) (r : WritableByte) (n : ℕ) → P u.further → HoldsIf f t P (with_byte u r n)
  with_byte_keeps u writes.Ioc2 n p =
      either_holds (HoldsIf f t P) _ (Err FastTimer2) (Ok (record u { board_registers = board_registers_with u.board_registers writes.Ioc2 n; hso = emptied_by n u.hso })) tt p
  with_byte_keeps u writes.Wsr n p = either_holds (HoldsIf f t P) (is_wsr n) (Ok (record u { board_registers = board_registers_with u.board_registers writes.Wsr n })) (Err BadWindow) p tt
  with_byte_keeps u writes.HsiMode n p = p
  with_byte_keeps u writes.HsoCommand n p = p
  with_byte_keeps u writes.Ioc0 n p = p
  with_byte_keeps u _ n p = p

  loaded_keeps : (u : Units X) (n : ℕ) (refusal : Option Kind) → P u.further → HoldsIf f t P (loaded_unless u n refusal)
  loaded_keeps u n (Some kind) p = tt
  loaded_keeps u n None p = p

  with_word_keeps : (u : Units X) (r : WritableWord) (n : ℕ) → P u.further → HoldsIf f t P (with_word u r n)
  with_word_keeps u writes_word.HsoTime n p = loaded_keeps u n (load_refusal u.hso (bit u.board_registers.ioc2 0)) p
  with_word_keeps u writes_word.Timer2 n p = p
  with_word_keeps u writes_word.PtsSelect n p = p
  with_word_keeps u writes_word.PtsService n p = p

  byte_written_keeps : (w : Window) (u : Units X) (addr n : ℕ) → P u.further → HoldsIf f t P (byte_written f t w u addr n)
  byte_written_keeps w u addr n p = by_row (row_at (bytes_written w) addr)
    where
      by_row : (row : Option WritableByte) → HoldsIf f t P (byte_written_as f t w u addr n row)
      by_row (Some r) = with_byte_keeps u r n p
      by_row None =
          let put : Units X = record u { further = f.after_write (window_number w) addr n t u.further } in
          let own : Result (Units X) Kind = if f.writable (window_number w) addr then Ok put else Err NoRegister in
          either_holds (HoldsIf f t P) (is_half (words_written w) addr) (Err ByteAccess) own tt
          (either_holds (HoldsIf f t P) (f.writable (window_number w) addr) (Ok put) (Err NoRegister) (k.of_write (window_number w) addr n u.further p) tt)

  then_keeps : (r : Result (Units X) Kind) (next : Units X → Result (Units X) Kind) → HoldsIf f t P r → ((u : Units X) → P u.further → HoldsIf f t P (next u)) →
      HoldsIf f t P (r >>= next)
  then_keeps (Ok u) next p q = q u p
  then_keeps (Err kind) next p q = tt

  word_written_keeps : (w : Window) (u : Units X) (addr n : ℕ) → P u.further → HoldsIf f t P (word_written f t w u addr n)
  word_written_keeps w u addr n p =
      either_holds (HoldsIf f t P) (addr % 2 == 1) (Err OddWord) (even_word_written f t w u addr n) tt (by_row (row_at (words_written w) addr))
    where
      by_row : (row : Option WritableWord) → HoldsIf f t P (word_written_as f t w u addr n row)
      by_row (Some r) = with_word_keeps u r n p
      by_row None =
          then_keeps (byte_written f t w u addr (n % 256)) (λ mid. byte_written f t w mid (addr + 1) (n / 256)) (byte_written_keeps w u addr (n % 256) p)
          (λ mid q. byte_written_keeps w mid (addr + 1) (n / 256) q)

  kept_keeps : (u : Units X) (r : Result (Units X) Kind) → P u.further → HoldsIf f t P r → P (kept u r).further
  kept_keeps u (Ok new) p q = q
  kept_keeps u (Err kind) p q = p

  -- ---- accesses to the common memory

  scene_with_keeps : (s : Scene X) (u : Units X) (reached : ℕ) → s.time ≡ t → P u.further → InScene f t P (scene_with all_kept s u reached)
  unfolding scene_with
  scene_with_keeps s u reached now p = (now, p)

  access_keeps : (s : Scene X) (r : Access) → InScene f t P s → InScene f t P (after_by f all_kept s r)
  access_keeps s (ReadByte by addr) p =
      let q = subst (λ n. P (after_byte_read f n (window_at s by) s.board.units addr).further) (sym p.0) (byte_read_keeps (window_at s by) s.board.units addr p.1) in
      either_holds (InScene f t P) (nat_lt addr 24) (scene_with all_kept s (after_byte_read f s.time (window_at s by) s.board.units addr) (byte_weight bytes_read_everywhere addr)) s
      (scene_with_keeps s (after_byte_read f s.time (window_at s by) s.board.units addr) _ p.0 q) p
  access_keeps s (ReadWord by addr) p =
      let q = subst (λ n. P (after_word_read f n (window_at s by) s.board.units addr).further) (sym p.0) (word_read_keeps (window_at s by) s.board.units addr p.1) in
      either_holds (InScene f t P) (nat_lt addr 24) (scene_with all_kept s (after_word_read f s.time (window_at s by) s.board.units addr) (word_weight addr)) s
      (scene_with_keeps s (after_word_read f s.time (window_at s by) s.board.units addr) _ p.0 q) p
  access_keeps s (WriteByte by addr n) p =
      let new : ℕ → Units X = λ now. kept s.board.units (byte_written f now (window_at s by) s.board.units addr n) in
      let q = subst (λ now. P (new now).further) (sym p.0) (kept_keeps s.board.units (byte_written f t (window_at s by) s.board.units addr n) p.1 (byte_written_keeps (window_at s by) s.board.units addr n p.1)) in
      either_holds (InScene f t P) (nat_lt addr 24) (scene_with all_kept s (new s.time) (byte_weight bytes_written_everywhere addr)) (put s addr n)
      (scene_with_keeps s (new s.time) _ p.0 q) p
  access_keeps s (WriteWord by addr n) p =
      let new : ℕ → Units X = λ now. kept s.board.units (word_written f now (window_at s by) s.board.units addr n) in
      let q = subst (λ now. P (new now).further) (sym p.0) (kept_keeps s.board.units (word_written f t (window_at s by) s.board.units addr n) p.1 (word_written_keeps (window_at s by) s.board.units addr n p.1)) in
      either_holds (InScene f t P) (nat_lt addr 24) (scene_with all_kept s (new s.time) (word_weight addr)) (put (put s addr (n % 256)) (addr + 1) (n / 256))
      (scene_with_keeps s (new s.time) _ p.0 q) p
  access_keeps s (SetMasks m) p = scene_with_keeps s (with_masks s.board.units m) 0 p.0 p.1

  answered_keeps : {A : Type 0} (r : Result ℕ Kind) (next : ℕ → Outcome A (Scene X)) (s : Scene X) → ((n : ℕ) → InOutcome f t P (next n)) → InScene f t P s →
      InOutcome f t P (answered r next s)
  answered_keeps (Ok n) next s q p = q n
  answered_keeps (Err kind) next s q p = p

  run_keeps : {A : Type 0} (e : Effect A) (s : Scene X) → InScene f t P s → InOutcome f t P (run (scene_meaning f) e s)
  run_keeps (End a) s p = p
  run_keeps (Undefined kind) s p = p
  run_keeps (Look next) s p = run_keeps (next ((scene_meaning f).masks s)) s p
  run_keeps (Ask r next) s p =
      answered_keeps (scene_answer f s r) (λ n. run (scene_meaning f) (next n) (after_by f all_kept s r)) (refusing s r)
      (λ n. run_keeps (next n) (after_by f all_kept s r) (access_keeps s r p)) p

  -- ---- activities

  settled_keeps : (m : Machine X) (insn : Insn) (records : List Record) (o : Outcome (After × Cpu) (Scene X)) → m.time ≡ t → InOutcome f t P o → InNext f t P (settled m insn records o)
  settled_keeps m insn records (Done done s) now p = (ap (λ n. n + 1) now, p.1)
  settled_keeps m insn records (Refused kind s) now p = (ap (λ n. n + 1) now, p.1)

  entered_keeps : (m : Machine X) (number : ℕ) (o : Outcome ℕ (Scene X)) → m.time ≡ t → InOutcome f t P o → InNext f t P (entered m number o)
  entered_keeps m number (Done pc s) now p = (ap (λ n. n + 1) now, p.1)
  entered_keeps m number (Refused kind s) now p = (ap (λ n. n + 1) now, p.1)

  trapped_keeps : (m : Machine X) (o : Outcome ℕ (Scene X)) → m.time ≡ t → InOutcome f t P o → InNext f t P (trapped m o)
  trapped_keeps m (Done pc s) now p = (ap (λ n. n + 1) now, p.1)
  trapped_keeps m (Refused kind s) now p = (ap (λ n. n + 1) now, p.1)

  prepared_keeps : (m : Machine X) (number : ℕ) (o : Outcome Cycle (Scene X)) → m.time ≡ t → InOutcome f t P o → InNext f t P (prepared m number o)
  prepared_keeps m number (Done cycle s) now p = (ap (λ n. n + 1) now, p.1)
  prepared_keeps m number (Refused kind s) now p = (ap (λ n. n + 1) now, p.1)

  cycled_keeps : (m : Machine X) (number : ℕ) (cycle : Cycle) (count : Option ℕ) (s : Scene X) → m.time ≡ t → InScene f t P s → InNext f t P (cycled m number cycle count s)
  cycled_keeps m number cycle None s now p = (ap (λ n. n + 1) now, p.1)
  cycled_keeps m number cycle (Some count) s now p =
      (ap (λ n. n + 1) now, either_holds (λ (scene : Scene X). P scene.board.units.further) (count == 0) (with_asked (ended_of number) s) s p.1 p.1)

  transferred_keeps : (m : Machine X) (number : ℕ) (o : Outcome (Cycle × Option ℕ) (Scene X)) → m.time ≡ t → InOutcome f t P o → InNext f t P (transferred m number o)
  transferred_keeps m number (Done done s) now p = cycled_keeps m number done.0 done.1 s now p
  transferred_keeps m number (Refused kind s) now p = (ap (λ n. n + 1) now, p.1)

  finished_keeps : (doing : Activity) (m : Machine X) → m.time ≡ t → P m.board.units.further → InNext f t P (finished f doing m)
  unfolding finished
  finished_keeps (Executes insn) m now p = settled_keeps m insn (own_records m.time m.cpu.pc insn) (run (scene_meaning f) (effect_of insn m.cpu) (scene_of m)) now (run_keeps (effect_of insn m.cpu) (scene_of m) (now, p))
  finished_keeps (MovesWord insn words) m now p = settled_keeps m insn [] (run (scene_meaning f) (moved_word insn words m.cpu) (scene_of m)) now (run_keeps (moved_word insn words m.cpu) (scene_of m) (now, p))
  finished_keeps Traps m now p = trapped_keeps m (run (scene_meaning f) (opcode_trap m.cpu.pc) (scene_of m)) now (run_keeps (opcode_trap m.cpu.pc) (scene_of m) (now, p))
  finished_keeps (Enters number) m now p = entered_keeps m number (run (scene_meaning f) (entry (vector_at number) m.cpu.pc) (scene_of m)) now (run_keeps (entry (vector_at number) m.cpu.pc) (scene_of m) (now, p))
  finished_keeps (SetsUp number) m now p = prepared_keeps m number (run (scene_meaning f) (set_up number) (scene_of m)) now (run_keeps (set_up number) (scene_of m) (now, p))
  finished_keeps (Transfers number cycle) m now p = transferred_keeps m number (run (scene_meaning f) (served cycle) (scene_of m)) now (run_keeps (served cycle) (scene_of m) (now, p))
  finished_keeps Idles m now p = (ap (λ n. n + 1) now, p)
  finished_keeps (Breaks kind) m now p = (ap (λ n. n + 1) now, p)

  stepped_keeps : (m : Machine X) (a : UnderWay) → m.time ≡ t → P m.board.units.further → InNext f t P (stepped f m a)
  unfolding stepped
  stepped_keeps m a now p =
      let moved : Machine X = with_units m (tick f m.time m.board.units).units in
      let q : P moved.board.units.further = subst (λ n. P (tick f n m.board.units).units.further) (sym now) (tick_keeps m.board.units p) in
      either_holds (InNext f t P) (a.left == 1) (finished f a.doing moved) (waiting a moved) (finished_keeps a.doing moved now q) (ap (λ n. n + 1) now, q)

-- one state of a machine
pub step_keeps : {X : Type 0} (f : Further X) (P : X → Type 0) (m : Machine X) → Keeps f m.time P → P m.board.units.further → InNext f m.time P (step f m)
step_keeps f P m k p = stepped_keeps f m.time P k m (current m) refl p
