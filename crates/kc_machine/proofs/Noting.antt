-- What one access leaves on the machine's bus.
use Rattle.std.proofs.Common.{◌≡◌, ℕ, ◌+◌, ◌*◌, ◌<◌, ◌≤◌, ◌%◌, ◌==◌, nat_lt, Bool, true, false, if◌then◌else◌, is_some, List, [], ◌∷◌, Option, Some, None, Result, Ok, refl, sym, ◌∙◌, ap, subst, add-zero, arith}
use Rattle.std.proofs.lemmas.Grind.{common_steps}
use Rattle.kc_base.specs.declared.types.Edge.{Edge}
use Rattle.kc_base.specs.declared.types.Kind.{Kind}
use Rattle.kc_exec_spec.specs.declared.access.Master.{Master}
use Rattle.kc_exec_spec.specs.declared.access.Masks.{Masks}
use Rattle.kc_exec_spec.specs.declared.access.Access.TheVariants.{ReadByte, ReadWord, WriteByte, WriteWord, SetMasks}
use Rattle.kc_extra.specs.Further.{Further}
use Rattle.kc_block_spec.specs.declared.registers.Window.{Window}
use Rattle.kc_block_spec.specs.declared.registers.Window.TheVariants.{Window0, Window1, Window15}
use Rattle.kc_block_spec.specs.declared.registers.ReadableByte.{ReadableByte}
use Rattle.kc_block_spec.specs.declared.registers.ReadableByte.TheVariants.{Zeros, IntMask, IntMask1, IntPend, IntPend1, Wsr, HsiStatus, Port0, Port1, Port2, Ios0, Ios1, Ios2, Ioc3}
use Rattle.kc_block_spec.specs.declared.registers.ReadableWord.{ReadableWord}
use Rattle.kc_block_spec.specs.declared.registers.ReadableWord.TheVariants.{HsiTime, Timer1, Timer2, T2Capture, PtsSelect, PtsService}
use Rattle.kc_block_spec.specs.Units.{Units}
use Rattle.kc_block_spec.specs.Levels.{printed, edges_between}
use Rattle.kc_block_spec.specs.Touch.{in_state}
use Rattle.kc_block_spec.specs.Leading.{Leads}
use Rattle.kc_block_spec.specs.Registers.{bytes_read, bytes_read_everywhere, bytes_written_everywhere, words_read, row_at, is_half, words_written, bytes_written, registers}
use Rattle.kc_block_spec.specs.Reading.{after_byte, after_word}
use Rattle.kc_block_spec.specs.Accesses.{latch_edges, after_byte_read, after_byte_read_as, byte_written, word_read, after_word_read, after_word_read_as, word_written}
use Rattle.kc_block_spec.proofs.Quiet.{edges_none}
use Rattle.kc_machine_spec.specs.Board.{with_masks}
use Rattle.kc_machine_spec.specs.Scene.{Scene, with_units, window_at, byte_weight, is_zero_register, word_weight, kept, accepted, scene_answer, after_by}
use Rattle.kc_machine.specs.Keeping.{one_noted, all_noted, counted, fitting}

-- edges that are handed out to the buffer stand there, as far as there is room
pub note-leads : (o : List Edge) (t : ℕ) (es : List Edge) (p : List Edge) → Leads (λ old at edge new. new ≡ one_noted old edge) o (in_state t es) p → all_noted o es ≡ p
note-leads o t [] p h = h
note-leads o t (e ∷ es) p h = ap (λ x. all_noted x es) (sym h.1.0) ∙ note-leads h.0 t es p h.1.1

is_register : (addr : ℕ) → addr < 24 → nat_lt addr 24 ≡ true
is_register addr m = grind (arith, common_steps)

-- a read changes no latch
printed_of : {X : Type 0} → Units X → ℕ
printed_of u = printed u.board_registers u.hso

latches-kept : {X : Type 0} (u v : Units X) → printed_of v ≡ printed_of u → latch_edges u v ≡ []
unfolding printed_of
latches-kept u v e = ap (edges_between (printed u.board_registers u.hso)) e ∙ edges_none (printed u.board_registers u.hso) 18

byte-prints : {X : Type 0} (u : Units X) (r : ReadableByte) → printed_of (after_byte u r) ≡ printed_of u
unfolding printed_of
byte-prints u Zeros = refl
byte-prints u IntMask = refl
byte-prints u IntMask1 = refl
byte-prints u IntPend = refl
byte-prints u IntPend1 = refl
byte-prints u Wsr = refl
byte-prints u HsiStatus = refl
byte-prints u Port0 = refl
byte-prints u Port1 = refl
byte-prints u Port2 = refl
byte-prints u Ios0 = refl
byte-prints u Ios1 = refl
byte-prints u Ios2 = refl
byte-prints u Ioc3 = refl

word-prints : {X : Type 0} (u : Units X) (r : ReadableWord) → printed_of (after_word u r) ≡ printed_of u
unfolding printed_of
word-prints u HsiTime = refl
word-prints u Timer1 = refl
word-prints u Timer2 = refl
word-prints u T2Capture = refl
word-prints u PtsSelect = refl
word-prints u PtsService = refl

either-prints : {X : Type 0} (b : Bool) (u v w : Units X) → printed_of v ≡ printed_of u → printed_of w ≡ printed_of u → printed_of (if b then v else w) ≡ printed_of u
either-prints true u v w e h = e
either-prints false u v w e h = h

module _ {X : Type 0} (f : Further X) where
  byte_as-prints : (t : ℕ) (w : Window) (u : Units X) (addr : ℕ) (r : Option ReadableByte) → printed_of (after_byte_read_as f t w u addr r) ≡ printed_of u
  unfolding printed_of
  byte_as-prints t w u addr (Some r) = byte-prints u r
  byte_as-prints t w u addr None = either-prints (is_half (words_read w) addr) u u _ refl refl

  byte_read-prints : (t : ℕ) (w : Window) (u : Units X) (addr : ℕ) → printed_of (after_byte_read f t w u addr) ≡ printed_of u
  byte_read-prints t w u addr = byte_as-prints t w u addr (row_at (bytes_read w) addr)

  word_as-prints : (t : ℕ) (w : Window) (u : Units X) (addr : ℕ) (r : Option ReadableWord) → printed_of (after_word_read_as f t w u addr r) ≡ printed_of u
  word_as-prints t w u addr (Some r) = word-prints u r
  word_as-prints t w u addr None = byte_read-prints t w (after_byte_read f t w u addr) (addr + 1) ∙ byte_read-prints t w u addr

  word_read-prints : (t : ℕ) (w : Window) (u : Units X) (addr : ℕ) → printed_of (after_word_read f t w u addr) ≡ printed_of u
  word_read-prints t w u addr = either-prints (addr % 2 == 1) u u _ refl (word_as-prints t w u addr (row_at (words_read w) addr))

-- a count of none
pub count-none : (a : ℕ) (b : Bool) → (if b then a + 0 else a) ≡ a
count-none a true = add-zero a
count-none a false = refl

no_zero : (b : Bool) (r : ReadableByte) (rest : Option ReadableByte) → is_zero_register (Some r) ≡ false → is_zero_register rest ≡ false → is_zero_register (if b then Some r else rest) ≡ false
no_zero true r rest h k = h
no_zero false r rest h k = k

-- a word from 0002H on counts twice: the zero register stands below it alone
pub word-some : (addr : ℕ) → 2 ≤ addr → 2 ≤ word_weight addr
unfolding bytes_read_everywhere
word-some addr far =
    let e : (addr == 0) ≡ false = grind (arith, common_steps) in
    let h : (addr == 1) ≡ false = grind (arith, common_steps) in
    let other : is_zero_register (row_at bytes_read_everywhere addr) ≡ false =
    rw (e, h) (no_zero (addr == 0x08) IntMask _ refl (no_zero (addr == 0x09) IntPend _ refl (no_zero (addr == 0x12) IntPend1 _ refl (no_zero (addr == 0x13) IntMask1 _ refl (no_zero (addr == 0x14) Wsr _ refl refl))))) in
    rw other (omega arith)

-- a scene with other units and edges
scene_with : {X : Type 0} → Scene X → ℕ → Units X → List Edge → ℕ → Scene X
scene_with s t u edges reached = record { time = t; board = record { units = u; memory = s.board.memory }; edges = edges; reached = reached; refused = s.refused }

settled : {X : Type 0} (s : Scene X) (u : Units X) (n : ℕ) (t : ℕ) (v : Units X) (edges : List Edge) (k : ℕ) → u ≡ v → t ≡ s.time → all_noted s.edges (latch_edges s.board.units v) ≡ edges → k ≡ counted s.reached n → with_units fitting s u n ≡ scene_with s t v edges k
unfolding with_units scene_with
settled s u n t v edges k same time noted count =
    ap (λ x. with_units fitting s x n) same
    ∙ ap (λ es. scene_with s s.time v es (counted s.reached n)) noted
    ∙ ap (λ i. scene_with s i v edges (counted s.reached n)) (sym time)
    ∙ ap (scene_with s t v edges) (sym count)

module _ {X : Type 0} (f : Further X) where
  pub byte-was-read : (s : Scene X) (by : Master) (addr : ℕ) (w : Window) (t : ℕ) (u : Units X) (k : ℕ) → addr < 24 → w ≡ window_at s by → u ≡ after_byte_read f s.time w s.board.units addr → t ≡ s.time → k ≡ counted s.reached (byte_weight bytes_read_everywhere addr) →
      after_by f fitting s (ReadByte by addr) ≡ record { time = t; board = record { units = u; memory = s.board.memory }; edges = s.edges; reached = k; refused = s.refused }
  unfolding scene_with
  byte-was-read s by addr w t u k below window read time count =
      let on = is_register addr below in
      let same : after_byte_read f s.time (window_at s by) s.board.units addr ≡ u = ap (λ x. after_byte_read f s.time x s.board.units addr) (sym window) ∙ sym read in
      let kept : latch_edges s.board.units u ≡ [] = ap (latch_edges s.board.units) read ∙ latches-kept s.board.units (after_byte_read f s.time w s.board.units addr) (byte_read-prints f s.time w s.board.units addr) in
      rw on (settled s _ (byte_weight bytes_read_everywhere addr) t u s.edges k same time (ap (all_noted s.edges) kept) count)

  pub word-was-read : (s : Scene X) (by : Master) (addr : ℕ) (w : Window) (t : ℕ) (u : Units X) (k : ℕ) → addr < 24 → w ≡ window_at s by → u ≡ after_word_read f s.time w s.board.units addr → t ≡ s.time → k ≡ counted s.reached (word_weight addr) →
      after_by f fitting s (ReadWord by addr) ≡ record { time = t; board = record { units = u; memory = s.board.memory }; edges = s.edges; reached = k; refused = s.refused }
  unfolding scene_with
  word-was-read s by addr w t u k below window read time count =
      let on = is_register addr below in
      let same : after_word_read f s.time (window_at s by) s.board.units addr ≡ u = ap (λ x. after_word_read f s.time x s.board.units addr) (sym window) ∙ sym read in
      let kept : latch_edges s.board.units u ≡ [] = ap (latch_edges s.board.units) read ∙ latches-kept s.board.units (after_word_read f s.time w s.board.units addr) (word_read-prints f s.time w s.board.units addr) in
      rw on (settled s _ (word_weight addr) t u s.edges k same time (ap (all_noted s.edges) kept) count)

  written-as : (u v : Units X) (r : Result (Units X) Kind) → r ≡ Ok v → kept u r ≡ v
  written-as u v r e = ap (kept u) e

  pub byte-was-written : (s : Scene X) (by : Master) (addr n : ℕ) (w : Window) (t : ℕ) (u : Units X) (edges : List Edge) (k : ℕ) → addr < 24 → w ≡ window_at s by → byte_written f s.time w s.board.units addr n ≡ Ok u → t ≡ s.time →
      Leads (λ old at edge new. new ≡ one_noted old edge) s.edges (in_state s.time (latch_edges s.board.units u)) edges → k ≡ counted s.reached (byte_weight bytes_written_everywhere addr) →
      after_by f fitting s (WriteByte by addr n) ≡ record { time = t; board = record { units = u; memory = s.board.memory }; edges = edges; reached = k; refused = s.refused }
  unfolding scene_with
  byte-was-written s by addr n w t u edges k below window written time led count =
      let on = is_register addr below in
      let same : kept s.board.units (byte_written f s.time (window_at s by) s.board.units addr n) ≡ u = ap (λ x. kept s.board.units (byte_written f s.time x s.board.units addr n)) (sym window) ∙ ap (kept s.board.units) written in
      rw on (settled s _ (byte_weight bytes_written_everywhere addr) t u edges k same time (note-leads s.edges s.time (latch_edges s.board.units u) edges led) count)

  pub word-was-written : (s : Scene X) (by : Master) (addr n : ℕ) (w : Window) (t : ℕ) (u : Units X) (edges : List Edge) (k : ℕ) → addr < 24 → w ≡ window_at s by → word_written f s.time w s.board.units addr n ≡ Ok u → t ≡ s.time →
      Leads (λ old at edge new. new ≡ one_noted old edge) s.edges (in_state s.time (latch_edges s.board.units u)) edges → k ≡ counted s.reached (word_weight addr) →
      after_by f fitting s (WriteWord by addr n) ≡ record { time = t; board = record { units = u; memory = s.board.memory }; edges = edges; reached = k; refused = s.refused }
  unfolding scene_with
  word-was-written s by addr n w t u edges k below window written time led count =
      let on = is_register addr below in
      let same : kept s.board.units (word_written f s.time (window_at s by) s.board.units addr n) ≡ u = ap (λ x. kept s.board.units (word_written f s.time x s.board.units addr n)) (sym window) ∙ ap (kept s.board.units) written in
      rw on (settled s _ (word_weight addr) t u edges k same time (note-leads s.edges s.time (latch_edges s.board.units u) edges led) count)

  pub masks-were-set : (s : Scene X) (m : Masks) (t : ℕ) (u : Units X) (k : ℕ) → u ≡ with_masks s.board.units m → t ≡ s.time → k ≡ s.reached →
      after_by f fitting s (SetMasks m) ≡ record { time = t; board = record { units = u; memory = s.board.memory }; edges = s.edges; reached = k; refused = s.refused }
  unfolding scene_with printed_of
  masks-were-set s m t u k set time count =
      let kept : latch_edges s.board.units u ≡ [] = ap (latch_edges s.board.units) set ∙ latches-kept s.board.units (with_masks s.board.units m) refl in
      settled s _ 0 t u s.edges k (sym set) time (ap (all_noted s.edges) kept) (count ∙ sym (count-none s.reached (nat_lt s.reached 64)))

  -- a refused write hands out nothing
  pub refused-leads : (u v : Units X) (t : ℕ) (o p : List Edge) → v ≡ u → Leads (λ old at edge new. new ≡ one_noted old edge) o (in_state t (latch_edges u v)) p → o ≡ p
  unfolding printed_of
  refused-leads u v t o p same h =
      let none : latch_edges u v ≡ [] = ap (latch_edges u) same ∙ latches-kept u u refl in
      ap (all_noted o) (sym none) ∙ note-leads o t (latch_edges u v) p h

  pub refused-scene : (s : Scene X) (t : ℕ) (u : Units X) (edges : List Edge) → t ≡ s.time → u ≡ s.board.units → Leads (λ old at edge new. new ≡ one_noted old edge) s.edges (in_state s.time (latch_edges s.board.units u)) edges →
      s ≡ record { time = t; board = record { units = u; memory = s.board.memory }; edges = edges; reached = s.reached; refused = s.refused }
  refused-scene s t u edges time same led =
      let noted : s.edges ≡ edges = refused-leads s.board.units u s.time s.edges edges same led in
      λ i. record { time = sym time i; board = record { units = sym same i; memory = s.board.memory }; edges = noted i; reached = s.reached; refused = s.refused }

  -- the word at 0000H reads 0, and ignores writes
  pub zeros-read : (t : ℕ) (w : Window) (u : Units X) → word_read f t w u 0 ≡ Ok 0
  unfolding words_read bytes_read registers
  zeros-read t Window0 u = refl
  zeros-read t Window1 u = refl
  zeros-read t Window15 u = refl

  pub zeros-stay : (t : ℕ) (w : Window) (u : Units X) → u ≡ after_word_read f t w u 0
  unfolding words_read bytes_read registers
  zeros-stay t Window0 u = refl
  zeros-stay t Window1 u = refl
  zeros-stay t Window15 u = refl

  pub zeros-written : (t : ℕ) (w : Window) (u : Units X) (n : ℕ) → word_written f t w u 0 n ≡ Ok u
  unfolding words_written bytes_written registers
  zeros-written t Window0 u n = refl
  zeros-written t Window1 u n = refl
  zeros-written t Window15 u n = refl

-- what a byte access may count
pub byte-counts : (free : Bool) (n old new reached later : ℕ) → n ≡ (if free then 0 else 1) → (free ≡ true → new ≤ old) → new ≤ old + 4 → later ≡ counted reached n → later < 64 → new + 4 * reached ≤ old + 4 * later
byte-counts true n old new reached later weight none most count few =
    let same : new ≤ old = none refl in
    let sum : later ≡ (if nat_lt reached 64 then reached + n else reached) = count in
    let one : later ≡ reached = count ∙ ap (counted reached) weight ∙ count-none reached (nat_lt reached 64) in
    omega arith
byte-counts false n old new reached later weight none most count few = one-more (nat_lt reached 64) refl
  where
    one-more : (b : Bool) → nat_lt reached 64 ≡ b → new + 4 * reached ≤ old + 4 * later
    one-more true e =
        let sum : later ≡ reached + 1 = count ∙ ap (counted reached) weight ∙ ap (λ b. if b then reached + 1 else reached) e in
        omega arith
    one-more false e =
        let sum : later ≡ reached = count ∙ ap (λ b. if b then reached + n else reached) e in
        let far : 64 ≤ reached = grind (arith, common_steps) in
        absurd (omega arith)

-- what a word access may count
pub word-counts : (n old new reached later : ℕ) → 2 ≤ n → new ≤ old + 8 → later ≡ counted reached n → later < 64 → new + 4 * reached ≤ old + 4 * later
word-counts n old new reached later some most count few = by-room (nat_lt reached 64) refl
  where
    by-room : (b : Bool) → nat_lt reached 64 ≡ b → new + 4 * reached ≤ old + 4 * later
    by-room true e =
        let sum : later ≡ reached + n = count ∙ ap (λ b. if b then reached + n else reached) e in
        omega arith
    by-room false e =
        let sum : later ≡ reached = count ∙ ap (λ b. if b then reached + n else reached) e in
        let far : 64 ≤ reached = grind (arith, common_steps) in
        absurd (omega arith)

module _ {X : Type 0} (f : Further X) where
  pub zeros-were-read : (s : Scene X) (by : Master) (addr : ℕ) → addr ≡ 0 → after_by f fitting s (ReadWord by addr) ≡ s
  unfolding printed_of scene_with bytes_read_everywhere
  zeros-were-read s by addr e =
      subst (λ a. after_by f fitting s (ReadWord by a) ≡ s) (sym e)
      (settled s _ 0 s.time s.board.units s.edges s.reached (sym (zeros-stay f s.time (window_at s by) s.board.units)) refl (ap (all_noted s.edges) (latches-kept s.board.units s.board.units refl)) (sym (count-none s.reached (nat_lt s.reached 64))))

  pub zeros-were-written : (s : Scene X) (by : Master) (addr n : ℕ) → addr ≡ 0 → after_by f fitting s (WriteWord by addr n) ≡ s
  unfolding printed_of scene_with bytes_read_everywhere
  zeros-were-written s by addr n e =
      subst (λ a. after_by f fitting s (WriteWord by a n) ≡ s) (sym e)
      (settled s _ 0 s.time s.board.units s.edges s.reached (ap (kept s.board.units) (zeros-written f s.time (window_at s by) s.board.units n)) refl (ap (all_noted s.edges) (latches-kept s.board.units s.board.units refl)) (sym (count-none s.reached (nat_lt s.reached 64))))

  pub zeros-answer : (s : Scene X) (by : Master) (addr : ℕ) → addr ≡ 0 → scene_answer f s (ReadWord by addr) ≡ Ok 0
  zeros-answer s by addr e = subst (λ a. scene_answer f s (ReadWord by a) ≡ Ok 0) (sym e) (zeros-read f s.time (window_at s by) s.board.units)

  pub zeros-accept : (s : Scene X) (by : Master) (addr n : ℕ) → addr ≡ 0 → scene_answer f s (WriteWord by addr n) ≡ Ok 0
  zeros-accept s by addr n e = subst (λ a. scene_answer f s (WriteWord by a n) ≡ Ok 0) (sym e) (ap accepted (zeros-written f s.time (window_at s by) s.board.units n))
