-- No access changes the ROM.
use Rattle.std.proofs.Common.{◌≡◌, ℕ, Bool, true, false, ◌+◌, ◌*◌, ◌/◌, ◌%◌, ◌<◌, ◌≤◌, ◌≢◌, ◌==◌, nat_lt, if◌then◌else◌, Result, Ok, Err, List, length, slice_index, refl, sym, ◌∙◌, ap, subst, arith}
use Rattle.std.proofs.lemmas.Grind.{common_steps}
use Rattle.std.specs.Prelude.{slice_set}
use Rattle.kc_base.specs.declared.types.Kind.{Kind}
use Rattle.kc_exec_spec.specs.declared.access.Master.{Master}
use Rattle.kc_exec_spec.specs.declared.access.Access.{Access}
use Rattle.kc_exec_spec.specs.declared.access.Access.TheVariants.{ReadByte, ReadWord, WriteByte, WriteWord, SetMasks}
use Rattle.kc_exec_spec.specs.Effect.{Effect, End, Undefined, Look, Ask, Outcome, Done, Refused, answered, run}
use Rattle.kc_exec_spec.specs.Memory.{is_rom, is_hole, writes, if_even}
use Rattle.kc_extra.specs.Further.{Further}
use Rattle.kc_block_spec.specs.Units.{Units}
use Rattle.kc_machine_spec.specs.Scene.{Scene, all_kept, with_units, refusing, put, after_by, scene_answer, scene_meaning}

-- the same bytes in ROM, in as many in all
pub record SameRom (old new : List ℕ) : Type 0 where
  pub count : length new ≡ length old
  pub rom : (a : ℕ) → is_rom a ≡ true → slice_index new a ≡ slice_index old a

pub same-rom : (memory : List ℕ) → SameRom memory memory
same-rom memory = record { count = refl; rom = λ a h. refl }

pub rom-then : (a b c : List ℕ) → SameRom a b → SameRom b c → SameRom a c
rom-then a b c x y = record { count = y.count ∙ x.count; rom = λ at h. y.rom at h ∙ x.rom at h }

-- one byte, outside of ROM
byte-put : (memory : List ℕ) (addr n : ℕ) → is_rom addr ≡ false → SameRom memory (slice_set memory addr n)
byte-put memory addr n out = record {
  count = grind (arith, common_steps);
  rom = λ a h. other a (λ same. absurd (let e : is_rom addr ≡ true = subst (λ x. is_rom x ≡ true) same h in cc));
}
  where
    other : (a : ℕ) → a ≢ addr → slice_index (slice_set memory addr n) a ≡ slice_index memory a
    other a h = grind (arith, common_steps)

record IsWritten (addr : ℕ) : Type 0 where
  pub byte : is_rom addr ≡ false
  pub next : is_rom (addr + 1) ≡ false

written-by : (hole rom : Bool) (addr k : ℕ) → is_hole addr ≡ hole → is_rom addr ≡ rom → writes addr ≡ Ok k → IsWritten addr
written-by true rom addr k h r w = absurd (cc (rw h at w))
written-by false true addr k h r w = absurd (cc (rw (h, r) at w))
written-by false false addr k h r w = record { byte = r; next = grind (arith, common_steps) }

written : (addr k : ℕ) → writes addr ≡ Ok k → IsWritten addr
written addr k w = written-by (is_hole addr) (is_rom addr) addr k refl refl w

even-written : (odd : Bool) (addr k : ℕ) → (addr % 2 == 1) ≡ odd → if_even addr (writes addr) ≡ Ok k → IsWritten addr
even-written true addr k e h = absurd (cc (rw e at h))
even-written false addr k e h = written addr k (rw e at h)

module _ {X : Type 0} (f : Further X) where
  with_units-rom : (s : Scene X) (u : Units X) (n : ℕ) → SameRom s.board.memory (with_units all_kept s u n).board.memory
  unfolding with_units
  with_units-rom s u n = same-rom s.board.memory

  either-rom : (low : Bool) (s a b : Scene X) → SameRom s.board.memory a.board.memory → SameRom s.board.memory b.board.memory → SameRom s.board.memory (if low then a else b).board.memory
  either-rom true s a b x y = x
  either-rom false s a b x y = y

  -- a byte that a write is accepted of
  byte-rom : (low : Bool) (s : Scene X) (a : Scene X) (r : Result ℕ Kind) (addr n k : ℕ) → SameRom s.board.memory a.board.memory → (if low then r else writes addr) ≡ Ok k → SameRom s.board.memory (if low then a else put s addr n).board.memory
  byte-rom true s a r addr n k x h = x
  byte-rom false s a r addr n k x h = byte-put s.board.memory addr n (written addr k h).byte

  word-put : (s : Scene X) (addr n k : ℕ) → if_even addr (writes addr) ≡ Ok k → SameRom s.board.memory (put (put s addr (n % 256)) (addr + 1) (n / 256)).board.memory
  word-put s addr n k h =
      let w : IsWritten addr = even-written (addr % 2 == 1) addr k refl h in
      rom-then s.board.memory (slice_set s.board.memory addr (n % 256)) _ (byte-put s.board.memory addr (n % 256) w.byte) (byte-put (slice_set s.board.memory addr (n % 256)) (addr + 1) (n / 256) w.next)

  word-rom : (low : Bool) (s : Scene X) (a : Scene X) (r : Result ℕ Kind) (addr n k : ℕ) → SameRom s.board.memory a.board.memory → if_even addr (if low then r else writes addr) ≡ Ok k → SameRom s.board.memory (if low then a else put (put s addr (n % 256)) (addr + 1) (n / 256)).board.memory
  word-rom true s a r addr n k x h = x
  word-rom false s a r addr n k x h = word-put s addr n k h

  -- an access that is accepted
  after-rom : (s : Scene X) (r : Access) (k : ℕ) → scene_answer f s r ≡ Ok k → SameRom s.board.memory (after_by f all_kept s r).board.memory
  after-rom s (ReadByte by addr) k h = either-rom (nat_lt addr 24) s _ s (with_units-rom s _ _) (same-rom s.board.memory)
  after-rom s (ReadWord by addr) k h = either-rom (nat_lt addr 24) s _ s (with_units-rom s _ _) (same-rom s.board.memory)
  after-rom s (WriteByte by addr n) k h = byte-rom (nat_lt addr 24) s _ _ addr n k (with_units-rom s _ _) h
  after-rom s (WriteWord by addr n) k h = word-rom (nat_lt addr 24) s _ _ addr n k (with_units-rom s _ _) h
  after-rom s (SetMasks m) k h = with_units-rom s _ _

  -- what an effect leaves
  abbrev pub LeavesRom : {A : Type 0} → List ℕ → Outcome A (Scene X) → Type 0
  LeavesRom memory (Done a s) = SameRom memory s.board.memory
  LeavesRom memory (Refused kind s) = SameRom memory s.board.memory

  leaves-then : {A : Type 0} (a b : List ℕ) (o : Outcome A (Scene X)) → SameRom a b → LeavesRom b o → LeavesRom a o
  leaves-then a b (Done x s) same h = rom-then a b s.board.memory same h
  leaves-then a b (Refused k s) same h = rom-then a b s.board.memory same h

  leaves-answered : {A : Type 0} (r : Result ℕ Kind) (next : ℕ → Outcome A (Scene X)) (memory : List ℕ) (s : Scene X) → SameRom memory s.board.memory → ((n : ℕ) → r ≡ Ok n → LeavesRom memory (next n)) → LeavesRom memory (answered r next s)
  leaves-answered (Ok n) next memory s same h = h n refl
  leaves-answered (Err k) next memory s same h = same

  pub run-rom : {A : Type 0} (e : Effect A) (s : Scene X) → LeavesRom s.board.memory (run (scene_meaning f) e s)
  run-rom (End a) s = same-rom s.board.memory
  run-rom (Undefined k) s = same-rom s.board.memory
  run-rom (Look next) s = run-rom (next ((scene_meaning f).masks s)) s
  run-rom (Ask r next) s =
      leaves-answered (scene_answer f s r) (λ n. run (scene_meaning f) (next n) (after_by f all_kept s r)) s.board.memory (refusing s r) (same-rom s.board.memory)
      (λ n h. leaves-then s.board.memory (after_by f all_kept s r).board.memory _ (after-rom s r n h) (run-rom (next n) (after_by f all_kept s r)))
