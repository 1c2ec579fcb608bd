-- The lines of an unlinked module's marks, its pieces and its stack.
use Rattle.std.proofs.Common.{◌≡◌, ℕ, zero, suc, ◌+◌, ◌-◌, ◌≤◌, ◌%◌, Bool, true, false, cond, ◌&&◌, ◌==◌, List, [], ◌∷◌, ◌++◌, map, drop, replicate, Option, Some, None, refl, subst, arith}
use Rattle.std.specs.Prelude.{nat_lt, nat_le, unwrap_or, slice_get, slice_set}
use Rattle.std.specs.List.{list_all}
use Rattle.std.proofs.lemmas.Bool.{and_parts, and_from}
use Rattle.std.proofs.lemmas.Bool.Decides.{nat_tests}
use Rattle.kc_expr.specs.declared.values.Value.{Value}
use Rattle.kc_obj_module.specs.declared.parts.SegKind.{SegKind}
use Rattle.kc_obj_module.specs.declared.parts.SegKind.TheVariants.{Reg, Code, Ram, Stack}
use Rattle.kc_obj_module.specs.declared.parts.Lines.{Lines}
use Rattle.kc_source_statement.specs.declared.statement.Stmt.{Stmt}
use Rattle.kc_source_statement.specs.Trees.{action_tree}
use Rattle.kc_asm_symbols.specs.declared.segments.Segment.{Segment}
use Rattle.kc_asm_symbols.specs.Located.{Located, segment_after, located_from}
use Rattle.kc_asm_symbols.specs.Meanings.{meaning}
use Rattle.kc_asm_encode.specs.declared.relocatable_byte.RelocatableByte.{RelocatableByte}
use Rattle.kc_asm_encode.specs.declared.relocatable_byte.RelocatableByte.TheVariants.{Plain}
use Rattle.kc_asm_section.specs.declared.part.Mark.{Mark}
use Rattle.kc_asm_section.specs.Section.{Section, blank, mark, begun, put, laid}
use Rattle.kc_asm_section.specs.declared.kept.Kept.{Kept}
use Rattle.kc_asm_section.specs.Order.{kept_if, stack_section, stack_pieces, pieces_of}
use Rattle.kc_asm_section.specs.ModuleOf.{entries_from}
use Rattle.kc_asm_section.specs.Puts.{entry_of}
use Rattle.kc_asm_emit.specs.Arguments.{Look}
use Rattle.kc_asm_emit.specs.Content.{Content, Nothing, RelocatableBytes, Reserved, Upto, Even, content}
use Rattle.kc_asm_emit.specs.Faults.{faults_of}
use Rattle.kc_asm_layout.specs.StatementSizes.{opens}
use Rattle.kc_asm_layout.specs.declared.location.Location.{Location}
use Rattle.kc_asm_check.specs.Codes.{Regions, regions_after, stack_after, branch_faults, relocatable_faults, place_faults}
use Rattle.kc_asm_check.specs.Checking.{own_codes}
use Rattle.kc_asm_check.specs.Laws.{AreSound}
use Rattle.kc_asm_check.specs.Putting.{stack_from}
use Rattle.kc_asm_unlinked_laws.specs.Collecting.{led, put_content, section_after, kind_opened, with_opened, first_section, parts_after, parts_from, first_parts}
use Rattle.kc_asm_unlinked_laws.specs.Writable.{AllWritable}
use Rattle.kc_asm_unlinked_laws.proofs.Lists.{nothing_left}
use Rattle.kc_asm_unlinked_laws.proofs.Faultless.{unless}
use Rattle.kc_source_laws.proofs.Tests.{all_join, all_drop, all_map, Holds}

-- ---- marks

module _ (test : ℕ → Bool) where
  abbrev pub marks_pass : Section → Bool
  marks_pass t = list_all (λ m. test m.line) t.marks

  laid_marks : (os : List RelocatableByte) (t : Section) → (laid os t).marks ≡ t.marks
  unfolding laid
  laid_marks [] t = refl
  laid_marks (o ∷ os) t = laid_marks os (put o t)

  led_marks : (kind : SegKind) (n : ℕ) (t : Section) → (led kind n t).marks ≡ t.marks
  led_marks Code n t = laid_marks (replicate n (Plain 255)) t
  led_marks Reg n t = refl
  led_marks Ram n t = refl
  led_marks Stack n t = refl

  same_marks : (t u : Section) → u.marks ≡ t.marks → marks_pass t ≡ true → marks_pass u ≡ true
  same_marks t u e h = rw e h

  put_marks : (line : ℕ) (kind : SegKind) (place : ℕ) (c : Content) (t : Section) → test line ≡ true → marks_pass t ≡ true → marks_pass (put_content line kind place c t) ≡ true
  put_marks line kind place Nothing t l h = h
  put_marks line kind place (RelocatableBytes []) t l h = h
  put_marks line kind place (RelocatableBytes (o ∷ os)) t l h =
      same_marks (begun line o t) (laid os (begun line o t)) (laid_marks os (begun line o t)) (all_join (λ (m : Mark). test m.line) t.marks (mark t.length line ∷ []) h (and_from (test line) true l refl))
  put_marks line kind place (Reserved n) t l h = h
  put_marks line kind place (Upto to) t l h = h
  put_marks line kind place Even t l h = same_marks t (led kind (place % 2) t) (led_marks kind (place % 2) t) h

  after_marks : (look : Look) (l : Located) (s : Location) (t : Section) → test l.line ≡ true → marks_pass t ≡ true → marks_pass (section_after look l s t) ≡ true
  after_marks look l s t e h =
      put_marks l.line l.segment.kind s.place (content look s.form l.here l.action) (led l.segment.kind (s.place - s.before) t) e
      (same_marks t (led l.segment.kind (s.place - s.before) t) (led_marks l.segment.kind (s.place - s.before) t) h)

  set_marks : (ts : List Section) (i : ℕ) (t : Section) → list_all marks_pass ts ≡ true → marks_pass t ≡ true → list_all marks_pass (slice_set ts i t) ≡ true
  set_marks [] i t h k = refl
  set_marks (x ∷ ts) zero t h k = and_from (marks_pass t) (list_all marks_pass ts) k (and_parts (marks_pass x) (list_all marks_pass ts) h).1
  set_marks (x ∷ ts) (suc i) t h k = let both = and_parts (marks_pass x) (list_all marks_pass ts) h in and_from (marks_pass x) (list_all marks_pass (slice_set ts i t)) both.0 (set_marks ts i t both.1 k)

  get_marks : (ts : List Section) (i : ℕ) → list_all marks_pass ts ≡ true → marks_pass (unwrap_or (slice_get ts i) first_section) ≡ true
  get_marks [] i h = refl
  get_marks (x ∷ ts) zero h = (and_parts (marks_pass x) (list_all marks_pass ts) h).0
  get_marks (x ∷ ts) (suc i) h = get_marks ts i (and_parts (marks_pass x) (list_all marks_pass ts) h).1

  opened_marks : (kind : SegKind) (o : Option ℕ) (ts : List Section) → list_all marks_pass ts ≡ true → list_all marks_pass (with_opened kind o ts) ≡ true
  opened_marks kind None ts h = h
  opened_marks kind (Some address) ts h = all_join marks_pass ts (blank kind (Some address) ∷ []) h refl

  pub parts_marks : (all before ls : List Located) (ss : List Location) (parts : List Section) → list_all (λ l. test l.line) ls ≡ true → list_all marks_pass parts ≡ true → list_all marks_pass (parts_from all before ls ss parts) ≡ true
  unfolding parts_from
  parts_marks all before [] ss parts e h = h
  parts_marks all before (l ∷ ls) [] parts e h = h
  parts_marks all before (l ∷ ls) (s ∷ ss) parts e h =
      let both = and_parts (test l.line) (list_all (λ (x : Located). test x.line) ls) e in
      let look = meaning all before l in
      parts_marks all (l ∷ before) ls ss (parts_after look l s parts) both.1
      (opened_marks (kind_opened l.action) (opens look l.action) (slice_set parts l.segment.piece (section_after look l s (unwrap_or (slice_get parts l.segment.piece) first_section)))
      (set_marks parts l.segment.piece (section_after look l s (unwrap_or (slice_get parts l.segment.piece) first_section)) h
      (after_marks look l s (unwrap_or (slice_get parts l.segment.piece) first_section) both.0 (get_marks parts l.segment.piece h))))

  pub located_lines : (values : ℕ → Segment → Value) (i : ℕ) (g : Segment) (ss : List Stmt) → list_all (λ s. test s.line) ss ≡ true → list_all (λ l. test l.line) (located_from values i g ss) ≡ true
  unfolding located_from
  located_lines values i g [] h = refl
  located_lines values i g (s ∷ ss) h =
      let both = and_parts (test s.line) (list_all (λ (x : Stmt). test x.line) ss) h in
      and_from (test s.line) (list_all (λ (l : Located). test l.line) (located_from values (i + 1) (segment_after g (action_tree s.action)) ss)) both.0
      (located_lines values (i + 1) (segment_after g (action_tree s.action)) ss both.1)

  pub first_marks : list_all marks_pass first_parts ≡ true
  first_marks = refl

  pub entries_pass : (piece : ℕ) (ts : List Section) → list_all marks_pass ts ≡ true → list_all (λ l. test l.line) (entries_from piece ts) ≡ true
  unfolding entries_from
  entries_pass piece [] h = refl
  entries_pass piece (t ∷ ts) h =
      let both = and_parts (marks_pass t) (list_all marks_pass ts) h in
      all_join (λ (l : Lines). test l.line) (map (entry_of piece) t.marks) (entries_from (piece + 1) ts) (all_map (λ (l : Lines). test l.line) (λ (m : Mark). test m.line) (entry_of piece) t.marks (λ m e. e) both.0)
      (entries_pass (piece + 1) ts both.1)

-- ---- pieces

module _ (test : Section → Bool) where
  get_holds : (ts : List Section) (i : ℕ) → list_all test ts ≡ true → Holds test (slice_get ts i)
  get_holds [] i h = tt
  get_holds (t ∷ ts) zero h = (and_parts (test t) (list_all test ts) h).0
  get_holds (t ∷ ts) (suc i) h = get_holds ts i (and_parts (test t) (list_all test ts) h).1

  kept_pass : (b : Bool) (o : Option Section) → Holds test o → list_all test (kept_if b o) ≡ true
  kept_pass true (Some t) h = and_from (test t) true h refl
  kept_pass true None h = refl
  kept_pass false o h = refl

  stack_pass : (n : ℕ) → test (stack_section n) ≡ true → list_all test (stack_pieces n) ≡ true
  stack_pass n h = elim (n == 0) as (λ b. list_all test (cond b [] (stack_section n ∷ [])) ≡ true) [ true ↦ refl | false ↦ and_from (test (stack_section n)) true h refl ]

  pub pieces_pass : (kept : Kept) (parts : List Section) (stack : ℕ) → list_all test parts ≡ true → test (stack_section stack) ≡ true → list_all test (pieces_of kept parts stack) ≡ true
  pieces_pass kept parts stack h k =
      let absolute = all_join test (stack_pieces stack) (drop 3 parts) (stack_pass stack k) (all_drop test 3 parts h) in
      let ram = all_join test (kept_if kept.ram (slice_get parts 2)) (stack_pieces stack ++ drop 3 parts) (kept_pass kept.ram (slice_get parts 2) (get_holds parts 2 h)) absolute in
      let code = all_join test (kept_if kept.code (slice_get parts 1)) (kept_if kept.ram (slice_get parts 2) ++ (stack_pieces stack ++ drop 3 parts)) (kept_pass kept.code (slice_get parts 1) (get_holds parts 1 h)) ram in
      all_join test (kept_if kept.registers (slice_get parts 0)) (kept_if kept.code (slice_get parts 1) ++ (kept_if kept.ram (slice_get parts 2) ++ (stack_pieces stack ++ drop 3 parts)))
      (kept_pass kept.registers (slice_get parts 0) (get_holds parts 0 h)) code

  pub all_from : (ts : List Section) → ((i : ℕ) (t : Section) → slice_get ts i ≡ Some t → test t ≡ true) → list_all test ts ≡ true
  all_from [] h = refl
  all_from (t ∷ ts) h = and_from (test t) (list_all test ts) (h 0 t refl) (all_from ts (λ i u e. h (suc i) u e))

-- the same with a property of types
module _ (P : Section → Type 0) where
  abbrev pub EachIs : List Section → Type 0
  EachIs [] = Unit {0}
  EachIs (t ∷ ts) = P t × EachIs ts

  each_join : (ts us : List Section) → EachIs ts → EachIs us → EachIs (ts ++ us)
  each_join [] us h k = k
  each_join (t ∷ ts) us h k = (h.0, each_join ts us h.1 k)

  each_from : (ts : List Section) → ((i : ℕ) (t : Section) → slice_get ts i ≡ Some t → P t) → EachIs ts
  each_from [] h = tt
  each_from (t ∷ ts) h = (h 0 t refl, each_from ts (λ i u e. h (suc i) u e))

  each_drop : (n : ℕ) (ts : List Section) → EachIs ts → EachIs (drop n ts)
  each_drop zero ts h = h
  each_drop (suc n) [] h = tt
  each_drop (suc n) (t ∷ ts) h = each_drop n ts h.1

  each_kept : (b : Bool) (parts : List Section) (k : ℕ) → EachIs parts → EachIs (kept_if b (slice_get parts k))
  each_kept false parts k h = tt
  each_kept true [] k h = tt
  each_kept true (t ∷ ts) zero h = (h.0, tt)
  each_kept true (t ∷ ts) (suc k) h = each_kept true ts k h.1

  each_stack : (n : ℕ) → P (stack_section n) → EachIs (stack_pieces n)
  each_stack n h = elim (n == 0) as (λ b. EachIs (cond b [] (stack_section n ∷ []))) [ true ↦ tt | false ↦ (h, tt) ]

  pub each_piece : (kept : Kept) (parts : List Section) (stack : ℕ) → ((i : ℕ) (t : Section) → slice_get parts i ≡ Some t → P t) → P (stack_section stack) → EachIs (pieces_of kept parts stack)
  each_piece kept parts stack f k =
      let h : EachIs parts = each_from parts f in
      each_join (kept_if kept.registers (slice_get parts 0)) (kept_if kept.code (slice_get parts 1) ++ (kept_if kept.ram (slice_get parts 2) ++ (stack_pieces stack ++ drop 3 parts))) (each_kept kept.registers parts 0 h)
      (each_join (kept_if kept.code (slice_get parts 1)) (kept_if kept.ram (slice_get parts 2) ++ (stack_pieces stack ++ drop 3 parts)) (each_kept kept.code parts 1 h)
      (each_join (kept_if kept.ram (slice_get parts 2)) (stack_pieces stack ++ drop 3 parts) (each_kept kept.ram parts 2 h)
      (each_join (stack_pieces stack) (drop 3 parts) (each_stack stack k) (each_drop 3 parts h))))

  pub is_at : (ts : List Section) (i : ℕ) (t : Section) → EachIs ts → slice_get ts i ≡ Some t → P t
  is_at [] i t h e = absurd (cc e)
  is_at (x ∷ ts) zero t h e = let same : x ≡ t = cc e in subst P same h.0
  is_at (x ∷ ts) (suc i) t h e = is_at ts i t h.1 e

-- ---- the stack

small_by : (sum after : ℕ) → (nat_le sum 65535 && nat_lt 65535 after) ≡ false → sum ≤ 65535 → after ≤ 65535
small_by sum after h k = grind (arith, nat_tests, h, k)

pub stack_small : (all : List Located) (regions : Regions) (sum : ℕ) (before ls : List Located) (ss : List Location) (parts : List Section) → AreSound all regions sum before ls ss → AllWritable all before ls ss parts
    → sum ≤ 65535 → stack_from all sum before ls ≤ 65535
unfolding AreSound stack_from
stack_small all regions sum before [] ss parts sound room small = small
stack_small all regions sum before (l ∷ ls) [] parts sound room small = absurd room
stack_small all regions sum before (l ∷ ls) (s ∷ ss) parts sound room small =
    let look = meaning all before l in
    let own = (nothing_left (own_codes look regions sum l s) _ sound.0).0 in
    let a = nothing_left (faults_of look l.action) _ own in
    let b = nothing_left (branch_faults look s.body l.action) _ a.1 in
    let c = nothing_left (relocatable_faults look l.action l.segment s (content look s.form l.here l.action)) _ b.1 in
    let d = nothing_left (place_faults regions look l.label l.action l.segment s) _ c.1 in
    let none : (nat_le sum 65535 && nat_lt 65535 (stack_after look sum l.action)) ≡ false = unless (nat_le sum 65535 && nat_lt 65535 (stack_after look sum l.action)) 17 d.1 in
    stack_small all (regions_after look regions l.action) (stack_after look sum l.action) (l ∷ before) ls ss (parts_after look l s parts) sound.1 room.1
    (small_by sum (stack_after look sum l.action) none small)
