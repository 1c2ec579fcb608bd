-- A size record is that of its statement wherever the statements stand.
use Rattle.std.proofs.Common.{◌≡◌, ℕ, zero, suc, ◌+◌, List, [], ◌∷◌, ◌++◌, map, reverse, length, get_or, true, false, Bool, cond, refl, sym, ap, subst, ◌∙◌, append_assoc, arith}
use Rattle.std.specs.Prelude.{Some, None, slice_get}
use Rattle.std.proofs.lemmas.List.{reverse-append, length-reverse, length-map, map-append}
use Rattle.std.proofs.Math.Seq.{get_or-append_seam}
use Rattle.kc_expr.specs.declared.values.Base.TheVariants.{Absolute, Piece}
use Rattle.kc_expr.specs.declared.values.Value.{Value}
use Rattle.kc_expr.specs.Alike.{AreAlikeValues, AllAlike}
use Rattle.kc_expr.specs.Meaning.{plain, is_fixed}
use Rattle.kc_source_statement.specs.declared.statement.Stmt.{Stmt}
use Rattle.kc_source_statement.specs.Trees.{action_tree}
use Rattle.kc_asm_symbols.specs.declared.segments.Segment.{Segment}
use Rattle.kc_asm_symbols.specs.Alike.{MeaningsAreAlike}
use Rattle.kc_asm_symbols.specs.Located.{Located, located, located_by, located_from, located_at, segment_after, first_segment, value_at, base_of, is_absolute}
use Rattle.kc_asm_symbols.specs.Meanings.{meaning}
use Rattle.kc_asm_symbols.proofs.WalkLemmas.{further}
use Rattle.kc_asm_encode.specs.Laws.{BranchesHaveLengths}
use Rattle.kc_asm_emit.specs.Alignment.{alignment}
use Rattle.kc_asm_emit.specs.Content.{content, extent_of}
use Rattle.kc_asm_emit.specs.Laws.{ExtentsStay}
use Rattle.kc_asm_emit.specs.Seen.{counted}
use Rattle.kc_asm_layout.specs.declared.size_record.SizeRecord.{SizeRecord}
use Rattle.kc_asm_layout.specs.StatementSizes.{at_zero, on_its_own, opens, size_record_of, size_records_from, statement_sizes}
use Rattle.kc_asm_layout.specs.SizesLaws.{extent_in, SizesStay}
use Rattle.kc_asm_layout.proofs.Extents.{extent_of_body, opens_stay}

-- ---- a size record among the size records

-- a statement in the middle of others, the latest before it first
pub record IsSplit (all before : List Located) (l : Located) : Type 0 where
  pub after : List Located
  pub whole : all ≡ reverse before ++ l ∷ after

-- the statement of the size record with a number, in both choices of places
pub record Noted (zeros owns : List Located) (number : ℕ) (n : SizeRecord) : Type 0 where
  pub before : List Located
  pub passed : List Located
  pub l : Located
  pub m : Located
  pub first : IsSplit zeros before l
  pub second : IsSplit owns passed m
  pub count : length before ≡ number
  pub count_own : length passed ≡ number
  pub size_record : n ≡ size_record_of (meaning zeros before l) (meaning owns passed m) l

no_some : {A : Type 0} (a : A) → None ≡ Some a → ⊥
no_some a e = cc

some_same : {A : Type 0} (a b : A) → Some a ≡ Some b → b ≡ a
some_same a b e = cc

noted_from : (zeros owns before passed : List Located) (i : ℕ) (g : Segment) (ss : List Stmt) (number : ℕ) (n : SizeRecord)
    → zeros ≡ reverse before ++ located_from at_zero i g ss → owns ≡ reverse passed ++ located_from on_its_own i g ss → length before ≡ length passed
    → slice_get (size_records_from zeros owns before passed (located_from at_zero i g ss) (located_from on_its_own i g ss)) number ≡ Some n
    → Noted zeros owns (length before + number) n
unfolding size_records_from located_from
noted_from zeros owns before passed i g [] number n whole own_whole long is = absurd (no_some n is)
noted_from zeros owns before passed i g (s ∷ ss) zero n whole own_whole long is =
    let l = located_at g (at_zero i g) s in
    let m = located_at g (on_its_own i g) s in
    let h = segment_after g (action_tree s.action) in
    record {
      before = before;
      passed = passed;
      l = l;
      m = m;
      first = record { after = located_from at_zero (i + 1) h ss; whole = whole };
      second = record { after = located_from on_its_own (i + 1) h ss; whole = own_whole };
      count = omega arith;
      count_own = omega (arith, long);
      size_record = some_same (size_record_of (meaning zeros before l) (meaning owns passed m) l) n is;
    }
noted_from zeros owns before passed i g (s ∷ ss) (suc number) n whole own_whole long is =
    let l = located_at g (at_zero i g) s in
    let m = located_at g (on_its_own i g) s in
    let h = segment_after g (action_tree s.action) in
    let one : suc (length before) + number ≡ length before + suc number = omega arith in
    subst (λ (k : ℕ). Noted zeros owns k n) one
    (noted_from zeros owns (l ∷ before) (m ∷ passed) (i + 1) h ss number n
    (further zeros before (located_from at_zero (i + 1) h ss) l whole) (further owns passed (located_from on_its_own (i + 1) h ss) m own_whole) (ap suc long) is)

pub noted : (stmts : List Stmt) (number : ℕ) (n : SizeRecord) → slice_get (statement_sizes stmts) number ≡ Some n → Noted (located_by at_zero stmts) (located_by on_its_own stmts) number n
noted stmts number n is =
    let none : 0 + number ≡ number = omega arith in
    subst (λ (k : ℕ). Noted (located_by at_zero stmts) (located_by on_its_own stmts) k n) none
    (noted_from (located_by at_zero stmts) (located_by on_its_own stmts) [] [] 0 first_segment stmts number n refl refl refl is)

-- ---- the same statement in two choices of places

-- a statement without its place
abbrev pub stripped : Located → Located
stripped l = record l { here = plain 0 }

stripped_from : (values others : ℕ → Segment → Value) (i : ℕ) (g : Segment) (ss : List Stmt) → map stripped (located_from values i g ss) ≡ map stripped (located_from others i g ss)
unfolding located_from
stripped_from values others i g [] = refl
stripped_from values others i g (s ∷ ss) = ap (λ rest. stripped (located_at g (plain 0) s) ∷ rest) (stripped_from values others (i + 1) (segment_after g (action_tree s.action)) ss)

at_seam : (all before after : List Located) (l d : Located) → all ≡ reverse before ++ l ∷ after → get_or (map stripped all) (length before) d ≡ stripped l
at_seam all before after l d whole =
    ap (λ ls. get_or (map stripped ls) (length before) d) whole
    ∙ ap (λ ls. get_or ls (length before) d) (map-append stripped (reverse before) (l ∷ after))
    ∙ ap (λ k. get_or (map stripped (reverse before) ++ stripped l ∷ map stripped after) k d) (sym (length-map (reverse before) stripped ∙ length-reverse before))
    ∙ get_or-append_seam (map stripped (reverse before)) (stripped l) (map stripped after) d

pub same_statement : (values others : ℕ → Segment → Value) (stmts : List Stmt) (before passed after rest : List Located) (l m : Located)
    → located_by values stmts ≡ reverse before ++ l ∷ after → located_by others stmts ≡ reverse passed ++ m ∷ rest → length before ≡ length passed → stripped l ≡ stripped m
same_statement values others stmts before passed after rest l m here there long =
    sym (at_seam (located_by values stmts) before after l l here)
    ∙ (λ j. get_or (stripped_from values others 0 first_segment stmts j) (long j) l)
    ∙ at_seam (located_by others stmts) passed rest m l there

-- ---- places

pub place_is_no_number : (g : Segment) → is_fixed (base_of g) ≡ true → ⊥
place_is_no_number g e = by_test (is_absolute g) e
  where
    by_test : (b : Bool) → is_fixed (cond b Absolute (Piece g.piece)) ≡ true → ⊥
    by_test true e = cc
    by_test false e = cc

places_alike : (places : ℕ → ℕ) (i : ℕ) (g : Segment) → AreAlikeValues (value_at g (places i)) (at_zero i g)
places_alike places i g = record { base = refl; tag = refl; number = λ fixed. absurd (place_is_no_number g fixed) }

-- ---- the law

pub sizes_stay : MeaningsAreAlike → ExtentsStay → BranchesHaveLengths → SizesStay
sizes_stay alike stay lengths stmts places before after l whole n is =
    let w = noted stmts (length before) n is in
    let look = meaning (located places stmts) before l in
    let zero_look = meaning (located_by at_zero stmts) w.before w.l in
    let own = meaning (located_by on_its_own stmts) w.passed w.m in
    let same : stripped l ≡ stripped w.l = same_statement (λ i g. value_at g (places i)) at_zero stmts before w.before after w.first.after l w.l whole w.first.whole (sym w.count) in
    let names : AllAlike look zero_look
    = alike (λ i g. value_at g (places i)) at_zero (places_alike places) stmts before w.before after w.first.after l w.l whole w.first.whole (sym w.count) in
    let segments : w.l.segment ≡ l.segment = λ j. (sym same j).segment in
    let actions : w.l.action ≡ l.action = λ j. (sym same j).action in
    record {
      segment = (λ j. (w.size_record j).segment) ∙ segments;
      alignment = (λ j. (w.size_record j).alignment) ∙ (λ j. alignment (segments j).kind (actions j));
      extent = λ form.
          ap counted (stay look zero_look names form l.here w.l.here l.action)
          ∙ (λ j. counted (extent_of (content zero_look form w.l.here (sym actions j))))
          ∙ extent_of_body lengths zero_look own form w.l.here w.l.action
          ∙ (λ j. extent_in form (sym w.size_record j).body);
      opens = (λ j. (w.size_record j).opens) ∙ (λ j. opens zero_look (actions j)) ∙ sym (opens_stay stay look zero_look names l.here l.action);
    }
