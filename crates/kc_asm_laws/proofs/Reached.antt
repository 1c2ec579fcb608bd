-- A branch to a statement of its base reaches where its target stands.
use Rattle.std.proofs.Common.{◌≡◌, ℕ, zero, suc, ◌+◌, ◌*◌, ◌%◌, Bool, true, false, cond, ◌&&◌, ◌||◌, eqb, leb, List, [], ◌∷◌, ◌++◌, reverse, length, drop, pos, negsuc, ℤ, ◌+ℤ◌, refl, sym, ap, ◌∙◌, arith}
use Rattle.std.specs.Prelude.{Option, Some, slice_get}
use Rattle.std.proofs.lemmas.Bool.{eqb-true}
use Rattle.std.proofs.lemmas.Int.{ints, int_rem_euclid_is}
use Rattle.std.proofs.lemmas.List.{length-reverse}
use Rattle.kc_expr.specs.declared.values.Base.TheVariants.{Absolute, Piece}
use Rattle.kc_expr.specs.declared.values.Value.{Value}
use Rattle.kc_source_statement.specs.declared.statement.Stmt.{Stmt}
use Rattle.kc_source_statement.specs.Trees.{action_tree}
use Rattle.kc_asm_symbols.specs.declared.segments.Segment.{Segment}
use Rattle.kc_asm_symbols.specs.Located.{Located, located_by, located_from, located_at, is_absolute, base_of, value_at, segment_after, first_segment}
use Rattle.kc_branch.specs.declared.piece.Form.{Form}
use Rattle.kc_branch.specs.Forms.{head_form, forms}
use Rattle.kc_asm_layout.specs.SizesLaws.{SizesAreNumbered}
use Rattle.kc_asm_layout.specs.StatementSizes.{at_zero, on_its_own, size_records_from, size_record_of, statement_sizes}
use Rattle.kc_asm_layout.specs.declared.location.Location.{Location}
use Rattle.kc_asm_layout.specs.Laws.{BranchesReach}
use Rattle.kc_asm_layout.specs.Places.{Ends, addresses, no_bytes, ends_after, location_of, locations_from}
use Rattle.kc_asm_layout.specs.Text.{is_same_base, segment_in, text, statement_forms}
use Rattle.kc_asm_symbols.specs.Meanings.{meaning}
use Rattle.kc_asm_check.specs.Checking.{location_list, place_in, place_at, standing}
use Rattle.kc_asm_laws.specs.Targets.{in_word, TargetCounts, TargetsAreReached}
use Rattle.kc_asm_laws.proofs.Anchors.{anchors_hold}

-- ---- a statement with a number, its size record and its location

-- it stands at the place of its number
record IsAt (values : ℕ → Segment → Value) (i : ℕ) (l : Located) : Type 0 where
  here : l.here ≡ values i l.segment

found_at : (values : ℕ → Segment → Value) (i : ℕ) (g : Segment) (ss : List Stmt) (k : ℕ) (l : Located) → slice_get (located_from values i g ss) k ≡ Some l → IsAt values (i + k) l
unfolding located_from
found_at values i g [] k l e = absurd (cc e)
found_at values i g (s ∷ ss) zero l e =
    let same : located_at g (values i g) s ≡ l = cc in
    let none_more : i ≡ i + 0 = omega arith in
    record { here = (λ j. (sym same j).here) ∙ (λ j. values (none_more j) (same j).segment) }
found_at values i g (s ∷ ss) (suc k) l e =
    let next : (i + 1) + k ≡ i + suc k = omega arith in
    let f = found_at values (i + 1) (segment_after g (action_tree s.action)) ss k l e in
    record { here = f.here ∙ ap (λ m. values m l.segment) next }

noted_segment : (zeros owns before passed : List Located) (values : ℕ → Segment → Value) (i : ℕ) (g : Segment) (ss : List Stmt) (k : ℕ) (l : Located)
    → slice_get (located_from values i g ss) k ≡ Some l
    → segment_in (slice_get (size_records_from zeros owns before passed (located_from at_zero i g ss) (located_from on_its_own i g ss)) k) ≡ l.segment
unfolding located_from size_records_from
noted_segment zeros owns before passed values i g [] k l e = absurd (cc e)
noted_segment zeros owns before passed values i g (s ∷ ss) zero l e =
    let same : located_at g (values i g) s ≡ l = cc in
    λ j. (same j).segment
noted_segment zeros owns before passed values i g (s ∷ ss) (suc k) l e =
    noted_segment zeros owns (located_at g (at_zero i g) s ∷ before) (located_at g (on_its_own i g) s ∷ passed) values (i + 1) (segment_after g (action_tree s.action)) ss k l e

location_there : (list : List (Option ℕ)) (zeros owns before passed : List Located) (values : ℕ → Segment → Value) (fs : List Form) (ends : Ends) (i : ℕ) (g : Segment) (ss : List Stmt) (k : ℕ) (l : Located)
    → slice_get (located_from values i g ss) k ≡ Some l
    → (s : Location) × (slice_get (locations_from list fs ends (size_records_from zeros owns before passed (located_from at_zero i g ss) (located_from on_its_own i g ss))) k ≡ Some s)
unfolding located_from size_records_from locations_from
location_there list zeros owns before passed values fs ends i g [] k l e = absurd (cc e)
location_there list zeros owns before passed values fs ends i g (s ∷ ss) zero l e =
    (location_of list (head_form fs) ends (size_record_of (meaning zeros before (located_at g (at_zero i g) s)) (meaning owns passed (located_at g (on_its_own i g) s)) (located_at g (at_zero i g) s)), refl)
location_there list zeros owns before passed values fs ends i g (s ∷ ss) (suc k) l e =
    location_there list zeros owns (located_at g (at_zero i g) s ∷ before) (located_at g (on_its_own i g) s ∷ passed) values (drop 1 fs)
    (ends_after (head_form fs) ends (size_record_of (meaning zeros before (located_at g (at_zero i g) s)) (meaning owns passed (located_at g (on_its_own i g) s)) (located_at g (at_zero i g) s)))
    (i + 1) (segment_after g (action_tree s.action)) ss k l e

at_seam : {X : Type 0} (prefix back : List X) (x : X) → slice_get (prefix ++ x ∷ back) (length prefix) ≡ Some x
at_seam [] back x = refl
at_seam (y ∷ prefix) back x = at_seam prefix back x

-- ---- bases

both_absolute : (p q : Bool) (m n : ℕ) → ((p && q) || eqb m n) ≡ true → leb 3 m ≡ p → leb 3 n ≡ q → cond p Absolute (Piece m) ≡ cond q Absolute (Piece n)
both_absolute true true m n same first second = refl
both_absolute true false m n same first second = absurd (let equal : m ≡ n = eqb-true m n same in let test : leb 3 m ≡ leb 3 n = ap (leb 3) equal in cc)
both_absolute false true m n same first second = absurd (let equal : m ≡ n = eqb-true m n same in let test : leb 3 m ≡ leb 3 n = ap (leb 3) equal in cc)
both_absolute false false m n same first second = ap Piece (eqb-true m n same)

same_base_of : (g h : Segment) → is_same_base g h ≡ true → base_of g ≡ base_of h
same_base_of g h same = both_absolute (is_absolute g) (is_absolute h) g.piece h.piece same refl refl

-- ---- numbers

in_word_again : (p : ℕ) (z : ℤ) → in_word (pos (p % 65536) +ℤ z) ≡ in_word (pos p +ℤ z)
in_word_again p (pos d) =
    let word : (p % 65536 + d) % 65536 ≡ (p + d) % 65536 = omega arith in
    ap pos word
in_word_again p (negsuc d) =
    let first : (pos (p % 65536) +ℤ negsuc d) +ℤ pos (suc d * 65536) ≡ pos (p % 65536 + suc d * 65535) = omega (arith, ints) in
    let second : (pos p +ℤ negsuc d) +ℤ pos (suc d * 65536) ≡ pos (p + suc d * 65535) = omega (arith, ints) in
    let word : (p % 65536 + suc d * 65535) % 65536 ≡ (p + suc d * 65535) % 65536 = omega arith in
    int_rem_euclid_is (pos (p % 65536) +ℤ negsuc d) (pos 65536) 65536 (suc d) (p % 65536 + suc d * 65535) (omega arith) refl first
    ∙ ap pos word
    ∙ sym (int_rem_euclid_is (pos p +ℤ negsuc d) (pos 65536) 65536 (suc d) (p + suc d * 65535) (omega arith) refl second)

-- ---- the law

pub targets_are_reached : SizesAreNumbered → BranchesReach → TargetsAreReached
targets_are_reached numbered reach stmts before after l s characters whole location n kind to distance is code body near =
    let all = standing stmts in
    let ns = statement_sizes stmts in
    let zeros = located_by at_zero stmts in
    let owns = located_by on_its_own stmts in
    let values : ℕ → Segment → Value = λ i g. value_at g (place_at (location_list stmts) i) in
    let c : TargetCounts (meaning all before l) all l.action to distance
    = anchors_hold stmts (place_at (location_list stmts)) before after l characters whole n kind to distance is body in
    let v = c.counts in
    let b : (t : Location) × (slice_get (location_list stmts) to ≡ Some t)
    = location_there (addresses ns) zeros owns [] [] values (statement_forms (forms (text ns)) ns) no_bytes 0 first_segment stmts to c.statement c.found in
    let seam : slice_get all (length before) ≡ Some l
    = ap (λ (ls : List Located). slice_get ls (length before)) whole ∙ ap (slice_get (reverse before ++ l ∷ after)) (sym (length-reverse before)) ∙ at_seam (reverse before) after l in
    let here = found_at values 0 first_segment stmts (length before) l seam in
    let there = found_at values 0 first_segment stmts to c.statement c.found in
    let zero_more : 0 + to ≡ to = omega arith in
    let place : c.statement.here.number ≡ b.0.place % 65536 = (λ j. (there.here j).number) ∙ ap (λ k. place_at (location_list stmts) k % 65536) zero_more ∙ ap (λ o. place_in o % 65536) b.1 in
    let own : n.segment ≡ l.segment = ap segment_in (sym is) ∙ noted_segment zeros owns [] [] values 0 first_segment stmts (length before) l seam in
    let other : segment_in (slice_get ns to) ≡ c.statement.segment = noted_segment zeros owns [] [] values 0 first_segment stmts to c.statement c.found in
    let bases : base_of l.segment ≡ base_of c.statement.segment = same_base_of l.segment c.statement.segment ((λ j. is_same_base (sym own j) (sym other j)) ∙ near) in
    record {
      target_location = b.0;
      found = b.1;
      spanned = reach ns (length before) to n s b.0 kind distance (numbered stmts) (record { size_record = is; location = location; code = code; body = body }) near b.1;
      expression = c.expression;
      target = c.target;
      value = v.value;
      is = v.is;
      base = v.base ∙ (λ j. (there.here j).base) ∙ sym bases ∙ (λ j. (sym here.here j).base);
      number = v.number ∙ ap (λ k. in_word (pos k +ℤ distance)) place ∙ in_word_again b.0.place distance;
    }
