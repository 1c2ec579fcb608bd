-- Each statement has a location.
use Rattle.std.proofs.Common.{◌≡◌, ℕ, zero, suc, ◌+◌, ◌<◌, List, [], ◌∷◌, length, drop, reverse, refl, ap, ◌∙◌, length-append, arith}
use Rattle.std.specs.Prelude.{Option, Some, slice_get}
use Rattle.std.proofs.lemmas.List.{length-reverse}
use Rattle.kc_source_statement.specs.declared.statement.Stmt.{Stmt}
use Rattle.kc_source_statement.specs.Trees.{action_tree}
use Rattle.kc_asm_symbols.specs.declared.segments.Segment.{Segment}
use Rattle.kc_asm_symbols.specs.Located.{Located, first_segment, segment_after, value_at, located_from}
use Rattle.kc_expr.specs.declared.values.Value.{Value}
use Rattle.kc_branch.specs.declared.piece.Form.{Form}
use Rattle.kc_branch.specs.Forms.{head_form, forms}
use Rattle.kc_asm_layout.specs.declared.size_record.SizeRecord.{SizeRecord}
use Rattle.kc_asm_layout.specs.StatementSizes.{statement_sizes}
use Rattle.kc_asm_layout.specs.SizesLaws.{SizesHaveLengths}
use Rattle.kc_asm_layout.specs.Places.{Ends, addresses, no_bytes, ends_after, locations_from}
use Rattle.kc_asm_layout.specs.Text.{text, statement_forms}
use Rattle.kc_asm_check.specs.Checking.{location_list, standing, place_at}
use Rattle.kc_asm.specs.Linked.{StatementsHaveLocations}

locations_count : (list : List (Option ℕ)) (fs : List Form) (ends : Ends) (ns : List SizeRecord) → length (locations_from list fs ends ns) ≡ length ns
unfolding locations_from
locations_count list fs ends [] = refl
locations_count list fs ends (n ∷ ns) = ap (λ (k : ℕ). suc k) (locations_count list (drop 1 fs) (ends_after (head_form fs) ends n) ns)

located_count : (values : ℕ → Segment → Value) (i : ℕ) (g : Segment) (ss : List Stmt) → length (located_from values i g ss) ≡ length ss
unfolding located_from
located_count values i g [] = refl
located_count values i g (s ∷ ss) = ap (λ (k : ℕ). suc k) (located_count values (i + 1) (segment_after g (action_tree s.action)) ss)

get_some : {A : Type 0} (xs : List A) (i : ℕ) → i < length xs → (x : A) × (slice_get xs i ≡ Some x)
get_some [] i h = absurd (omega arith)
get_some (x ∷ xs) zero h = (x, refl)
get_some (x ∷ xs) (suc i) h = get_some xs i (omega (arith, h))

pub statements_have_locations : SizesHaveLengths → StatementsHaveLocations
statements_have_locations law stmts before after l split =
    let locations : length (location_list stmts) ≡ length (statement_sizes stmts) = locations_count (addresses (statement_sizes stmts)) (statement_forms (forms (text (statement_sizes stmts))) (statement_sizes stmts)) no_bytes (statement_sizes stmts) in
    let size_records : length (statement_sizes stmts) ≡ length stmts = law stmts in
    let count : length (standing stmts) ≡ length stmts = located_count (λ i g. value_at g (place_at (location_list stmts) i)) 0 first_segment stmts in
    let whole : length (standing stmts) ≡ length (reverse before) + length (l ∷ after) = ap (λ (ls : List Located). length ls) split ∙ length-append (reverse before) (l ∷ after) in
    let turned : length (reverse before) ≡ length before = length-reverse before in
    let s = get_some (location_list stmts) (length before) (omega (arith, locations, size_records, count, whole, turned)) in
    (s.0, record { after = after; split = split; location = s.1 })
