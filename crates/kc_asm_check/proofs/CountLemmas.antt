-- There are as many locations as statements, and they put as many contents.
use Rattle.std.proofs.Common.{◌≡◌, ℕ, suc, ◌+◌, ◌≤◌, List, [], ◌∷◌, length, drop, map, refl, ap, sym, ◌∙◌, arith}
use Rattle.std.specs.Prelude.{Option}
use Rattle.std.proofs.lemmas.List.{length-map}
use Rattle.kc_expr.specs.declared.values.Value.{Value}
use Rattle.kc_branch.specs.declared.piece.Form.{Form}
use Rattle.kc_source_statement.specs.declared.statement.Stmt.{Stmt}
use Rattle.kc_source_statement.specs.Trees.{action_tree}
use Rattle.kc_asm_symbols.specs.declared.segments.Segment.{Segment}
use Rattle.kc_asm_symbols.specs.Located.{Located, located_from, value_at, first_segment, segment_after}
use Rattle.kc_asm_layout.specs.declared.size_record.SizeRecord.{SizeRecord}
use Rattle.kc_asm_layout.specs.SizesLaws.{SizesHaveLengths}
use Rattle.kc_asm_layout.specs.StatementSizes.{statement_sizes}
use Rattle.kc_asm_layout.specs.declared.location.Location.{Location}
use Rattle.kc_asm_layout.specs.Places.{Ends, locations_from, ends_after, addresses, no_bytes}
use Rattle.kc_asm_layout.specs.Text.{statement_forms, text}
use Rattle.kc_branch.specs.Forms.{forms, head_form}
use Rattle.kc_asm_check.specs.declared.checked.Put.{Put as Made}
use Rattle.kc_asm_check.specs.Checked.{seen_put}
use Rattle.kc_asm_check.specs.Checking.{place_at, location_list, standing}
use Rattle.kc_asm_check.specs.Putting.{puts_from, puts_of}

location_count : (list : List (Option ℕ)) (fs : List Form) (ends : Ends) (ns : List SizeRecord) → length (locations_from list fs ends ns) ≡ length ns
unfolding locations_from
location_count list fs ends [] = refl
location_count list fs ends (n ∷ ns) = ap suc (location_count list (drop 1 fs) (ends_after (head_form fs) ends n) ns)

located_count : (values : ℕ → Segment → Value) (i : ℕ) (g : Segment) (ss : List Stmt) → length (located_from values i g ss) ≡ length ss
unfolding located_from
located_count values i g [] = refl
located_count values i g (s ∷ ss) = ap suc (located_count values (i + 1) (segment_after g (action_tree s.action)) ss)

pub standing_count : (stmts : List Stmt) → length (standing stmts) ≡ length stmts
standing_count stmts = located_count (λ i g. value_at g (place_at (location_list stmts) i)) 0 first_segment stmts

-- each statement has its location
pub each_location : SizesHaveLengths → (stmts : List Stmt) → length (location_list stmts) ≡ length stmts
each_location lengths stmts =
    location_count (addresses (statement_sizes stmts)) (statement_forms (forms (text (statement_sizes stmts))) (statement_sizes stmts)) no_bytes (statement_sizes stmts) ∙ lengths stmts

put_count : (all before ls : List Located) (ss : List Location) → length ls ≤ length ss → length (puts_from all before ls ss) ≡ length ls
unfolding puts_from
put_count all before [] ss each = refl
put_count all before (l ∷ ls) [] each = omega (arith, each)
put_count all before (l ∷ ls) (s ∷ ss) each = ap suc (put_count all (l ∷ before) ls ss (let e : length ls ≤ length ss = omega (arith, each) in e))

-- and each puts something or nothing
pub each_put : SizesHaveLengths → (stmts : List Stmt) (ps : List Made) → map seen_put ps ≡ puts_of stmts → length ps ≡ length stmts
each_put lengths stmts ps is =
    let count : length (standing stmts) ≡ length stmts = standing_count stmts in
    let locations : length (location_list stmts) ≡ length stmts = each_location lengths stmts in
    let enough : length (standing stmts) ≤ length (location_list stmts) = omega (arith, count, locations) in
    sym (length-map ps seen_put) ∙ ap length is ∙ put_count (standing stmts) [] (standing stmts) (location_list stmts) enough ∙ count
