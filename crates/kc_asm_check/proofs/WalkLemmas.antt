-- A walk over the statements, one statement at a time.
use Rattle.std.proofs.Common.{◌≡◌, ℕ, ◌+◌, ◌%◌, ◌<◌, ◌≤◌, List, [], ◌∷◌, ◌++◌, reverse, map, length, drop, get_or, append_assoc, arith, refl, sym, ap, subst, ◌∙◌}
use Rattle.std.specs.Prelude.{Option, Some, None, slice_get}
use Rattle.std.proofs.lemmas.List.{drop_all, append-nil, reverse-append, reverse-reverse}
use Rattle.std.proofs.lemmas.Option.{slice_get_within, get_or_from_slice_get}
use Rattle.std.specs.Option.{option_to_list}
use Rattle.kc_lex.specs.LineFaults.{Fault, at_line, least as first, lesser as lesser_fault}
use Rattle.kc_lex.proofs.FaultLemmas.{lesser_none, lesser_assoc, least_append as first_append}
use Rattle.kc_expr.specs.declared.values.Value.{Value}
use Rattle.kc_expr.specs.Meaning.{Answer}
use Rattle.kc_source_statement.specs.declared.statement.Stmt.{Stmt}
use Rattle.kc_source_statement.specs.Trees.{action_tree}
use Rattle.kc_asm_symbols.specs.declared.meanings.Meanings.{Meanings}
use Rattle.kc_asm_symbols.specs.declared.segments.Segment.{Segment}
use Rattle.kc_asm_symbols.specs.Located.{Located, located, located_from, located_at, segment_after, base_of, tag_of, value_at}
use Rattle.kc_asm_symbols.specs.Meanings.{meaning, in_all}
use Rattle.kc_asm_symbols.specs.Walk.{at_statement, IsAt, IsBehind}
use Rattle.kc_asm_symbols.proofs.WalkLemmas.{one_located, further}
use Rattle.kc_lex.specs.Codes.{lesser_number}
use Rattle.kc_asm_emit.specs.Faults.{least}
use Rattle.kc_asm_emit.proofs.FaultLemmas.{least_append}
use Rattle.kc_asm_layout.specs.declared.location.Location.{Location}
use Rattle.kc_asm_check.specs.declared.walk.Walk.{Walk}
use Rattle.kc_asm_check.specs.Codes.{Regions, first_regions, regions_after, stack_after, public_faults}
use Rattle.kc_asm_check.specs.Checked.{seen_put}
use Rattle.kc_asm_check.specs.Putting.{Put, put_of, puts_from, stack_from}
use Rattle.kc_asm_check.proofs.NameLemmas.{prefix_of}
use Rattle.kc_asm_check.specs.Walk.{stood}
use Rattle.kc_asm_check.specs.Checking.{own_codes, codes_of, faults_from, place_at, place_in, location_list, first_fault}

-- ---- values of places

twice : (n : ℕ) → n % 65536 % 65536 ≡ n % 65536
twice n = omega arith

pub same_value : (g : Segment) (place : ℕ) → value_at g (place % 65536) ≡ value_at g place
same_value g place = ap (λ (n : ℕ). record { base = base_of g; tag = tag_of g.kind; number = n }) (twice place)

-- ---- the codes of one statement

pub codes_joined : (m : Meanings) (all before : List Located) (l : Located) (regions : Regions) (sum : ℕ) (s : Location) (own public code : Option ℕ)
    → IsAt m all before l → own ≡ least (own_codes (at_statement m) regions sum l s) → public ≡ least (public_faults (in_all all) l.action)
    → code ≡ lesser_number own public
    → code ≡ least (codes_of (meaning all before l) (in_all all) regions sum l s)
codes_joined m all before l regions sum s own public code at is_own is_public is_code =
    let mine : own ≡ least (own_codes (meaning all before l) regions sum l s)
    = is_own ∙ ap (λ (look : List ℕ → Answer). least (own_codes look regions sum l s)) at.means in
    is_code ∙ (λ i. lesser_number (mine i) (is_public i)) ∙ sym (least_append (own_codes (meaning all before l) regions sum l s) (public_faults (in_all all) l.action))

-- ---- the statements that are left

-- those before, the latest first, have been passed: their faults and those of the rest have this one as their least, and
-- what they put and ask for and the rest does is this
pub record Passing (w : Walk) (all rest : List Located) (ss : List Location) (whole : Option Fault) (puts : List Put) (stack : ℕ) : Type 0 where
  pub before : List Located
  pub split : all ≡ reverse before ++ rest
  pub behind : IsBehind w.meanings all before
  pub so_far : lesser_fault w.found (first (faults_from all w.regions.items w.sum before rest ss)) ≡ whole
  pub given : map seen_put w.puts.items ++ puts_from all before rest ss ≡ puts
  pub summed : stack_from all w.sum before rest ≡ stack

first_option : (o : Option Fault) → first (option_to_list o) ≡ o
unfolding first
first_option None = refl
first_option (Some f) = refl

-- the fault of one statement, and those behind it
first_of : (o : Option Fault) (fs : List Fault) → first (option_to_list o ++ fs) ≡ lesser_fault o (first fs)
first_of o fs = first_append (option_to_list o) fs ∙ ap (λ (p : Option Fault). lesser_fault p (first fs)) (first_option o)

abbrev fault_of : List Located → List Located → Regions → ℕ → Located → Location → Option Fault
fault_of all before regions sum l s = at_line l.line (least (codes_of (meaning all before l) (in_all all) regions sum l s))

abbrev others : List Located → List Located → Regions → ℕ → Located → List Located → List Location → List Fault
others all before regions sum l rest ss =
    faults_from all (regions_after (meaning all before l) regions l.action) (stack_after (meaning all before l) sum l.action) (l ∷ before) rest ss

one_examined : (all before : List Located) (regions : Regions) (sum : ℕ) (l : Located) (rest : List Located) (s : Location) (ss : List Location)
    → first (faults_from all regions sum before (l ∷ rest) (s ∷ ss)) ≡ lesser_fault (fault_of all before regions sum l s) (first (others all before regions sum l rest ss))
unfolding faults_from
one_examined all before regions sum l rest s ss = first_of (fault_of all before regions sum l s) (others all before regions sum l rest ss)

pub one_put : (all before : List Located) (l : Located) (rest : List Located) (s : Location) (ss : List Location)
    → puts_from all before (l ∷ rest) (s ∷ ss) ≡ put_of (meaning all before l) l s ∷ puts_from all (l ∷ before) rest ss
unfolding puts_from
one_put all before l rest s ss = refl

one_summed : (all before : List Located) (l : Located) (rest : List Located) (sum : ℕ)
    → stack_from all sum before (l ∷ rest) ≡ stack_from all (stack_after (meaning all before l) sum l.action) (l ∷ before) rest
unfolding stack_from
one_summed all before l rest sum = refl

-- one more has been passed
-- v is before the statement, u at it, w behind it
passes : (v u w : Walk) (all rest : List Located) (l : Located) (s : Location) (ss : List Location) (whole : Option Fault) (puts : List Put) (stack : ℕ)
    → ((before : List Located) → IsBehind v.meanings all before → IsAt u.meanings all before l)
    → ((before : List Located) → IsBehind v.meanings all before
    → u.found ≡ lesser_fault v.found (fault_of all before v.regions.items v.sum l s))
    → map seen_put u.puts.items ≡ map seen_put v.puts.items ++ put_of (at_statement u.meanings) l s ∷ []
    → u.regions.items ≡ v.regions.items → u.sum ≡ v.sum
    → ((before : List Located) → IsAt u.meanings all before l → IsBehind w.meanings all (l ∷ before))
    → w.regions.items ≡ regions_after (at_statement u.meanings) u.regions.items l.action
    → w.sum ≡ stack_after (at_statement u.meanings) u.sum l.action
    → w.found ≡ u.found
    → w.puts.items ≡ u.puts.items
    → Passing v all (l ∷ rest) (s ∷ ss) whole puts stack → Passing w all rest ss whole puts stack
passes v u w all rest l s ss whole puts stack at found put regions sum behind regions_behind sum_behind found_behind puts_behind p =
    let here = at p.before p.behind in
    let look = meaning all p.before l in
    let new_regions : w.regions.items ≡ regions_after look v.regions.items l.action = regions_behind ∙ (λ i. regions_after (here.means i) (regions i) l.action) in
    let new_sum : w.sum ≡ stack_after look v.sum l.action = sum_behind ∙ (λ i. stack_after (here.means i) (sum i) l.action) in
    let new_puts : map seen_put w.puts.items ≡ map seen_put v.puts.items ++ put_of look l s ∷ []
    = ap (map seen_put) puts_behind ∙ put ∙ ap (λ (look : List ℕ → Answer). map seen_put v.puts.items ++ put_of look l s ∷ []) here.means in
    record {
      before = l ∷ p.before;
      split = further all p.before rest l p.split;
      behind = behind p.before here;
      so_far =
          (λ i. lesser_fault (found_behind i) (first (faults_from all (new_regions i) (new_sum i) (l ∷ p.before) rest ss)))
          ∙ ap (λ (f : Option Fault). lesser_fault f (first (others all p.before v.regions.items v.sum l rest ss))) (found p.before p.behind)
          ∙ lesser_assoc v.found (fault_of all p.before v.regions.items v.sum l s) (first (others all p.before v.regions.items v.sum l rest ss))
          ∙ ap (lesser_fault v.found) (sym (one_examined all p.before v.regions.items v.sum l rest s ss))
          ∙ p.so_far;
      given =
          ap (λ (ps : List Put). ps ++ puts_from all (l ∷ p.before) rest ss) new_puts
          ∙ append_assoc (map seen_put v.puts.items) (put_of look l s ∷ []) (puts_from all (l ∷ p.before) rest ss)
          ∙ ap (λ (ps : List Put). map seen_put v.puts.items ++ ps) (sym (one_put all p.before l rest s ss))
          ∙ p.given;
      summed = ap (λ (n : ℕ). stack_from all n (l ∷ p.before) rest) new_sum ∙ sym (one_summed all p.before l rest v.sum) ∙ p.summed;
    }

-- ---- with no statement left

no_fault_left : (all before : List Located) (regions : Regions) (sum : ℕ) (ss : List Location) → first (faults_from all regions sum before [] ss) ≡ None
unfolding faults_from first
no_fault_left all before regions sum ss = refl

no_put_left : (all before : List Located) (ss : List Location) → puts_from all before [] ss ≡ []
unfolding puts_from
no_put_left all before ss = refl

no_sum_left : (all before : List Located) (sum : ℕ) → stack_from all sum before [] ≡ sum
unfolding stack_from
no_sum_left all before sum = refl

all_before : (all before : List Located) → all ≡ reverse before ++ [] → before ≡ reverse all
all_before all before split = sym (reverse-reverse before) ∙ ap reverse (sym (split ∙ append-nil (reverse before)))

-- ---- the i-th statement and its location

location_prefix : (ss : List Location) (i : ℕ) (s : Location) → slice_get ss i ≡ Some s → drop i ss ≡ s ∷ drop (i + 1) ss
location_prefix ss i s is =
    let within : i < length ss = slice_get_within ss i s is in
    prefix_of ss i s s within (sym (get_or_from_slice_get ss i s s is))

statement_prefix : (places : ℕ → ℕ) (i : ℕ) (g : Segment) (stmts : List Stmt) (stmt : Stmt) (place : ℕ) → places i ≡ place
    → i < length stmts → stmt ≡ get_or stmts i stmt
    → located_from (λ i g. value_at g (places i)) i g (drop i stmts)
    ≡ located_at g (value_at g place) stmt ∷ located_from (λ i g. value_at g (places i)) (i + 1) (segment_after g (action_tree stmt.action)) (drop (i + 1) stmts)
statement_prefix places i g stmts stmt place here within is =
    ap (located_from (λ i g. value_at g (places i)) i g) (prefix_of stmts i stmt stmt within is)
    ∙ one_located (λ i g. value_at g (places i)) i g stmt (drop (i + 1) stmts)
    ∙ ap (λ (p : ℕ). located_at g (value_at g p) stmt ∷ located_from (λ i g. value_at g (places i)) (i + 1) (segment_after g (action_tree stmt.action)) (drop (i + 1) stmts)) here

no_more_statements : (places : ℕ → ℕ) (i : ℕ) (g : Segment) (stmts : List Stmt) → length stmts ≤ i
    → located_from (λ i g. value_at g (places i)) i g (drop i stmts) ≡ []
unfolding located_from
no_more_statements places i g stmts past = ap (located_from (λ i g. value_at g (places i)) i g) (drop_all i stmts past)

-- ---- the walk, by numbers

-- the statements that are left, in the segment that is in force
abbrev pub left_from : (ℕ → ℕ) → ℕ → Segment → List Stmt → List Located
left_from places i g stmts = located_from (λ i g. value_at g (places i)) i g (drop i stmts)

-- before the first statement
pub starts : (w : Walk) (all : List Located) (ss : List Location) → IsBehind w.meanings all [] → w.sum ≡ 0 → w.puts.items ≡ []
    → Passing w all all ss (lesser_fault w.found (first (faults_from all w.regions.items 0 [] all ss))) (puts_from all [] all ss) (stack_from all 0 [] all)
starts w all ss behind sum puts = record {
  before = [];
  split = refl;
  behind = behind;
  so_far = ap (λ (n : ℕ). lesser_fault w.found (first (faults_from all w.regions.items n [] all ss))) sum;
  given = ap (λ ps. map seen_put ps ++ puts_from all [] all ss) puts;
  summed = ap (λ (n : ℕ). stack_from all n [] all) sum;
}

-- behind the last one
pub record Passed (w : Walk) (all : List Located) (whole : Option Fault) (puts : List Put) (stack : ℕ) : Type 0 where
  pub found : w.found ≡ whole
  pub puts_given : map seen_put w.puts.items ≡ puts
  pub summed : w.sum ≡ stack
  pub behind : IsBehind w.meanings all (reverse all)

ends : (w : Walk) (all : List Located) (ss : List Location) (whole : Option Fault) (puts : List Put) (stack : ℕ) → Passing w all [] ss whole puts stack → Passed w all whole puts stack
ends w all ss whole puts stack p = record {
  found = sym (lesser_none w.found) ∙ ap (lesser_fault w.found) (sym (no_fault_left all p.before w.regions.items w.sum ss)) ∙ p.so_far;
  puts_given = sym (append-nil (map seen_put w.puts.items)) ∙ ap (λ (ps : List Put). map seen_put w.puts.items ++ ps) (sym (no_put_left all p.before ss)) ∙ p.given;
  summed = sym (no_sum_left all p.before w.sum) ∙ p.summed;
  behind = subst (λ (before : List Located). IsBehind w.meanings all before) (all_before all p.before p.split) p.behind;
}

pub ends_at : (w : Walk) (all : List Located) (places : ℕ → ℕ) (i : ℕ) (g : Segment) (stmts : List Stmt) (ss : List Location) (whole : Option Fault) (puts : List Put) (stack : ℕ)
    → length stmts ≤ i → Passing w all (left_from places i g stmts) ss whole puts stack → Passed w all whole puts stack
ends_at w all places i g stmts ss whole puts stack past p =
    ends w all ss whole puts stack (subst (λ (ls : List Located). Passing w all ls ss whole puts stack) (no_more_statements places i g stmts past) p)

pub passes_at : (v u w : Walk) (all : List Located) (i : ℕ) (g h : Segment) (stmts : List Stmt) (stmt : Stmt) (locations : List Location) (s : Location) (whole : Option Fault) (puts : List Put) (stack : ℕ)
    → i < length stmts → stmt ≡ get_or stmts i stmt → slice_get locations i ≡ Some s → h ≡ segment_after g (action_tree stmt.action)
    → ((before : List Located) → IsBehind v.meanings all before → IsAt u.meanings all before (stood g stmt s))
    → ((before : List Located) → IsBehind v.meanings all before
    → u.found ≡ lesser_fault v.found (fault_of all before v.regions.items v.sum (stood g stmt s) s))
    → map seen_put u.puts.items ≡ map seen_put v.puts.items ++ put_of (at_statement u.meanings) (stood g stmt s) s ∷ []
    → u.regions.items ≡ v.regions.items → u.sum ≡ v.sum
    → ((before : List Located) (l : Located) → IsAt u.meanings all before l → l.action ≡ action_tree stmt.action → IsBehind w.meanings all (l ∷ before))
    → w.regions.items ≡ regions_after (at_statement u.meanings) u.regions.items (action_tree stmt.action)
    → w.sum ≡ stack_after (at_statement u.meanings) u.sum (action_tree stmt.action)
    → w.found ≡ u.found
    → w.puts.items ≡ u.puts.items
    → Passing v all (left_from (place_at locations) i g stmts) (drop i locations) whole puts stack
    → Passing w all (left_from (place_at locations) (i + 1) h stmts) (drop (i + 1) locations) whole puts stack
passes_at v u w all i g h stmts stmt locations s whole puts stack within is location moved at found put regions sum behind regions_behind sum_behind found_behind puts_behind p =
    let rest = left_from (place_at locations) (i + 1) (segment_after g (action_tree stmt.action)) stmts in
    let left : left_from (place_at locations) i g stmts ≡ stood g stmt s ∷ rest = statement_prefix (place_at locations) i g stmts stmt s.place (ap place_in location) within is in
    let prefix : Passing v all (stood g stmt s ∷ rest) (s ∷ drop (i + 1) locations) whole puts stack
    = subst (λ (ls : List Located). Passing v all ls (s ∷ drop (i + 1) locations) whole puts stack) left
    (subst (λ (ss : List Location). Passing v all (left_from (place_at locations) i g stmts) ss whole puts stack) (location_prefix locations i s location) p) in
    subst (λ (k : Segment). Passing w all (left_from (place_at locations) (i + 1) k stmts) (drop (i + 1) locations) whole puts stack) (sym moved)
    (passes v u w all rest (stood g stmt s) s (drop (i + 1) locations) whole puts stack at found put regions sum
    (λ before here. behind before (stood g stmt s) here refl) regions_behind sum_behind found_behind puts_behind prefix)

-- ---- from the first statement on

pub whole_of : (stmts : List Stmt) (locations : List Location) (regions : Regions) (found : Option Fault) → locations ≡ location_list stmts → regions ≡ first_regions
    → found ≡ lesser_fault None (first (faults_from (located (place_at locations) stmts) regions 0 [] (located (place_at locations) stmts) locations))
    → found ≡ first_fault stmts
whole_of stmts locations regions found laid begun is =
    is ∙ (λ i. first (faults_from (located (place_at (laid i)) stmts) (begun i) 0 [] (located (place_at (laid i)) stmts) (laid i)))
