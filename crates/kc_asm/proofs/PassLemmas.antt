-- A walk over the statements that writes what each of them puts.
use Rattle.std.proofs.Common.{◌≡◌, ℕ, ◌+◌, ◌<◌, ◌≤◌, List, [], ◌∷◌, map, length, drop, get_or, refl, sym, ap, subst, ◌∙◌, arith}
use Rattle.std.specs.Prelude.{slice_get, Some}
use Rattle.std.proofs.lemmas.List.{drop_all}
use Rattle.std.proofs.lemmas.Option.{slice_get_within, get_or_from_slice_get}
use Rattle.kc_expr.specs.declared.values.Value.{Value}
use Rattle.kc_source_statement.specs.declared.statement.Stmt.{Stmt}
use Rattle.kc_source_statement.specs.Trees.{action_tree}
use Rattle.kc_asm_symbols.specs.declared.segments.Segment.{Segment}
use Rattle.kc_asm_symbols.specs.Located.{Located, located_at, located_from, segment_after, value_at}
use Rattle.kc_asm_symbols.specs.Meanings.{meaning}
use Rattle.kc_asm_symbols.proofs.ExternalLemmas.{prefix}
use Rattle.kc_asm_symbols.proofs.WalkLemmas.{one_located}
use Rattle.kc_asm_layout.specs.declared.location.Location.{Location}
use Rattle.kc_asm_section.specs.Section.{Section}
use Rattle.kc_asm_check.specs.declared.checked.Put.{Put as Made}
use Rattle.kc_asm_check.specs.Checked.{seen_put}
use Rattle.kc_asm_check.specs.Checking.{place_at, place_in}
use Rattle.kc_asm_check.specs.Putting.{Put, put_of, puts_from}
use Rattle.kc_asm_check.specs.Walk.{stood}
use Rattle.kc_asm_check.proofs.WalkLemmas.{one_put}
use Rattle.kc_asm_unlinked_laws.specs.Collecting.{parts_with, parts_after, parts_from}
use Rattle.kc_asm_unlinked_laws.specs.Writable.{IsWritable, AllWritable}
use Rattle.kc_asm.specs.declared.collecting.Collecting.{Collecting}

-- what is left is what the statements that are left put, and they write, behind what stands, what all of them write
pub record Collected (w : Collecting) (all rest : List Located) (ss : List Location) (ps : List Made) (parts : List Section) : Type 0 where
  pub before : List Located
  pub given : map seen_put ps ≡ puts_from all before rest ss
  pub writable : AllWritable all before rest ss w.parts.items
  pub written : parts_from all before rest ss w.parts.items ≡ parts

one_written : (all before : List Located) (l : Located) (rest : List Located) (s : Location) (ss : List Location) (parts : List Section)
    → parts_from all before (l ∷ rest) (s ∷ ss) parts ≡ parts_from all (l ∷ before) rest ss (parts_after (meaning all before l) l s parts)
unfolding parts_from
one_written all before l rest s ss parts = refl

none_written : (all before : List Located) (ss : List Location) (parts : List Section) → parts_from all before [] ss parts ≡ parts
unfolding parts_from
none_written all before ss parts = refl

-- the first of what is left is what the statement puts

its_put : (v : Collecting) (all rest : List Located) (l : Located) (s : Location) (ss : List Location) (p : Made) (ps : List Made) (parts : List Section)
    → (d : Collected v all (l ∷ rest) (s ∷ ss) (p ∷ ps) parts) → seen_put p ≡ put_of (meaning all d.before l) l s
its_put v all rest l s ss p ps parts d = ap (λ (qs : List Put). get_or qs 0 (seen_put p)) (d.given ∙ one_put all d.before l rest s ss)

others_put : (v : Collecting) (all rest : List Located) (l : Located) (s : Location) (ss : List Location) (p : Made) (ps : List Made) (parts : List Section)
    → (d : Collected v all (l ∷ rest) (s ∷ ss) (p ∷ ps) parts) → map seen_put ps ≡ puts_from all (l ∷ d.before) rest ss
others_put v all rest l s ss p ps parts d = ap (drop 1) (d.given ∙ one_put all d.before l rest s ss)

-- v is before the statement, w behind it

writable_here : (v : Collecting) (all rest : List Located) (l : Located) (s : Location) (ss : List Location) (p : Made) (ps : List Made) (parts : List Section)
    → Collected v all (l ∷ rest) (s ∷ ss) (p ∷ ps) parts → IsWritable (seen_put p) l s v.parts.items
writable_here v all rest l s ss p ps parts d =
    subst (λ (q : Put). IsWritable q l s v.parts.items) (sym (its_put v all rest l s ss p ps parts d)) d.writable.0

passes : (v w : Collecting) (all rest : List Located) (l : Located) (s : Location) (ss : List Location) (p : Made) (ps : List Made) (parts : List Section)
    → w.parts.items ≡ parts_with (seen_put p) l s v.parts.items
    → Collected v all (l ∷ rest) (s ∷ ss) (p ∷ ps) parts → Collected w all rest ss ps parts
passes v w all rest l s ss p ps parts new d =
    let look = meaning all d.before l in
    let written : w.parts.items ≡ parts_after look l s v.parts.items
    = new ∙ ap (λ (q : Put). parts_with q l s v.parts.items) (its_put v all rest l s ss p ps parts d) in
    record {
      before = l ∷ d.before;
      given = others_put v all rest l s ss p ps parts d;
      writable = subst (λ (ts : List Section). AllWritable all (l ∷ d.before) rest ss ts) (sym written) d.writable.1;
      written = ap (parts_from all (l ∷ d.before) rest ss) written ∙ sym (one_written all d.before l rest s ss v.parts.items) ∙ d.written;
    }

-- ---- the walk, by numbers

-- the statements that are left, in the segment that is in force
abbrev pub left_from : (ℕ → ℕ) → ℕ → Segment → List Stmt → List Located
left_from places i g stmts = located_from (λ i g. value_at g (places i)) i g (drop i stmts)

statement_prefix : (locations : List Location) (i : ℕ) (g : Segment) (stmts : List Stmt) (stmt : Stmt) (s : Location) → i < length stmts → stmt ≡ get_or stmts i stmt
    → slice_get locations i ≡ Some s
    → left_from (place_at locations) i g stmts ≡ stood g stmt s ∷ left_from (place_at locations) (i + 1) (segment_after g (action_tree stmt.action)) stmts
statement_prefix locations i g stmts stmt s within is location =
    ap (located_from (λ i g. value_at g (place_at locations i)) i g) (prefix stmts i stmt within is)
    ∙ one_located (λ i g. value_at g (place_at locations i)) i g stmt (drop (i + 1) stmts)
    ∙ ap (λ (p : ℕ). located_at g (value_at g p) stmt ∷ left_from (place_at locations) (i + 1) (segment_after g (action_tree stmt.action)) stmts) (ap place_in location)

location_prefix : (ss : List Location) (i : ℕ) (s : Location) → slice_get ss i ≡ Some s → drop i ss ≡ s ∷ drop (i + 1) ss
location_prefix ss i s is = prefix ss i s (slice_get_within ss i s is) (sym (get_or_from_slice_get ss i s s is))

-- the i-th statement, its location and what it puts
pub record IsTurn (stmts : List Stmt) (locations : List Location) (ps : List Made) (i : ℕ) (stmt : Stmt) (s : Location) (p : Made) : Type 0 where
  pub within : i < length stmts
  pub statement : stmt ≡ get_or stmts i stmt
  pub location : slice_get locations i ≡ Some s
  pub some : i < length ps
  pub put : p ≡ get_or ps i p

pub turn_of : (stmts : List Stmt) (locations : List Location) (ps : List Made) (i n : ℕ) (stmt : Stmt) (s : Location) (p : Made)
    → stmt ≡ get_or stmts i stmt → slice_get locations i ≡ Some s → length ps ≡ length stmts → i ≡ n → (n < length ps) × (p ≡ get_or ps n p)
    → IsTurn stmts locations ps i stmt s p
turn_of stmts locations ps i n stmt s p is location each index turn = record {
  within = omega (arith, turn.0, index, each);
  statement = is;
  location = location;
  some = omega (arith, turn.0, index);
  put = turn.1 ∙ ap (λ (k : ℕ). get_or ps k p) (sym index);
}

prefixes : (v : Collecting) (all : List Located) (g : Segment) (stmts : List Stmt) (locations : List Location) (ps : List Made) (i : ℕ) (stmt : Stmt) (s : Location) (p : Made) (parts : List Section)
    → IsTurn stmts locations ps i stmt s p
    → Collected v all (left_from (place_at locations) i g stmts) (drop i locations) (drop i ps) parts
    → Collected v all (stood g stmt s ∷ left_from (place_at locations) (i + 1) (segment_after g (action_tree stmt.action)) stmts) (s ∷ drop (i + 1) locations) (p ∷ drop (i + 1) ps) parts
prefixes v all g stmts locations ps i stmt s p parts t d =
    subst (λ (ls : List Located). Collected v all ls (s ∷ drop (i + 1) locations) (p ∷ drop (i + 1) ps) parts) (statement_prefix locations i g stmts stmt s t.within t.statement t.location)
    (subst (λ (ss : List Location). Collected v all (left_from (place_at locations) i g stmts) ss (p ∷ drop (i + 1) ps) parts) (location_prefix locations i s t.location)
    (subst (λ (qs : List Made). Collected v all (left_from (place_at locations) i g stmts) (drop i locations) qs parts) (prefix ps i p t.some t.put) d))

pub writable_at : (v : Collecting) (all : List Located) (g : Segment) (stmts : List Stmt) (locations : List Location) (ps : List Made) (i : ℕ) (stmt : Stmt) (s : Location) (p : Made) (parts : List Section)
    → IsTurn stmts locations ps i stmt s p
    → Collected v all (left_from (place_at locations) i g stmts) (drop i locations) (drop i ps) parts → IsWritable (seen_put p) (stood g stmt s) s v.parts.items
writable_at v all g stmts locations ps i stmt s p parts t d =
    writable_here v all (left_from (place_at locations) (i + 1) (segment_after g (action_tree stmt.action)) stmts) (stood g stmt s) s (drop (i + 1) locations) p (drop (i + 1) ps) parts
    (prefixes v all g stmts locations ps i stmt s p parts t d)

pub passes_at : (v w : Collecting) (all : List Located) (g h : Segment) (stmts : List Stmt) (locations : List Location) (ps : List Made) (i : ℕ) (stmt : Stmt) (s : Location) (p : Made) (parts : List Section)
    → IsTurn stmts locations ps i stmt s p → h ≡ segment_after g (action_tree stmt.action)
    → w.parts.items ≡ parts_with (seen_put p) (stood g stmt s) s v.parts.items
    → Collected v all (left_from (place_at locations) i g stmts) (drop i locations) (drop i ps) parts
    → Collected w all (left_from (place_at locations) (i + 1) h stmts) (drop (i + 1) locations) (drop (i + 1) ps) parts
passes_at v w all g h stmts locations ps i stmt s p parts t moved new d =
    subst (λ (f : Segment). Collected w all (left_from (place_at locations) (i + 1) f stmts) (drop (i + 1) locations) (drop (i + 1) ps) parts) (sym moved)
    (passes v w all (left_from (place_at locations) (i + 1) (segment_after g (action_tree stmt.action)) stmts) (stood g stmt s) s (drop (i + 1) locations) p (drop (i + 1) ps) parts new
    (prefixes v all g stmts locations ps i stmt s p parts t d))

-- ---- behind the last statement

no_more_statements : (locations : List Location) (i : ℕ) (g : Segment) (stmts : List Stmt) → length stmts ≤ i → left_from (place_at locations) i g stmts ≡ []
unfolding located_from
no_more_statements locations i g stmts past = ap (located_from (λ i g. value_at g (place_at locations i)) i g) (drop_all i stmts past)

pub written_all : (w : Collecting) (all : List Located) (i : ℕ) (g : Segment) (stmts : List Stmt) (locations ss : List Location) (ps : List Made) (parts : List Section) → length stmts ≤ i
    → Collected w all (left_from (place_at locations) i g stmts) ss ps parts → w.parts.items ≡ parts
written_all w all i g stmts locations ss ps parts past d =
    sym (none_written all d.before ss w.parts.items)
    ∙ ap (λ (ls : List Located). parts_from all d.before ls ss w.parts.items) (sym (no_more_statements locations i g stmts past)) ∙ d.written
