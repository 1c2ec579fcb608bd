-- Each fault that is about a name has the name that it is about.
use Rattle.std.proofs.Common.{◌≡◌, ℕ, suc, ◌+◌, Bool, true, false, ◌&&◌, ◌||◌, cond, List, [], ◌∷◌, ◌++◌, reverse, length, Option, Some, None, Ok, Err, inl, inr, refl, sym, ap, ◌∙◌, subst}
use Rattle.std.specs.Prelude.{◌==◌, is_some, ◌⊎◌}
use Rattle.std.specs.List.{list_all}
use Rattle.std.specs.Option.{option_or}
use Rattle.std.proofs.Common.{append_assoc}
use Rattle.std.proofs.lemmas.Bool.{and_parts, or_cases, or_left, or_right, eqb-true, eq-eqb, false≢true}
use Rattle.std.proofs.lemmas.List.{reverse-append}
use Rattle.kc_lex.specs.Codes.{not_defined, not_public}
use Rattle.kc_lex.specs.LineFaults.{Fault}
use Rattle.kc_expr.specs.declared.values.Base.{Base}
use Rattle.kc_expr.specs.declared.values.Base.TheVariants.{Absolute, Piece}
use Rattle.kc_expr.specs.declared.values.NoValue.{NoValue}
use Rattle.kc_expr.specs.declared.values.Value.{Value}
use Rattle.kc_expr.specs.Alike.{AreAlikeValues, AreAlike, AllAlike}
use Rattle.kc_expr.specs.Tree.{Tree, Number, Chars, Name, Here, One, Two}
use Rattle.kc_expr.specs.Meaning.{Answer, is_fixed}
use Rattle.kc_source_statement.specs.declared.statement.Stmt.{Stmt}
use Rattle.kc_source_statement.specs.Trees.{ActionTree, action_tree}
use Rattle.kc_source_statement.specs.Formed.{given_names}
use Rattle.kc_source.specs.Faults.{all_said, all_uses}
use Rattle.kc_asm_symbols.specs.declared.segments.Segment.{Segment}
use Rattle.kc_asm_symbols.specs.Alike.{MeaningsAreAlike}
use Rattle.kc_asm_symbols.specs.Externals.{action_trees}
use Rattle.kc_asm_symbols.specs.Located.{Located, located_by, located_from, located_at, segment_after, first_segment, value_at, base_of, is_absolute}
use Rattle.kc_asm_symbols.specs.Meanings.{meaning, in_all}
use Rattle.kc_asm_symbols.proofs.PlaceLemmas.{all_alike}
use Rattle.kc_asm_symbols.proofs.WalkLemmas.{further}
use Rattle.kc_asm_encode.specs.Values.{is_external}
use Rattle.kc_asm_emit.specs.Arguments.{Look}
use Rattle.kc_asm_emit.specs.Content.{content}
use Rattle.kc_asm_emit.specs.Faults as values
use Rattle.kc_asm_layout.specs.StatementSizes.{at_zero}
use Rattle.kc_asm_layout.proofs.Stays.{place_is_no_number}
use Rattle.kc_asm_layout.specs.declared.location.Location.{Location}
use Rattle.kc_asm_check.specs.Codes.{Regions, first_regions, branch_faults, relocatable_faults, place_faults, regions_after, stack_after, stack_faults, counts_from_external, public_faults}
use Rattle.kc_asm_check.specs.Checking.{own_codes, codes_of, faults_from, faults_in, first_fault, location_list, place_at}
use Rattle.kc_asm_origin.specs.Uses.{used_at}
use Rattle.kc_asm_origin.specs.Values.{means_nothing, unknown_in, unknown_among, foreign_among, symbol_in, symbol_on, symbol_from, symbol_at}
use Rattle.kc_asm_origin.specs.Symbol.{symbol_of}
use Rattle.kc_asm_origin.proofs.SymbolWhole.{of_uses, of_values}
use Rattle.kc_source_laws.proofs.Tests.{holds_at, all_join}
use Rattle.kc_asm_laws.specs.Symbols.{is_about_a_name, FaultsOfNamesHaveNames}
use Rattle.kc_asm_laws.proofs.Least.{least_holds, least_code, one_holds}
use Rattle.kc_asm_laws.proofs.Others.{is_other, not_both, all_weaker, holds_weaker, or_more, or_first, or_second, some_of}
use Rattle.kc_asm_laws.proofs.Uses.{use_is_named}
use Rattle.kc_asm_laws.proofs.Unknown.{IsTame}
use Rattle.kc_asm_laws.proofs.Names.{meaning_tame}
use Rattle.kc_asm_laws.proofs.Codes.{branch_other, relocatable_other, place_other, stack_other}
use Rattle.kc_asm_laws.proofs.Seen.{is_seen, is_given, statement_seen, publics_given}

-- ---- names that answer alike: as many mean nothing, and as many count from an external

means_alike : (a b : Answer) → AreAlike a b → means_nothing a ≡ means_nothing b
means_alike (Ok v) (Ok w) h = refl
means_alike (Ok v) (Err e) h = absurd h
means_alike (Err d) (Ok w) h = absurd h
means_alike (Err d) (Err e) h = ap (λ (f : NoValue). means_nothing (Err f)) h

counts_alike : (a b : Answer) → AreAlike a b → counts_from_external a ≡ counts_from_external b
counts_alike (Ok v) (Ok w) h = ap (λ (b : Base). is_external b) h.base
counts_alike (Ok v) (Err e) h = absurd h
counts_alike (Err d) (Ok w) h = absurd h
counts_alike (Err d) (Err e) h = refl

unknown_alike : (look other : Look) → AllAlike look other → (x : Tree) → unknown_in look x ≡ unknown_in other x
unfolding unknown_in
unknown_alike look other same (Number n) = refl
unknown_alike look other same (Chars cs) = refl
unknown_alike look other same (Name n) = ap (λ (b : Bool). cond b (Some n) None) (means_alike (look n) (other n) (same n))
unknown_alike look other same Here = refl
unknown_alike look other same (One op e) = unknown_alike look other same e
unknown_alike look other same (Two op a b) = λ i. option_or (unknown_alike look other same a i) (unknown_alike look other same b i)

among_alike : (look other : Look) → AllAlike look other → (xs : List Tree) → unknown_among look xs ≡ unknown_among other xs
unfolding unknown_among
among_alike look other same [] = refl
among_alike look other same (x ∷ xs) = λ i. option_or (unknown_alike look other same x i) (among_alike look other same xs i)

foreign_alike : (look other : Look) → AllAlike look other → (ns : List (List ℕ)) → foreign_among look ns ≡ foreign_among other ns
unfolding foreign_among
foreign_alike look other same [] = refl
foreign_alike look other same (n ∷ ns) = λ i. cond (counts_alike (look n) (other n) (same n) i) (Some n) (foreign_alike look other same ns i)

-- ---- a statement

-- a code that is about no name, or that a statement is refused for with a name
abbrev named_in : Look → Look → ActionTree → ℕ → Bool
named_in look last action code = is_other code || is_some (symbol_in code look last action)

defined_named : (look last : Look) (action : ActionTree) (code : ℕ) → (code == not_defined) ≡ true → is_some (unknown_among look (action_trees action)) ≡ true
    → is_some (symbol_in code look last action) ≡ true
defined_named look last action code e h = rw e h

given_named : (look last : Look) (action : ActionTree) (code : ℕ) → (code == not_public) ≡ true → is_some (foreign_among last (given_names action)) ≡ true
    → is_some (symbol_in code look last action) ≡ true
given_named look last action code e h =
    let same : 20 ≡ code = sym (eqb-true code 20 e) in
    subst (λ (c : ℕ). is_some (symbol_in c look last action) ≡ true) same h

module _ (look last : Look) (other final : Look) (names : AllAlike look other) (finals : AllAlike last final) where
  seen_named : (action : ActionTree) (code : ℕ) → is_seen (is_some (unknown_among look (action_trees action))) code ≡ true → named_in other final action code ≡ true
  seen_named action code h =
      or_more (is_other code) ((code == not_defined) && is_some (unknown_among look (action_trees action))) (is_some (symbol_in code other final action)) (λ k.
      let both = and_parts (code == not_defined) (is_some (unknown_among look (action_trees action))) k in
      defined_named other final action code both.0 (ap is_some (sym (among_alike look other names (action_trees action))) ∙ both.1)) h

  public_named : (action : ActionTree) (code : ℕ) → is_given (is_some (foreign_among last (given_names action))) code ≡ true → named_in other final action code ≡ true
  public_named action code h =
      let both = and_parts (code == not_public) (is_some (foreign_among last (given_names action))) h in
      or_right (is_other code) (is_some (symbol_in code other final action))
      (given_named other final action code both.0 (ap is_some (sym (foreign_alike last final finals (given_names action))) ∙ both.1))

  other_named : (action : ActionTree) (cs : List ℕ) → list_all is_other cs ≡ true → list_all (named_in other final action) cs ≡ true
  other_named action cs h = all_weaker is_other (named_in other final action) cs (λ c k. or_left (is_other c) (is_some (symbol_in c other final action)) k) h

  codes_named : (regions : Regions) (sum : ℕ) (l : Located) (s : Location) → IsTame look → list_all (named_in other final l.action) (codes_of look last regions sum l s) ≡ true
  codes_named regions sum l s tame =
      let p = named_in other final l.action in
      let branches = branch_faults look s.body l.action in
      let relocatable_bytes = relocatable_faults look l.action l.segment s (content look s.form l.here l.action) in
      let places = place_faults regions look l.label l.action l.segment s in
      let stack = stack_faults look sum l.action in
      all_join p (own_codes look regions sum l s) (public_faults last l.action)
      (all_join p (values.faults_of look l.action) (branches ++ (relocatable_bytes ++ (places ++ stack)))
      (all_weaker (is_seen (is_some (unknown_among look (action_trees l.action)))) p (values.faults_of look l.action) (λ c k. seen_named l.action c k) (statement_seen look tame l.action))
      (other_named l.action (branches ++ (relocatable_bytes ++ (places ++ stack)))
      (all_join is_other branches (relocatable_bytes ++ (places ++ stack)) (branch_other look s.body l.action)
      (all_join is_other relocatable_bytes (places ++ stack) (relocatable_other look l.action l.segment s (content look s.form l.here l.action))
      (all_join is_other places stack (place_other regions look l.label l.action l.segment s) (stack_other look sum l.action))))))
      (all_weaker (is_given (is_some (foreign_among last (given_names l.action)))) p (public_faults last l.action) (λ c k. public_named l.action c k) (publics_given last l.action))

-- ---- the statements where they stand, and with each at 0

on_line : (line : ℕ) (o : Option (List ℕ)) → is_some o ≡ true → is_some (cond (line == line) o None) ≡ true
on_line line o h = rw (eq-eqb line line refl) h

module _ (law : MeaningsAreAlike) (places : ℕ → ℕ) (stmts : List Stmt) where
  abbrev real_at : ℕ → Segment → Value
  real_at i g = value_at g (places i)

  abbrev reals : List Located
  reals = located_by real_at stmts

  abbrev zeros : List Located
  zeros = located_by at_zero stmts

  places_alike : (i : ℕ) (g : Segment) → AreAlikeValues (real_at i g) (at_zero i g)
  places_alike i g = record { base = refl; tag = refl; number = λ fixed. absurd (place_is_no_number g fixed) }

  last_alike : AllAlike (in_all reals) (in_all zeros)
  last_alike q = all_alike real_at at_zero places_alike stmts q

  -- a fault that is about no name, or that the statements from one on have a name for
  abbrev named_from : List Located → List Located → Fault → Bool
  named_from passed ms f = is_other f.1 || is_some (symbol_from f.0 f.1 zeros passed ms)

  here_named : (passed ms : List Located) (m : Located) (code : ℕ) → named_in (meaning zeros passed m) (in_all zeros) m.action code ≡ true → named_from passed (m ∷ ms) (m.line, code) ≡ true
  unfolding symbol_from
  here_named passed ms m code h =
      let o = symbol_in code (meaning zeros passed m) (in_all zeros) m.action in
      let rest = symbol_from m.line code zeros (m ∷ passed) ms in
      or_more (is_other code) (is_some o) (is_some (option_or (cond (m.line == m.line) o None) rest)) (λ k. or_first (cond (m.line == m.line) o None) rest (on_line m.line o k)) h

  later_named : (passed ms : List Located) (m : Located) (f : Fault) → named_from (m ∷ passed) ms f ≡ true → named_from passed (m ∷ ms) f ≡ true
  unfolding symbol_from
  later_named passed ms m f h =
      let rest = symbol_from f.0 f.1 zeros (m ∷ passed) ms in
      or_more (is_other f.1) (is_some rest) (is_some (option_or (symbol_on f.0 f.1 zeros passed m) rest)) (λ k. or_second (symbol_on f.0 f.1 zeros passed m) rest k) h

  walk : (regions : Regions) (sum : ℕ) (before passed : List Located) (i : ℕ) (g : Segment) (ss : List Stmt) (locations : List Location)
      → reals ≡ reverse before ++ located_from real_at i g ss → zeros ≡ reverse passed ++ located_from at_zero i g ss → length before ≡ length passed
      → list_all (named_from passed (located_from at_zero i g ss)) (faults_from reals regions sum before (located_from real_at i g ss) locations) ≡ true
  unfolding faults_from located_from
  walk regions sum before passed i g [] locations here there long = refl
  walk regions sum before passed i g (s ∷ ss) [] here there long = refl
  walk regions sum before passed i g (s ∷ ss) (t ∷ ts) here there long =
      let l = located_at g (real_at i g) s in
      let m = located_at g (at_zero i g) s in
      let more = segment_after g (action_tree s.action) in
      let ls = located_from real_at (i + 1) more ss in
      let ms = located_from at_zero (i + 1) more ss in
      let look = meaning reals before l in
      let other = meaning zeros passed m in
      let codes = codes_of look (in_all reals) regions sum l t in
      let rest = faults_from reals (regions_after look regions l.action) (stack_after look sum l.action) (l ∷ before) ls ts in
      let names : AllAlike look other = law real_at at_zero places_alike stmts before passed ls ms l m here there long in
      one_holds (named_from passed (m ∷ ms)) s.line (values.least codes) rest
      (holds_weaker (named_in other (in_all zeros) m.action) (λ c. named_from passed (m ∷ ms) (s.line, c)) (values.least codes) (λ c k. here_named passed ms m c k)
      (least_code (named_in other (in_all zeros) m.action) codes (codes_named look (in_all reals) other (in_all zeros) names last_alike regions sum l t (meaning_tame reals before l))))
      (all_weaker (named_from (m ∷ passed) ms) (named_from passed (m ∷ ms)) rest (λ f k. later_named passed ms m f k)
      (walk (regions_after look regions l.action) (stack_after look sum l.action) (l ∷ before) (m ∷ passed) (i + 1) more ss ts (further reals before ls l here) (further zeros passed ms m there) (ap suc long)))

-- ---- the whole

value_is_named : MeaningsAreAlike → (stmts : List Stmt) (line code : ℕ) → first_fault stmts ≡ Some (line, code) → is_about_a_name code ≡ true
    → is_some (symbol_at line code (located_by at_zero stmts)) ≡ true
value_is_named law stmts line code e h =
    let places = place_at (location_list stmts) in
    let p = named_from law places stmts [] (located_by at_zero stmts) in
    by (or_cases (is_other code) (is_some (symbol_at line code (located_by at_zero stmts)))
    (holds_at p (first_fault stmts) (line, code) (least_holds p (faults_in stmts) (walk law places stmts first_regions 0 [] [] 0 first_segment stmts (location_list stmts) refl refl refl)) e))
  where
    by : (is_other code ≡ true) ⊎ (is_some (symbol_at line code (located_by at_zero stmts)) ≡ true) → is_some (symbol_at line code (located_by at_zero stmts)) ≡ true
    by (inl k) = absurd (not_both (is_about_a_name code) k h)
    by (inr k) = k

pub faults_of_names_have_names : MeaningsAreAlike → FaultsOfNamesHaveNames
faults_of_names_have_names law source line code (inl h) about =
    let uses = all_uses (all_said h.0) in
    let same : used_at line code uses ≡ symbol_of source line code = of_uses source line code h.1.0 h.0 (line, code) (used_at line code uses) h.1.1 h.1.2 h.2 refl in
    some_of (symbol_of source line code) (ap is_some (sym same) ∙ use_is_named h.0 line code h.2 about)
faults_of_names_have_names law source line code (inr h) about =
    let zeros = located_by at_zero h.0 in
    let same : symbol_at line code zeros ≡ symbol_of source line code = of_values source line code h.1.1.0 h.1.0 h.0 (symbol_at line code zeros) h.1.1.1 h.1.1.2 h.1.2 refl in
    some_of (symbol_of source line code) (ap is_some (sym same) ∙ value_is_named law h.0 line code h.2 about)
