-- The names of a source without a fault.
use Rattle.std.proofs.Common.{◌≡◌, ℕ, Bool, true, false, not, ◌&&◌, ◌||◌, cond, List, [], ◌∷◌, ◌++◌, map, refl, sym, ap, ◌∙◌}
use Rattle.std.specs.Prelude.{Some, None, Ok, Err}
use Rattle.std.specs.List.{list_all, list_any, flat_map, AllByRecursion, IsDistinct}
use Rattle.std.specs.Str.{bytes_eq}
use Rattle.std.specs.Cmp.Lexicographic.{bytes_decides}
use Rattle.std.proofs.lemmas.Bool.{and_parts}
use Rattle.std.proofs.lemmas.List.Folds.{list_all-append, list_all-map}
use Rattle.kc_expr.specs.declared.values.Base.{Base}
use Rattle.kc_expr.specs.declared.values.Base.TheVariants.{Fixed, Absolute, Piece, External}
use Rattle.kc_expr.specs.Meaning.{Answer}
use Rattle.kc_expr.specs.Known.{is_known}
use Rattle.kc_obj_module.specs.declared.parts.Taken.{Taken}
use Rattle.kc_obj_module.specs.Names.{is_name, is_stack_name}
use Rattle.kc_obj_module.specs.Pieces.{is_register_kind}
use Rattle.kc_source_statement.specs.Trees.{ActionTree}
use Rattle.kc_source_statement.specs.Trees as trees
use Rattle.kc_source_statement.specs.Formed.{names_said, given_names}
use Rattle.kc_asm_symbols.specs.Located.{Located}
use Rattle.kc_asm_symbols.specs.Externals.{externals_from, declared, declared_names, taken, statement_uses_stack, stack_name}
use Rattle.kc_asm_symbols.specs.Meanings.{meaning, in_all}
use Rattle.kc_asm_symbols.specs.Reported.{is_public}
use Rattle.kc_asm_section.specs.declared.unlinked.Public.{Public as Given}
use Rattle.kc_asm_section.specs.Section.{Section}
use Rattle.kc_asm_section.specs.UnlinkedModules.{base_exists, is_given_base}
use Rattle.kc_asm_section.specs.UnlinkedModules as unlinked_modules
use Rattle.kc_asm_section.specs.Publics.{is_same_name}
use Rattle.kc_asm_layout.specs.declared.location.Location.{Location}
use Rattle.kc_asm_encode.specs.Values.{is_external}
use Rattle.kc_asm_check.specs.Codes.{Regions, regions_after, stack_after, counts_from_external, name_faults, public_faults}
use Rattle.kc_asm_unlinked_laws.specs.Collecting.{parts_after, name_by, name_of, all_given, distinct_from, given_as, publics_of}
use Rattle.kc_asm_unlinked_laws.proofs.Lists.{nothing_left}
use Rattle.kc_asm_unlinked_laws.proofs.Faultless.{unless}
use Rattle.kc_asm_unlinked_laws.proofs.Walking.{AllSteps}
use Rattle.kc_asm_unlinked_laws.proofs.Read.{can_report, names_reported}

-- what an object can report of a statement
pub record IsReporting (last : List ℕ → Answer) (l : Located) : Type 0 where
  pub names : list_all is_public (names_said l.action) ≡ true
  pub publics : public_faults last l.action ≡ []

pub all_report : (all : List Located) (regions : Regions) (sum : ℕ) (before ls : List Located) (ss : List Location) (parts : List Section) → AllSteps all regions sum before ls ss parts
    → list_all can_report ls ≡ true → AllByRecursion (IsReporting (in_all all)) ls
unfolding AllSteps
all_report all regions sum before [] ss parts h reported = tt
all_report all regions sum before (l ∷ ls) [] parts h reported = absurd h
all_report all regions sum before (l ∷ ls) (s ∷ ss) parts h reported =
    let look = meaning all before l in
    let both = and_parts (can_report l) (list_all can_report ls) reported in (
      record { names = names_reported l both.0; publics = h.0.faultless.publics },
      all_report all (regions_after look regions l.action) (stack_after look sum l.action) (l ∷ before) ls ss (parts_after look l s parts) h.1 both.1,
    )

-- a public name is a name
public_name : (n : List ℕ) → is_public n ≡ true → is_name n ≡ true
public_name n h = (and_parts (is_name n) (not (is_stack_name n)) h).0

public_names : (ns : List (List ℕ)) → list_all is_public ns ≡ true → list_all is_name ns ≡ true
public_names [] h = refl
public_names (n ∷ ns) h =
    let both = and_parts (is_public n) (list_all is_public ns) h in
    (λ i. public_name n both.0 i && public_names ns both.1 i)

-- ---- the name of the module

named_by : (action : ActionTree) (other : List ℕ) → list_all is_public (names_said action) ≡ true → is_name other ≡ true → is_name (name_by action other) ≡ true
named_by (trees.Module None stack) other h k = k
named_by (trees.Module (Some name) stack) other h k = public_name name (and_parts (is_public name) true h).0
named_by _ other h k = k

module _ (last : List ℕ → Answer) where
  pub is_named : (ls : List Located) → AllByRecursion (IsReporting last) ls → is_name (name_of ls) ≡ true
  unfolding name_of
  is_named [] h = refl
  is_named (l ∷ ls) h = named_by l.action (name_of ls) h.0.names (is_named ls h.1)

  -- ---- externals

  declared_are : (action : ActionTree) → list_all is_public (names_said action) ≡ true → list_all is_name (declared_names action) ≡ true
  declared_are (trees.Extrn names) h = public_names names h
  declared_are _ h = refl

  stack_is : (b : Bool) → list_all (λ (t : Taken). is_name t.name) (cond b (taken false stack_name ∷ []) []) ≡ true
  stack_is true = refl
  stack_is false = refl

  pub externals_are : (used : Bool) (ls : List Located) → AllByRecursion (IsReporting last) ls → list_all (λ (t : Taken). is_name t.name) (externals_from used ls) ≡ true
  unfolding externals_from
  externals_are used [] h = refl
  externals_are used (l ∷ ls) h =
      let names = map (taken (is_register_kind l.segment.kind)) (declared_names l.action) in
      let stack = cond (statement_uses_stack l.action && not used) (taken false stack_name ∷ []) [] in
      let p : Taken → Bool = λ t. is_name t.name in
      list_all-append p (declared used l.segment.kind l.action) (externals_from (used || statement_uses_stack l.action) ls)
      ∙ (λ i. (list_all-append p names stack
      ∙ (λ j. (list_all-map p (taken (is_register_kind l.segment.kind)) (declared_names l.action) ∙ declared_are l.action h.0.names) j && stack_is (statement_uses_stack l.action && not used) j)) i
      && externals_are (used || statement_uses_stack l.action) ls h.1 i)

  -- ---- public names

  -- a public name counts from no external
  abbrev is_good : List ℕ → Bool
  is_good name = is_public name && not (counts_from_external (last name))

  good_names : (names : List (List ℕ)) → list_all is_public names ≡ true → flat_map (name_faults last) names ≡ [] → list_all is_good names ≡ true
  good_names [] h e = refl
  good_names (n ∷ ns) h e =
      let parts = and_parts (is_public n) (list_all is_public ns) h in
      let rest = nothing_left (name_faults last n) (flat_map (name_faults last) ns) e in
      let none : counts_from_external (last n) ≡ false = unless (counts_from_external (last n)) 20 rest.0 in
      (λ i. (parts.0 i && not (none i)) && good_names ns parts.1 rest.1 i)

  good_given : (action : ActionTree) → list_all is_public (names_said action) ≡ true → public_faults last action ≡ [] → list_all is_good (given_names action) ≡ true
  good_given (trees.Public names) h e = good_names names h e
  good_given _ h e = refl

  pub all_good : (ls : List Located) → AllByRecursion (IsReporting last) ls → list_all is_good (all_given ls) ≡ true
  unfolding all_given
  all_good [] h = refl
  all_good (l ∷ ls) h = list_all-append is_good (given_names l.action) (all_given ls) ∙ (λ i. good_given l.action h.0.names h.0.publics i && all_good ls h.1 i)

  pub distinct_good : (seen ns : List (List ℕ)) → list_all is_good ns ≡ true → list_all is_good (distinct_from seen ns) ≡ true
  unfolding distinct_from
  distinct_good seen [] h = refl
  distinct_good seen (n ∷ ns) h = by (list_any (bytes_eq n) seen) (distinct_good seen ns) (distinct_good (n ∷ seen) ns)
    where
      parts : (is_good n ≡ true) × (list_all is_good ns ≡ true)
      parts = and_parts (is_good n) (list_all is_good ns) h

      by : (b : Bool) → (list_all is_good ns ≡ true → list_all is_good (distinct_from seen ns) ≡ true) → (list_all is_good ns ≡ true → list_all is_good (distinct_from (n ∷ seen) ns) ≡ true)
          → list_all is_good (cond b (distinct_from seen ns) (n ∷ distinct_from (n ∷ seen) ns)) ≡ true
      by true f g = f parts.1
      by false f g = (λ i. parts.0 i && g parts.1 i)

  module _ (count : ℕ) (known : (name : List ℕ) → is_known (base_exists count) (last name) ≡ true) where
    given_base : (b : Base) → not (is_external b) ≡ true → base_exists count b ≡ true → is_given_base b ≡ true
    given_base Fixed h k = refl
    given_base Absolute h k = refl
    given_base (Piece p) h k = k
    given_base (External e) h k = absurd (cc h)

    one_public : (n : List ℕ) (a : Answer) → is_public n ≡ true → not (counts_from_external a) ≡ true → is_known (base_exists count) a ≡ true → list_all unlinked_modules.is_public (given_as n a) ≡ true
    one_public n (Ok v) h f k = (λ i. (h i && given_base v.base f k i) && true)
    one_public n (Err fault) h f k = refl

    pub publics_are : (ns : List (List ℕ)) → list_all is_good ns ≡ true → list_all unlinked_modules.is_public (publics_of last ns) ≡ true
    unfolding publics_of
    publics_are [] h = refl
    publics_are (n ∷ ns) h =
        let parts = and_parts (is_good n) (list_all is_good ns) h in
        let own = and_parts (is_public n) (not (counts_from_external (last n))) parts.0 in
        list_all-append unlinked_modules.is_public (given_as n (last n)) (publics_of last ns) ∙ (λ i. one_public n (last n) own.0 own.1 (known n) i && publics_are ns parts.1 i)

  -- ---- no public name twice

  or_none : (a b : Bool) → (a || b) ≡ false → (a ≡ false) × (b ≡ false)
  or_none true b e = absurd (cc e)
  or_none false b e = (refl, e)

  swapped : (m n : List ℕ) → bytes_eq m n ≡ false → bytes_eq n m ≡ false
  swapped m n e = by (bytes_eq n m) refl
    where
      clash : bytes_eq m m ≡ true
      clash = (bytes_decides m m).1 refl

      by : (b : Bool) → bytes_eq n m ≡ b → b ≡ false
      by true f =
          let same : n ≡ m = (bytes_decides n m).0 f in
          let wrong : true ≡ false = sym clash ∙ ap (bytes_eq m) (sym same) ∙ e in
          absurd (cc wrong)
      by false f = refl

  -- a name that is among those that were given
  abbrev IsSeen : List ℕ → List (List ℕ) → Type 0
  IsSeen name seen = (m : List ℕ) → list_any (bytes_eq m) seen ≡ false → bytes_eq name m ≡ false

  more_seen : (name n : List ℕ) (seen : List (List ℕ)) → IsSeen name seen → IsSeen name (n ∷ seen)
  more_seen name n seen h m e = h m (or_none (bytes_eq m n) (list_any (bytes_eq m) seen) e).1

  now_seen : (n : List ℕ) (seen : List (List ℕ)) → IsSeen n (n ∷ seen)
  now_seen n seen m e = swapped m n (or_none (bytes_eq m n) (list_any (bytes_eq m) seen) e).0

  no_other : (p : Given) (n : List ℕ) (a : Answer) (rest : List Given) → bytes_eq p.name n ≡ false → AllByRecursion (λ q. is_same_name p q ≡ false) rest
      → AllByRecursion (λ q. is_same_name p q ≡ false) (given_as n a ++ rest)
  no_other p n (Ok v) rest e h = (e, h)
  no_other p n (Err fault) rest e h = h

  not_again : (p : Given) (seen ns : List (List ℕ)) → IsSeen p.name seen → AllByRecursion (λ q. is_same_name p q ≡ false) (publics_of last (distinct_from seen ns))
  unfolding publics_of distinct_from
  not_again p seen [] h = tt
  not_again p seen (n ∷ ns) h = by (list_any (bytes_eq n) seen) refl (not_again p seen ns h) (not_again p (n ∷ seen) ns (more_seen p.name n seen h))
    where
      by : (b : Bool) → list_any (bytes_eq n) seen ≡ b → AllByRecursion (λ q. is_same_name p q ≡ false) (publics_of last (distinct_from seen ns))
          → AllByRecursion (λ q. is_same_name p q ≡ false) (publics_of last (distinct_from (n ∷ seen) ns))
          → AllByRecursion (λ q. is_same_name p q ≡ false) (publics_of last (cond b (distinct_from seen ns) (n ∷ distinct_from (n ∷ seen) ns)))
      by true e f g = f
      by false e f g = no_other p n (last n) (publics_of last (distinct_from (n ∷ seen) ns)) (h n e) g

  pub publics_distinct : (seen ns : List (List ℕ)) → IsDistinct is_same_name (publics_of last (distinct_from seen ns))
  unfolding publics_of distinct_from IsDistinct
  publics_distinct seen [] = tt
  publics_distinct seen (n ∷ ns) = by (list_any (bytes_eq n) seen) (publics_distinct seen ns) (publics_distinct (n ∷ seen) ns)
    where
      with : (a : Answer) → IsDistinct is_same_name (publics_of last (distinct_from (n ∷ seen) ns)) → IsDistinct is_same_name (given_as n a ++ publics_of last (distinct_from (n ∷ seen) ns))
      with (Ok v) g = (not_again (record { name = n; value = v }) (n ∷ seen) ns (now_seen n seen), g)
      with (Err fault) g = g

      by : (b : Bool) → IsDistinct is_same_name (publics_of last (distinct_from seen ns)) → IsDistinct is_same_name (publics_of last (distinct_from (n ∷ seen) ns))
          → IsDistinct is_same_name (publics_of last (cond b (distinct_from seen ns) (n ∷ distinct_from (n ∷ seen) ns)))
      by true f g = f
      by false f g = with (last n) g
