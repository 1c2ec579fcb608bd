-- Where a statement has the code of a name that is not defined, one of its expressions has a name that means nothing; where it
-- has the code of a name that PUBLIC may not give, one of its names counts from an external.
use Rattle.std.proofs.Common.{◌≡◌, ℕ, Bool, true, false, ◌&&◌, ◌||◌, cond, List, [], ◌∷◌, ◌++◌, Option, Some, None, Ok, Err, refl}
use Rattle.std.specs.Prelude.{◌==◌, is_some}
use Rattle.std.specs.List.{list_all, flat_map}
use Rattle.std.specs.Option.{option_or, option_to_list}
use Rattle.std.proofs.lemmas.Bool.{and_from, or_left}
use Rattle.kc_lex.specs.Codes.{code_number, not_defined, not_public}
use Rattle.kc_expr.specs.declared.values.NoValue.TheVariants.{Fault, ReportedElsewhere}
use Rattle.kc_expr.specs.Tree.{Tree, Number, Chars, Name, Here, One, Two}
use Rattle.kc_expr.specs.Meaning.{Answer, is_fixed, answer_by}
use Rattle.kc_source_statement.specs.Trees.{ItemTree, ArgTree, ActionTree}
use Rattle.kc_source_statement.specs.Trees as trees
use Rattle.kc_source_statement.specs.Formed.{given_names}
use Rattle.kc_asm_symbols.specs.Externals.{arg_trees, item_trees, all_trees, action_trees}
use Rattle.kc_asm_encode.specs.Faults.{fault_of}
use Rattle.kc_asm_emit.specs.Arguments.{Look, arguments}
use Rattle.kc_asm_emit.specs.Faults.{faults_in, value_faults, unless_fixed, fixed_faults, part_faults, long_faults, item_faults, operand_faults, faults_of}
use Rattle.kc_asm_check.specs.Codes.{when, counts_from_external, name_faults, public_faults}
use Rattle.kc_asm_origin.specs.Values.{unknown_in, unknown_among, foreign_among}
use Rattle.kc_source_laws.proofs.Tests.{all_join}
use Rattle.kc_asm_laws.proofs.Others.{is_other, all_weaker, option_holds, or_more, or_first, or_second}
use Rattle.kc_asm_laws.proofs.Unknown.{IsTame, IsReportedBy, tree_reported}
use Rattle.kc_asm_laws.proofs.Codes.{operation_other}

-- a code that is about no name, or that of a name that is not defined, where there is one
abbrev pub is_seen : Bool → ℕ → Bool
is_seen found code = is_other code || ((code == not_defined) && found)

abbrev AreSeen : Bool → List ℕ → Type 0
AreSeen found cs = list_all (is_seen found) cs ≡ true

and_more : (a x y : Bool) → (x ≡ true → y ≡ true) → (a && x) ≡ true → (a && y) ≡ true
and_more true x y each h = each h
and_more false x y each h = h

seen_more : (x y : Bool) (cs : List ℕ) → (x ≡ true → y ≡ true) → AreSeen x cs → AreSeen y cs
seen_more x y cs each h = all_weaker (is_seen x) (is_seen y) cs (λ c k. or_more (is_other c) ((c == not_defined) && x) ((c == not_defined) && y) (λ g. and_more (c == not_defined) x y each g) k) h

other_seen : (x : Bool) (cs : List ℕ) → list_all is_other cs ≡ true → AreSeen x cs
other_seen x cs h = all_weaker is_other (is_seen x) cs (λ c k. or_left (is_other c) ((c == not_defined) && x) k) h

-- ---- one expression

here_seen : (o : Option (List ℕ)) (a : Answer) → IsReportedBy o a → AreSeen (is_some o) (faults_in a)
here_seen o (Ok v) h = refl
here_seen o (Err ReportedElsewhere) h = refl
here_seen None (Err (Fault c)) h = and_from (is_seen false (code_number c)) true (or_left (is_other (code_number c)) ((code_number c == not_defined) && false) h) refl
here_seen (Some n) (Err (Fault c)) h =
    and_from (is_seen true (code_number c)) true (or_more (is_other (code_number c)) (code_number c == not_defined) ((code_number c == not_defined) && true) (λ k. and_from (code_number c == not_defined) true k refl) h) refl

unless_seen : (o : Option (List ℕ)) (a : Answer) → IsReportedBy o a → AreSeen (is_some o) (unless_fixed a)
unless_seen o (Ok v) h = elim (is_fixed v.base) as (λ b. AreSeen (is_some o) (cond b [] (10 ∷ []))) [ true ↦ refl | false ↦ refl ]
unless_seen o (Err ReportedElsewhere) h = refl
unless_seen None (Err (Fault c)) h = here_seen None (Err (Fault c)) h
unless_seen (Some n) (Err (Fault c)) h = here_seen (Some n) (Err (Fault c)) h

module _ (look : Look) (is : IsTame look) where
  abbrev unknown : List Tree → Bool
  unknown xs = is_some (unknown_among look xs)

  -- ---- expressions of a list

  first_unknown : (x : Tree) (xs : List Tree) → is_some (unknown_in look x) ≡ true → unknown (x ∷ xs) ≡ true
  unfolding unknown_among
  first_unknown x xs h = or_first (unknown_in look x) (unknown_among look xs) h

  later_unknown : (x : Tree) (xs : List Tree) → unknown xs ≡ true → unknown (x ∷ xs) ≡ true
  unfolding unknown_among
  later_unknown x xs h = or_second (unknown_in look x) (unknown_among look xs) h

  -- where one of the expressions in front has it, so has one of all
  cons_unknown : (x : Tree) (xs ys : List Tree) → (unknown xs ≡ true → unknown ys ≡ true) → unknown (x ∷ xs) ≡ true → unknown (x ∷ ys) ≡ true
  unfolding unknown_among
  cons_unknown x xs ys each h = by (unknown_in look x) h
    where
      by : (o : Option (List ℕ)) → is_some (option_or o (unknown_among look xs)) ≡ true → is_some (option_or o (unknown_among look ys)) ≡ true
      by None k = each k
      by (Some n) k = refl

  none_unknown : unknown [] ≡ true → (ys : List Tree) → unknown ys ≡ true
  unfolding unknown_among
  none_unknown h ys = absurd (cc h)

  prefix_unknown : (xs ys : List Tree) → unknown xs ≡ true → unknown (xs ++ ys) ≡ true
  prefix_unknown [] ys h = none_unknown h ys
  prefix_unknown (x ∷ xs) ys h = cons_unknown x xs (xs ++ ys) (λ k. prefix_unknown xs ys k) h

  back_unknown : (xs ys : List Tree) → unknown ys ≡ true → unknown (xs ++ ys) ≡ true
  back_unknown [] ys h = h
  back_unknown (x ∷ xs) ys h = later_unknown x (xs ++ ys) (back_unknown xs ys h)

  -- ---- one expression of a statement

  value_seen : (x : Tree) (xs : List Tree) → AreSeen (unknown (x ∷ xs)) (value_faults look x)
  value_seen x xs =
      seen_more (is_some (unknown_in look x)) (unknown (x ∷ xs)) (value_faults look x) (λ h. first_unknown x xs h) (here_seen (unknown_in look x) (answer_by look x) (tree_reported look is x))

  fixed_seen : (x : Tree) (xs : List Tree) → AreSeen (unknown (x ∷ xs)) (fixed_faults look x)
  fixed_seen x xs =
      seen_more (is_some (unknown_in look x)) (unknown (x ∷ xs)) (fixed_faults look x) (λ h. first_unknown x xs h) (unless_seen (unknown_in look x) (answer_by look x) (tree_reported look is x))

  part_seen : (o : Option Tree) → AreSeen (unknown (action_trees (trees.Cseg o))) (part_faults look o)
  part_seen None = refl
  part_seen (Some x) = fixed_seen x []

  -- ---- items and operands

  long_seen : (x : Tree) → AreSeen (unknown (x ∷ [])) (long_faults look x)
  long_seen (Number n) = refl
  long_seen (Chars cs) = value_seen (Chars cs) []
  long_seen (Name n) = value_seen (Name n) []
  long_seen Here = value_seen Here []
  long_seen (One op e) = value_seen (One op e) []
  long_seen (Two op a b) = value_seen (Two op a b) []

  item_seen : (size : ℕ) (i : ItemTree) → AreSeen (unknown (item_trees i)) (item_faults look size i)
  item_seen size (trees.Value x) = elim ((size == 1) || (size == 2)) as (λ b. AreSeen (unknown (x ∷ [])) (cond b (value_faults look x) (long_faults look x))) [ true ↦ value_seen x [] | false ↦ long_seen x ]
  item_seen size (trees.Chars cs) = refl

  operand_seen : (a : ArgTree) → AreSeen (unknown (arg_trees a)) (operand_faults look a)
  operand_seen (trees.Plain x) = value_seen x []
  operand_seen (trees.Immediate x) = value_seen x []
  operand_seen (trees.Indirect r) = value_seen r []
  operand_seen (trees.Increment r) = value_seen r []
  operand_seen (trees.Indexed x r) =
      all_join (is_seen (unknown (x ∷ r ∷ []))) (value_faults look x) (value_faults look r) (value_seen x (r ∷ []))
      (seen_more (unknown (r ∷ [])) (unknown (x ∷ r ∷ [])) (value_faults look r) (λ h. later_unknown x (r ∷ []) h) (value_seen r []))

  -- those of the elements of a list
  each_seen : {A : Type 0} (f : A → List ℕ) (t : A → List Tree) → ((a : A) → AreSeen (unknown (t a)) (f a)) → (xs : List A) → AreSeen (unknown (all_trees t xs)) (flat_map f xs)
  unfolding all_trees
  each_seen f t each [] = refl
  each_seen f t each (x ∷ xs) =
      all_join (is_seen (unknown (t x ++ all_trees t xs))) (f x) (flat_map f xs)
      (seen_more (unknown (t x)) (unknown (t x ++ all_trees t xs)) (f x) (λ h. prefix_unknown (t x) (all_trees t xs) h) (each x))
      (seen_more (unknown (all_trees t xs)) (unknown (t x ++ all_trees t xs)) (flat_map f xs) (λ h. back_unknown (t x) (all_trees t xs) h) (each_seen f t each xs))

  -- ---- statements

  pub statement_seen : (action : ActionTree) → AreSeen (unknown (action_trees action)) (faults_of look action)
  statement_seen (trees.Module name stack) = part_seen stack
  statement_seen (trees.Cseg at) = part_seen at
  statement_seen (trees.Dseg at) = part_seen at
  statement_seen (trees.Rseg at) = part_seen at
  statement_seen (trees.Sseg size) = fixed_seen size []
  statement_seen (trees.Equ name x) = value_seen x []
  statement_seen (trees.Set name x) = value_seen x []
  statement_seen (trees.Define size items) = each_seen (item_faults look size) item_trees (item_seen size) items
  statement_seen (trees.Reserve size count) = fixed_seen count []
  statement_seen (trees.Org x) = fixed_seen x []
  statement_seen (trees.Operation word args) =
      all_join (is_seen (unknown (all_trees arg_trees args))) (flat_map (operand_faults look) args) (option_to_list (fault_of word (arguments look args)))
      (each_seen (operand_faults look) arg_trees operand_seen args)
      (other_seen (unknown (all_trees arg_trees args)) (option_to_list (fault_of word (arguments look args))) (option_holds is_other (fault_of word (arguments look args)) (operation_other word (arguments look args))))
  statement_seen trees.Bare = refl
  statement_seen (trees.Public names) = refl
  statement_seen (trees.Extrn names) = refl
  statement_seen trees.Even = refl
  statement_seen trees.End = refl

-- ---- public names

abbrev pub is_given : Bool → ℕ → Bool
is_given found code = (code == not_public) && found

abbrev AreGiven : Bool → List ℕ → Type 0
AreGiven found cs = list_all (is_given found) cs ≡ true

given_more : (x y : Bool) (cs : List ℕ) → (x ≡ true → y ≡ true) → AreGiven x cs → AreGiven y cs
given_more x y cs each h = all_weaker (is_given x) (is_given y) cs (λ c k. and_more (c == not_public) x y each k) h

names_given : (last : Look) (ns : List (List ℕ)) → AreGiven (is_some (foreign_among last ns)) (flat_map (name_faults last) ns)
unfolding foreign_among
names_given last [] = refl
names_given last (n ∷ ns) = by (counts_from_external (last n)) (names_given last ns)
  where
    by : (b : Bool) → AreGiven (is_some (foreign_among last ns)) (flat_map (name_faults last) ns) → AreGiven (is_some (cond b (Some n) (foreign_among last ns))) (when b not_public ++ flat_map (name_faults last) ns)
    by true h = given_more (is_some (foreign_among last ns)) true (flat_map (name_faults last) ns) (λ k. refl) h
    by false h = h

pub publics_given : (last : Look) (action : ActionTree) → AreGiven (is_some (foreign_among last (given_names action))) (public_faults last action)
publics_given last (trees.Public names) = names_given last names
publics_given last action = refl
