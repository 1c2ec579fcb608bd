-- The strings of a statement stand on its line.
use Rattle.std.proofs.Common.{◌≡◌, ℕ, Bool, true, false, cond, ◌||◌, ◌&&◌, List, [], ◌∷◌, ◌++◌, map, drop, ◌==◌, Option, Some, None, Result, Ok, Err, refl}
use Rattle.std.specs.Option.{option_map}
use Rattle.std.specs.List.{list_all}
use Rattle.std.proofs.lemmas.Bool.{and_parts, and_from}
use Rattle.kc_lex.specs.declared.token.Token.{Token}
use Rattle.kc_lex.specs.declared.token.TokenKind.{TokenKind}
use Rattle.kc_lex.specs.declared.token.TokenKind.TheVariants as kinds
use Rattle.kc_lex.specs.declared.words.Operands.{Operands}
use Rattle.kc_lex.specs.declared.words.Directive.{Directive}
use Rattle.kc_lex.specs.declared.words.Directive.TheVariants as directives
use Rattle.kc_lex.specs.Kinds.{is_sign, is_name_kind, is_chars_kind, has_label, begins_word}
use Rattle.kc_lex.specs.Words.{operands_for, directive_of}
use Rattle.kc_lex.specs.Takes.{takes}
use Rattle.kc_lex.specs.Lists.{in_first}
use Rattle.kc_expr.specs.Tree.{Tree, Chars, Name, Here}
use Rattle.kc_expr.specs.Grammar.{Reading, of_kind, alone, names_value, is_short, parsed}
use Rattle.kc_expr.specs.Derives.{Derives, from_token, from_group, from_tighter, from_unary, from_binary, IsLongest}
use Rattle.kc_expr.proofs.Longest.{parsed_is_longest}
use Rattle.kc_source_statement.specs.Trees.{ItemTree, ArgTree, ActionTree, notation}
use Rattle.kc_source_statement.specs.Trees as trees
use Rattle.kc_source_statement.specs.Operands.{is_nil, whole, parts, and_some, all_some, operand, operands_in, string_of, string_or, item, items_in, names_in}
use Rattle.kc_source_statement.specs.Forms.{IsOperand, is_plain, is_immediate, is_indirect, is_increment, is_indexed, OperandsHaveForms}
use Rattle.kc_source_statement.specs.Statements.{segment_in, stack_in, is_stack_part, is_end_of_group, grouped_whole, past_main, module_in, defined_in, directive_in, definition_in, or_form_fault, by_directive, operation_in, by_operation, by_first, only_defining, second_directive, action_in, bars_label, first_directive, behind_label, statement_in}
use Rattle.kc_source_statement.proofs.OperandLemmas.{whole_has_form}
use Rattle.kc_asm_symbols.specs.Externals.{optional_tree, arg_trees, item_trees, all_trees}
use Rattle.kc_source_laws.specs.Strings.{strings_pass, item_passes, action_passes, read_passes, StringsStandOnTheLine}
use Rattle.kc_source_laws.proofs.Tests.{all_split, all_join, all_drop, Holds, holds_at, mapped, always, either}

module _ (test : List ℕ → Bool) where
  abbrev passes : Token → Bool
  passes t = test t.text

  abbrev pass : List Token → Type 0
  pass ts = list_all (λ t. test t.text) ts ≡ true

  abbrev tree_passes : Tree → Bool
  tree_passes x = strings_pass test x

  -- ---- expressions

  kind_passes : (k : TokenKind) (t : Token) → test t.text ≡ true → Holds (strings_pass test) (of_kind k t)
  unfolding strings_pass
  kind_passes kinds.Number t h = refl
  kind_passes kinds.Chars t h = either (strings_pass test) (is_short t.text) (Some (Chars t.text)) None h tt
  kind_passes kinds.Name t h = either (strings_pass test) (names_value t.text) (Some (Name t.text)) None refl tt
  kind_passes kinds.Sign t h = either (strings_pass test) (is_sign 36 t) (Some Here) None refl tt

  derived : {l : ℕ} {ts : List Token} {x : Tree} → Derives l ts x → list_all (λ t. test t.text) ts ≡ true → strings_pass test x ≡ true
  unfolding strings_pass
  derived (from_token {t} {s} {e} a b) h = holds_at (strings_pass test) (alone t) e (kind_passes t.kind t (and_parts (test t.text) (list_all passes s) h).0) a
  derived (from_group {a} {e} b ts s o d c f) h =
      let rest : pass (ts ++ b ∷ s) = (and_parts (test a.text) (list_all passes (ts ++ b ∷ s)) h).1 in
      derived d (all_split passes ts (b ∷ s) rest).0
  derived (from_tighter d) h = derived d h
  derived (from_unary {l} {t} {ts} {e} {op} u d) h = derived d (and_parts (test t.text) (list_all passes ts) h).1
  derived (from_binary {l} {a} {b} {op} t us vs o d e) h =
      let both = all_split passes us (t ∷ vs) h in
      and_from (strings_pass test a) (strings_pass test b) (derived d both.0) (derived e (and_parts (test t.text) (list_all passes vs) both.1).1)

  whole_passes : (ts : List Token) → pass ts → Holds (strings_pass test) (whole ts)
  whole_passes ts h = by (whole ts) refl
    where
      by : (o : Option Tree) → whole ts ≡ o → Holds (strings_pass test) o
      by None e = tt
      by (Some x) e = derived (whole_has_form ts x e) h

  -- ---- operands

  abbrev arg_passes : ArgTree → Bool
  arg_passes a = list_all (strings_pass test) (arg_trees a)

  one_tree : (x : Tree) → strings_pass test x ≡ true → list_all (strings_pass test) (x ∷ []) ≡ true
  one_tree x h = and_from (strings_pass test x) true h refl

  form_passes : (ts : List Token) (a : ArgTree) → IsOperand ts a → list_all (λ t. test t.text) ts ≡ true → list_all (strings_pass test) (arg_trees a) ≡ true
  form_passes _ _ (is_plain {ts} {x} d) h = one_tree x (derived d h)
  form_passes _ _ (is_immediate {a} {ts} {x} s d) h = one_tree x (derived d (and_parts (test a.text) (list_all passes ts) h).1)
  form_passes _ _ (is_indirect {a} {r} ts b s d e) h =
      one_tree r (derived d (all_split passes ts (b ∷ []) (and_parts (test a.text) (list_all passes (ts ++ b ∷ [])) h).1).0)
  form_passes _ _ (is_increment {a} {r} ts b c s d e f) h =
      one_tree r (derived d (all_split passes ts (b ∷ c ∷ []) (and_parts (test a.text) (list_all passes (ts ++ b ∷ c ∷ [])) h).1).0)
  form_passes _ _ (is_indexed {x} {r} us a vs b d s e f) h =
      let both = all_split passes us (a ∷ (vs ++ b ∷ [])) h in
      let index : pass vs = (all_split passes vs (b ∷ []) (and_parts (test a.text) (list_all passes (vs ++ b ∷ [])) both.1).1).0 in
      and_from (strings_pass test x) (list_all (strings_pass test) (r ∷ [])) (derived d both.0) (one_tree r (derived e index))

  module _ (forms : OperandsHaveForms) where
    operand_passes : (ts : List Token) → pass ts → Holds arg_passes (operand ts)
    operand_passes ts h = by (operand ts) refl
      where
        by : (o : Option ArgTree) → operand ts ≡ o → Holds arg_passes o
        by None e = tt
        by (Some a) e = form_passes ts a (forms.read_has_form ts a e) h

    -- ---- lists

    in_first_passes : (t : Token) (ps : List (List Token)) → test t.text ≡ true → list_all (list_all passes) ps ≡ true → list_all (list_all passes) (in_first t ps) ≡ true
    in_first_passes t [] h k = and_from (list_all passes (t ∷ [])) true (and_from (test t.text) true h refl) refl
    in_first_passes t (p ∷ ps) h k =
        let both = and_parts (list_all passes p) (list_all (list_all passes) ps) k in
        and_from (list_all passes (t ∷ p)) (list_all (list_all passes) ps) (and_from (test t.text) (list_all passes p) h both.0) both.1

    parts_pass : (ts : List Token) → pass ts → list_all (list_all passes) (parts ts) ≡ true
    unfolding parts
    parts_pass [] h = refl
    parts_pass (t ∷ ts) h =
        let both = and_parts (test t.text) (list_all passes ts) h in
        let rest : list_all (list_all passes) (parts ts) ≡ true = parts_pass ts both.1 in
        elim (is_sign 44 t) as (λ b. list_all (list_all passes) (cond b ([] ∷ parts ts) (in_first t (parts ts))) ≡ true) [
          | true ↦ rest
          | false ↦ in_first_passes t (parts ts) both.0 rest
        ]

    and_all : {A : Type 0} (p : A → Bool) (o : Option A) (os : Option (List A)) → Holds p o → Holds (list_all p) os → Holds (list_all p) (and_some o os)
    and_all p None os h k = tt
    and_all p (Some x) None h k = tt
    and_all p (Some x) (Some xs) h k = and_from (p x) (list_all p xs) h k

    each_passes : {A : Type 0} (p : A → Bool) (read : List Token → Option A) (ps : List (List Token)) → ((ts : List Token) → pass ts → Holds p (read ts)) → list_all (list_all passes) ps ≡ true → Holds (list_all p) (all_some read ps)
    unfolding all_some
    each_passes p read [] each h = refl
    each_passes p read (ts ∷ ps) each h =
        let both = and_parts (list_all passes ts) (list_all (list_all passes) ps) h in
        and_all p (read ts) (all_some read ps) (each ts both.0) (each_passes p read ps each both.1)

    operands_pass : (ts : List Token) → pass ts → Holds (list_all arg_passes) (operands_in ts)
    unfolding operands_in
    operands_pass ts h = either (list_all arg_passes) (is_nil ts) (Some []) (all_some operand (parts ts)) refl (each_passes arg_passes operand (parts ts) operand_passes (parts_pass ts h))

    -- ---- items

    abbrev whole_item : ItemTree → Bool
    whole_item i = list_all (strings_pass test) (item_trees i) && item_passes test i

    string_passes : (ts : List Token) → pass ts → Holds test (string_of ts)
    string_passes [] h = tt
    string_passes (t ∷ []) h = either test (is_chars_kind t.kind) (Some t.text) None (and_parts (test t.text) true h).0 tt
    string_passes (t ∷ u ∷ ts) h = tt

    string_or_passes : (o : Option (List ℕ)) (x : Option Tree) → Holds test o → Holds (strings_pass test) x → Holds whole_item (string_or o x)
    string_or_passes (Some cs) x h k = h
    string_or_passes None None h k = tt
    string_or_passes None (Some x) h k = and_from (list_all (strings_pass test) (x ∷ [])) true (one_tree x k) refl

    item_read : (bytes : Bool) (ts : List Token) → pass ts → Holds whole_item (item bytes ts)
    unfolding item
    item_read bytes ts h = string_or_passes (cond bytes (string_of ts) None) (whole ts) (either test bytes (string_of ts) None (string_passes ts h) tt) (whole_passes ts h)

    items_read : (bytes : Bool) (ts : List Token) → pass ts → Holds (list_all whole_item) (items_in bytes ts)
    items_read bytes ts h = each_passes whole_item (item bytes) (parts ts) (item_read bytes) (parts_pass ts h)

    -- ---- trees of lists

    all_trees_pass : {A : Type 0} (trees_of : A → List Tree) (p : A → Bool) (xs : List A) → ((x : A) → p x ≡ true → list_all (strings_pass test) (trees_of x) ≡ true) → list_all p xs ≡ true → list_all (strings_pass test) (all_trees trees_of xs) ≡ true
    unfolding all_trees
    all_trees_pass trees_of p [] each h = refl
    all_trees_pass trees_of p (x ∷ xs) each h =
        let both = and_parts (p x) (list_all p xs) h in
        all_join (strings_pass test) (trees_of x) (all_trees trees_of xs) (each x both.0) (all_trees_pass trees_of p xs each both.1)

    all_weaker : {A : Type 0} (p q : A → Bool) (xs : List A) → ((x : A) → p x ≡ true → q x ≡ true) → list_all p xs ≡ true → list_all q xs ≡ true
    all_weaker p q [] each h = refl
    all_weaker p q (x ∷ xs) each h = let both = and_parts (p x) (list_all p xs) h in and_from (q x) (list_all q xs) (each x both.0) (all_weaker p q xs each both.1)

    define_passes : (size : ℕ) (is : List ItemTree) → list_all whole_item is ≡ true → action_passes test (trees.Define size is) ≡ true
    define_passes size is h =
        and_from (list_all (strings_pass test) (all_trees item_trees is)) (list_all (item_passes test) is)
        (all_trees_pass item_trees whole_item is (λ i e. (and_parts (list_all (strings_pass test) (item_trees i)) (item_passes test i) e).0) h)
        (all_weaker whole_item (item_passes test) is (λ i e. (and_parts (list_all (strings_pass test) (item_trees i)) (item_passes test i) e).1) h)

    operation_passes : (word : List ℕ) (args : List ArgTree) → list_all arg_passes args ≡ true → action_passes test (trees.Operation word args) ≡ true
    operation_passes word args h = and_from (list_all (strings_pass test) (all_trees arg_trees args)) true (all_trees_pass arg_trees arg_passes args (λ a e. e) h) refl

    -- ---- directives

    one_expression : (x : Tree) → strings_pass test x ≡ true → (list_all (strings_pass test) (x ∷ []) && true) ≡ true
    one_expression x h = and_from (list_all (strings_pass test) (x ∷ [])) true (one_tree x h) refl

    abbrev optional_passes : Option Tree → Bool
    optional_passes o = list_all (strings_pass test) (optional_tree o) && true

    segment_passes : (ts : List Token) → pass ts → Holds optional_passes (segment_in ts)
    unfolding segment_in
    segment_passes ts h =
        either optional_passes (is_nil ts) (Some None) (cond (begins_word _ ts) (option_map (λ x. Some x) (whole (drop 1 ts))) None) refl
        (either optional_passes (begins_word _ ts) (option_map (λ x. Some x) (whole (drop 1 ts))) None (mapped (strings_pass test) optional_passes (λ x. Some x) (whole (drop 1 ts)) (whole_passes (drop 1 ts) (all_drop passes 1 ts h)) one_expression) tt)

    grouped_passes : (ts : List Token) (r : Reading) → IsLongest r ts → pass ts → Holds (strings_pass test) (grouped_whole r)
    grouped_passes ts None l h = tt
    grouped_passes ts (Some p) l h =
        let prefix : pass (l.prefix ++ p.1) = rw (← l.is) h in
        either (strings_pass test) (is_end_of_group p.1) (Some p.0) None (derived l.derives (all_split passes l.prefix p.1 prefix).0) tt

    stack_passes : (ts : List Token) → pass ts → Holds optional_passes (stack_in ts)
    unfolding stack_in
    stack_passes ts h =
        either optional_passes (is_nil ts) (Some None) (cond (is_stack_part ts) (option_map (λ x. Some x) (grouped_whole (parsed (drop 3 ts)))) None) refl
        (either optional_passes (is_stack_part ts) (option_map (λ x. Some x) (grouped_whole (parsed (drop 3 ts)))) None
        (mapped (strings_pass test) optional_passes (λ x. Some x) (grouped_whole (parsed (drop 3 ts))) (grouped_passes (drop 3 ts) (parsed (drop 3 ts)) (parsed_is_longest (drop 3 ts)) (all_drop passes 3 ts h)) one_expression) tt)

    past_passes : (ts : List Token) → pass ts → pass (past_main ts)
    past_passes ts h = elim (begins_word _ ts) as (λ b. pass (cond b (drop 1 ts) ts)) [ true ↦ all_drop passes 1 ts h | false ↦ h ]

    module_passes : (name : Option (List ℕ)) (ts : List Token) → pass ts → Holds (action_passes test) (module_in name ts)
    module_passes name ts h = mapped optional_passes (action_passes test) (λ s. trees.Module name s) (stack_in (past_main ts)) (stack_passes (past_main ts) (past_passes ts h)) (λ x e. e)

    define_in : (size : ℕ) (ts : List Token) → pass ts → Holds (action_passes test) (defined_in size ts)
    define_in size ts h = mapped (list_all whole_item) (action_passes test) (λ is. trees.Define size is) (items_in (size == 1) ts) (items_read (size == 1) ts h) (define_passes size)

    whole_in : (f : Tree → ActionTree) (ts : List Token) → ((x : Tree) → strings_pass test x ≡ true → action_passes test (f x) ≡ true) → pass ts → Holds (action_passes test) (option_map f (whole ts))
    whole_in f ts each h = mapped (strings_pass test) (action_passes test) f (whole ts) (whole_passes ts h) each

    directive_passes : (d : Directive) (ts : List Token) → pass ts → Holds (action_passes test) (directive_in d ts)
    unfolding directive_in
    directive_passes directives.Module ts h = module_passes None ts h
    directive_passes directives.Cseg ts h = mapped optional_passes (action_passes test) (λ at. trees.Cseg at) (segment_in ts) (segment_passes ts h) (λ x e. e)
    directive_passes directives.Dseg ts h = mapped optional_passes (action_passes test) (λ at. trees.Dseg at) (segment_in ts) (segment_passes ts h) (λ x e. e)
    directive_passes directives.Rseg ts h = mapped optional_passes (action_passes test) (λ at. trees.Rseg at) (segment_in ts) (segment_passes ts h) (λ x e. e)
    directive_passes directives.Sseg ts h = whole_in (λ x. trees.Sseg x) ts one_expression h
    directive_passes directives.Public ts h = always (action_passes test) (λ ns. trees.Public ns) (names_in false ts) (λ x. refl)
    directive_passes directives.Extrn ts h = always (action_passes test) (λ ns. trees.Extrn ns) (names_in true ts) (λ x. refl)
    directive_passes directives.Dcb ts h = define_in 1 ts h
    directive_passes directives.Dcw ts h = define_in 2 ts h
    directive_passes directives.Dcl ts h = define_in 4 ts h
    directive_passes directives.Dsb ts h = whole_in (λ x. trees.Reserve 1 x) ts one_expression h
    directive_passes directives.Dsw ts h = whole_in (λ x. trees.Reserve 2 x) ts one_expression h
    directive_passes directives.Dsl ts h = whole_in (λ x. trees.Reserve 4 x) ts one_expression h
    directive_passes directives.Org ts h = whole_in (λ x. trees.Org x) ts one_expression h
    directive_passes directives.Even ts h = either (action_passes test) (is_nil ts) (Some trees.Even) None refl tt
    directive_passes directives.End ts h = either (action_passes test) (is_nil ts) (Some trees.End) None refl tt
    directive_passes directives.Equ ts h = tt
    directive_passes directives.Set ts h = tt
    directive_passes directives.If ts h = tt
    directive_passes directives.Else ts h = tt
    directive_passes directives.Endif ts h = tt
    directive_passes directives.Macro ts h = tt
    directive_passes directives.Local ts h = tt
    directive_passes directives.Exitm ts h = tt
    directive_passes directives.Endm ts h = tt
    directive_passes directives.Rept ts h = tt
    directive_passes directives.Irp ts h = tt

    definition_passes : (name : List ℕ) (d : Directive) (ts : List Token) → pass ts → Holds (action_passes test) (definition_in name d ts)
    unfolding definition_in
    definition_passes name directives.Equ ts h = whole_in (λ x. trees.Equ name x) ts one_expression h
    definition_passes name directives.Set ts h = whole_in (λ x. trees.Set name x) ts one_expression h
    definition_passes name directives.Module ts h = module_passes (Some name) ts h
    definition_passes name directives.Cseg ts h = tt
    definition_passes name directives.Dseg ts h = tt
    definition_passes name directives.Rseg ts h = tt
    definition_passes name directives.Sseg ts h = tt
    definition_passes name directives.Public ts h = tt
    definition_passes name directives.Extrn ts h = tt
    definition_passes name directives.Dcb ts h = tt
    definition_passes name directives.Dcw ts h = tt
    definition_passes name directives.Dcl ts h = tt
    definition_passes name directives.Dsb ts h = tt
    definition_passes name directives.Dsw ts h = tt
    definition_passes name directives.Dsl ts h = tt
    definition_passes name directives.Org ts h = tt
    definition_passes name directives.Even ts h = tt
    definition_passes name directives.End ts h = tt
    definition_passes name directives.If ts h = tt
    definition_passes name directives.Else ts h = tt
    definition_passes name directives.Endif ts h = tt
    definition_passes name directives.Macro ts h = tt
    definition_passes name directives.Local ts h = tt
    definition_passes name directives.Exitm ts h = tt
    definition_passes name directives.Endm ts h = tt
    definition_passes name directives.Rept ts h = tt
    definition_passes name directives.Irp ts h = tt

    -- ---- statements

    abbrev Reads : Result ActionTree ℕ → Type 0
    Reads r = read_passes test r ≡ true

    or_reads : (o : Option ActionTree) → Holds (action_passes test) o → Reads (or_form_fault o)
    or_reads None h = refl
    or_reads (Some a) h = h

    one_reads : (b : Bool) (x y : Result ActionTree ℕ) → Reads x → Reads y → Reads (cond b x y)
    one_reads true x y h k = h
    one_reads false x y h k = k

    by_directive_reads : (d : Option Directive) (ts : List Token) → pass ts → Reads (by_directive d ts)
    by_directive_reads None ts h = refl
    by_directive_reads (Some d) ts h = or_reads (directive_in d ts) (directive_passes d ts h)

    operation_reads : (word : List ℕ) (form : Operands) (o : Option (List ArgTree)) → Holds (list_all arg_passes) o → Reads (operation_in word form o)
    operation_reads word form None h = refl
    operation_reads word form (Some args) h = one_reads (takes form (map notation args)) (Ok (trees.Operation word args)) (Err 14) (operation_passes word args h) refl

    by_operation_reads : (word : List ℕ) (o : Option Operands) (ts : List Token) → pass ts → Reads (by_operation word o ts)
    by_operation_reads word None ts h = by_directive_reads (directive_of word) ts h
    by_operation_reads word (Some form) ts h = operation_reads word form (operands_in ts) (operands_pass ts h)

    by_first_reads : (t : Token) (o : Option Directive) (ts : List Token) → pass ts → Reads (by_first t o ts)
    by_first_reads t None ts h = one_reads (is_name_kind t.kind) (by_operation t.text (operands_for t.text) ts) (Err 1) (by_operation_reads t.text (operands_for t.text) ts h) refl
    by_first_reads t (Some d) ts h = or_reads (definition_in t.text d (drop 1 ts)) (definition_passes t.text d (drop 1 ts) (all_drop passes 1 ts h))

    action_reads : (ts : List Token) → pass ts → Reads (action_in ts)
    unfolding action_in
    action_reads [] h = refl
    action_reads (t ∷ ts) h = by_first_reads t (only_defining (second_directive (t ∷ ts))) ts (and_parts (test t.text) (list_all passes ts) h).1

    statement_reads : (ts : List Token) → pass ts → Reads (statement_in ts)
    unfolding statement_in
    statement_reads ts h =
        let behind : pass (drop 2 ts) = all_drop passes 2 ts h in
        one_reads (has_label ts) (behind_label (drop 2 ts)) (action_in ts)
        (one_reads (bars_label (first_directive (drop 2 ts)) || bars_label (second_directive (drop 2 ts))) (Err 1) (action_in (drop 2 ts)) refl (action_reads (drop 2 ts) behind))
        (action_reads ts h)

pub strings_stand_on_the_line : OperandsHaveForms → StringsStandOnTheLine
strings_stand_on_the_line forms test ts h = statement_reads test forms ts h
