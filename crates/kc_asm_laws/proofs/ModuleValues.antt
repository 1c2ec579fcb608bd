-- Statements that say what lines say.
use Rattle.std.proofs.Common.{◌≡◌, ℕ, ◌<◌, ◌^◌, Bool, false, List, [], ◌∷◌, length, map, Option, Some, None, Result, Ok, Err, refl, sym, ap, ◌∙◌, arith}
use Rattle.std.specs.Option.{option_map, option_to_list}
use Rattle.std.specs.Global.{Vec, Box}
use denote.RawPtr.{null_ptr}
use Rattle.kc_expr.specs.declared.expr.Expr.{Expr}
use Rattle.kc_expr.specs.declared.expr.Expr.TheVariants as expr
use Rattle.kc_expr.specs.Tree.{Tree, Number, Chars, Name, Here, One, Two, tree_of}
use Rattle.kc_source_statement.specs.declared.statement.Item.{Item}
use Rattle.kc_source_statement.specs.declared.statement.Item.TheVariants as item
use Rattle.kc_source_statement.specs.declared.statement.Arg.{Arg}
use Rattle.kc_source_statement.specs.declared.statement.Arg.TheVariants as arg
use Rattle.kc_source_statement.specs.declared.statement.Action.{Action}
use Rattle.kc_source_statement.specs.declared.statement.Action.TheVariants as action
use Rattle.kc_source_statement.specs.declared.statement.Stmt.{Stmt}
use Rattle.kc_source_statement.specs.Trees.{ItemTree, ArgTree, ActionTree, item_tree, arg_tree, action_tree}
use Rattle.kc_source_statement.specs.Trees as trees
use Rattle.kc_source.specs.Faults.{Said, stmt_said, at_line, code_at, code_behind, line_faults}
use Rattle.kc_asm_unlinked_laws.proofs.Lists.{nothing_left}

-- a list in memory
abbrev pub vec_of : {X : Type 0} (xs : List X) → length xs < 2 ^ 63 → Vec X
vec_of xs h = record { ptr = null_ptr; len = length xs; cap = length xs; alloc = record { memory = record { seal = tt } }; items = xs; ok = (refl, omega arith); small = h }

-- ---- expressions

-- where a part of an expression lies in memory does not matter
abbrev box : Box (Unit {0})
box = record { ptr = null_ptr; alloc = record { memory = record { seal = tt } }; value = tt }

abbrev expr_of : Tree → Expr
expr_of (Number n) = expr.Number n
expr_of (Chars cs) = expr.Chars cs
expr_of (Name cs) = expr.Name cs
expr_of Here = expr.Here
expr_of (One op e) = expr.Unary' op box (expr_of e)
expr_of (Two op a b) = expr.Binary' op box (expr_of a) box (expr_of b)

tree_back : (x : Tree) → tree_of (expr_of x) ≡ x
tree_back (Number n) = refl
tree_back (Chars cs) = refl
tree_back (Name cs) = refl
tree_back Here = refl
tree_back (One op e) = ap (One op) (tree_back e)
tree_back (Two op a b) = λ i. Two op (tree_back a i) (tree_back b i)

optional_back : (o : Option Tree) → option_map tree_of (option_map expr_of o) ≡ o
optional_back None = refl
optional_back (Some x) = ap (λ y. Some y) (tree_back x)

-- ---- items, operands and statements

abbrev item_of : ItemTree → Item
item_of (trees.Value x) = item.Value (expr_of x)
item_of (trees.Chars cs) = item.Chars cs

item_back : (i : ItemTree) → item_tree (item_of i) ≡ i
item_back (trees.Value x) = ap (λ y. trees.Value y) (tree_back x)
item_back (trees.Chars cs) = refl

items_back : (is : List ItemTree) → map item_tree (map item_of is) ≡ is
items_back [] = refl
items_back (i ∷ is) = λ k. item_back i k ∷ items_back is k

abbrev arg_of : ArgTree → Arg
arg_of (trees.Plain x) = arg.Plain (expr_of x)
arg_of (trees.Immediate x) = arg.Immediate (expr_of x)
arg_of (trees.Indirect r) = arg.Indirect (expr_of r)
arg_of (trees.Increment r) = arg.Increment (expr_of r)
arg_of (trees.Indexed x r) = arg.Indexed (expr_of x) (expr_of r)

arg_back : (a : ArgTree) → arg_tree (arg_of a) ≡ a
arg_back (trees.Plain x) = ap (λ y. trees.Plain y) (tree_back x)
arg_back (trees.Immediate x) = ap (λ y. trees.Immediate y) (tree_back x)
arg_back (trees.Indirect r) = ap (λ y. trees.Indirect y) (tree_back r)
arg_back (trees.Increment r) = ap (λ y. trees.Increment y) (tree_back r)
arg_back (trees.Indexed x r) = λ i. trees.Indexed (tree_back x i) (tree_back r i)

args_back : (xs : List ArgTree) → map arg_tree (map arg_of xs) ≡ xs
args_back [] = refl
args_back (a ∷ more) = λ k. arg_back a k ∷ args_back more k

abbrev action_of : ActionTree → Action
action_of trees.Bare = action.Bare
action_of (trees.Module name stack) = action.Module name (option_map expr_of stack)
action_of (trees.Cseg at) = action.Cseg (option_map expr_of at)
action_of (trees.Dseg at) = action.Dseg (option_map expr_of at)
action_of (trees.Rseg at) = action.Rseg (option_map expr_of at)
action_of (trees.Sseg size) = action.Sseg (expr_of size)
action_of (trees.Public names) = action.Public names
action_of (trees.Extrn names) = action.Extrn names
action_of (trees.Equ name value) = action.Equ name (expr_of value)
action_of (trees.Set name value) = action.Set name (expr_of value)
action_of (trees.Define size items) = action.Define size (map item_of items)
action_of (trees.Reserve size count) = action.Reserve size (expr_of count)
action_of (trees.Org place) = action.Org (expr_of place)
action_of trees.Even = action.Even
action_of trees.End = action.End
action_of (trees.Operation name args) = action.Operation name (map arg_of args)

action_back : (a : ActionTree) → action_tree (action_of a) ≡ a
action_back trees.Bare = refl
action_back (trees.Module name stack) = ap (λ o. trees.Module name o) (optional_back stack)
action_back (trees.Cseg at) = ap (λ o. trees.Cseg o) (optional_back at)
action_back (trees.Dseg at) = ap (λ o. trees.Dseg o) (optional_back at)
action_back (trees.Rseg at) = ap (λ o. trees.Rseg o) (optional_back at)
action_back (trees.Sseg size) = ap (λ x. trees.Sseg x) (tree_back size)
action_back (trees.Public names) = refl
action_back (trees.Extrn names) = refl
action_back (trees.Equ name value) = ap (λ x. trees.Equ name x) (tree_back value)
action_back (trees.Set name value) = ap (λ x. trees.Set name x) (tree_back value)
action_back (trees.Define size items) = ap (λ is. trees.Define size is) (items_back items)
action_back (trees.Reserve size count) = ap (λ x. trees.Reserve size x) (tree_back count)
action_back (trees.Org place) = ap (λ x. trees.Org x) (tree_back place)
action_back trees.Even = refl
action_back trees.End = refl
action_back (trees.Operation name args) = ap (λ xs. trees.Operation name xs) (args_back args)

-- ---- all of them

pub record AreMade (ss : List Said) : Type 0 where
  pub stmts : List Stmt
  pub same : map stmt_said stmts ≡ ss

abbrev stmt_of : Said → ActionTree → Stmt
stmt_of s a = record { line = s.line; label = s.label; action = action_of a }

pub made : (first code : Bool) (ss : List Said) → line_faults first code ss ≡ [] → AreMade ss
unfolding line_faults
made first code [] h = record { stmts = []; same = refl }
made first code (s ∷ ss) h =
    let both = nothing_left (option_to_list (at_line s.line (code_at first code s.action))) (line_faults false (code_behind code s.action) ss) h in
    by s.action refl both.0 (made false (code_behind code s.action) ss both.1)
  where
    by : (r : Result ActionTree ℕ) → s.action ≡ r → option_to_list (at_line s.line (code_at first code r)) ≡ [] → AreMade ss → AreMade (s ∷ ss)
    by (Err e) q none more = absurd (cc none)
    by (Ok a) q none more =
        let says : Ok (action_tree (action_of a)) ≡ s.action = ap (λ x. Ok x) (action_back a) ∙ sym q in
        let head : stmt_said (stmt_of s a) ≡ s = λ i. record { line = s.line; label = s.label; action = says i } in
        record { stmts = stmt_of s a ∷ more.stmts; same = λ i. head i ∷ more.same i }
