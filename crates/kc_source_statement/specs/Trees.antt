-- Statements as data, without where their expressions lie in memory.
use Rattle.std.specs.Prelude.{ℕ, List, Option, Result, Ok, Err, map}
use Rattle.std.specs.Option.{option_map}
use Rattle.kc_lex.specs.declared.words.Notation.{Notation}
use Rattle.kc_lex.specs.declared.words.Notation.TheVariants as notations
use Rattle.kc_expr.specs.Tree.{Tree, tree_of}
use Rattle.kc_source_statement.specs.declared.statement.Item.{Item}
use Rattle.kc_source_statement.specs.declared.statement.Item.TheVariants as item
use Rattle.kc_source_statement.specs.declared.statement.Arg.{Arg}
use Rattle.kc_source_statement.specs.declared.statement.Arg.TheVariants as arg
use Rattle.kc_source_statement.specs.declared.statement.Action.{Action}
use Rattle.kc_source_statement.specs.declared.statement.Action.TheVariants as action

pub data ItemTree : Type 0 where
  Value : (value : Tree) → ItemTree
  Chars : (chars : List ℕ) → ItemTree

pub data ArgTree : Type 0 where
  Plain : (value : Tree) → ArgTree
  Immediate : (value : Tree) → ArgTree
  Indirect : (register : Tree) → ArgTree
  Increment : (register : Tree) → ArgTree
  Indexed : (value register : Tree) → ArgTree

pub data ActionTree : Type 0 where
  Bare : ActionTree
  Module : (name : Option (List ℕ)) (stack : Option Tree) → ActionTree
  Cseg : (at : Option Tree) → ActionTree
  Dseg : (at : Option Tree) → ActionTree
  Rseg : (at : Option Tree) → ActionTree
  Sseg : (size : Tree) → ActionTree
  Public : (names : List (List ℕ)) → ActionTree
  Extrn : (names : List (List ℕ)) → ActionTree
  Equ : (name : List ℕ) (value : Tree) → ActionTree
  Set : (name : List ℕ) (value : Tree) → ActionTree
  Define : (size : ℕ) (items : List ItemTree) → ActionTree
  Reserve : (size : ℕ) (count : Tree) → ActionTree
  Org : (place : Tree) → ActionTree
  Even : ActionTree
  End : ActionTree
  Operation : (name : List ℕ) (args : List ArgTree) → ActionTree

abbrev pub item_tree : Item → ItemTree
item_tree (item.Value e) = Value (tree_of e)
item_tree (item.Chars cs) = Chars cs

abbrev pub arg_tree : Arg → ArgTree
arg_tree (arg.Plain e) = Plain (tree_of e)
arg_tree (arg.Immediate e) = Immediate (tree_of e)
arg_tree (arg.Indirect e) = Indirect (tree_of e)
arg_tree (arg.Increment e) = Increment (tree_of e)
arg_tree (arg.Indexed e r) = Indexed (tree_of e) (tree_of r)

-- how an operand is written
abbrev pub notation : ArgTree → Notation
notation (Plain x) = notations.Plain
notation (Immediate x) = notations.Immediate
notation (Indirect r) = notations.Indirect
notation (Increment r) = notations.Increment
notation (Indexed x r) = notations.Indexed

abbrev pub action_tree : Action → ActionTree
action_tree action.Bare = Bare
action_tree (action.Module name stack) = Module name (option_map tree_of stack)
action_tree (action.Cseg at) = Cseg (option_map tree_of at)
action_tree (action.Dseg at) = Dseg (option_map tree_of at)
action_tree (action.Rseg at) = Rseg (option_map tree_of at)
action_tree (action.Sseg size) = Sseg (tree_of size)
action_tree (action.Public names) = Public names
action_tree (action.Extrn names) = Extrn names
action_tree (action.Equ name value) = Equ name (tree_of value)
action_tree (action.Set name value) = Set name (tree_of value)
action_tree (action.Define size items) = Define size (map item_tree items)
action_tree (action.Reserve size count) = Reserve size (tree_of count)
action_tree (action.Org place) = Org (tree_of place)
action_tree action.Even = Even
action_tree action.End = End
action_tree (action.Operation name args) = Operation name (map arg_tree args)

-- what a call read, or the code of its fault
abbrev pub action_read : Result Action ℕ → Result ActionTree ℕ
action_read (Ok a) = Ok (action_tree a)
action_read (Err code) = Err code
