-- What the table of sizes says of a target is so where the statements stand.
use Rattle.std.proofs.Common.{◌≡◌, ℕ, ◌+◌, ◌*◌, ◌%◌, ◌<◌, ◌≤◌, true, List, [], ◌∷◌, ◌++◌, reverse, length, pos, ℤ, ◌+ℤ◌, refl, sym, ap, subst, ◌∙◌, inl, inr, arith}
use Rattle.std.specs.Prelude.{Option, Some, None, Ok, Err, slice_get}
use Rattle.std.specs.Int.{w16, cast_signed}
use Rattle.std.specs.List.{list_all}
use Rattle.std.proofs.lemmas.Bool.{and_parts, cases_lt}
use Rattle.std.proofs.lemmas.Int.{ints, int_rem_euclid_is, of_z-to_z}
use Rattle.std.proofs.lemmas.List.Folds.{list_all-append}
use Rattle.kc_expr.specs.declared.values.Base.{Base}
use Rattle.kc_expr.specs.declared.values.Base.TheVariants.{Fixed, Absolute, Piece, External}
use Rattle.kc_expr.specs.declared.values.Value.{Value}
use Rattle.kc_expr.specs.Tree.{Tree}
use Rattle.kc_expr.specs.Meaning.{Answer, answer_by, is_fixed}
use Rattle.kc_source_statement.specs.declared.statement.Stmt.{Stmt}
use Rattle.kc_source_statement.specs.Trees.{ActionTree, ArgTree, Even, Operation}
use Rattle.kc_source_statement.specs.Trees as trees
use Rattle.kc_asm_symbols.specs.Located.{Located, located, located_by, value_at, first_segment}
use Rattle.kc_asm_symbols.specs.Externals.{arg_trees, all_trees}
use Rattle.kc_asm_symbols.specs.Meanings.{meaning}
use Rattle.kc_branch.specs.declared.piece.BranchKind.{BranchKind}
use Rattle.kc_branch.specs.declared.piece.Form.TheVariants.{First}
use Rattle.kc_asm_emit.specs.declared.extent.Extent.{Extent}
use Rattle.kc_asm_emit.specs.declared.extent.Extent.TheVariants as extent
use Rattle.kc_asm_emit.specs.Arguments.{Look}
use Rattle.kc_asm_emit.specs.Content.{content, extent_of}
use Rattle.kc_asm_emit.specs.Seen.{counted}
use Rattle.kc_asm_layout.specs.declared.size_record.Anchor.{Anchor}
use Rattle.kc_asm_layout.specs.declared.size_record.Anchor.TheVariants as anchor
use Rattle.kc_asm_layout.specs.declared.size_record.Body.TheVariants.{Branch}
use Rattle.kc_asm_layout.specs.declared.size_record.SizeRecord.{SizeRecord}
use Rattle.kc_asm_layout.specs.StatementSizes.{at_zero, on_its_own, anchor_by, anchor_in, anchor_of, plain as plain_argument, target, target_of, body_of, branch_of, branch_or, body_in}
use Rattle.kc_asm_layout.proofs.Stays.{Noted, noted, same_statement, stripped}
use Rattle.kc_asm.specs.Characters.{are_bytes, all_bytes, has_bytes}
use Rattle.kc_asm.proofs.Meanings.{has_all_bytes, split_test, standing_test}
use Rattle.kc_asm_laws.specs.Targets.{in_word, CountsFrom, CountsFromExternal, TargetCounts, TargetIsExternal, AnchorsHold, ExternalAnchorsHold}
use Rattle.kc_asm_laws.proofs.Expressions.{IsBehind, IsSame, Reports}
use Rattle.kc_asm_laws.proofs.BranchNames.{IsReported, here_in, here_at, all_placed, expression_reported}

-- ---- the characters of a target are bytes

plain_bytes : (a : ArgTree) (x : Tree) → list_all are_bytes (arg_trees a) ≡ true → plain_argument a ≡ Some x → are_bytes x ≡ true
plain_bytes (trees.Plain y) x h e =
    let same : y ≡ x = cc in
    subst (λ (z : Tree). are_bytes z ≡ true) same (and_parts (are_bytes y) true h).0
plain_bytes (trees.Immediate y) x h e = absurd (cc e)
plain_bytes (trees.Indirect y) x h e = absurd (cc e)
plain_bytes (trees.Increment y) x h e = absurd (cc e)
plain_bytes (trees.Indexed y r) x h e = absurd (cc e)

first_bytes : (a : ArgTree) (args : List ArgTree) → list_all are_bytes (all_trees arg_trees (a ∷ args)) ≡ true
    → (list_all are_bytes (arg_trees a) ≡ true) × (list_all are_bytes (all_trees arg_trees args) ≡ true)
unfolding all_trees
first_bytes a args h =
    and_parts (list_all are_bytes (arg_trees a)) (list_all are_bytes (all_trees arg_trees args)) (sym (list_all-append are_bytes (arg_trees a) (all_trees arg_trees args)) ∙ h)

target_bytes : (args : List ArgTree) (x : Tree) → list_all are_bytes (all_trees arg_trees args) ≡ true → target args ≡ Some x → are_bytes x ≡ true
unfolding target
target_bytes [] x h e = absurd (cc e)
target_bytes (a ∷ []) x h e = plain_bytes a x (first_bytes a [] h).0 e
target_bytes (a ∷ b ∷ args) x h e = target_bytes (b ∷ args) x (first_bytes a (b ∷ args) h).1 e

action_bytes : (action : ActionTree) (x : Tree) → all_bytes action ≡ true → target_of action ≡ Some x → are_bytes x ≡ true
action_bytes (Operation word args) x h e = target_bytes args x h e
action_bytes action x h e = absurd (cc e)

-- ---- an anchor, from the answer with own bases

pub record FromStatement (own : Look) (action : ActionTree) (to : ℕ) (distance : ℤ) : Type 0 where
  pub x : Tree
  pub target : target_of action ≡ Some x
  pub value : Value
  pub is : answer_by own x ≡ Ok value
  pub base : value.base ≡ Piece to
  pub number : cast_signed w16 value.number ≡ distance

pub record FromExternal (own : Look) (action : ActionTree) : Type 0 where
  pub x : Tree
  pub target : target_of action ≡ Some x
  pub value : Value
  pub is : answer_by own x ≡ Ok value
  pub external : ℕ
  pub base : value.base ≡ External external

body_anchor : (e : Extent) (kind : BranchKind) (a : Anchor) → body_of e ≡ Branch kind a → ⊥
body_anchor (extent.Bytes n) kind a h = cc
body_anchor (extent.Upto n) kind a h = cc
body_anchor extent.Even kind a h = cc

branch_anchor : (o : Option BranchKind) (a b : Anchor) (e : Extent) (kind : BranchKind) → branch_or o a (body_of e) ≡ Branch kind b → a ≡ b
branch_anchor None a b e kind h = absurd (body_anchor e kind b h)
branch_anchor (Some k) a b e kind h = cc

statement_base : (b : Base) (n : ℕ) (to : ℕ) (distance : ℤ) → anchor_by b n ≡ anchor.Statement to distance → (b ≡ Piece to) × (cast_signed w16 n ≡ distance)
statement_base (Piece k) n to distance h = (let same : k ≡ to = cc in ap Piece same, cc)
statement_base (External e) n to distance h = absurd (cc h)
statement_base Fixed n to distance h = absurd (cc h)
statement_base Absolute n to distance h = absurd (cc h)

external_base : (b : Base) (n : ℕ) → anchor_by b n ≡ anchor.External → (e : ℕ) × (b ≡ External e)
external_base (Piece k) n h = absurd (cc h)
external_base (External e) n h = (e, refl)
external_base Fixed n h = absurd (cc h)
external_base Absolute n h = absurd (cc h)

from_statement : (own : Look) (action : ActionTree) (o : Option Tree) (to : ℕ) (distance : ℤ) → target_of action ≡ o → anchor_of own o ≡ anchor.Statement to distance → FromStatement own action to distance
from_statement own action None to distance t h = absurd (cc h)
from_statement own action (Some x) to distance t h = by_answer (answer_by own x) refl h
  where
    by_answer : (a : Answer) → answer_by own x ≡ a → anchor_in a ≡ anchor.Statement to distance → FromStatement own action to distance
    by_answer (Ok v) e k =
        let b = statement_base v.base v.number to distance k in
        record { x = x; target = t; value = v; is = e; base = b.0; number = b.1 }
    by_answer (Err fault) e k = absurd (cc k)

from_external : (own : Look) (action : ActionTree) (o : Option Tree) → target_of action ≡ o → anchor_of own o ≡ anchor.External → FromExternal own action
from_external own action None t h = absurd (cc h)
from_external own action (Some x) t h = by_answer (answer_by own x) refl h
  where
    by_answer : (a : Answer) → answer_by own x ≡ a → anchor_in a ≡ anchor.External → FromExternal own action
    by_answer (Ok v) e k =
        let b = external_base v.base v.number k in
        record { x = x; target = t; value = v; is = e; external = b.0; base = b.1 }
    by_answer (Err fault) e k = absurd (cc k)

-- ---- numbers

negative_sum : (p v : ℕ) → v < 65536 → 32768 ≤ v → (pos p +ℤ cast_signed w16 v) +ℤ pos (1 * 65536) ≡ pos (p + v)
negative_sum p v word large = let back = of_z-to_z w16 v word in grind (arith, ints)

in_two : (p v w : ℕ) → v < 65536 → w ≡ (p + v) % 65536 → pos w ≡ in_word (pos p +ℤ cast_signed w16 v)
in_two p v w h e =
    elim (cases_lt v 32768) [
      | inl small ↦
          let sum : (pos p +ℤ cast_signed w16 v) +ℤ pos (0 * 65536) ≡ pos (p + v) = omega (arith, ints) in
          ap pos e ∙ sym (int_rem_euclid_is (pos p +ℤ cast_signed w16 v) (pos 65536) 65536 0 (p + v) (omega arith) refl sum)
      | inr large ↦
          let sum = negative_sum p v h large in
          ap pos e ∙ sym (int_rem_euclid_is (pos p +ℤ cast_signed w16 v) (pos 65536) 65536 1 (p + v) (omega arith) refl sum)
    ]

-- ---- the answer where the statements stand

-- a place so many bytes behind that of a statement that is there
record Counted (all : List Located) (to : ℕ) (a : Answer) (distance : ℤ) : Type 0 where
  t : Located
  at : slice_get all to ≡ Some t
  counts : CountsFrom a t distance

counted_from : (all : List Located) (to v : ℕ) (distance : ℤ) (w : Value) → v < 65536 → cast_signed w16 v ≡ distance → IsBehind (here_at all to) v w → Counted all to (Ok w) distance
counted_from all to v distance w word signed h = by_place (slice_get all to) refl h
  where
    by_place : (o : Option Located) → slice_get all to ≡ o → IsBehind (here_in o) v w → Counted all to (Ok w) distance
    by_place None e k = absurd (let none : is_fixed w.base ≡ true = ap is_fixed k.base in let some = k.moves in cc)
    by_place (Some t) e k = record {
      t = t;
      at = e;
      counts = record {
        value = w;
        is = refl;
        base = k.base;
        number = in_two t.here.number v w.number word k.number ∙ ap (λ z. in_word (pos t.here.number +ℤ z)) signed;
      };
    }

statement_counted : (all : List Located) (to : ℕ) (distance : ℤ) (v : Value) (a : Answer) → v.base ≡ Piece to → cast_signed w16 v.number ≡ distance → IsReported (here_at all) (Ok v) a
    → Counted all to a distance
statement_counted all to distance v (Ok w) base signed reported =
    counted_from all to v.number distance w reported.word signed (subst (λ (b : Base). Reports (here_at all) b v.number w) base reported.reports)
statement_counted all to distance v (Err fault) base signed reported = absurd reported.reports

external_counted : (all : List Located) (e : ℕ) (v : Value) (a : Answer) → v.base ≡ External e → IsReported (here_at all) (Ok v) a → CountsFromExternal a
external_counted all e v (Ok w) base reported =
    let same : IsSame (External e) v.number w = subst (λ (b : Base). Reports (here_at all) b v.number w) base reported.reports in
    record { value = w; is = refl; external = e; base = same.base }
external_counted all e v (Err fault) base reported = absurd reported.reports

-- ---- the size record of a statement

abbrev pub zero_look : (stmts : List Stmt) (number : ℕ) (n : SizeRecord) → Noted (located_by at_zero stmts) (located_by on_its_own stmts) number n → Look
zero_look stmts number n w = meaning (located_by at_zero stmts) w.before w.l

abbrev pub own_look : (stmts : List Stmt) (number : ℕ) (n : SizeRecord) → Noted (located_by at_zero stmts) (located_by on_its_own stmts) number n → Look
own_look stmts number n w = meaning (located_by on_its_own stmts) w.passed w.m

-- what its branch counts from is what its target does with own bases
own_anchor : (stmts : List Stmt) (number : ℕ) (n : SizeRecord) (w : Noted (located_by at_zero stmts) (located_by on_its_own stmts) number n) (kind : BranchKind) (a : Anchor)
    → n.body ≡ Branch kind a → anchor_of (own_look stmts number n w) (target_of w.l.action) ≡ a
own_anchor stmts number n w kind a body =
    let zero = zero_look stmts number n w in
    let own = own_look stmts number n w in
    let found : body_in zero own w.l.here w.l.action ≡ Branch kind a = (λ j. (sym w.size_record j).body) ∙ body in
    branch_anchor (branch_of zero w.l.action) (anchor_of own (target_of w.l.action)) a (counted (extent_of (content zero First w.l.here w.l.action))) kind found

-- an expression of the statement with own bases and where all statements stand
module _ (stmts : List Stmt) (places : ℕ → ℕ) (before after : List Located) (l : Located) (characters : list_all has_bytes stmts ≡ true) (whole : located places stmts ≡ reverse before ++ l ∷ after)
    (n : SizeRecord) (w : Noted (located_by at_zero stmts) (located_by on_its_own stmts) (length before) n) where
  same_action : w.l.action ≡ l.action
  same_action =
      let same : stripped l ≡ stripped w.l
      = same_statement (λ i g. value_at g (places i)) at_zero stmts before w.before after w.first.after l w.l whole w.first.whole (sym w.count) in
      λ j. (sym same j).action

  target_reported : (x : Tree) → target_of w.l.action ≡ Some x
      → IsReported (here_at (located places stmts)) (answer_by (own_look stmts (length before) n w) x) (answer_by (meaning (located places stmts) before l) x)
  target_reported x target =
      let all = located places stmts in
      let texts : all_bytes l.action ≡ true = (split_test has_all_bytes all before after l (standing_test all_bytes (λ i g. value_at g (places i)) 0 first_segment stmts characters) whole).1 in
      let bytes : are_bytes x ≡ true = action_bytes l.action x texts (ap target_of (sym same_action) ∙ target) in
      expression_reported (here_at all) (located_by on_its_own stmts) all w.passed before w.second.after after w.m l (all_placed places stmts characters) w.second.whole whole w.count_own x bytes

  statement_holds : (kind : BranchKind) (to : ℕ) (distance : ℤ) → n.body ≡ Branch kind (anchor.Statement to distance)
      → TargetCounts (meaning (located places stmts) before l) (located places stmts) l.action to distance
  statement_holds kind to distance body =
      let all = located places stmts in
      let own = own_look stmts (length before) n w in
      let f : FromStatement own w.l.action to distance
      = from_statement own w.l.action (target_of w.l.action) to distance refl (own_anchor stmts (length before) n w kind (anchor.Statement to distance) body) in
      let real = answer_by (meaning all before l) f.x in
      let reported : IsReported (here_at all) (Ok f.value) real = subst (λ (a : Answer). IsReported (here_at all) a real) f.is (target_reported f.x f.target) in
      let c : Counted all to real distance = statement_counted all to distance f.value real f.base f.number reported in
      record { statement = c.t; found = c.at; expression = f.x; target = ap target_of (sym same_action) ∙ f.target; counts = c.counts }

  external_holds : (kind : BranchKind) → n.body ≡ Branch kind anchor.External → TargetIsExternal (meaning (located places stmts) before l) l.action
  external_holds kind body =
      let all = located places stmts in
      let own = own_look stmts (length before) n w in
      let f : FromExternal own w.l.action = from_external own w.l.action (target_of w.l.action) refl (own_anchor stmts (length before) n w kind anchor.External body) in
      let real = answer_by (meaning all before l) f.x in
      let reported : IsReported (here_at all) (Ok f.value) real = subst (λ (a : Answer). IsReported (here_at all) a real) f.is (target_reported f.x f.target) in
      record { expression = f.x; target = ap target_of (sym same_action) ∙ f.target; counts = external_counted all f.external f.value real f.base reported }

pub anchors_hold : AnchorsHold
anchors_hold stmts places before after l characters whole n kind to distance is body =
    statement_holds stmts places before after l characters whole n (noted stmts (length before) n is) kind to distance body

pub external_anchors_hold : ExternalAnchorsHold
external_anchors_hold stmts places before after l characters whole n kind is body =
    external_holds stmts places before after l characters whole n (noted stmts (length before) n is) kind body
