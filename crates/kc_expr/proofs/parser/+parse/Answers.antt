use Rattle.std.proofs.Common.{◌≡◌, suc, ◌+◌, ◌-◌, ◌*◌, ◌<◌, ◌≤◌, true, false, ◌∷◌, length, drop, Some, None, refl, sym, ap, ◌∙◌, drop-drop, arith}
use Rattle.std.proofs.Math.Seq.{drop-cons}
use Rattle.std.proofs.Math.ListN.{drop_of_length-le}
use Rattle.kc_lex.specs.Kinds.{begins_sign}
use Rattle.kc_expr.specs.Tree.{One, Two, tree_of}
use Rattle.kc_expr.specs.Grammar.{past_suffix, seen}
use Rattle.kc_expr.specs.Climb.{climbed}
use Rattle.kc_expr.proofs.GrammarLemmas as g
use Rattle.kc_expr.proofs.ClimbLemmas as l
use Rattle.kc_expr.proofs.parser.+parse.Goals as goal

pub climb-returns-in-None-clause-read : goal.climb-returns-in-None-clause-read
climb-returns-in-None-clause-read t c = λ steps h. l.no_operator steps c.args.tight c.args.level (tree_of c.args.left) (drop c.args.at c.args.tokens.now) c.requires.tight c.in-None.ensures.value

pub climb-returns-in-None-2-clause-read : goal.climb-returns-in-None-2-clause-read
climb-returns-in-None-2-clause-read t c = λ steps h.
    let tokens = c.args.tokens.now in
    let own = c.in-Some.own in
    let here : c.args.at < length tokens = c.in-Some.ensures.within in
    let above : c.args.tight < own = c.in-Some.ensures.tight in
    let below : own ≤ c.args.level = c.in-Some.ensures.level in
    let some : 16 * (length tokens - c.args.at) + 2 * own < steps own = h own above below in
    let read = c.in_ok-level_at-in-Some.ensures.read ((steps own - 1) - 1) (omega arith) ∙ ap (seen tokens) c.in-None-2.is in
    l.no_right steps c.args.tight own c.args.level (tree_of c.args.left) (drop c.args.at tokens) c.in-Some.op above below (omega arith) c.in-Some.ensures.value (g.before_tail (steps own - 1) (own - 1) c.args.at tokens None (omega arith) read)

pub climb-returns-in_ok-right-in-Some-2-clause-read : goal.climb-returns-in_ok-right-in-Some-2-clause-read
climb-returns-in_ok-right-in-Some-2-clause-read t c =
    let tokens = c.args.tokens.now in
    let own = c.in-Some.own in
    let here : c.args.at < length tokens = c.in-Some.ensures.within in
    let above : c.args.tight < own = c.in-Some.ensures.tight in
    let below : own ≤ c.args.level = c.in-Some.ensures.level in
    let after = rw c.in-Some-2.is at c.in_ok-level_at-in-Some.ensures.within in
    let left-is = c.in_ok-left-in-Some-2.ensures.ok in
    let right-is = c.in_ok-right-in-Some-2.ensures.ok in
    g.if_ok c.climb.result _ _ (λ p more steps h.
    let some : 16 * (length tokens - c.args.at) + 2 * own < steps own = h own above below in
    let read = c.in_ok-level_at-in-Some.ensures.read ((steps own - 1) - 1) (omega arith) ∙ ap (seen tokens) c.in-Some-2.is in
    l.goes_on steps c.args.tight own c.args.level (tree_of c.args.left) (tree_of c.in-Some-2.right) (drop c.args.at tokens) (drop c.in-Some-2.next tokens) c.in-Some.op above below (omega arith) c.in-Some.ensures.value
    (g.before_tail (steps own - 1) (own - 1) c.args.at tokens _ (omega arith) read)
    ∙ ap (λ e. climbed (l.fewer steps own) (own - 1) (c.args.level - (own - 1)) (Some (Two c.in-Some.op (tree_of e) (tree_of c.in-Some-2.right), drop c.in-Some-2.next tokens))) (sym left-is)
    ∙ ap (λ e. climbed (l.fewer steps own) (own - 1) (c.args.level - (own - 1)) (Some (Two c.in-Some.op (tree_of c.in_ok-left-in-Some-2.left.value) (tree_of e), drop c.in-Some-2.next tokens))) (sym right-is)
    ∙ more (l.fewer steps own) (l.enough steps c.args.tight own c.args.level (length tokens - c.args.at) (length tokens - c.in-Some-2.next) h above below (omega (arith, after.0)))) c.climb.ensures.read

pub level_at-returns-in-None-2-clause-read : goal.level_at-returns-in-None-2-clause-read
level_at-returns-in-None-2-clause-read t c = λ n h.
    let tokens = c.args.tokens.now in
    let ts = drop c.args.at tokens in
    let own = c.in-Some.own in
    let here : c.args.at < length tokens = c.in-Some.ensures.within in
    let below : own ≤ c.args.level = c.in-Some.ensures.level in
    let first = l.first_is own c.args.level ts c.in-Some.op below c.in-Some.ensures.value in
    let read = c.in_ok-level_at-in-Some.ensures.read (((n - c.args.level) + own) - 1) (omega arith) ∙ ap (seen tokens) c.in-None-2.is in
    let operand = g.op_level ((n - c.args.level) + own) own ts c.in-Some.op None (l.first_positive own ts c.in-Some.op first) first (g.before_tail ((n - c.args.level) + own) own c.args.at tokens None (omega arith) read) in
    l.from_operand n own c.args.level ts None below (omega arith) (l.first_else own c.args.level ts c.in-Some.op c.in-Some.ensures.value) operand ∙ l.nothing _ own (c.args.level - own)

pub level_at-returns-in_ok-whole-in-Some-2-clause-read : goal.level_at-returns-in_ok-whole-in-Some-2-clause-read
level_at-returns-in_ok-whole-in-Some-2-clause-read t c = λ n h.
    let tokens = c.args.tokens.now in
    let ts = drop c.args.at tokens in
    let own = c.in-Some.own in
    let here : c.args.at < length tokens = c.in-Some.ensures.within in
    let below : own ≤ c.args.level = c.in-Some.ensures.level in
    let after = rw c.in-Some-2.is at c.in_ok-level_at-in-Some.ensures.within in
    let first = l.first_is own c.args.level ts c.in-Some.op below c.in-Some.ensures.value in
    let read = c.in_ok-level_at-in-Some.ensures.read (((n - c.args.level) + own) - 1) (omega arith) ∙ ap (seen tokens) c.in-Some-2.is in
    let operand = g.op_level ((n - c.args.level) + own) own ts c.in-Some.op (Some (tree_of c.in-Some-2.operand, drop c.in-Some-2.next tokens)) (l.first_positive own ts c.in-Some.op first) first (g.before_tail ((n - c.args.level) + own) own c.args.at tokens _ (omega arith) read) in
    l.from_operand n own c.args.level ts (Some (One c.in-Some.op (tree_of c.in-Some-2.operand), drop c.in-Some-2.next tokens)) below (omega arith) (l.first_else own c.args.level ts c.in-Some.op c.in-Some.ensures.value) operand
    ∙ ap (λ e. climbed (λ k. (n - c.args.level) + k) own (c.args.level - own) (Some (One c.in-Some.op (tree_of e), drop c.in-Some-2.next tokens))) (sym c.in_ok-operand-in-Some-2.ensures.ok)
    ∙ c.in_ok-whole-in-Some-2.ensures.read (λ k. (n - c.args.level) + k) (l.from_enough n c.args.level (length tokens - c.args.at) (length tokens - c.in-Some-2.next) own h (omega (arith, after.0)))

pub level_at-returns-in-None-3-clause-read : goal.level_at-returns-in-None-3-clause-read
level_at-returns-in-None-3-clause-read t c = λ n h.
    let tokens = c.args.tokens.now in
    let read = c.in_ok-primary_at-in-None.ensures.read ((n - c.args.level) + 0) (omega arith) ∙ ap (seen tokens) c.in-None-3.is in
    l.from_operand n 0 c.args.level (drop c.args.at tokens) None (omega arith) (omega arith) (λ k a b. c.in-None.ensures.value k b) read ∙ l.nothing _ 0 (c.args.level - 0)

pub level_at-returns-in_ok-whole-in-Some-3-clause-read : goal.level_at-returns-in_ok-whole-in-Some-3-clause-read
level_at-returns-in_ok-whole-in-Some-3-clause-read t c = λ n h.
    let tokens = c.args.tokens.now in
    let after = rw c.in-Some-3.is at c.in_ok-primary_at-in-None.ensures.within in
    let read = c.in_ok-primary_at-in-None.ensures.read ((n - c.args.level) + 0) (omega arith) ∙ ap (seen tokens) c.in-Some-3.is in
    l.from_operand n 0 c.args.level (drop c.args.at tokens) _ (omega arith) (omega arith) (λ k a b. c.in-None.ensures.value k b) read
    ∙ c.in_ok-whole-in-Some-3.ensures.read (λ k. (n - c.args.level) + k) (l.from_enough n c.args.level (length tokens - c.args.at) (length tokens - c.in-Some-3.next) 0 h (omega (arith, after.0, after.1)))

pub primary_at-returns-then-at-tokens-clause-read : goal.primary_at-returns-then-at-tokens-clause-read
primary_at-returns-then-at-tokens-clause-read t c = λ n h. g.at_end n (drop c.args.at c.args.tokens.now) (drop_of_length-le c.args.tokens.now (omega arith))

pub primary_at-returns-in-None-clause-read : goal.primary_at-returns-in-None-clause-read
primary_at-returns-in-None-clause-read t c = λ n h.
    let read = c.in_ok-level_at.ensures.read (n - 1) (omega arith) ∙ ap (seen c.args.tokens.now) c.in-None.is in
    g.group n (drop c.args.at c.args.tokens.now) None (sym c.if-begins.ensures.value) (g.before_tail n 7 c.args.at c.args.tokens.now None (omega arith) read)

pub primary_at-returns-then-begins-2-clause-read : goal.primary_at-returns-then-begins-2-clause-read
primary_at-returns-then-begins-2-clause-read t c = λ n h.
    let tokens = c.args.tokens.now in
    let read = c.in_ok-level_at.ensures.read (n - 1) (omega arith) ∙ ap (seen tokens) c.in-Some.is in
    let closes : begins_sign 41 (drop c.in-Some.next tokens) ≡ true = sym c.if-begins-2.ensures.value in
    g.group n (drop c.args.at tokens) (Some (tree_of c.in-Some.inner, drop c.in-Some.next tokens)) (sym c.if-begins.ensures.value) (g.before_tail n 7 c.args.at tokens _ (omega arith) read)
    ∙ rw (closes, drop-drop 1 c.in-Some.next tokens, c.suffix_end-end.ensures.value) refl

pub primary_at-returns-else-begins-2-clause-read : goal.primary_at-returns-else-begins-2-clause-read
primary_at-returns-else-begins-2-clause-read t c = λ n h.
    let tokens = c.args.tokens.now in
    let read = c.in_ok-level_at.ensures.read (n - 1) (omega arith) ∙ ap (seen tokens) c.in-Some.is in
    let closes : begins_sign 41 (drop c.in-Some.next tokens) ≡ false = sym c.if-begins-2.ensures.value in
    g.group n (drop c.args.at tokens) (Some (tree_of c.in-Some.inner, drop c.in-Some.next tokens)) (sym c.if-begins.ensures.value) (g.before_tail n 7 c.args.at tokens _ (omega arith) read)
    ∙ rw closes refl

pub primary_at-returns-in-None-2-clause-read : goal.primary_at-returns-in-None-2-clause-read
primary_at-returns-in-None-2-clause-read t c = λ n h.
    let tokens = c.args.tokens.now in
    let token = c.index-tokens-at.result in
    let prefix : drop c.args.at tokens ≡ token ∷ drop (suc c.args.at) tokens = drop-cons tokens c.args.at token (omega arith) ∙ ap (λ x. x ∷ drop (suc c.args.at) tokens) (sym c.index-tokens-at.is) in
    g.one_token n (drop c.args.at tokens) (drop (suc c.args.at) tokens) token (sym c.if-begins.ensures.value) prefix ∙ rw (c.in_ok-alone.ensures, c.in-None-2.is) refl

pub primary_at-returns-in-Some-2-clause-read : goal.primary_at-returns-in-Some-2-clause-read
primary_at-returns-in-Some-2-clause-read t c = λ n h.
    let tokens = c.args.tokens.now in
    let token = c.index-tokens-at.result in
    let prefix : drop c.args.at tokens ≡ token ∷ drop (suc c.args.at) tokens = drop-cons tokens c.args.at token (omega arith) ∙ ap (λ x. x ∷ drop (suc c.args.at) tokens) (sym c.index-tokens-at.is) in
    let next : suc c.args.at ≡ c.args.at + 1 = omega arith in
    let rest : past_suffix (drop (suc c.args.at) tokens) ≡ drop c.suffix_end-end-in-Some-2.result tokens = ap (λ k. past_suffix (drop k tokens)) next ∙ c.suffix_end-end-in-Some-2.ensures.value in
    g.one_token n (drop c.args.at tokens) (drop (suc c.args.at) tokens) token (sym c.if-begins.ensures.value) prefix ∙ rw (c.in_ok-alone.ensures, c.in-Some-2.is, rest) refl
