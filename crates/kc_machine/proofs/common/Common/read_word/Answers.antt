use Rattle.std.proofs.Common.{◌-◌, ◌≤◌, ap, sym, subst, arith, rules}
use Rattle.std.proofs.lemmas.Grind.{common_steps}
use Rattle.kc_machine.specs.Bus.{held_of}
use Rattle.kc_machine.proofs.Noting.{word-was-read, word-counts, word-some, zeros-were-read, zeros-answer}
use Rattle.kc_machine.proofs.common.Common.read_word.Goals as goal

pub returns-then-addr-lt2-clause-ok : goal.returns-then-addr-lt2-clause-ok
returns-then-addr-lt2-clause-ok g c = zeros-were-read g.X.Extra.further (held_of c.args.self.now) c.args.by c.args.addr (omega arith)

pub returns-then-addr-lt2-clause-answer : goal.returns-then-addr-lt2-clause-answer
returns-then-addr-lt2-clause-answer g c = zeros-answer g.X.Extra.further (held_of c.args.self.now) c.args.by c.args.addr (omega arith)

pub returns-clause-ok : goal.returns-clause-ok
returns-clause-ok g c =
    word-was-read g.X.Extra.further (held_of c.args.self.now) c.args.by c.args.addr c.window-window.result _ _ _ c.requires.register c.window-window.ensures
    c.in_ok-value.ensures.ok (ap (λ t. t - 1) c.read16_here.ensures.time) (rw c.weigh_word.ensures.value at c.count-self.ensures)

pub returns-clause-counts : goal.returns-clause-counts
returns-clause-counts g c = record {
  time = first_of (search rules, grind (arith, common_steps));
  later = first_of (search rules, grind (arith, common_steps));
  steps = word-counts c.weigh_word.result _ _ _ _ (subst (λ n. 2 ≤ n) (sym c.weigh_word.ensures.value) (word-some _ c.if-addr-lt2.false)) c.read16_here.ensures.steps c.count-self.ensures;
  moves = word-counts c.weigh_word.result _ _ _ _ (subst (λ n. 2 ≤ n) (sym c.weigh_word.ensures.value) (word-some _ c.if-addr-lt2.false)) c.read16_here.ensures.moves c.count-self.ensures;
}
