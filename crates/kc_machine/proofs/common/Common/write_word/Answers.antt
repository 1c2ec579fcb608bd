use Rattle.std.proofs.Common.{◌-◌, ◌≤◌, ap, sym, subst, arith, rules}
use Rattle.std.proofs.lemmas.Grind.{common_steps}
use Rattle.kc_block.specs.Seen.{Seen}
use Rattle.kc_machine.specs.Bus.{held_of}
use Rattle.kc_machine.proofs.Noting.{word-was-written, word-counts, word-some, zeros-were-written, zeros-accept, refused-scene}
use Rattle.kc_machine.proofs.common.Common.write_word.Goals as goal

pub returns-then-addr-lt2-clause-ok : goal.returns-then-addr-lt2-clause-ok
returns-then-addr-lt2-clause-ok g c = zeros-were-written g.X.Extra.further (held_of c.args.self.now) c.args.by c.args.addr c.args.value (omega arith)

pub returns-then-addr-lt2-clause-answer : goal.returns-then-addr-lt2-clause-answer
returns-then-addr-lt2-clause-answer g c = zeros-accept g.X.Extra.further (held_of c.args.self.now) c.args.by c.args.addr c.args.value (omega arith)

pub returns-in-Ok-clause-ok : goal.returns-in-Ok-clause-ok
returns-in-Ok-clause-ok g c =
    word-was-written g.X.Extra.further (held_of c.args.self.now) c.args.by c.args.addr c.args.value c.window-window.result _ _ _ _ c.requires.register c.window-window.ensures
    c.in-Ok.ensures.ok (ap (λ t. t - 1) c.write16_here.ensures.time) c.write16_here.ensures.edges (rw c.weigh_word.ensures.value at c.count-self.ensures)

pub returns-in-Ok-clause-counts : goal.returns-in-Ok-clause-counts
returns-in-Ok-clause-counts g c = record {
  time = first_of (search rules, grind (arith, common_steps));
  later = first_of (search rules, grind (arith, common_steps));
  steps = word-counts c.weigh_word.result _ _ _ _ (subst (λ n. 2 ≤ n) (sym c.weigh_word.ensures.value) (word-some _ c.if-addr-lt2.false)) c.write16_here.ensures.steps c.count-self.ensures;
  moves = word-counts c.weigh_word.result _ _ _ _ (subst (λ n. 2 ≤ n) (sym c.weigh_word.ensures.value) (word-some _ c.if-addr-lt2.false)) c.write16_here.ensures.moves c.count-self.ensures;
}

pub returns-in-Err-clause-err : goal.returns-in-Err-clause-err
returns-in-Err-clause-err g c =
    refused-scene g.X.Extra.further (held_of c.args.self.now) _ _ _ (ap (λ t. t - 1) c.write16_here.ensures.time) (ap (λ (b : Seen _). b.units) c.in-Err.ensures.refused) c.write16_here.ensures.edges
