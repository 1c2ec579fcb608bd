use Rattle.std.proofs.Common.{◌+◌, ◌-◌, true, false, length, refl, sym, ap, ◌∙◌}
use Rattle.kc_base.proofs.TextLineLemmas.{take_while-end}
use Rattle.kc_byte_source.proofs.LineLemmas.{ended, last}
use Rattle.kc_byte_source.proofs.lines.line_in.Goals as goal

pub returns-then-n-text-clause-last : goal.returns-then-n-text-clause-last
returns-then-n-text-clause-last c = λ some all.
    let up = c.requires.value ∙ ap length (take_while-end c.args.text.now) in
    last c.args.text.now c.args.n some up all

pub returns-then-ends_return-clause-ended : goal.returns-then-ends_return-clause-ended
returns-then-ends_return-clause-ended c = λ less rest.
    let up = c.requires.value ∙ ap length (take_while-end c.args.text.now) in
    let is = sym c.if-ends_return.true ∙ c.ends_return.ensures in
    ended c.args.text.now rest c.args.n (c.args.n - 1) (c.args.n + 1) true up less is refl refl

pub returns-else-ends_return-clause-ended : goal.returns-else-ends_return-clause-ended
returns-else-ends_return-clause-ended c = λ less rest.
    let up = c.requires.value ∙ ap length (take_while-end c.args.text.now) in
    let is = sym c.if-ends_return.false ∙ c.ends_return.ensures in
    ended c.args.text.now rest c.args.n c.args.n (c.args.n + 1) false up less is refl refl
