use Rattle.std.proofs.Common.{◌≡◌, suc, ◌+◌, List, ◌∷◌, drop, sym, subst, ◌∙◌, arith}
use Rattle.std.proofs.Math.Seq.{drop-cons}
use Rattle.kc_lex.specs.declared.token.Line.{Line}
use Rattle.kc_source.specs.Passing.{IsReading}
use Rattle.kc_source.proofs.pass.read.Goals as goal

pub loop-line-preserved : goal.loop-line-preserved
loop-line-preserved c =
    let lines = c.args.lines.now in
    let i = c.loop-line.line-index in
    let line = c.line-item.result in
    let next : suc i ≡ i + 1 = omega arith in
    let prefix : drop i lines ≡ line ∷ drop (i + 1) lines = drop-cons lines i line c.loop-line-test.true ∙ (λ j. sym c.line-item.is j ∷ drop (next j) lines) in
    c.in_ok-take_line.ensures (drop (i + 1) lines) lines (subst (λ (ls : List Line). IsReading c.loop-line.pass ls lines) prefix c.loop-line.invariant)
