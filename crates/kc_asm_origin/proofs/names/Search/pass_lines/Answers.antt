use Rattle.std.proofs.Common.{◌+◌, List, drop, subst}
use Rattle.std.proofs.Math.ListN.{drop_of_length-le}
use Rattle.kc_lex.specs.declared.token.Line.{Line}
use Rattle.kc_source.specs.declared.uses.Use.{Use}
use Rattle.kc_source.specs.Faults.{all_said, all_uses}
use Rattle.kc_asm_symbols.proofs.ExternalLemmas.{prefix}
use Rattle.kc_asm_origin.specs.Seeking.{IsSeeking}
use Rattle.kc_asm_origin.proofs.Uses.{no_lines}
use Rattle.kc_asm_origin.proofs.names.Search.pass_lines.Goals as goal

pub loop-line-init : goal.loop-line-init
loop-line-init c = λ at code all whole r. r

pub loop-line-preserved : goal.loop-line-preserved
loop-line-preserved c = λ at code all whole r.
    let lines = c.args.lines.now in
    let i = c.loop-line.line-index in
    let split = prefix lines i c.line-item.result c.loop-line-test.true c.line-item.is in
    c.in_ok-pass_line.ensures at code all (drop (i + 1) lines) whole
    (subst (λ (ls : List Line). IsSeeking c.loop-line.self at code all (all_uses (all_said ls)) whole) split (c.loop-line.invariant at code all whole r))

pub returns : goal.returns
returns c = λ at code all whole r.
    subst (λ (us : List Use). IsSeeking c.loop-line.self at code all us whole) no_lines
    (subst (λ (ls : List Line). IsSeeking c.loop-line.self at code all (all_uses (all_said ls)) whole) (drop_of_length-le c.args.lines.now c.loop-line-test.false) (c.loop-line.invariant at code all whole r))
