use Rattle.std.proofs.Common.{[]}
use Rattle.kc_source.specs.Faults.{all_said, all_uses}
use Rattle.kc_asm_origin.proofs.Uses.{known_turned, ends}
use Rattle.kc_asm_origin.proofs.names.used.Goals as goal

pub returns : goal.returns
returns c =
    let whole = all_uses (all_said c.args.lines.now) in
    let line = c.args.line in
    let code = c.args.code in
    let first = c.in_ok-pass_lines.ensures line code [] whole (c.new-first.ensures [] whole c.new.ensures) in
    let known = known_turned _ first.earlier whole first.passed first.before in
    ends _ line code whole whole (c.in_ok-pass_lines-2.ensures line code whole whole (c.new-search.ensures whole whole known))
