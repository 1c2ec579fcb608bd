use Rattle.std.proofs.Common.{◌≡◌, ◌≤◌, List, Some, Ok, length, sym, subst, ◌∙◌, arith}
use Rattle.kc_source_laws.proofs.Counts.{lines_numbered, stmt_count}
use Rattle.kc_lex.specs.declared.token.Line.{Line}
use Rattle.kc_asm_list.specs.Depths.{depths_of}
use Rattle.kc_asm_list.specs.Spots.{spots_of}
use Rattle.kc_asm_list.proofs.Refused.{by_macros, by_depths, by_statements}
use Rattle.kc_asm_list.proofs.listed.read_statements.Goals as goal

pub spots_of-requires-clause-few : goal.spots_of-requires-clause-few
spots_of-requires-clause-few c =
    let text : length c.deref.result.now ≤ 65535 = rw c.deref.ensures.value c.in_ok-text.ensures.few in
    let few : length c.in_ok-stmts.stmts.items ≤ 65536 = omega (arith, text, stmt_count c.in_ok-stmts.stmts.items c.deref.result.now c.in_ok-stmts.ensures) in
    rw c.deref-4.ensures.value few

pub returns-in_err-text : goal.returns-in_err-text
returns-in_err-text c =
    let read = c.in_ok-read.read.items in
    by_macros c.args.source.now read c.in_err-text.field-0.0 c.from_residual-in_err-text.result c.in_ok-read.ensures c.from_residual-in_err-text.ensures.1
    (c.in_err-text.ensures.lines (lines_numbered c.args.source.now read c.requires c.in_ok-read.ensures))

pub returns-in_err-deep : goal.returns-in_err-deep
returns-in_err-deep c =
    let again = c.in_ok-again.again.items in
    by_depths c.args.source.now again c.in_err-deep.field-0.0 c.from_residual-in_err-deep.result c.in_ok-again.ensures c.from_residual-in_err-deep.ensures.1
    (c.in_err-deep.ensures.lines (lines_numbered c.args.source.now again c.requires c.in_ok-again.ensures))

pub returns-in_err-stmts : goal.returns-in_err-stmts
returns-in_err-stmts c =
    let read = c.in_ok-read.read.items in
    by_statements c.args.source.now read c.in_ok-text.text.items c.in_err-stmts.field-0.0 c.from_residual-in_err-stmts.result c.in_ok-read.ensures
    (c.in_ok-text.ensures.lines (lines_numbered c.args.source.now read c.requires c.in_ok-read.ensures)) c.from_residual-in_err-stmts.ensures.1
    (rw c.deref.ensures.value at c.in_err-stmts.ensures)

pub returns : goal.returns
returns c =
    let read = c.in_ok-read.read.items in
    let again = c.in_ok-again.again.items in
    let numbered = lines_numbered c.args.source.now in
    let same : read ≡ again = cc (sym c.in_ok-read.ensures ∙ c.in_ok-again.ensures) in
    record {
      lines = read;
      text = c.in_ok-text.text.items;
      is_text = (c.in_ok-read.ensures, c.in_ok-text.ensures.lines (numbered read c.requires c.in_ok-read.ensures));
      depths = c.in_ok-deep.deep.items;
      deep = subst (λ (ls : List Line). depths_of ls ≡ Some (Ok c.in_ok-deep.deep.items)) (sym same) (c.in_ok-deep.ensures.depths (numbered again c.requires c.in_ok-again.ensures));
      said = rw c.deref.ensures.value at c.in_ok-stmts.ensures;
      own = c.in_ok-spots.ensures ∙ (λ i. spots_of (c.deref-2.ensures.value i) (c.deref-3.ensures.value i) (c.deref-4.ensures.value i));
    }
