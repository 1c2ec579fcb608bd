use Rattle.std.proofs.Common.{sym, ◌∙◌}
use Rattle.kc_lex.proofs.ControlLemmas.{comment_found, no_text, text_read, all_read}
use Rattle.kc_lex.proofs.reader.has_text.Goals as goal

pub returns-then-begins_comment : goal.returns-then-begins_comment
returns-then-begins_comment c = sym (sym c.loop-b.invariant ∙ comment_found c.loop-b.quoted c.args.line.now c.loop-b.b-index c.loop-b-test.true (sym c.if-begins_comment.ensures))

pub returns-then-not-is_text : goal.returns-then-not-is_text
returns-then-not-is_text c = sym (sym c.loop-b.invariant ∙ no_text c.loop-b.quoted c.args.line.now c.loop-b.b-index c.loop-b-test.true (sym c.if-begins_comment.ensures) (sym c.if-not-is_text.ensures))

pub loop-b-preserved : goal.loop-b-preserved
loop-b-preserved c = rw c.turned-quoted.ensures (text_read c.loop-b.quoted c.args.line.now c.loop-b.b-index c.loop-b-test.true (sym c.if-begins_comment.ensures) (sym c.if-not-is_text.ensures) ∙ c.loop-b.invariant)

pub returns : goal.returns
returns c = sym (sym c.loop-b.invariant ∙ all_read c.loop-b.quoted c.args.line.now c.loop-b.b-index c.loop-b-test.false)
