use Rattle.std.proofs.Common.{sym, ap, ◌∙◌, Option}
use Rattle.std.specs.Prelude.{is_some}
use Rattle.kc_lex.specs.declared.words.Operands.{Operands}
use Rattle.kc_lex.proofs.ReservedLemmas.{Says}
use Rattle.kc_lex.proofs.ReservedWords.{reserved_there, reserved_else}
use Rattle.kc_lex.proofs.words.is_reserved.Goals as goal

pub returns-then-is_some : goal.returns-then-is_some
returns-then-is_some c =
    let says : Says c.args.word.now c.find.result = record { operator = c.find.ensures.operator; condition = c.find.ensures.condition; branch = c.find.ensures.branch; directive = c.find.ensures.directive; stack = c.find.ensures.stack } in
    c.if-is_some.true ∙ sym (reserved_there c.args.word.now c.find.result says (sym c.is_some.ensures ∙ c.if-is_some.true))

pub returns-else-is_some : goal.returns-else-is_some
returns-else-is_some c =
    let says : Says c.args.word.now c.find.result = record { operator = c.find.ensures.operator; condition = c.find.ensures.condition; branch = c.find.ensures.branch; directive = c.find.ensures.directive; stack = c.find.ensures.stack } in
    c.is_some-else-is_some.ensures ∙ (ap (λ (o : Option Operands). is_some o) c.operands_of.ensures ∙ sym (reserved_else c.args.word.now c.find.result says (sym c.is_some.ensures ∙ c.if-is_some.false)))
