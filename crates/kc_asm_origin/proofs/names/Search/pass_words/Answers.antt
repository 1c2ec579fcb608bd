use Rattle.std.proofs.Common.{◌≡◌, ◌++◌, List, refl, subst}
use Rattle.kc_source.specs.declared.uses.Use.{Use}
use Rattle.kc_source.specs.Faults.{read_uses}
use Rattle.kc_source_statement.specs.Statements.{label_in, statement_in}
use Rattle.kc_asm_origin.specs.Seeking.{IsSeeking}
use Rattle.kc_asm_origin.proofs.Uses.{label_first}
use Rattle.kc_asm_origin.proofs.names.Search.pass_words.Goals as goal

pub returns : goal.returns
returns c = λ at code all rest whole r.
    let l = c.args.line.now in
    c.in_ok-pass_behind.ensures at code all rest whole
    (c.in_ok-pass_first.ensures at code all (read_uses l.number (statement_in l.tokens) ++ rest) whole
    (subst (λ (us : List Use). IsSeeking c.args.self.now at code all us whole) (label_first l (label_in l.tokens) (statement_in l.tokens) rest refl refl) r))
