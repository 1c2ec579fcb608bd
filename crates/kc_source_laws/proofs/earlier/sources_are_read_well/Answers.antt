use Rattle.kc_source_laws.proofs.earlier.sources_are_read_well.Goals as goal

pub returns : goal.returns
returns c = λ source lines text stmts read expands are. record {
  reported = c.statements_are_reported.ensures text stmts (c.texts_are_reported.ensures source lines text read expands) are;
  in_code = c.bytes_stand_in_code.ensures text stmts are;
}
