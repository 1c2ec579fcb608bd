-- How far a pass over lines has come: what it has, and what the rest gives, is what all lines give.
use Rattle.std.specs.Prelude.{◌≡◌, true, List, ◌++◌, None, map}
use Rattle.kc_lex.specs.declared.token.Line.{Line}
use Rattle.kc_source.specs.declared.pass.Pass.{Pass}
use Rattle.kc_source.specs.Faults.{lesser, least, all_said, line_faults, all_uses, stmt_said}

pub record IsReading (pass : Pass) (rest all : List Line) : Type 0 where
  pub found : lesser pass.found (least (line_faults pass.first pass.code (all_said rest))) ≡ least (line_faults true true (all_said all))
  pub uses : pass.uses.items ++ all_uses (all_said rest) ≡ all_uses (all_said all)
  pub stmts : pass.found ≡ None → map stmt_said pass.stmts.items ++ all_said rest ≡ all_said all
