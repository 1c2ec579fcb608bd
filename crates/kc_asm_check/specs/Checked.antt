-- What the check of a module answers: its first fault; or, where it has none, what its statements put, the bytes of its stack,
-- and what names mean by all statements.
use Rattle.std.specs.Prelude.{◌≡◌, List, reverse, map, Some, None, Result, Ok, Err}
use Rattle.kc_lex.specs.LineFaults.{Fault}
use Rattle.kc_source_statement.specs.declared.statement.Stmt.{Stmt}
use Rattle.kc_asm_symbols.specs.Walk.{IsBehind}
use Rattle.kc_asm_emit.specs.Seen.{seen}
use Rattle.kc_asm_check.specs.declared.checked.Checked.{Checked}
use Rattle.kc_asm_check.specs.declared.checked.Put.{Put as Made}
use Rattle.kc_asm_check.specs.Checking.{first_fault, standing}
use Rattle.kc_asm_check.specs.Putting.{Put, puts_of, stack_of}

abbrev pub seen_put : Made → Put
seen_put p = record { content = seen p.content; opens = p.opens }

pub record IsChecked (stmts : List Stmt) (c : Checked) : Type 0 where
  pub puts : map seen_put c.puts.items ≡ puts_of stmts
  pub stack : c.stack ≡ stack_of stmts
  pub meanings : IsBehind c.meanings (standing stmts) (reverse (standing stmts))

abbrev pub IsExamined : List Stmt → Result Checked Fault → Type 0
IsExamined stmts (Ok c) = (first_fault stmts ≡ None) × IsChecked stmts c
IsExamined stmts (Err f) = first_fault stmts ≡ Some f
