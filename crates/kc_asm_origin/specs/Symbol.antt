-- Which name the first fault of a source is about (this kit's own).
use Rattle.std.specs.Prelude.{ℕ, List, [], ◌∷◌, Option, Some, None, Result, Ok, Err}
use Rattle.kc_lex.specs.declared.token.Line.{Line}
use Rattle.kc_lex.specs.Lines.{lines_of}
use Rattle.kc_macro.specs.Expansion.{expanded}
use Rattle.kc_source_statement.specs.Trees.{ActionTree, Bare}
use Rattle.kc_source.specs.Faults.{Fault, Said, all_said, all_uses, faults_of, least}
use Rattle.kc_asm_symbols.specs.declared.segments.Segment.{Segment}
use Rattle.kc_asm_symbols.specs.Located.{Located, first_segment, segment_after, value_at}
use Rattle.kc_asm_origin.specs.Uses.{used_at}
use Rattle.kc_asm_origin.specs.Values.{symbol_at}

-- ---- the statements of a text, where each stands at 0 in its segment: which names mean something does not depend on places

abbrev pub action_in : Result ActionTree ℕ → ActionTree
action_in (Ok a) = a
action_in (Err code) = Bare

abbrev pub standing_at_zero : Segment → Said → Located
standing_at_zero g s = record { line = s.line; label = s.label; action = action_in s.action; segment = g; here = value_at g 0 }

unfoldable pub at_zero_from : Segment → List Said → List Located
at_zero_from g [] = []
at_zero_from g (s ∷ ss) = standing_at_zero g s ∷ at_zero_from (segment_after g (action_in s.action)) ss

-- ---- the whole: a text of which some line is no statement, or some name is used wrongly, has uses of names, and any other statements

abbrev pub by_fault : ℕ → ℕ → List Said → Option Fault → Option (List ℕ)
by_fault line code said (Some f) = used_at line code (all_uses said)
by_fault line code said None = symbol_at line code (at_zero_from first_segment said)

abbrev pub in_text : ℕ → ℕ → Option (Result (List Line) Fault) → Option (List ℕ)
in_text line code (Some (Ok text)) = by_fault line code (all_said text) (least (faults_of text))
in_text line code (Some (Err f)) = None
in_text line code None = None

abbrev pub in_lines : ℕ → ℕ → Result (List Line) Fault → Option (List ℕ)
in_lines line code (Ok lines) = in_text line code (expanded lines)
in_lines line code (Err f) = None

-- the name that the refusal of a source at a line with a code is about; a fault of its lines or its macros is about none
abbrev pub symbol_of : List ℕ → ℕ → ℕ → Option (List ℕ)
symbol_of source line code = in_lines line code (lines_of source)
