-- A trace that is read line by line (this kit's own).
use Rattle.std.specs.Prelude.{◌≡◌, ◌≢◌, ℕ, ◌+◌, ◌-◌, ◌^◌, min, Option, Some, None, Result, Err, List, [], ◌∷◌, false}
use Rattle.std.specs.Io.KnownBytes.{Keeps}
use Rattle.kc_base.specs.Causes.{Rose}
use Rattle.kc_base.specs.TextLines.{text_lines}
use Rattle.kc_byte_source.specs.Feed.{GaveLine}
use Rattle.kc_events.specs.declared.line.Line.{Line}
use Rattle.kc_events.specs.declared.trace.TraceFault.{TraceFault}
use Rattle.kc_events.specs.declared.trace.TraceFault.TheVariants.{BadTrace, Failed}
use Rattle.kc_events.specs.Lines.{line_text}
use Rattle.kc_events.specs.Grammar.{Place, MayFollow, after_line, is_over}
use Rattle.kc_events.specs.Printed.{Kept, place_in}

-- Where the next line stands, what is left of the text, where the source reports it, how many lines were asked for, up to the last
-- number of 64 bits, and how often the source has failed.
pub record Reading : Type 0 where
  pub reader : Kept
  pub left : Option (List ℕ)
  pub count : ℕ
  pub faults : ℕ

-- one more, up to the last number of 64 bits
abbrev pub one_more : ℕ → ℕ
one_more n = min (n + 1) (2 ^ 64 - 1)

-- the next line of the text was given, and it may come there
pub record GaveNext (old : Reading) (line : Line) (new : Reading) : Type 0 where
  pub text : GaveLine old.left (line_text line) new.left
  pub fits : MayFollow (place_in old.reader) line
  pub place : place_in new.reader ≡ after_line (place_in old.reader) line

-- no line that may come at a place has the text that comes there; or none comes, and the trace is not whole
abbrev pub IsWrong : Place → List (List ℕ) → Type 0
IsWrong place [] = is_over place.stage ≡ false
IsWrong place (text ∷ texts) = (line : Line) → MayFollow place line → line_text line ≢ text

abbrev pub IsWrongNext : Place → Option (List ℕ) → Type 0
IsWrongNext place None = Unit {0}
IsWrongNext place (Some text) = IsWrong place (text_lines text)

-- the next line is wrong; or the source has failed, and what is left of the text is the same
abbrev pub IsRefused : Reading → Reading → TraceFault → Type 0
IsRefused old new (BadTrace line) = (line ≡ one_more old.count) × IsWrongNext (place_in old.reader) old.left × (new.reader ≡ old.reader)
IsRefused old new Failed = Rose old.faults new.faults × Keeps old.left new.left × (new.reader ≡ old.reader)

-- a read that has failed is no line
abbrev pub count_after : Result (Option Line) TraceFault → ℕ → ℕ
count_after (Err Failed) n = n
count_after _ n = one_more n
