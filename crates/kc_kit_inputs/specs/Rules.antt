-- Rules files (this kit's own).
use Rattle.std.specs.Prelude.{ℕ, List, codes, Result, Ok, Err}
use Rattle.kc_rules.specs.Lines.{Book, book_of}
use Rattle.kc_kit_files.specs.Response.{Response}
use Rattle.kc_kit_inputs.specs.Responses.{line_response}

abbrev pub by_book : List ℕ → List ℕ → Result Book ℕ → Result Book Response
by_book name text (Ok book) = Ok book
by_book name text (Err line) = Err (line_response name text line (codes "BADRULE"))

-- the marks and rules of a file, at an oscillator of so many hertz, or the response to its first line that has no reading
abbrev pub rules_of : List ℕ → ℕ → List ℕ → Result Book Response
rules_of name clock text = by_book name text (book_of clock text)
