-- A file, line by line.
use Rattle.std.proofs.Common.{◌≡◌, ℕ, ◌+◌, List, [], ◌∷◌, Some, None, Ok, Err, length, refl, sym, ap, ◌∙◌, arith}
use Rattle.kc_base.specs.TextLines.{text_lines}
use Rattle.kc_rules.specs.declared.fault.RulesFault.{RulesFault}
use Rattle.kc_rules.specs.declared.fault.RulesFault.TheVariants as faults
use Rattle.kc_rules.specs.Lines.{Book, with_line, read_lines, book_of, IsRead}

none_read : (clock before : ℕ) (text : List ℕ) (lines : List (List ℕ)) (book : Book) →
    with_line clock (before + 1) text book ≡ None → read_lines clock before (text ∷ lines) book ≡ Err (before + 1)
unfolding read_lines
none_read clock before text lines book none = rw (none, read_lines) refl

some_read : (clock before : ℕ) (text : List ℕ) (lines : List (List ℕ)) (book more : Book) →
    with_line clock (before + 1) text book ≡ Some more → read_lines clock before (text ∷ lines) book ≡ read_lines clock (before + 1) lines more
unfolding read_lines
some_read clock before text lines book more some = rw (some, read_lines) refl

-- a line that has no reading
pub refused : (clock : ℕ) (bytes : List ℕ) (lines : ℕ) (text line rest : List ℕ) (book : Book) (fault : RulesFault) → text_lines text ≡ line ∷ text_lines rest →
    read_lines clock lines (text_lines text) book ≡ book_of clock bytes →
    ((n : ℕ) → fault ≡ faults.BadRule n → (n ≡ lines + 1) × (with_line clock (lines + 1) line book ≡ None)) → IsRead clock bytes (Err fault)
refused clock bytes lines text line rest book (faults.BadRule n) split all reported =
    let here = reported n refl in
    sym all ∙ ap (λ ls. read_lines clock lines ls book) split ∙ none_read clock lines line (text_lines rest) book here.1 ∙ ap (λ m. Err m) (sym here.0)
refused clock bytes lines text line rest book faults.NoMemory split all reported = tt

-- a line that has one
pub next : (clock lines : ℕ) (text line rest : List ℕ) (book more : Book) → text_lines text ≡ line ∷ text_lines rest →
    with_line clock (lines + 1) line book ≡ Some more → read_lines clock lines (text_lines text) book ≡ read_lines clock (lines + 1) (text_lines rest) more
next clock lines text line rest book more split here =
    ap (λ ls. read_lines clock lines ls book) split ∙ some_read clock lines line (text_lines rest) book more here

-- no line is left
pub ended : (clock lines : ℕ) (text : List ℕ) (book : Book) → length text ≡ 0 → read_lines clock lines (text_lines text) book ≡ Ok book
unfolding read_lines text_lines
ended clock lines [] book none = refl
ended clock lines (c ∷ cs) book none = absurd (omega arith)
