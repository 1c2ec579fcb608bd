-- Marks: events that have a name (this kit's own).
use Rattle.std.specs.Prelude.{ℕ, ◌==◌, nat_le, if◌then◌else◌, Bool, false, not, ◌&&◌, ◌||◌, Option, Some, None, List, [], ◌∷◌, length, codes, is_none}
use Rattle.std.specs.List.{list_any, list_all}
use Rattle.std.specs.Char.{is_ascii_alphabetic, is_ascii_digit}
use Rattle.std.specs.Str.{bytes_eq}
use Rattle.kc_base.specs.Fields.{pin_of}
use Rattle.kc_rules.specs.declared.events.Atom.{Atom}
use Rattle.kc_rules.specs.declared.amount.Amount.{Amount}
use Rattle.kc_rules.specs.declared.amount.Amount.TheVariants as amounts
use Rattle.kc_rules.specs.declared.mark.Mark.{Mark}
use Rattle.kc_rules.specs.declared.mark.MarkForm.{MarkForm}
use Rattle.kc_rules.specs.declared.mark.MarkForm.TheVariants as forms
use Rattle.kc_rules.specs.Words.{Word}
use Rattle.kc_rules.specs.Readings.{Reading, ◌>>=◌, ◌>>◌, says, word_at, one, word, behind_or}
use Rattle.kc_rules.specs.Amounts.{ordinal_of, begins_digit, ceiling, amount_of}
use Rattle.kc_rules.specs.Events.{events, mark_named}

-- ---- names

abbrev pub own_words : List Word
own_words =
    codes "mark" ∷ codes "never" ∷ codes "after" ∷ codes "each" ∷ codes "every" ∷ codes "within" ∷ codes "at" ∷ codes "of"
    ∷ codes "to" ∷ codes "in" ∷ codes "from" ∷ codes "before" ∷ codes "if" ∷ codes "any" ∷ codes "high" ∷ codes "low"
    ∷ codes "for" ∷ codes "and" ∷ codes "apart" ∷ codes "or" ∷ codes "while" ∷ codes "rise" ∷ codes "fall" ∷ codes "edge"
    ∷ codes "entry" ∷ codes "transfer" ∷ codes "undefined" ∷ codes "reset" ∷ codes "watchdog" ∷ codes "powerdown"
    ∷ codes "quiet" ∷ codes "life" ∷ codes "input" ∷ codes "least" ∷ codes "most" ∷ codes "no" ∷ []

unfoldable pub is_own : Word → Bool
is_own w = list_any (λ own. bytes_eq own w) own_words

abbrev pub is_first : ℕ → Bool
is_first c = is_ascii_alphabetic c || (c == 95)

abbrev pub is_later : ℕ → Bool
is_later c = is_first c || is_ascii_digit c

-- a letter or `_`, then at most 30 of these and digits
abbrev pub is_spelled : Word → Bool
is_spelled [] = false
is_spelled (c ∷ cs) = is_first c && (list_all is_later cs && nat_le (length cs) 30)

-- no word of the language, no pin, and none of the names that there are
abbrev pub is_free : List Word → Word → Bool
is_free marks w = is_spelled w && (not (is_own w) && (is_none (pin_of w) && is_none (mark_named marks w)))

abbrev pub free_name : List Word → Word → Option Word
free_name marks w = if is_free marks w then Some w else None

-- ---- forms

abbrev pub quiet_by : List Atom → Amount → MarkForm
quiet_by es (amounts.Time time) = forms.QuietFor es (ceiling time)
quiet_by es (amounts.Share share) = forms.QuietShare es share

unfoldable pub quiet_mark : ℕ → List Word → Reading MarkForm
quiet_mark clock marks = do
  es ← events marks
  behind_or (codes "after") (do gap ← one (amount_of clock); word (codes "quiet"); says (quiet_by es gap)) (says (forms.Same es))

unfoldable pub every_mark : List Word → Reading MarkForm
every_mark marks = do
  k ← one ordinal_of
  es ← events marks
  says (forms.Every k es)

unfoldable pub from_mark : List Word → Reading MarkForm
from_mark marks = do
  k ← one ordinal_of
  es ← events marks
  word (codes "from")
  first ← events marks
  says (forms.From k es first)

-- whether the first word begins with a digit
abbrev pub sees_digit : Reading Bool
sees_digit words = Some (begins_digit (word_at 0 words), words)

unfoldable pub mark_form : ℕ → List Word → Reading MarkForm
mark_form clock marks = behind_or (codes "every") (every_mark marks) (sees_digit >>= (λ digit. if digit then from_mark marks else quiet_mark clock marks))

-- what stands behind the word `mark`
unfoldable pub mark : ℕ → List Word → Reading Mark
mark clock marks = do
  name ← one (free_name marks)
  word (codes "=")
  form ← mark_form clock marks
  says (record { name = name; form = form })
