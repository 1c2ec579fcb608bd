-- How reading goes on, a line at a time.
use Rattle.std.proofs.Common.{◌≡◌, ℕ, ◌+◌, Bool, true, false, ◌||◌, List, [], ◌∷◌, length, refl, sym, subst, ◌∙◌, ap, arith, Some, None}
use Rattle.std.specs.Prelude.{if◌then◌else◌, map, fold, nat_le}
use Rattle.std.proofs.lemmas.Bool.{or_parts}
use Rattle.kc_base.specs.TextLines.{text_lines}
use Rattle.kc_convert.specs.declared.sample.Sample.{Sample}
use Rattle.kc_convert.specs.declared.sample.Item.{Item}
use Rattle.kc_convert.specs.declared.sample.Item.TheVariants.{Blank, Sampled, Wrong}
use Rattle.kc_convert.specs.Lines.{item_of}
use Rattle.kc_convert.specs.Samples.{AreOfFile}
use Rattle.kc_convert.specs.Reading.{with_item, is_bad, is_falling, is_twice, first_bad, items_of, FilesGiveValues}
use Rattle.kc_convert.proofs.FieldLaws.{item_small}
use Rattle.kc_convert.proofs.SampleLaws.{of_file-push}

-- no line is left
pub fault-done : (lines : ℕ) (samples : List Sample) → first_bad lines samples (items_of []) ≡ None
unfolding first_bad text_lines
fault-done lines samples = refl

pub samples-done : (samples : List Sample) → fold with_item samples (items_of []) ≡ samples
unfolding text_lines
samples-done samples = refl

-- a line without a fault
pub fault-next : (lines : ℕ) (samples : List Sample) (text line rest : List ℕ) → text_lines text ≡ line ∷ text_lines rest → is_bad samples (item_of line) ≡ false →
    first_bad lines samples (items_of text) ≡ first_bad (lines + 1) (with_item samples (item_of line)) (items_of rest)
unfolding first_bad
fault-next lines samples text line rest split none =
    ap (λ ls. first_bad lines samples (map item_of ls)) split
    ∙ ap (λ bad. if bad then Some (lines + 1) else first_bad (lines + 1) (with_item samples (item_of line)) (items_of rest)) none

pub samples-next : (samples : List Sample) (text line rest : List ℕ) → text_lines text ≡ line ∷ text_lines rest →
    fold with_item samples (items_of text) ≡ fold with_item (with_item samples (item_of line)) (items_of rest)
samples-next samples text line rest split = ap (λ ls. fold with_item samples (map item_of ls)) split

-- a line with a fault
pub fault-found : (lines : ℕ) (samples : List Sample) (text line rest : List ℕ) → text_lines text ≡ line ∷ text_lines rest →
    is_bad samples (item_of line) ≡ true → first_bad lines samples (items_of text) ≡ Some (lines + 1)
unfolding first_bad
fault-found lines samples text line rest split found =
    ap (λ ls. first_bad lines samples (map item_of ls)) split
    ∙ ap (λ bad. if bad then Some (lines + 1) else first_bad (lines + 1) (with_item samples (item_of line)) (items_of rest)) found

pub nothing_left : (text : List ℕ) → length text ≡ 0 → text ≡ []
nothing_left [] none = refl
nothing_left (c ∷ cs) none = absurd (omega arith)

-- ---- what a file gives

apart : true ≡ false → ⊥
apart e = absurd cc

item_more : (samples : List Sample) (line : List ℕ) (item : Item) → item_of line ≡ item → is_bad samples item ≡ false → AreOfFile samples → AreOfFile (with_item samples item)
item_more samples line Blank is none h = h
item_more samples line Wrong is none h = absurd (apart none)
item_more samples line (Sampled s) is none h =
    of_file-push samples s h (or_parts (is_falling samples s.at) (is_twice samples s || nat_le 65536 (length samples)) none).0 (item_small line s is)

lines_more : (lines : List (List ℕ)) (n : ℕ) (samples : List Sample) → AreOfFile samples → first_bad n samples (map item_of lines) ≡ None → AreOfFile (fold with_item samples (map item_of lines))
unfolding first_bad
lines_more [] n samples h none = h
lines_more (line ∷ lines) n samples h none =
    by_test (is_bad samples (item_of line)) refl none (λ more. lines_more lines (n + 1) (with_item samples (item_of line)) more)
  where
    by_test : (bad : Bool) → is_bad samples (item_of line) ≡ bad → (if bad then Some (n + 1) else first_bad (n + 1) (with_item samples (item_of line)) (map item_of lines)) ≡ None →
        (AreOfFile (with_item samples (item_of line)) → first_bad (n + 1) (with_item samples (item_of line)) (map item_of lines) ≡ None → AreOfFile (fold with_item (with_item samples (item_of line)) (map item_of lines))) →
        AreOfFile (fold with_item (with_item samples (item_of line)) (map item_of lines))
    by_test true is found later = absurd cc
    by_test false is rest later = later (item_more samples line (item_of line) refl is h) rest

none_of_file : AreOfFile []
none_of_file = record { order = λ j k d le lt. absurd (omega arith); values = λ k d lt. absurd (omega arith) }

pub files_give_values : FilesGiveValues
files_give_values bytes samples read = subst AreOfFile (sym read.1) (lines_more (text_lines bytes) 0 [] none_of_file read.0)
