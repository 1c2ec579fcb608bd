-- An analogue file: its values, or its first line that has a fault (this kit's own).
use Rattle.std.specs.Prelude.{◌≡◌, ℕ, ◌+◌, ◌-◌, ◌==◌, nat_le, nat_lt, if◌then◌else◌, Bool, true, false, ◌&&◌, ◌||◌, Option, Some, None, Result, Ok, Err, List, [], ◌∷◌, ◌++◌, length, map, fold, slice_get}
use Rattle.std.specs.List.{list_any}
use Rattle.kc_base.specs.TextLines.{text_lines}
use Rattle.kc_convert.specs.declared.sample.Sample.{Sample}
use Rattle.kc_convert.specs.declared.sample.Item.{Item}
use Rattle.kc_convert.specs.declared.sample.Item.TheVariants.{Blank, Sampled, Wrong}
use Rattle.kc_convert.specs.declared.fault.AnalogFault.{AnalogFault}
use Rattle.kc_convert.specs.declared.fault.AnalogFault.TheVariants.{BadLine, NoMemory}
use Rattle.kc_convert.specs.Lines.{item_of}
use Rattle.kc_convert.specs.Samples.{AreOfFile}

-- a line adds its value
abbrev pub with_item : List Sample → Item → List Sample
with_item samples Blank = samples
with_item samples Wrong = samples
with_item samples (Sampled s) = samples ++ s ∷ []

abbrev pub is_later : Option Sample → ℕ → Bool
is_later None t = false
is_later (Some s) t = nat_lt t s.at

-- whether the last value has a later time
abbrev pub is_falling : List Sample → ℕ → Bool
is_falling samples t = is_later (slice_get samples (length samples - 1)) t

-- whether the channel has a value at this time already
abbrev pub is_twice : List Sample → Sample → Bool
is_twice samples new = list_any (λ s. (s.at == new.at) && (s.channel == new.channel)) samples

-- whether an item is at fault after these values
abbrev pub is_bad : List Sample → Item → Bool
is_bad samples Blank = false
is_bad samples Wrong = true
is_bad samples (Sampled s) = is_falling samples s.at || (is_twice samples s || nat_le 65536 (length samples))

-- the first line of these that is at fault, after so many lines and their values
unfoldable pub first_bad : ℕ → List Sample → List Item → Option ℕ
first_bad lines samples [] = None
first_bad lines samples (item ∷ items) =
    if is_bad samples item then Some (lines + 1) else first_bad (lines + 1) (with_item samples item) items

abbrev pub items_of : List ℕ → List Item
items_of bytes = map item_of (text_lines bytes)

-- a refusal is the first line that is at fault; memory may run out at any time
abbrev pub IsRefusal : List ℕ → AnalogFault → Type 0
IsRefusal bytes NoMemory = Unit {0}
IsRefusal bytes (BadLine line) = first_bad 0 [] (items_of bytes) ≡ Some line

-- an answer is the values of a file without a fault, or its refusal
abbrev pub IsRead : List ℕ → Result (List Sample) AnalogFault → Type 0
IsRead bytes (Ok samples) = (first_bad 0 [] (items_of bytes) ≡ None) × (samples ≡ fold with_item [] (items_of bytes))
IsRead bytes (Err fault) = IsRefusal bytes fault

-- the law: what a file gives is ten bits each of inputs that there are, in the order of times
abbrev pub FilesGiveValues : Type 0
FilesGiveValues = (bytes : List ℕ) (samples : List Sample) → IsRead bytes (Ok samples) → AreOfFile samples
