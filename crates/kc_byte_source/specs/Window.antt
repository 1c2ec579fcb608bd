-- What a source has given and nobody has taken yet (this kit's own).
use Rattle.std.specs.Prelude.{◌≡◌, ℕ, ◌+◌, ◌-◌, ◌<◌, ◌≤◌, ◌==◌, true, not, Option, List, [], length, take, drop, vec_len, unwrap_or}
use Rattle.std.specs.List.{take_while}
use Rattle.std.specs.Io.KnownBytes.{prepend_known}
use Rattle.kc_byte_source.specs.declared.window.Window.{Window}

-- what nobody has taken yet
abbrev pub unread : {S : Type 0} → Window S → List ℕ
unread w = take (w.to - w.from) (drop w.from w.room.items)

-- what is left of the text: that, and the bytes to come
abbrev pub left : {S : Type 0} → (S → Option (List ℕ)) → Window S → Option (List ℕ)
left to_come w = prepend_known (unread w) (to_come w.source)

-- it stands in the room, and behind a source that is over no byte is to come
pub record IsWhole {S : Type 0} (to_come : S → Option (List ℕ)) (w : Window S) : Type 0 where
  pub order : w.from ≤ w.to
  pub within : w.to ≤ vec_len w.room
  pub over : w.is_over ≡ true → unwrap_or (to_come w.source) [] ≡ []

-- how many bytes stand before the first line feed
abbrev pub first_len : List ℕ → ℕ
first_len text = length (take_while (λ b. not (b == 10)) text)

-- more bytes than a line of this bound has with a carriage return, and no line feed among them
pub record IsLongFirst (most : ℕ) (text : List ℕ) : Type 0 where
  pub none : first_len text ≡ length text
  pub more : most + 1 < length text
