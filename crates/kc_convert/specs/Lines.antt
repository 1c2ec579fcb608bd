-- What a line of an analogue file is (this kit's own).
use Rattle.std.specs.Prelude.{ℕ, ◌==◌, if◌then◌else◌, Option, Some, None, List, [], ◌∷◌}
use Rattle.kc_base.specs.Fields.{first_of, second_of, third_of, time_of}
use Rattle.kc_convert.specs.declared.sample.Item.{Item}
use Rattle.kc_convert.specs.declared.sample.Item.TheVariants.{Blank, Sampled, Wrong}
use Rattle.kc_convert.specs.Fields.{channel_of, value_of}

abbrev pub sampled : Option ℕ → Option ℕ → Option ℕ → Item
sampled None channel value = Wrong
sampled (Some t) None value = Wrong
sampled (Some t) (Some c) None = Wrong
sampled (Some t) (Some c) (Some v) = Sampled (record { at = t; channel = c; value = v })

abbrev pub sample_line : List ℕ → Item
sample_line cs = sampled (time_of (first_of cs)) (channel_of (second_of cs)) (value_of (third_of cs))

-- A value is `@` with a time, a channel, the value; between them stands one space. Lines without a character, and those that
-- begin with `;`, are blank.
abbrev pub item_of : List ℕ → Item
item_of [] = Blank
item_of (c ∷ cs) =
    if c == 59 then Blank
    else if c == 64 then sample_line cs
    else Wrong
