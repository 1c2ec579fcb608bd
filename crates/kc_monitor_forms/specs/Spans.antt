-- Whether a length or a number lies in a span (this kit's own).
use Rattle.std.specs.Prelude.{ℕ, nat_le, nat_lt, Bool, true, false, ◌&&◌, Option, Some, None}
use Rattle.kc_rules.specs.declared.rule.Span.{Span}

abbrev pub is_least : Option ℕ → ℕ → Bool
is_least None n = true
is_least (Some a) n = nat_le a n

abbrev pub is_most : Option ℕ → ℕ → Bool
is_most None n = true
is_most (Some b) n = nat_le n b

abbrev pub is_within : Span → ℕ → Bool
is_within span n = is_least span.least n && is_most span.most n

-- what goes on is too long, or too many, already
abbrev pub is_past : Option ℕ → ℕ → Bool
is_past None n = false
is_past (Some b) n = nat_lt b n
