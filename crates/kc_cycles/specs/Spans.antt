-- Spans of states in which no deadline can fall (this kit's own).
use Rattle.std.specs.Prelude.{ℕ, ◌+◌, min, Option, Some, None}
use Rattle.kc_cycles.specs.Watching.{patience}

-- up to the deadline; where there is none, no feeding from now on can set one that comes sooner than this
abbrev pub end_of_span : ℕ → Option ℕ → ℕ → ℕ
end_of_span now (Some at) until = min until at
end_of_span now None until = min until (now + patience)
