-- Timer 1, which nothing writes (80C196KC User's Manual, "Timer 1").
use Rattle.std.specs.Prelude.{ℕ, ◌/◌, ◌%◌}

-- what Timer 1 reads in state t: it counts in each eighth state
abbrev pub timer1_of : ℕ → ℕ
timer1_of t = (t / 8) % 65536
