-- How many times a price is counted, by what it is counted for.
use Rattle.std.specs.Prelude.{ℕ}
use Rattle.kc_bound.specs.declared.notes.Loop.{Loop}
use Rattle.kc_bound.specs.Notes.{turns_at}
use Rattle.kc_bound.specs.Certified.{begins_at}
use Rattle.kc_bound_requests.specs.Latency.{most_turns}
use Rattle.kc_bound_requests.specs.declared.latency_prices.Times.{Times}
use Rattle.kc_bound_requests.specs.declared.latency_prices.Times.TheVariants.{Begins, Turns, All}

abbrev pub times_of : Times → Loop → ℕ
times_of (Begins a) = begins_at a
times_of (Turns a) = turns_at a
times_of All = most_turns
