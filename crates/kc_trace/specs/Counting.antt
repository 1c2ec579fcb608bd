-- How many pin edges, entries and cycles of the transfer server were put, and of which pins (this kit's own).
use Rattle.std.specs.Prelude.{ℕ, ◌+◌, ◌-◌, ◌^◌, bit_or, min, Bool, List, [], ◌∷◌, if◌then◌else◌}
use Rattle.kc_trace.specs.declared.record.Record.{Record}
use Rattle.kc_trace.specs.declared.record.Record.TheVariants.{Pin, Entered, Served}
use Rattle.kc_trace.specs.declared.trace.Counts.{Counts}

-- one more, up to the last value of 64 bits
abbrev pub one_more : ℕ → ℕ
one_more n = min (n + 1) (2 ^ 64 - 1)

-- the counts with one record more
abbrev pub counted : Record → Counts → Counts
counted (Pin at edge) c = record c { pins = one_more c.pins; edges = bit_or c.edges (2 ^ edge.pin.0) }
counted (Entered at vector back) c = record c { entries = one_more c.entries }
counted (Served at vector mode count) c = record c { cycles = one_more c.cycles }
counted _ c = c

-- a record that is put after the sink has failed is not counted
abbrev pub counted_unless : Bool → Record → Counts → Counts
counted_unless failed item c = if failed then c else counted item c

-- the counts with these records more, in order
unfoldable pub counted_all : List Record → Counts → Counts
counted_all [] c = c
counted_all (item ∷ items) c = counted_all items (counted item c)
