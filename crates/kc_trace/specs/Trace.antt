-- What a trace shows of itself, by what its sink reports (this kit's own).
use Rattle.std.specs.Prelude.{ℕ, List, Option}
use Rattle.kc_base.specs.declared.types.Edge.{Edge}
use Rattle.kc_trace.specs.declared.record.Record.TheVariants.{Pin}
use Rattle.kc_trace.specs.declared.trace.TraceOut.{TraceOut}
use Rattle.kc_trace.specs.Out.{Out, IsPut}

abbrev pub out_of : {S : Type 0} → (S → Option (List ℕ)) → (S → ℕ) → TraceOut S → Out
out_of written faults trace = record { written = written trace.sink; faults = faults trace.sink; failed = trace.failed; counts = trace.counts }

-- an edge is handed to a trace: the record of the edge is put
abbrev pub edge_led : {S : Type 0} → (S → Option (List ℕ)) → (S → ℕ) → TraceOut S → ℕ → Edge → TraceOut S → Type 0
edge_led written faults old at edge new = IsPut (out_of written faults old) (Pin at edge) (out_of written faults new)
