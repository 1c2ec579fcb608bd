-- The edges that a trace is handed are the lines of their records.
use Rattle.std.proofs.Common.{ℕ, List, [], ◌∷◌, Option, refl, subst}
use Rattle.kc_base.specs.declared.types.Edge.{Edge}
use Rattle.kc_trace.specs.declared.trace.TraceOut.{TraceOut}
use Rattle.kc_trace.specs.Out.{Prints}
use Rattle.kc_trace.specs.Trace.{out_of, edge_led}
use Rattle.kc_trace.proofs.Printed.{Prints-none, Prints-cons}
use Rattle.kc_block_spec.specs.Leading.{Leads}
use Rattle.kc_machine_spec.specs.Board.{pin_record, pin_records}

pub leads-lines : {S : Type 0} (written : S → Option (List ℕ)) (faults : S → ℕ) (o : TraceOut S) (es : List (ℕ × Edge)) (p : TraceOut S) → Leads (edge_led written faults) o es p → Prints (out_of written faults o) (pin_records es) (out_of written faults p)
leads-lines written faults o [] p h = subst (λ q. Prints (out_of written faults o) [] (out_of written faults q)) h (Prints-none [] (out_of written faults o) refl)
leads-lines written faults o (e ∷ es) p h = Prints-cons (out_of written faults o) (pin_record e) (out_of written faults h.0) (pin_records es) (out_of written faults p) h.1.0 (leads-lines written faults h.0 es p h.1.1)
