-- The records of pins' edges.
use Rattle.std.proofs.Common.{ℕ, List, ap, ◌∙◌, [], ◌∷◌, ◌++◌, sym, subst}
use Rattle.std.proofs.lemmas.List.{map-append}
use Rattle.kc_base.specs.declared.types.Edge.{Edge}
use Rattle.kc_trace.specs.declared.record.Record.TheVariants.{Pin}
use Rattle.kc_trace.specs.Out.{Out, IsPut, Prints}
use Rattle.kc_trace.proofs.Printed.{Prints-append, Prints-one}
use Rattle.kc_block_spec.specs.Touch.{in_state}
use Rattle.kc_machine_spec.specs.Board.{pin_record, pin_records, pins}

pub pins-more : (o p q : Out) (t : ℕ) (xs : List Edge) (e : Edge) → Prints o (pins t xs) p → IsPut p (Pin t e) q → Prints o (pins t (xs ++ e ∷ [])) q
pins-more o p q t xs e h k =
    subst (λ records. Prints o records q) (sym (ap pin_records (map-append (λ edge. (t, edge)) xs (e ∷ [])) ∙ map-append pin_record (in_state t xs) ((t, e) ∷ [])))
    (Prints-append o (pins t xs) p (Pin t e ∷ []) q h (Prints-one p (Pin t e) q k))
