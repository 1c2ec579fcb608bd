-- How requests change when they are served (80C196KC User's Manual, "Interrupts", "Peripheral Transaction Server").
use Rattle.std.specs.Prelude.{ℕ, if◌then◌else◌}
use Rattle.kc_base.specs.Bits.{bit}
use Rattle.kc_intc.specs.declared.requests.Requests.{Requests}
use Rattle.kc_intc.specs.Sets.{without, with_request}

-- an interrupt is entered: its service bit goes, or where that is clear its pending bit
abbrev pub entered_of : ℕ → Requests → Requests
entered_of n r = if bit r.service n then record r { service = without n r.service } else record r { pending = without n r.pending }

-- the last cycle has ended: the transfer server hands the request on
abbrev pub ended_of : ℕ → Requests → Requests
ended_of n r = record r { select = without n r.select; service = with_request n r.service }
