-- Which request is served next (80C196KC User's Manual, "Interrupts", "Peripheral Transaction Server").
use Rattle.std.specs.Prelude.{ℕ, zero, suc, ◌<◌, Bool, ◌&&◌, ◌||◌, not, Option, Some, None, if◌then◌else◌}
use Rattle.kc_base.specs.Limits.{transfer_count}
use Rattle.kc_base.specs.Bits.{bit}
use Rattle.kc_intc.specs.declared.requests.Requests.{Requests}
use Rattle.kc_intc.specs.declared.requests.Choice.{Choice}
use Rattle.kc_intc.specs.declared.requests.Choice.TheVariants.{Nmi, Transfer, Enter, Go}

-- the transfer server serves a request that is pending, masked in and selected
abbrev pub wants_cycle : Requests → ℕ → Bool
wants_cycle r n = bit r.pending n && (bit r.mask n && bit r.select n)

-- an interrupt is entered that is masked in and that the transfer server has handed on, or that is pending and not selected
abbrev pub wants_entry : Requests → ℕ → Bool
wants_entry r n = bit r.mask n && (bit r.service n || (bit r.pending n && not (bit r.select n)))

-- the greatest number below a limit that passes a test
unfoldable pub greatest : (ℕ → Bool) → ℕ → Option ℕ
greatest test zero = None
greatest test (suc n) = if test n then Some n else greatest test n

-- the request, if there is one, or else another choice
abbrev pub or_else : (ℕ → Choice) → Option ℕ → Choice → Choice
or_else serve (Some n) other = serve n
or_else serve None other = other

-- NMI first, then the transfer server where PSE is set, then an interrupt where I is set; of each the highest below NMI
abbrev pub choice_of : Bool → Bool → Requests → Choice
choice_of pse enabled r =
    if bit r.pending 15 then Nmi
    else or_else Transfer (if pse then greatest (wants_cycle r) transfer_count else None)
    (or_else Enter (if enabled then greatest (wants_entry r) transfer_count else None) Go)

-- NMI stands apart from the numbers that are chosen
abbrev pub IsBelowNmi : Choice → Type 0
IsBelowNmi (Transfer n) = n < transfer_count
IsBelowNmi (Enter n) = n < transfer_count
IsBelowNmi _ = Unit {0}
