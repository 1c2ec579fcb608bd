-- When a machine asks for interrupts, and which it enters then (80C196KC User's Manual, "Interrupts").
use Rattle.std.specs.Prelude.{◌≡◌, ℕ, ◌<◌, Bool, true, false, not, ◌&&◌, is_none}
use Rattle.kc_base.specs.Bits.{bit}
use Rattle.kc_base.specs.Limits.{transfer_count}
use Rattle.kc_exec_spec.specs.Status.{has}
use Rattle.kc_intc.specs.declared.requests.Requests.{Requests}
use Rattle.kc_intc.specs.Choosing.{wants_cycle, wants_entry}
use Rattle.kc_machine_spec.specs.declared.doing.Activity.TheVariants.{Enters}
use Rattle.kc_machine_spec.specs.Machine.{Machine, goes_first, current}
use Rattle.kc_bound_requests.specs.declared.enabled.Enabled.{Enabled}
use Rattle.kc_bound_requests.specs.Enabled.{enabled_in, nmi_pends}

-- I is set, and no instruction has to come next
abbrev pub lets_interrupts_in : Enabled → Bool
lets_interrupts_in e = e.interrupts && not e.held

-- interrupts are asked for: between two activities, where none goes first, no instruction has to come next, and I is set
abbrev pub asks : {X : Type 0} → Machine X → Bool
asks m = is_none m.under_way && is_none m.ended && not (goes_first m.going) && lets_interrupts_in (enabled_in m)

abbrev pub requests_in : {X : Type 0} → Machine X → Requests
requests_in m = m.board.units.board_registers.requests

-- an interrupt below NMI is pending, masked in, and not selected for the transfer server
pub record IsRequested {X : Type 0} (number : ℕ) (m : Machine X) : Type 0 where
  pub below : number < transfer_count
  pub pends : bit (requests_in m).pending number ≡ true
  pub masked_in : bit (requests_in m).mask number ≡ true
  pub not_selected : bit (requests_in m).select number ≡ false

-- no other request comes before it: no NMI, no cycle of the transfer server, and no higher interrupt
pub record IsHighest {X : Type 0} (number : ℕ) (m : Machine X) : Type 0 where
  pub no_nmi : nmi_pends m ≡ false
  pub no_cycle : has 4 m.cpu.psw_high ≡ true → (k : ℕ) → k < transfer_count → wants_cycle (requests_in m) k ≡ false
  pub no_higher : (k : ℕ) → number < k → k < transfer_count → wants_entry (requests_in m) k ≡ false

-- where interrupts are asked for, the highest that is requested is entered next
abbrev pub HighestIsEntered : Type 0 → Type 0
HighestIsEntered X = (number : ℕ) (m : Machine X) → asks m ≡ true → IsRequested number m → IsHighest number m → (current m).doing ≡ Enters number
