-- What a machine allows of requests, and how activities change that (80C196KC User's Manual, "Interrupts", "Peripheral Transaction
-- Server").
use Rattle.std.specs.Prelude.{Bool, true, false, not, ◌&&◌, ◌||◌, is_none, Option, Some, None}
use Rattle.kc_base.specs.Bits.{bit}
use Rattle.kc_exec_spec.specs.declared.plan.Plan.{Plan}
use Rattle.kc_exec_spec.specs.declared.plan.Plan.TheVariants.{Set, Save, Trap}
use Rattle.kc_exec_spec.specs.declared.plan.Setting.TheVariants.{Interrupts, Transfers}
use Rattle.kc_exec_spec.specs.declared.plan.Saving.TheVariants.{PushStatus, PopStatus, PushAll, PopAll}
use Rattle.kc_exec_spec.specs.Status.{has}
use Rattle.kc_machine_spec.specs.declared.doing.Activity.{Activity}
use Rattle.kc_machine_spec.specs.declared.doing.Activity.TheVariants.{Executes, MovesWord, Traps, Enters, SetsUp}
use Rattle.kc_machine_spec.specs.Machine.{Machine, goes_first}
use Rattle.kc_bound.specs.Passes.{plan_in}
use Rattle.kc_bound_requests.specs.declared.enabled.Enabled.{Enabled}

-- ---- when a request may be served

abbrev pub enabled_in : {X : Type 0} → Machine X → Enabled
enabled_in m = record { interrupts = has 2 m.cpu.psw_high; server = has 4 m.cpu.psw_high; held = m.held }

-- I or PSE is set
abbrev pub is_enabled : Enabled → Bool
is_enabled e = e.interrupts || e.server

-- between two activities, where none goes first, no instruction has to come next, and I or PSE is set
abbrev pub may_serve : {X : Type 0} → Machine X → Bool
may_serve m = is_none m.under_way && is_none m.ended && not (goes_first m.going) && not m.held && is_enabled (enabled_in m)

-- the entry of an interrupt, or the set-up of a cycle of the transfer server
abbrev pub is_service : Activity → Bool
is_service (Enters number) = true
is_service (SetsUp number) = true
is_service _ = false

abbrev pub nmi_pends : {X : Type 0} → Machine X → Bool
nmi_pends m = bit m.board.units.board_registers.requests.pending 15

-- ---- how it changes

abbrev pub is_both : Bool → Bool → Bool
is_both true b = b
is_both false b = not b

abbrev pub is_same : Enabled → Enabled → Bool
is_same a b = is_both a.interrupts b.interrupts && is_both a.server b.server && is_both a.held b.held

-- Whether an instruction by its kind of work may leave this where that was before it. EI, DI, EPTS and DPTS set one bit, PUSHF and
-- PUSHA clear both, POPF and POPA may leave anything, and after these and TRAP an instruction comes next.
abbrev pub may_leave : Option Plan → Enabled → Enabled → Bool
may_leave None before after = false
may_leave (Some (Set (Interrupts set))) before after = is_same (record { interrupts = set; server = before.server; held = true }) after
may_leave (Some (Set (Transfers set))) before after = is_same (record { interrupts = before.interrupts; server = set; held = true }) after
may_leave (Some (Save PushStatus)) before after = is_same (record { interrupts = false; server = false; held = true }) after
may_leave (Some (Save PushAll)) before after = is_same (record { interrupts = false; server = false; held = true }) after
may_leave (Some (Save PopStatus)) before after = after.held
may_leave (Some (Save PopAll)) before after = after.held
may_leave (Some Trap) before after = is_same (record { interrupts = before.interrupts; server = before.server; held = true }) after
may_leave (Some _) before after = is_same (record { interrupts = before.interrupts; server = before.server; held = false }) after

-- the same of an activity of a routine's own; after a word of a block move anything may come, and after an undefined use nothing
abbrev pub may_change : Activity → Enabled → Enabled → Bool
may_change (Executes insn) before after = may_leave (plan_in insn) before after
may_change (MovesWord insn words) before after = is_same (record { interrupts = before.interrupts; server = before.server; held = false }) after
may_change Traps before after = may_leave (Some Trap) before after
may_change _ before after = false
