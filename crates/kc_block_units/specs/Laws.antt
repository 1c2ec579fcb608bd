-- Why the block need not step (this kit's own).
use Rattle.std.specs.Prelude.{◌≡◌, ℕ, ◌+◌, ◌<◌, ◌≤◌, true, false, [], Some, None}
use Rattle.kc_span.specs.Span.{after, IsDue}
use Rattle.kc_due.specs.Due.{at_slot}
use Rattle.kc_extra.specs.Further.{Further}
use Rattle.kc_block_spec.specs.Tick.{tick}
use Rattle.kc_block_spec.specs.Touch.{worked, touched, block_rule, touch, edges_of}
use Rattle.kc_block_units.specs.Scheduler.{Scheduler, shown_units, IsScheduled, IsAhead}

-- a state before each slot: the Tick of the shown units gives those shown in the next state, and does nothing else
pub record IsQuietState {X : Type 0} (f : Further X) (h : Scheduler X) (t : ℕ) : Type 0 where
  pub same : tick f t (shown_units f h t) ≡ record { units = shown_units f h (t + 1); edges = [] }
  pub untouched : touched f t (shown_units f h t) ≡ 0
  pub unworked : worked f t (shown_units f h t) ≡ false

abbrev pub QuietState : {X : Type 0} → Further X → (ℕ → ℕ → X → Type 0) → Type 0
QuietState {X = X} f agrees = (h : Scheduler X) (now t : ℕ) → IsScheduled f agrees h now → now ≤ t → IsAhead h t →
    IsQuietState f h t

-- so many states before each slot
pub record IsQuietSpan {X : Type 0} (f : Further X) (h : Scheduler X) (now n : ℕ) : Type 0 where
  pub units : after (block_rule f) now n (shown_units f h now) ≡ shown_units f h (now + n)
  pub touch : touch f now n (shown_units f h now) ≡ 0
  pub edges : edges_of f now n (shown_units f h now) ≡ []

-- the slots are not before a state
abbrev pub IsUpTo : {X : Type 0} → Scheduler X → ℕ → Type 0
IsUpTo h to = (slot u : ℕ) → slot < 7 → at_slot h.due slot ≡ Some u → to ≤ u

abbrev pub QuietSpan : {X : Type 0} → Further X → (ℕ → ℕ → X → Type 0) → Type 0
QuietSpan {X = X} f agrees = (h : Scheduler X) (now n : ℕ) → IsScheduled f agrees h now → IsUpTo h (now + n) →
    IsQuietSpan f h now n

-- and the same deferred units are those of the later state
abbrev pub GoesOn : {X : Type 0} → Further X → (ℕ → ℕ → X → Type 0) → Type 0
GoesOn {X = X} f agrees = (h : Scheduler X) (now to : ℕ) → IsScheduled f agrees h now → now ≤ to → IsUpTo h to →
    IsScheduled f agrees h to

-- in the state of a slot the Tick is worked: a unit does something, or an input has an edge
abbrev pub EventIsWorked : {X : Type 0} → Further X → (ℕ → ℕ → X → Type 0) → Type 0
EventIsWorked {X = X} f agrees = (h : Scheduler X) (now slot : ℕ) → IsScheduled f agrees h now → slot < 7 →
    at_slot h.due slot ≡ Some now → worked f now (shown_units f h now) ≡ true

-- the least slot time is the due state of the whole block
abbrev pub LeastSlotIsDue : {X : Type 0} → Further X → (ℕ → ℕ → X → Type 0) → Type 0
LeastSlotIsDue {X = X} f agrees = (h : Scheduler X) (now slot at : ℕ) → IsScheduled f agrees h now → slot < 7 → at_slot h.due slot ≡ Some at → IsUpTo h at →
    IsDue (block_rule f) now (shown_units f h now) (Some at)

-- which has none where no slot has a time
abbrev pub NoSlotIsDue : {X : Type 0} → Further X → (ℕ → ℕ → X → Type 0) → Type 0
NoSlotIsDue {X = X} f agrees = (h : Scheduler X) (now : ℕ) → IsScheduled f agrees h now → ((slot : ℕ) → slot < 7 → at_slot h.due slot ≡ None) →
    IsDue (block_rule f) now (shown_units f h now) None
