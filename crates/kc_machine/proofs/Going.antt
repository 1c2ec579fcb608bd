-- The parts of a machine that go on.
use Rattle.std.proofs.Common.{◌≡◌, ℕ, subst}
use Rattle.kc_extra.specs.declared.extra.Extra as extra
use Rattle.kc_trace.specs.Out.{Out}
use Rattle.kc_machine_spec.specs.Machine.{Stepped}
use Rattle.kc_machine.specs.declared.parts.Core.{Core}
use Rattle.kc_machine.specs.Passing.{GoesAs}

-- a stretch that is equal to another one is gone in the same way
pub goes-same : {X : Type 0} {d : extra.Ghosts X} {s t : Stepped X} {old new : Core X d} {o p : Out} {a b : ℕ} → s ≡ t → GoesAs s old new o p a b → GoesAs t old new o p a b
goes-same {X} {d} {s} {t} {old} {new} {o} {p} {a} {b} same h = subst (λ (x : Stepped X). GoesAs x old new o p a b) same h
