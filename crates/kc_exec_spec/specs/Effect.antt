-- What an instruction does, described from the answers of its accesses, and what that comes to over a bus (this kit's own).
use Rattle.std.specs.Prelude.{◌≡◌, ℕ, Result, Ok, Err}
use Rattle.kc_base.specs.declared.types.Kind.{Kind}
use Rattle.kc_exec_spec.specs.declared.access.Masks.{Masks}
use Rattle.kc_exec_spec.specs.Access.{Access}

-- an end with a value, an undefined use, a look at the masks, or the next access and what follows its answer
pub data Effect (A : Type 0) : Type 0 where
  End : A → Effect A
  Undefined : Kind → Effect A
  Look : (Masks → Effect A) → Effect A
  Ask : Access → (ℕ → Effect A) → Effect A

infixl 10 ◌>>=◌
-- one effect, and then another that may depend on its value
abbrev pub ◌>>=◌ : {A B : Type 0} → Effect A → (A → Effect B) → Effect B
(End a) >>= f = f a
(Undefined k) >>= f = Undefined k
(Look next) >>= f = Look (λ m. next m >>= f)
(Ask r next) >>= f = Ask r (λ n. next n >>= f)

-- how a bus that holds h answers an access, what it holds after one that it accepts, and after one that it refuses, and its masks
pub record Meaning (H : Type 0) : Type 0 where
  pub answer : H → Access → Result ℕ Kind
  pub after : H → Access → H
  pub refused : H → Access → H
  pub masks : H → Masks

-- how an effect ends, and what the bus then holds
pub data Outcome (A H : Type 0) : Type 0 where
  Done : A → H → Outcome A H
  Refused : Kind → H → Outcome A H

-- goes on with the answer of an access, or ends with its refusal, after which the bus holds h
abbrev pub answered : {A H : Type 0} → Result ℕ Kind → (ℕ → Outcome A H) → H → Outcome A H
answered (Ok n) next h = next n
answered (Err k) next h = Refused k h

-- an effect over a bus, up to the first access that is refused
abbrev pub run : {A H : Type 0} → Meaning H → Effect A → H → Outcome A H
run bus (End a) h = Done a h
run bus (Undefined k) h = Refused k h
run bus (Look next) h = run bus (next (bus.masks h)) h
run bus (Ask r next) h = answered (bus.answer h r) (λ n. run bus (next n) (bus.after h r)) (bus.refused h r)

-- a call returned this, seen by view, and left the bus holding h, where the outcome is described
abbrev pub Gives : {X A H : Type 0} → (X → A) → Result X Kind → H → Outcome A H → Type 0
Gives view (Ok x) h outcome = outcome ≡ Done (view x) h
Gives view (Err k) h outcome = outcome ≡ Refused k h
