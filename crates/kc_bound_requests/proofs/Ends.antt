-- What all ends of an effect have in common.
use Rattle.std.proofs.Common.{◌≡◌, ℕ, Result, Ok, Err, refl}
use Rattle.kc_base.specs.declared.types.Kind.{Kind}
use Rattle.kc_exec_spec.specs.declared.access.Masks.{Masks}
use Rattle.kc_exec_spec.specs.Effect.{Effect, End, Undefined, Look, Ask, ◌>>=◌, Meaning, Outcome, Done, Refused, answered, run}
use Rattle.kc_exec_spec.specs.Parts.{or_undefined}

abbrev pub Ends : {A : Type 0} → (A → Type 0) → Effect A → Type 0
Ends P (End a) = P a
Ends P (Undefined kind) = Unit {0}
Ends P (Look next) = (m : Masks) → Ends P (next m)
Ends P (Ask access next) = (n : ℕ) → Ends P (next n)

pub ends-then : {A B : Type 0} (Q : A → Type 0) (P : B → Type 0) (e : Effect A) (k : A → Effect B) → Ends Q e → ((a : A) → Q a → Ends P (k a)) → Ends P (e >>= k)
ends-then Q P (End a) k h then = then a h
ends-then Q P (Undefined kind) k h then = tt
ends-then Q P (Look next) k h then = λ m. ends-then Q P (next m) k (h m) then
ends-then Q P (Ask access next) k h then = λ n. ends-then Q P (next n) k (h n) then

-- whatever the first has
pub ends-on : {A B : Type 0} (P : B → Type 0) (e : Effect A) (k : A → Effect B) → ((a : A) → Ends P (k a)) → Ends P (e >>= k)
ends-on P (End a) k then = then a
ends-on P (Undefined kind) k then = tt
ends-on P (Look next) k then = λ m. ends-on P (next m) k then
ends-on P (Ask access next) k then = λ n. ends-on P (next n) k then

pub ends-result : {A : Type 0} (P : A → Type 0) (r : Result A Kind) → ((a : A) → r ≡ Ok a → P a) → Ends P (or_undefined r)
ends-result P (Ok a) h = h a refl
ends-result P (Err kind) h = tt

-- where an effect is done, its end is one of them
abbrev pub IsEnd : {A H : Type 0} → (A → Type 0) → Outcome A H → Type 0
IsEnd P (Done a h) = P a
IsEnd P (Refused kind h) = Unit {0}

end-answered : {A H : Type 0} (P : A → Type 0) (r : Result ℕ Kind) (next : ℕ → Outcome A H) (h : H) → ((n : ℕ) → IsEnd P (next n)) → IsEnd P (answered r next h)
end-answered P (Ok n) next h then = then n
end-answered P (Err kind) next h then = tt

pub end-run : {A H : Type 0} (P : A → Type 0) (bus : Meaning H) (e : Effect A) (h : H) → Ends P e → IsEnd P (run bus e h)
end-run P bus (End a) h ends = ends
end-run P bus (Undefined kind) h ends = tt
end-run P bus (Look next) h ends = end-run P bus (next (bus.masks h)) h (ends (bus.masks h))
end-run P bus (Ask access next) h ends = end-answered P (bus.answer h access) (λ n. run bus (next n) (bus.after h access)) (bus.refused h access) (λ n. end-run P bus (next n) (bus.after h access) (ends n))
