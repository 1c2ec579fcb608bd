-- How the parts of an effect run.
use Rattle.std.proofs.Common.{◌≡◌, ℕ, Result, Ok, Err, refl, ap, sym, ◌∙◌}
use Rattle.std.proofs.Math.Path.{fun_ext}
use Rattle.kc_base.specs.declared.types.Kind.{Kind}
use Rattle.kc_exec_spec.specs.Effect.{Effect, End, Undefined, Look, Ask, ◌>>=◌, Meaning, Outcome, Done, Refused, answered, run}

-- goes on from the end of one effect, or keeps its refusal
abbrev pub followed : {A B H : Type 0} → Outcome A H → (A → H → Outcome B H) → Outcome B H
followed (Done a h) next = next a h
followed (Refused k h) next = Refused k h

followed_answer : {A B H : Type 0} (r : Result ℕ Kind) (next : ℕ → Outcome A H) (h : H) (f : A → H → Outcome B H) → followed (answered r next h) f ≡ answered r (λ n. followed (next n) f) h
followed_answer (Ok n) next h f = refl
followed_answer (Err k) next h f = refl

-- two effects, one after the other, run one after the other
pub run_bind : {A B H : Type 0} (bus : Meaning H) (t : Effect A) (f : A → Effect B) (h : H) → run bus (t >>= f) h ≡ followed (run bus t h) (λ a m. run bus (f a) m)
run_bind bus (End a) f h = refl
run_bind bus (Undefined k) f h = refl
run_bind bus (Look next) f h = run_bind bus (next (bus.masks h)) f h
run_bind bus (Ask r next) f h =
    ap (λ g. answered (bus.answer h r) g (bus.refused h r)) (fun_ext (λ n. run_bind bus (next n) f (bus.after h r)))
    ∙ sym (followed_answer (bus.answer h r) (λ n. run bus (next n) (bus.after h r)) (bus.refused h r) (λ a m. run bus (f a) m))
