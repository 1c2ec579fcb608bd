-- Where an answer comes from.
use Rattle.std.proofs.Common.{◌≡◌, ℕ, zero, suc, List, length, Some, Ok, inl, inr, refl}
use Rattle.kc_lex.specs.declared.token.Line.{Line}
use Rattle.kc_macro.specs.declared.state.State.{State}
use Rattle.kc_macro.specs.Steps.{Next, Fault, Ended, Quiet, Counted, step}
use Rattle.kc_macro.specs.Expansion.{Answer, on_next, settled, run, start, expanded}
use Rattle.kc_macro_laws.specs.Course.{Goes, GoesBy, Leads}
use Rattle.kc_macro_laws.specs.Ends.{ExpansionEndsAtAPlace}

module _ (out : List Line) where
  -- a place comes to one that ends with these lines
  abbrev ComesToEnd : State → Type 0
  ComesToEnd s = (u : State) × (Leads s u × (step u ≡ Ended out))

  -- an answer without a fault has such a place
  abbrev IsFrom : State → Answer → Type 0
  IsFrom s a = a ≡ Some (Ok out) → ComesToEnd s

  here : (s : State) → step s ≡ Ended out → ComesToEnd s
  unfolding GoesBy
  here s e = (s, ((0, refl), e))

  later : (s t : State) → Goes s t → ComesToEnd t → ComesToEnd s
  unfolding GoesBy
  later s t g (u, (l, e)) = (u, ((suc l.0, (t, (g, l.1))), e))

  next_from : (next more : State → Answer) (s : State) (n : Next) → step s ≡ n → ((t : State) → IsFrom t (next t)) → ((t : State) → IsFrom t (more t)) → IsFrom s (on_next next more n)
  next_from next more s (Fault line code) e f g a = absurd (cc)
  next_from next more s (Ended lines) e f g a = let same : lines ≡ out = cc in here s (rw same at e)
  next_from next more s (Quiet t) e f g a = later s t (inl e) (g t a)
  next_from next more s (Counted t) e f g a = later s t (inr e) (f t a)

  settled_from : (next : State → Answer) (k : ℕ) (s : State) → ((t : State) → IsFrom t (next t)) → IsFrom s (settled next k s)
  unfolding settled
  settled_from next zero s f a = absurd (cc)
  settled_from next (suc k) s f a = next_from next (settled next k) s (step s) refl f (λ t. settled_from next k t f) a

  run_from : (n : ℕ) (s : State) → IsFrom s (run n s)
  unfolding run
  run_from zero s a = absurd (cc)
  run_from (suc n) s a = settled_from (run n) (suc (length s.ahead)) s (run_from n) a

pub expansion_ends_at_a_place : ExpansionEndsAtAPlace
unfolding expanded
expansion_ends_at_a_place lines out e =
    let end = run_from out (suc (start lines).left) (start lines) e in
    (end.0, record { leads = end.1.0; ends = end.1.1 })
