-- There are as many depths as lines.
use Rattle.std.proofs.Common.{◌≡◌, inl, inr, ℕ, zero, suc, true, false, cond, ◌==◌, List, [], ◌∷◌, ◌++◌, length, Some, None, Ok, Err, refl, sym, ap, ◌∙◌, arith, length-append}
use Rattle.std.proofs.lemmas.Bool.{eqb-true, eqb-false}
use Rattle.kc_lex.specs.declared.token.Line.{Line}
use Rattle.kc_macro.specs.declared.state.State.{State}
use Rattle.kc_macro.specs.Steps.{Next, Fault, Ended, Quiet, Counted, step}
use Rattle.kc_macro.specs.Expansion as expansion
use Rattle.kc_macro.specs.Expansion.{start, begun, expanded, Ends}
use Rattle.kc_macro.proofs.Ends.{out_ends}
use Rattle.kc_asm_list.specs.Depths.{Reported, Answer, so_far, depth_ahead, reported, on_next, settled, run, run_out, depths_of}
use Rattle.kc_asm_list.specs.Laws.{Agree}
use Rattle.kc_asm_list.proofs.Grown.{IsGrown, Grows, step_grows}

abbrev pub HasEach : Reported → Type 0
HasEach t = length t.depths ≡ length t.state.done

-- neither answer is there yet, or both agree
abbrev pub Meet : expansion.Answer → Answer → Type 0
Meet None None = Unit {0}
Meet None (Some b) = ⊥
Meet (Some a) b = Agree (Some a) b

grown : (n m : ℕ) → IsGrown n m → (m ≡ n → ⊥) → m ≡ suc n
grown n m (inl e) other = absurd (other e)
grown n m (inr e) other = e

reported_each : (t : Reported) (done : List Line) → HasEach t → IsGrown (length t.state.done) (length done) → length (reported t done) ≡ length done
reported_each t done each h =
    let d = depth_ahead t.state.ahead in
    elim (length done == length t.state.done) as (λ b. (length done == length t.state.done) ≡ b → length (cond b t.depths (t.depths ++ d ∷ [])) ≡ length done) [
      | true ↦ λ e. each ∙ sym (eqb-true (length done) (length t.state.done) e)
      | false ↦ λ e.
          let more : length done ≡ suc (length t.state.done) = grown (length t.state.done) (length done) h (eqb-false (length done) (length t.state.done) e) in
          omega (arith, length-append t.depths (d ∷ []))
    ] refl

next_meets : (next more : State → expansion.Answer) (reports reports_more : Reported → Answer) (t : Reported) (n : Next) → HasEach t → Grows (length t.state.done) n
    → ((u : Reported) → HasEach u → Meet (next u.state) (reports u)) → ((u : Reported) → HasEach u → Meet (more u.state) (reports_more u))
    → Meet (expansion.on_next next more n) (on_next reports reports_more t n)
next_meets next more reports reports_more t (Fault line code) each h meet goes_on = refl
next_meets next more reports reports_more t (Ended lines) each h meet goes_on = reported_each t lines each h
next_meets next more reports reports_more t (Quiet s) each h meet goes_on = goes_on (so_far s (reported t s.done)) (reported_each t s.done each h)
next_meets next more reports reports_more t (Counted s) each h meet goes_on = meet (so_far s (reported t s.done)) (reported_each t s.done each h)

settled_meets : (next : State → expansion.Answer) (reports : Reported → Answer) (k : ℕ) (t : Reported) → HasEach t → ((u : Reported) → HasEach u → Meet (next u.state) (reports u)) → Meet (expansion.settled next k t.state) (settled reports k t)
unfolding expansion.settled settled
settled_meets next reports zero t each meet = tt
settled_meets next reports (suc k) t each meet = next_meets next (expansion.settled next k) reports (settled reports k) t (step t.state) each (step_grows t.state) meet (λ u h. settled_meets next reports k u h meet)

run_meets : (n : ℕ) (t : Reported) → HasEach t → Meet (expansion.run n t.state) (run n t)
unfolding expansion.run run
run_meets zero t each = tt
run_meets (suc n) t each = settled_meets (expansion.run n) (run n) (suc (length t.state.ahead)) t each (λ u h. run_meets n u h)

all_meet : (lines : List Line) → Meet (expanded lines) (depths_of lines)
unfolding expanded depths_of
all_meet lines = run_meets (suc (start lines).left) (so_far (start lines) []) refl

met : (a : expansion.Answer) (b : Answer) → Ends a → Meet a b → Agree a b
met None b ends h = absurd ends
met (Some a) b ends h = h

pub all_agree : ((lines : List Line) → Ends (expanded lines)) → (lines : List Line) → Agree (expanded lines) (depths_of lines)
all_agree ends lines = met (expanded lines) (depths_of lines) (ends lines) (all_meet lines)

pub begun_agree : (lines : List Line) → Agree (expansion.run_out (begun lines)) (run_out (so_far (begun lines) []))
begun_agree lines = met _ _ (out_ends (begun lines)) (run_meets (suc (begun lines).left) (so_far (begun lines) []) refl)

-- ---- an answer, with that of the expansion

pub goes_ok : (a : expansion.Answer) (b : Answer) (ds : List ℕ) → Agree a b → b ≡ Some (Ok ds) → (lines : List Line) × (a ≡ Some (Ok lines)) × (length ds ≡ length lines)
goes_ok None b ds h e = absurd h
goes_ok (Some a) None ds h e = absurd h
goes_ok (Some (Ok lines)) (Some (Ok es)) ds h e = let same : ds ≡ es = cc in (lines, refl, ap length same ∙ h)
goes_ok (Some (Ok lines)) (Some (Err f)) ds h e = absurd h
goes_ok (Some (Err f)) (Some (Ok es)) ds h e = absurd h
goes_ok (Some (Err f)) (Some (Err g)) ds h e = absurd (cc)

pub goes_err : (a : expansion.Answer) (b : Answer) (f : ℕ × ℕ) → Agree a b → b ≡ Some (Err f) → a ≡ Some (Err f)
goes_err None b f h e = absurd h
goes_err (Some a) None f h e = absurd h
goes_err (Some (Ok lines)) (Some (Ok es)) f h e = absurd (cc)
goes_err (Some (Ok lines)) (Some (Err g)) f h e = absurd h
goes_err (Some (Err g)) (Some (Ok es)) f h e = absurd h
goes_err (Some (Err g)) (Some (Err k)) f h e = cc
