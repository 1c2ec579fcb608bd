-- Rewriting by the loops of the code, and by the definition.
use Rattle.std.proofs.Common.{◌≡◌, ℕ, zero, suc, ◌+◌, ◌<◌, List, [], length, None, refl, sym, ap, ◌∙◌, arith}
use Rattle.kc_lex.specs.declared.token.Line.{Line}
use Rattle.kc_macro.specs.declared.state.State.{State}
use Rattle.kc_macro.specs.Steps.{Next, Fault, Ended, Quiet, Counted, step}
use Rattle.kc_macro.specs.Expansion.{start, AreNumbered, line_after, begun}
use Rattle.kc_macro.proofs.RunLemmas.{IsActive, quiet_shorter}
use Rattle.kc_asm_list.specs.Depths.{Reported, Answer, so_far, reported, on_next, settled, run, run_out, depths_of}

-- what the definition says of s it says of t, with enough rewritings left
pub record Reaches (s t : Reported) : Type 0 where
  pub fuel : ℕ
  pub enough : length t.state.ahead < fuel
  pub same : (next : Reported → Answer) → settled next fuel t ≡ settled next (suc (length s.state.ahead)) s

pub reaches_start : (s : Reported) → Reaches s s
reaches_start s = record { fuel = suc (length s.state.ahead); enough = omega arith; same = λ next. refl }

quiet_fuel : (r t : Reported) (u : State) (fuel : ℕ) → length t.state.ahead < fuel → ((next : Reported → Answer) → settled next fuel t ≡ settled next (suc (length r.state.ahead)) r) → Quiet u ≡ step t.state → Reaches r (so_far u (reported t u.done))
unfolding settled
quiet_fuel r t u zero enough same e = absurd (omega arith)
quiet_fuel r t u (suc k) enough same e =
    let shorter = quiet_shorter t.state u e in
    record { fuel = k; enough = omega arith; same = λ next. ap (on_next next (settled next k) t) e ∙ same next }

pub reaches_quiet : (r t : Reported) (u : State) (ds : List ℕ) → Reaches r t → Quiet u ≡ step t.state → ds ≡ reported t u.done → Reaches r (so_far u ds)
reaches_quiet r t u ds h e is = rw is (quiet_fuel r t u h.fuel h.enough h.same e)

active : (next more other : Reported → Answer) (t : Reported) (n : Next) → IsActive n → on_next next more t n ≡ on_next next other t n
active next more other t (Fault line code) h = refl
active next more other t (Ended lines) h = refl
active next more other t (Quiet s) h = absurd h
active next more other t (Counted s) h = refl

active_fuel : (t : Reported) (n : Next) (fuel : ℕ) (next : Reported → Answer) → length t.state.ahead < fuel → n ≡ step t.state → IsActive n → settled next fuel t ≡ on_next next (λ _. None) t n
unfolding settled
active_fuel t n zero next enough e h = absurd (omega arith)
active_fuel t n (suc k) next enough e h = ap (on_next next (settled next k) t) (sym e) ∙ active next (settled next k) (λ _. None) t n h

pub reaches_active : (r t : Reported) (n : Next) → Reaches r t → n ≡ step t.state → IsActive n → (next : Reported → Answer) → settled next (suc (length r.state.ahead)) r ≡ on_next next (λ _. None) t n
reaches_active r t n reached e h next = sym (reached.same next) ∙ active_fuel t n reached.fuel next reached.enough e h

-- ---- whole runs

pub run_settled : (t : Reported) → run_out t ≡ settled (run t.state.left) (suc (length t.state.ahead)) t
unfolding run
run_settled t = refl

pub run_counted : (t u : Reported) → ((next : Reported → Answer) → settled next (suc (length t.state.ahead)) t ≡ next u) → suc u.state.left ≡ t.state.left → run_out u ≡ run_out t
run_counted t u h left = sym (run_settled t ∙ h (run t.state.left) ∙ ap (λ n. run n u) (sym left))

pub begun_are : (lines : List Line) (s : State) (ds : List ℕ) → s ≡ begun lines → ds ≡ [] → run_out (so_far (begun lines) []) ≡ run_out (so_far s ds)
begun_are lines s ds e none = λ i. run_out (so_far (sym e i) (sym none i))

pub depths_are : (lines : List Line) (s : State) (ds : List ℕ) → s ≡ start lines → ds ≡ [] → depths_of lines ≡ run_out (so_far s ds)
unfolding depths_of
depths_are lines s ds e none = λ i. run_out (so_far (sym e i) (sym none i))

-- where lines are numbered, a source begins as the definition says
pub depths_begun : (lines : List Line) → AreNumbered lines → depths_of lines ≡ run_out (so_far (begun lines) [])
unfolding depths_of
depths_begun lines h =
    let after : length lines + 1 ≡ line_after lines = omega (arith, h) in
    ap (λ n. run_out (so_far (record (start lines) { end = n }) [])) after
