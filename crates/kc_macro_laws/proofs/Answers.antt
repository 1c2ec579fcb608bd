-- Texts that are alike but for some marks have the same answer, where nothing is too deep.
use Rattle.std.proofs.Common.{◌≡◌, ℕ, zero, suc, ◌<◌, Bool, true, List, [], ◌∷◌, length, arith, Some, Err, ◌⊎◌, inl, inr, refl, sym, ap, ◌∙◌}
use Rattle.kc_macro_input.specs.declared.piece.Mark.{Mark}
use Rattle.kc_macro_input.specs.declared.piece.Piece.{Piece}
use Rattle.kc_macro.specs.declared.state.State.{State}
use Rattle.kc_macro.specs.Steps.{Next, Fault, Ended, Quiet, Counted, step}
use Rattle.kc_macro.specs.Expansion.{Answer, on_next, settled, run, run_out}
use Rattle.kc_macro.proofs.RunLemmas.{reaches_start, reaches_active, run_next, run_counted, counted_left, quiet_left, quiet_shorter}
use Rattle.kc_macro_laws.specs.Course.{IsTooDeep}
use Rattle.kc_macro_laws.proofs.Pairs.{Calm, pairs_length}
use Rattle.kc_macro_laws.proofs.Simulation.{is_deep, PrefixPairs, Sim, NextPairs, step_pairs}

abbrev pub AnswerPairs : Mark → Answer → Answer → Type 0
AnswerPairs x a b = (b ≡ a) ⊎ ((is_deep x ≡ true) × IsTooDeep a)

-- what goes on alike
abbrev GoesAlike : Mark → (State → Answer) → Type 0
GoesAlike x next = (t : State) (rs : List Piece) → Sim x t rs → AnswerPairs x (next t) (next (record t { ahead = rs }))

next_alike : (x : Mark) (next more : State → Answer) (n m : Next) → GoesAlike x next → GoesAlike x more → NextPairs x n m → AnswerPairs x (on_next next more n) (on_next next more m)
next_alike x next more (Fault line code) m on goes (inl e) = inl (rw e refl)
next_alike x next more (Fault line code) m on goes (inr h) = inr (h.0, (line, rw (h.1) refl))
next_alike x next more (Ended lines) m on goes e = inl (rw e refl)
next_alike x next more (Quiet t) m on goes h = rw (h.1.0) (goes t h.0 h.1.1)
next_alike x next more (Counted t) m on goes h = rw (h.1.0) (on t h.0 h.1.1)

settled_alike : (x : Mark) (next : State → Answer) (k : ℕ) → GoesAlike x next → GoesAlike x (settled next k)
unfolding settled
settled_alike x next zero on t rs h = inl refl
settled_alike x next (suc k) on t rs h = next_alike x next (settled next k) (step t) (step (record t { ahead = rs })) on (settled_alike x next k on) (step_pairs x t rs h)

prefix_length : (x : Mark) (labelled : Bool) (ps qs : List Piece) → PrefixPairs x labelled ps qs → length qs ≡ length ps
prefix_length x labelled [] [] h = refl
prefix_length x labelled [] (q ∷ qs) h = absurd h
prefix_length x labelled (p ∷ ps) [] h = absurd h
prefix_length x labelled (p ∷ ps) (q ∷ qs) h = ap suc (pairs_length (Calm x) ps qs h.1.1)

run_alike : (x : Mark) (n : ℕ) → GoesAlike x (run n)
unfolding run
run_alike x zero t rs h = inl refl
run_alike x (suc n) t rs h = rw (prefix_length x t.labelled t.ahead rs h.pairs) (settled_alike x (run n) (suc (length t.ahead)) (run_alike x n) t rs h)

pub answers_alike : (x : Mark) → GoesAlike x run_out
answers_alike x t rs h = run_alike x (suc t.left) t rs h

-- ---- the answer goes on

-- enough rewritings are as good as more
enough_next : (next : State → Answer) (k j : ℕ) (s : State) (n : Next) → n ≡ step s → length s.ahead < suc k → length s.ahead < suc j →
    ((t : State) → length t.ahead < k → length t.ahead < j → settled next k t ≡ settled next j t) → on_next next (settled next k) n ≡ on_next next (settled next j) n
enough_next next k j s (Fault line code) e a b same = refl
enough_next next k j s (Ended lines) e a b same = refl
enough_next next k j s (Quiet t) e a b same = let less : length t.ahead < length s.ahead = quiet_shorter s t e in same t (omega arith) (omega arith)
enough_next next k j s (Counted t) e a b same = refl

enough : (next : State → Answer) (k j : ℕ) (s : State) → length s.ahead < k → length s.ahead < j → settled next k s ≡ settled next j s
unfolding settled
enough next zero j s a b = absurd (omega arith)
enough next (suc k) zero s a b = absurd (omega arith)
enough next (suc k) (suc j) s a b = enough_next next k j s (step s) refl a b (λ t c d. enough next k j t c d)

pub after_quiet : (s t : State) → step s ≡ Quiet t → run_out s ≡ run_out t
unfolding run settled
after_quiet s t e =
    let left : t.left ≡ s.left = quiet_left s t (sym e) in
    let less : length t.ahead < length s.ahead = quiet_shorter s t (sym e) in
    ap (on_next (run s.left) (settled (run s.left) (length s.ahead))) e ∙ enough (run s.left) (length s.ahead) (suc (length t.ahead)) t less (omega arith) ∙ ap (λ n. settled (run n) (suc (length t.ahead)) t) (sym left)

pub after_counted : (s t : State) → step s ≡ Counted t → run_out s ≡ run_out t
after_counted s t e = sym (run_counted s t (reaches_active s s (Counted t) (reaches_start s) (sym e) tt) (counted_left s t (sym e)))

pub after_fault : (s : State) (line code : ℕ) → step s ≡ Fault line code → run_out s ≡ Some (Err (line, code))
after_fault s line code e = run_next s (Fault line code) (reaches_active s s (Fault line code) (reaches_start s) (sym e) tt)
