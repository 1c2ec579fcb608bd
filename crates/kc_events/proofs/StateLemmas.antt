-- The states of a life, by what is known of them.
use Rattle.std.proofs.Common.{◌≡◌, ℕ, zero, suc, ◌+◌, ◌<◌, ◌≤◌, cond, eqb, List, [], ◌∷◌, ◌++◌, map, filter, refl, sym, ap, ◌∙◌, append_assoc, append-nil, arith}
use Rattle.std.proofs.lemmas.Bool.{ne_eqb, eq-eqb}
use Rattle.kc_base.specs.declared.types.Level.{Level}
use Rattle.kc_trace.specs.declared.life.Signal.{Signal}
use Rattle.kc_trace.specs.declared.life.What.{What}
use Rattle.kc_trace.specs.declared.life.Event.{Event}
use Rattle.kc_trace.specs.Lives.{State}
use Rattle.kc_stim.specs.Drives.{Drives}
use Rattle.kc_events.specs.Lives.{input_edges, levels_after, reported_in, states_from}
use Rattle.kc_events.specs.Coming.{states_on, AreFrom}

-- ---- what is known of a state

pub reported-other : (t : ℕ) (e : Event) (reported : List Event) → (e.at ≡ t → ⊥) → reported_in t (e ∷ reported) ≡ reported_in t reported
reported-other t e reported differs = ap (λ b. map (λ (x : Event). x.what) (cond b (e ∷ filter (λ x. eqb x.at t) reported) (filter (λ x. eqb x.at t) reported))) (ne_eqb e.at t differs)

reported-here : (t : ℕ) (e : Event) (reported : List Event) → e.at ≡ t → reported_in t (e ∷ reported) ≡ e.what ∷ reported_in t reported
reported-here t e reported same = ap (λ b. map (λ (x : Event). x.what) (cond b (e ∷ filter (λ x. eqb x.at t) reported) (filter (λ x. eqb x.at t) reported))) (eq-eqb e.at t same)

-- what is known of later states says nothing of this one
reported-later : (t : ℕ) (reported : List Event) → AreFrom (t + 1) reported → reported_in t reported ≡ []
reported-later t [] h = refl
reported-later t (e ∷ reported) h =
    let first : t + 1 ≤ e.at = h.0 in
    reported-other t e reported (λ same. omega (arith, first, same)) ∙ reported-later t reported h.1

pub from-append : (t : ℕ) (xs ys : List Event) → AreFrom t xs → AreFrom t ys → AreFrom t (xs ++ ys)
from-append t [] ys h k = k
from-append t (x ∷ xs) ys h k = (h.0, from-append t xs ys h.1 k)

pub from-less : (t s : ℕ) (xs : List Event) → s ≤ t → AreFrom t xs → AreFrom s xs
from-less t s [] less h = tt
from-less t s (x ∷ xs) less h = (let first : t ≤ x.at = h.0 in omega (arith, first, less), from-less t s xs less h.1)

-- ---- the states from one on

-- what is known of an earlier state does not change them
states-earlier : (d : Drives) (base : ℕ) (e : Event) (reported : List Event) (more t : ℕ) (levels : Signal → Level) → e.at < t → states_from d base (e ∷ reported) more t levels ≡ states_from d base reported more t levels
unfolding states_from
states-earlier d base e reported zero t levels less = refl
states-earlier d base e reported (suc more) t levels less =
    let same : reported_in t (e ∷ reported) ≡ reported_in t reported = reported-other t e reported (λ is. omega (arith, is, less)) in
    let edges = input_edges d levels (base + t) in
    (λ i. record { at = t; whats = edges ++ same i } ∷ states_from d base (e ∷ reported) more (t + 1) (levels_after levels (edges ++ same i)))
    ∙ ap (λ (states : List State). record { at = t; whats = edges ++ reported_in t reported } ∷ states) (states-earlier d base e reported more (t + 1) (levels_after levels (edges ++ reported_in t reported)) (omega (arith, less)))

-- the states from one on begin with its edges
pub states-on : (d : Drives) (base : ℕ) (reported : List Event) (more t : ℕ) (levels : Signal → Level) → states_from d base reported more t levels ≡ states_on d base reported more t levels (input_edges d levels (base + t))
unfolding states_from
states-on d base reported zero t levels = refl
states-on d base reported (suc more) t levels = refl

-- an event of the present state has happened
pub states-pushed : (d : Drives) (base : ℕ) (e : Event) (reported : List Event) (more t : ℕ) (levels : Signal → Level) (whats : List What) → e.at ≡ t →
    states_on d base (e ∷ reported) more t levels whats ≡ states_on d base reported more t levels (whats ++ e.what ∷ [])
states-pushed d base e reported zero t levels whats same = refl
states-pushed d base e reported (suc more) t levels whats same =
    let all : whats ++ reported_in t (e ∷ reported) ≡ (whats ++ e.what ∷ []) ++ reported_in t reported = ap (λ ws. whats ++ ws) (reported-here t e reported same) ∙ sym (append_assoc whats (e.what ∷ []) (reported_in t reported)) in
    (λ i. record { at = t; whats = all i } ∷ states_from d base (e ∷ reported) more (t + 1) (levels_after levels (all i)))
    ∙ ap (λ (states : List State). record { at = t; whats = (whats ++ e.what ∷ []) ++ reported_in t reported } ∷ states) (states-earlier d base e reported more (t + 1) (levels_after levels ((whats ++ e.what ∷ []) ++ reported_in t reported)) (omega (arith, same)))

-- the present state passes, of which nothing more is reported
pub states-passed : (d : Drives) (base : ℕ) (reported : List Event) (more t : ℕ) (levels : Signal → Level) (whats : List What) → AreFrom (t + 1) reported →
    states_on d base reported (suc more) t levels whats ≡ record { at = t; whats = whats } ∷ states_on d base reported more (t + 1) (levels_after levels whats) (input_edges d (levels_after levels whats) (base + (t + 1)))
states-passed d base reported more t levels whats later =
    let all : whats ++ reported_in t reported ≡ whats = ap (λ ws. whats ++ ws) (reported-later t reported later) ∙ append-nil whats in
    (λ i. record { at = t; whats = all i } ∷ states_from d base reported more (t + 1) (levels_after levels (all i)))
    ∙ ap (λ (states : List State). record { at = t; whats = whats } ∷ states) (states-on d base reported more (t + 1) (levels_after levels whats))
