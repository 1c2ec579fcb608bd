-- Lines that are put together one after the other, as loops find them.
use Rattle.std.proofs.Common.{◌≡◌, ℕ, suc, ◌+◌, ◌<◌, Option, Some, None, List, [], ◌∷◌, map, length, get_or, drop, drop-cons, add-one, Ok, Err, refl, sym, ap, ◌∙◌, append_assoc, arith}
use Rattle.std.proofs.lemmas.List.{append-nil}
use Rattle.kc_lex.specs.declared.token.Token.{Token}
use Rattle.kc_lex.specs.LineFaults.{Fault, lesser}
use Rattle.kc_lex.proofs.FaultLemmas.{first_assoc, lesser_none, lesser_assoc}
use Rattle.kc_macro_body.specs.declared.macros.Formals.{Formals}
use Rattle.kc_macro_input.specs.declared.piece.Piece.{Piece}
use Rattle.kc_macro_input.specs.Filled.{Filled, together, all_together, fill_body, fill_turn, fill_turns, lines_of, fault_of, turns_over}

pub together_assoc : (x y z : Filled) → together (together x y) z ≡ together x (together y z)
together_assoc (Ok ps) (Ok qs) (Ok rs) = ap (λ (xs : List Piece). Ok xs) (append_assoc ps qs rs)
together_assoc (Ok ps) (Ok qs) (Err h) = refl
together_assoc (Ok ps) (Err g) (Ok rs) = refl
together_assoc (Ok ps) (Err g) (Err h) = refl
together_assoc (Err f) (Ok qs) (Ok rs) = refl
together_assoc (Err f) (Ok qs) (Err h) = refl
together_assoc (Err f) (Err g) (Ok rs) = refl
together_assoc (Err f) (Err g) (Err h) = ap (λ (x : Fault). Err x) (first_assoc f g h)

-- ---- loops

pub together_start : (x : Filled) → together (Ok []) x ≡ x
together_start (Ok ps) = refl
together_start (Err f) = refl

pub together_end : {A : Type 0} (g : A → Filled) (rest : List A) (done all : Filled) → rest ≡ [] → together done (all_together (map g rest)) ≡ all → done ≡ all
unfolding all_together
together_end g rest (Ok ps) all e so_far = sym (ap (λ xs. together (Ok ps) (all_together (map g xs))) e ∙ ap (λ (xs : List Piece). Ok xs) (append-nil ps)) ∙ so_far
together_end g rest (Err f) all e so_far = sym (ap (λ xs. together (Err f) (all_together (map g xs))) e) ∙ so_far

pub together_more : {A : Type 0} (g : A → Filled) (x : A) (xs rest : List A) (done more all : Filled) → rest ≡ x ∷ xs → more ≡ together done (g x) → together done (all_together (map g rest)) ≡ all → together more (all_together (map g xs)) ≡ all
unfolding all_together
together_more g x xs rest done more all e is so_far =
    ap (λ y. together y (all_together (map g xs))) is ∙ together_assoc done (g x) (all_together (map g xs)) ∙ sym (ap (λ ys. together done (all_together (map g ys))) e) ∙ so_far

pub prefix_of : {A : Type 0} (xs : List A) (i : ℕ) (x : A) → i < length xs → x ≡ get_or xs i x → drop i xs ≡ x ∷ drop (i + 1) xs
prefix_of xs i x h e = rw add-one (drop-cons xs i x h ∙ ap (λ y. y ∷ drop (suc i) xs) (sym e))

-- ---- faults alone

fault_together : (x y : Filled) → fault_of (together x y) ≡ lesser (fault_of x) (fault_of y)
fault_together (Ok ps) (Ok qs) = refl
fault_together (Ok ps) (Err g) = refl
fault_together (Err f) (Ok qs) = refl
fault_together (Err f) (Err g) = refl

-- the fault of the turns over some arguments, by that of the first and those of the others
fault_turns : (f : Formals) (head : Piece) (body : List Piece) (arg : List Token) (args : List (List Token)) →
    fault_of (fill_turns f head body (arg ∷ args)) ≡ lesser (fault_of (fill_body f (arg ∷ []) 0 body)) (fault_of (fill_turns f head body args))
unfolding all_together
fault_turns f head body arg args =
    fault_together (fill_turn f head body arg) (fill_turns f head body args)
    ∙ ap (λ (g : Option Fault). lesser g (fault_of (fill_turns f head body args))) (fault_together (Ok (head ∷ [])) (fill_body f (arg ∷ []) 0 body))

pub faults_end : (f : Formals) (head : Piece) (body : List Piece) (rest : List (List Token)) (found all : Option Fault) → rest ≡ [] →
    lesser found (fault_of (fill_turns f head body rest)) ≡ all → found ≡ all
unfolding all_together
faults_end f head body rest found all e so_far =
    sym (ap (λ (args : List (List Token)). lesser found (fault_of (fill_turns f head body args))) e ∙ lesser_none found) ∙ so_far

pub faults_more : (f : Formals) (head : Piece) (body : List Piece) (arg : List Token) (args rest : List (List Token)) (found more all : Option Fault) → rest ≡ arg ∷ args →
    more ≡ lesser found (fault_of (fill_body f (arg ∷ []) 0 body)) → lesser found (fault_of (fill_turns f head body rest)) ≡ all → lesser more (fault_of (fill_turns f head body args)) ≡ all
faults_more f head body arg args rest found more all e is so_far =
    ap (λ (g : Option Fault). lesser g (fault_of (fill_turns f head body args))) is
    ∙ lesser_assoc found (fault_of (fill_body f (arg ∷ []) 0 body)) (fault_of (fill_turns f head body args))
    ∙ ap (lesser found) (sym (fault_turns f head body arg args))
    ∙ ap (λ (rs : List (List Token)). lesser found (fault_of (fill_turns f head body rs))) (sym e) ∙ so_far

-- ---- turns without a fault

pub faulty : (x : Filled) (f : Fault) → fault_of x ≡ Some f → x ≡ Err f
faulty (Ok ps) f h = absurd (cc h)
faulty (Err g) f h = let same : g ≡ f = cc h in ap (λ (k : Fault). Err k) same

sound : (x : Filled) → fault_of x ≡ None → x ≡ Ok (lines_of x)
sound (Ok ps) h = refl
sound (Err f) h = absurd (cc h)

both_sound : (x y : Filled) → fault_of (together x y) ≡ None → (fault_of x ≡ None) × (fault_of y ≡ None)
both_sound (Ok ps) (Ok qs) h = (refl, refl)
both_sound (Ok ps) (Err g) h = absurd (cc h)
both_sound (Err f) (Ok qs) h = absurd (cc h)
both_sound (Err f) (Err g) h = absurd (cc h)

pub sound_turns : (f : Formals) (head : Piece) (body : List Piece) (args : List (List Token)) → fault_of (fill_turns f head body args) ≡ None →
    fill_turns f head body args ≡ Ok (turns_over f head body args)
unfolding all_together turns_over
sound_turns f head body [] h = refl
sound_turns f head body (arg ∷ args) h =
    let parts = both_sound (fill_turn f head body arg) (fill_turns f head body args) h in
    let own = both_sound (Ok (head ∷ [])) (fill_body f (arg ∷ []) 0 body) parts.0 in
    ap (λ (x : Filled). together (together (Ok (head ∷ [])) x) (fill_turns f head body args)) (sound (fill_body f (arg ∷ []) 0 body) own.1)
    ∙ ap (λ (y : Filled). together (together (Ok (head ∷ [])) (Ok (lines_of (fill_body f (arg ∷ []) 0 body)))) y) (sound_turns f head body args parts.1)

-- some arguments have some turns
pub turns_some : (f : Formals) (head : Piece) (body : List Piece) (args : List (List Token)) → 0 < length args → turns_over f head body args ≡ [] → ⊥
unfolding turns_over
turns_some f head body [] some h = omega (arith, some)
turns_some f head body (arg ∷ args) some h = cc h

pub turns_none : (f : Formals) (head : Piece) (body : List Piece) (args : List (List Token)) → length args ≡ 0 → turns_over f head body args ≡ []
unfolding turns_over
turns_none f head body [] none = refl
turns_none f head body (arg ∷ args) none = absurd (omega (arith, none))
