-- The first turn over some arguments is begun.
use Rattle.std.proofs.Common.{◌≡◌, ℕ, ◌<◌, Option, Some, None, List, [], ◌∷◌, ◌++◌, length, Ok, refl, sym, ap, ◌∙◌, arith}
use Rattle.kc_lex.specs.declared.token.Token.{Token}
use Rattle.kc_lex.specs.LineFaults.{Fault as LineFault}
use Rattle.kc_macro_body.specs.declared.macros.Formals.{Formals}
use Rattle.kc_macro_body.specs.Bodies.{only}
use Rattle.kc_macro_input.specs.declared.piece.Mark.{Mark}
use Rattle.kc_macro_input.specs.declared.piece.Piece.{Piece}
use Rattle.kc_macro_input.specs.Ahead.{put_back}
use Rattle.kc_macro_input.specs.Filled.{fill_turns, fault_of, turns_over}
use Rattle.kc_macro_input.proofs.FilledLemmas.{sound_turns, turns_some, turns_none}
use Rattle.kc_macro.specs.declared.state.State.{State}
use Rattle.kc_macro.specs.Steps.{Quiet, turn_head, turn_lines, begun, over_turns, counted}

-- the first piece of a text with some pieces in front was taken off
taken_first : (s : State) (number : ℕ) (ts all new : List Piece) (o : Option Piece) → (ts ≡ [] → ⊥) → all ≡ ts ++ s.ahead → all ≡ put_back o new →
    counted number (record s { ahead = new }) ≡ begun s number (Ok ts)
taken_first s number [] all new o some put taken = absurd (some refl)
taken_first s number (p ∷ ps) all new None some put taken = absurd (let clash : p ∷ (ps ++ s.ahead) ≡ [] = sym put ∙ taken in cc)
taken_first s number (p ∷ ps) all new (Some q) some put taken =
    let whole : q ∷ new ≡ p ∷ (ps ++ s.ahead) = sym taken ∙ put in
    let rest : new ≡ ps ++ s.ahead = cc in
    ap (λ (a : List Piece). counted number (record s { ahead = a })) rest

some_args : (args : List (List Token)) → (length args ≡ 0 → ⊥) → 0 < length args
some_args [] some = absurd (some refl)
some_args (arg ∷ args) some = omega arith

pub first_turn : (s : State) (number : ℕ) (f : Formals) (head : Piece) (body : List Piece) (args : List (List Token)) (all new : List Piece) (o : Option Piece) → (length args ≡ 0 → ⊥) →
    all ≡ turns_over f head body args ++ s.ahead → all ≡ put_back o new → counted number (record s { ahead = new }) ≡ begun s number (Ok (turns_over f head body args))
first_turn s number f head body args all new o some put taken = taken_first s number (turns_over f head body args) all new o (turns_some f head body args (some_args args some)) put taken

pub no_turn : (s : State) (number : ℕ) (f : Formals) (head : Piece) (body : List Piece) (args : List (List Token)) → length args ≡ 0 → Quiet s ≡ begun s number (Ok (turns_over f head body args))
no_turn s number f head body args none = sym (ap (λ (ts : List Piece). begun s number (Ok ts)) (turns_none f head body args none))

-- turns without a fault are what is begun over the lines of a body
pub over_begun : (s : State) (number : ℕ) (from : List Mark) (over : List ℕ × List (List Token)) (prefix : List Piece) (f : Formals) (head : Piece) (body : List Piece) (found : Option LineFault) →
    f ≡ only (over.0 ∷ []) → head ≡ turn_head s.left number from → body ≡ turn_lines s.left prefix → found ≡ fault_of (fill_turns f head body over.1) → found ≡ None →
    begun s number (Ok (turns_over f head body over.1)) ≡ over_turns s number from over prefix
over_begun s number from over prefix f head body found is_f is_head is_body is none =
    sym (ap (begun s number) (sound_turns f head body over.1 (sym is ∙ none))) ∙ (λ i. begun s number (fill_turns (is_f i) (is_head i) (is_body i) over.1))
