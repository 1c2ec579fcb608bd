-- What is kept of a piece, point by point.
use Rattle.std.proofs.Common.{◌≡◌, ℕ, ◌+◌, ◌-◌, ◌^◌, min, true, false, cond, List, [], ◌∷◌, ◌++◌, length, Option, Some, None, refl, sym, ap, ◌∙◌, inl, inr, arith, length-append}
use Rattle.std.specs.Prelude.{filter, if◌then◌else◌}
use Rattle.std.specs.Option.{option_map}
use Rattle.std.proofs.lemmas.Bool.{cases_Bool, cond-true, cond-false}
use Rattle.std.proofs.lemmas.List.Elements.{filter-append}
use Rattle.kc_monitor_forms.specs.declared.obligation.Point.{Point}
use Rattle.kc_monitor_forms.specs.declared.pieces.Piece.{Piece}
use Rattle.kc_monitor_forms.specs.Never.{count_of}
use Rattle.kc_monitor_forms.specs.Pieces.{first_event}
use Rattle.kc_monitor_forms.specs.Machines.{or_else, piece_with, piece_begun, piece_after}

-- what a machine keeps of a piece that has begun, with its points so far
abbrev pub summary : Option (ℕ × List Point) → Option Piece
summary held = option_map (λ h. record { begin = h.0; count = count_of h.1; first = first_event h.1 }) held

-- the piece that has begun behind a point
abbrev pub begun_by : Point → Option (ℕ × List Point)
begun_by p = if p.from then Some (p.at, p ∷ []) else None

abbrev pub held_after : Option (ℕ × List Point) → Point → Option (ℕ × List Point)
held_after None p = begun_by p
held_after (Some held) p = if p.to then begun_by p else Some (held.0, held.1 ++ p ∷ [])

-- ---- with a point more

pub count_push : (points : List Point) (p : Point) → count_of (points ++ p ∷ []) ≡ cond p.event (min (count_of points + 1) (2 ^ 64 - 1)) (count_of points)
count_push points p = elim (cases_Bool p.event) [
  | inl is ↦ at_yes points p is ∙ sym (cond-true p.event (min (count_of points + 1) (2 ^ 64 - 1)) (count_of points) is)
  | inr other ↦ at_no points p other ∙ sym (cond-false p.event (min (count_of points + 1) (2 ^ 64 - 1)) (count_of points) other)
]
  where
    at_yes : (points : List Point) (p : Point) → p.event ≡ true → count_of (points ++ p ∷ []) ≡ min (count_of points + 1) (2 ^ 64 - 1)
    at_yes points p is =
        let all : length (filter (λ q. q.event) (points ++ p ∷ [])) ≡ length (filter (λ q. q.event) points) + 1 =
        ap length (filter-append (λ q. q.event) points (p ∷ [])) ∙ length-append (filter (λ q. q.event) points) (filter (λ q. q.event) (p ∷ [])) ∙ rw is refl in
        omega arith

    at_no : (points : List Point) (p : Point) → p.event ≡ false → count_of (points ++ p ∷ []) ≡ count_of points
    at_no points p other =
        let all : length (filter (λ q. q.event) (points ++ p ∷ [])) ≡ length (filter (λ q. q.event) points) + 0 =
        ap length (filter-append (λ q. q.event) points (p ∷ [])) ∙ length-append (filter (λ q. q.event) points) (filter (λ q. q.event) (p ∷ [])) ∙ rw other refl in
        omega arith

pub first_push : (points : List Point) (p : Point) → first_event (points ++ p ∷ []) ≡ or_else (first_event points) (cond p.event (Some p.at) None)
first_push [] p = refl
first_push (q ∷ points) p = elim (cases_Bool q.event) [
  | inl is ↦ rw is refl
  | inr other ↦ rw other (first_push points p)
]

pub summary_push : (begin : ℕ) (points : List Point) (p : Point) →
    summary (Some (begin, points ++ p ∷ [])) ≡ Some (piece_with (record { begin = begin; count = count_of points; first = first_event points }) p)
summary_push begin points p = elim (cases_Bool p.event) [
  | inl is ↦ rw (count_push points p, first_push points p, is) refl
  | inr other ↦ rw (count_push points p, first_push points p, other) (ap (λ f. Some (record { begin = begin; count = count_of points; first = f })) (or_none (first_event points)))
]
  where
    or_none : (o : Option ℕ) → or_else o None ≡ o
    or_none None = refl
    or_none (Some n) = refl

pub summary_begun : (p : Point) → summary (begun_by p) ≡ piece_begun p
summary_begun p = elim (cases_Bool p.from) [
  | inl is ↦
      ap summary (cond-true p.from (Some (p.at, p ∷ [])) None is) ∙ summary_push p.at [] p
      ∙ sym (cond-true p.from (Some (piece_with (record { begin = p.at; count = 0; first = None }) p)) None is)
  | inr other ↦
      ap summary (cond-false p.from (Some (p.at, p ∷ [])) None other)
      ∙ sym (cond-false p.from (Some (piece_with (record { begin = p.at; count = 0; first = None }) p)) None other)
]

pub summary_after : (held : Option (ℕ × List Point)) (p : Point) → summary (held_after held p) ≡ piece_after (summary held) p
summary_after None p = summary_begun p
summary_after (Some held) p =
    let kept : Piece = record { begin = held.0; count = count_of held.1; first = first_event held.1 } in
    elim (cases_Bool p.to) [
      | inl is ↦
          ap summary (cond-true p.to (begun_by p) (Some (held.0, held.1 ++ p ∷ [])) is) ∙ summary_begun p
          ∙ sym (cond-true p.to (piece_begun p) (Some (piece_with kept p)) is)
      | inr other ↦
          ap summary (cond-false p.to (begun_by p) (Some (held.0, held.1 ++ p ∷ [])) other) ∙ summary_push held.0 held.1 p
          ∙ sym (cond-false p.to (piece_begun p) (Some (piece_with kept p)) other)
    ]
