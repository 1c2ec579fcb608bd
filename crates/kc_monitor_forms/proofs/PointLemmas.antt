-- What is known of a piece, point by point.
use Rattle.std.proofs.Common.{◌≡◌, ℕ, true, false, List, [], ◌∷◌, ◌++◌, Option, Some, None, refl, sym, ap, ◌∙◌, inl, inr, rules}
use Rattle.std.specs.Prelude.{flat_map, if◌then◌else◌}
use Rattle.std.proofs.lemmas.Bool.{cases_Bool, cond-true, cond-false}
use Rattle.kc_rules.specs.declared.amount.Share.{Share}
use Rattle.kc_rules.specs.declared.rule.Span.{Span}
use Rattle.kc_rules.specs.declared.rule.Within.{Within}
use Rattle.kc_monitor_forms.specs.declared.obligation.Obligation.{Obligation}
use Rattle.kc_monitor_forms.specs.declared.obligation.Point.{Point}
use Rattle.kc_monitor_forms.specs.declared.tally.Tally.{Tally}
use Rattle.kc_monitor_forms.specs.declared.pieces.Piece.{Piece}
use Rattle.kc_monitor_forms.specs.Tallies.{with_all}
use Rattle.kc_monitor_forms.specs.Pieces as spec
use Rattle.kc_monitor_forms.specs.Pieces.{pieces_behind, counted, placed, piece}
use Rattle.kc_monitor_forms.specs.Machines.{counted_closed, counted_open, placed_closed, counted_rest, placed_rest, piece_after}
use Rattle.kc_monitor_forms.proofs.TallyLemmas.{with_all_append}
use Rattle.kc_monitor_forms.proofs.PieceLemmas.{summary, begun_by, held_after, summary_after}

behind_begun : (p : Point) (points : List Point) → (if p.from then pieces_behind (Some (p.at, p ∷ [])) points else pieces_behind None points) ≡ pieces_behind (begun_by p) points
behind_begun p points = elim (cases_Bool p.from) [
  | inl is ↦ rw is refl
  | inr other ↦ rw other refl
]

behind_none : (p : Point) (points : List Point) → pieces_behind None (p ∷ points) ≡ pieces_behind (begun_by p) points
unfolding pieces_behind
behind_none p points = behind_begun p points

behind_end : (held : ℕ × List Point) (p : Point) (points : List Point) → p.to ≡ true →
    pieces_behind (Some held) (p ∷ points) ≡ piece held.0 held.1 (Some p.at) ∷ pieces_behind (begun_by p) points
unfolding pieces_behind
behind_end held p points is =
    cond-true p.to (piece held.0 held.1 (Some p.at) ∷ (if p.from then pieces_behind (Some (p.at, p ∷ [])) points else pieces_behind None points))
    (pieces_behind (Some (held.0, held.1 ++ p ∷ [])) points) is
    ∙ ap (λ ps. piece held.0 held.1 (Some p.at) ∷ ps) (behind_begun p points)

behind_more : (held : ℕ × List Point) (p : Point) (points : List Point) → p.to ≡ false →
    pieces_behind (Some held) (p ∷ points) ≡ pieces_behind (Some (held.0, held.1 ++ p ∷ [])) points
unfolding pieces_behind
behind_more held p points other = rw other refl

-- what is asked of the piece that a point ends
abbrev pub reported_by : (spec.Piece → List Obligation) → Option (ℕ × List Point) → Point → List Obligation
reported_by ask None p = []
reported_by ask (Some held) p = if p.to then ask (piece held.0 held.1 (Some p.at)) else []

piece_reported : (ask : spec.Piece → List Obligation) (held : Option (ℕ × List Point)) (p : Point) (points : List Point) →
    flat_map ask (pieces_behind held (p ∷ points)) ≡ reported_by ask held p ++ flat_map ask (pieces_behind (held_after held p) points)
piece_reported ask None p points = ap (λ ps. flat_map ask ps) (behind_none p points)
piece_reported ask (Some held) p points = elim (cases_Bool p.to) [
  | inl is ↦
      let reported = cond-true p.to (ask (piece held.0 held.1 (Some p.at))) [] is in
      let next = cond-true p.to (begun_by p) (Some (held.0, held.1 ++ p ∷ [])) is in
      ap (λ ps. flat_map ask ps) (behind_end held p points is) ∙ sym (λ i. reported i ++ flat_map ask (pieces_behind (next i) points))
  | inr other ↦
      let reported = cond-false p.to (ask (piece held.0 held.1 (Some p.at))) [] other in
      let next = cond-false p.to (begun_by p) (Some (held.0, held.1 ++ p ∷ [])) other in
      ap (λ ps. flat_map ask ps) (behind_more held p points other) ∙ sym (λ i. reported i ++ flat_map ask (pieces_behind (next i) points))
]

counted_reported : (span : Span) (held : Option (ℕ × List Point)) (p : Point) → reported_by (counted span) held p ≡ counted_closed span (summary held) p.to
counted_reported span None p = refl
counted_reported span (Some held) p = refl

placed_reported : (share : Share) (within : Within) (held : Option (ℕ × List Point)) (p : Point) →
    reported_by (placed share within) held p ≡ placed_closed share within (summary held) p
placed_reported share within None p = refl
placed_reported share within (Some held) p = refl

counted_left : (span : Span) (held : Option (ℕ × List Point)) → flat_map (counted span) (pieces_behind held []) ≡ counted_open span (summary held)
unfolding pieces_behind
counted_left span None = refl
counted_left span (Some held) = search rules

placed_left : (share : Share) (within : Within) (held : Option (ℕ × List Point)) → flat_map (placed share within) (pieces_behind held []) ≡ []
unfolding pieces_behind
placed_left share within None = refl
placed_left share within (Some held) = refl

-- what is kept of a piece reports as much as its points
pub counted_kept : (span : Span) (held : Option (ℕ × List Point)) (points : List Point) →
    flat_map (counted span) (pieces_behind held points) ≡ counted_rest span (summary held) points
unfolding counted_rest
counted_kept span held [] = counted_left span held
counted_kept span held (p ∷ points) =
    piece_reported (counted span) held p points
    ∙ ap (λ os. os ++ flat_map (counted span) (pieces_behind (held_after held p) points)) (counted_reported span held p)
    ∙ ap (λ os. counted_closed span (summary held) p.to ++ os)
    (counted_kept span (held_after held p) points ∙ ap (λ o. counted_rest span o points) (summary_after held p))

pub placed_kept : (share : Share) (within : Within) (held : Option (ℕ × List Point)) (points : List Point) →
    flat_map (placed share within) (pieces_behind held points) ≡ placed_rest share within (summary held) points
unfolding placed_rest
placed_kept share within held [] = placed_left share within held
placed_kept share within held (p ∷ points) =
    piece_reported (placed share within) held p points
    ∙ ap (λ os. os ++ flat_map (placed share within) (pieces_behind (held_after held p) points)) (placed_reported share within held p)
    ∙ ap (λ os. placed_closed share within (summary held) p ++ os)
    (placed_kept share within (held_after held p) points ∙ ap (λ o. placed_rest share within o points) (summary_after held p))

-- ---- point by point

pub counted_next : (life : ℕ) (tally : Tally) (span : Span) (kept : Option Piece) (p : Point) (points : List Point) →
    with_all life tally (counted_rest span kept (p ∷ points))
    ≡ with_all life (with_all life tally (counted_closed span kept p.to)) (counted_rest span (piece_after kept p) points)
unfolding counted_rest
counted_next life tally span kept p points = with_all_append life tally (counted_closed span kept p.to) (counted_rest span (piece_after kept p) points)

pub placed_next : (life : ℕ) (tally : Tally) (share : Share) (within : Within) (kept : Option Piece) (p : Point) (points : List Point) →
    with_all life tally (placed_rest share within kept (p ∷ points))
    ≡ with_all life (with_all life tally (placed_closed share within kept p)) (placed_rest share within (piece_after kept p) points)
unfolding placed_rest
placed_next life tally share within kept p points =
    with_all_append life tally (placed_closed share within kept p) (placed_rest share within (piece_after kept p) points)
