-- Where a statement of a source without a fault stands, and what it leaves.
use Rattle.std.proofs.Common.{◌≡◌, ℕ, ◌+◌, ◌-◌, ◌%◌, ◌<◌, ◌≤◌, Bool, true, false, not, cond, ltb, leb, min, List, [], refl, sym, ap, ◌∙◌, subst, arith}
use Rattle.std.specs.Prelude.{Option, Some, None, unwrap_or, slice_get}
use Rattle.std.proofs.lemmas.Bool.Decides.{nat_tests}
use Rattle.kc_obj_module.specs.declared.parts.SegKind.{SegKind}
use Rattle.kc_obj_module.specs.declared.parts.SegKind.TheVariants.{Reg, Code, Ram, Stack}
use Rattle.kc_obj_module.specs.Pieces.{kind_number, in_region}
use Rattle.kc_expr.specs.Meaning.{Answer}
use Rattle.kc_asm_symbols.specs.declared.segments.Segment.{Segment}
use Rattle.kc_asm_symbols.specs.Located.{Located, is_absolute}
use Rattle.kc_asm_section.specs.Section.{Section}
use Rattle.kc_asm_section.specs.Order.{start_of}
use Rattle.kc_asm_emit.specs.declared.extent.Extent.{Extent}
use Rattle.kc_asm_emit.specs.declared.extent.Extent.TheVariants as extent
use Rattle.kc_asm_emit.specs.Alignment.{alignment, gap}
use Rattle.kc_asm_emit.specs.Arguments.{Look}
use Rattle.kc_asm_emit.specs.Content.{Content, Nothing, RelocatableBytes, Reserved, Upto, Even, content, extent_of}
use Rattle.kc_asm_emit.specs.Seen.{counted}
use Rattle.kc_asm_layout.specs.declared.location.Location.{Location}
use Rattle.kc_asm_check.specs.Codes.{Regions, goes_on, most_of, leaves, end_faults}
use Rattle.kc_asm_unlinked_laws.specs.Writable.{HasRoom}
use Rattle.kc_asm_unlinked_laws.proofs.Faultless.{IsFaultless, IsQuiet, quiet, forward, EndsWell, ends_well}
use Rattle.kc_asm_unlinked_laws.proofs.Taping.{size_at}

-- ---- a piece

abbrev pub end_of_section : Section → ℕ
end_of_section t = start_of t.at + t.length

abbrev pub at_of : Section → Option ℕ
at_of t = t.at

-- a relocatable piece has the number of its kind
abbrev pub IsOwn : ℕ → SegKind → Option ℕ → Type 0
IsOwn piece kind None = (piece ≡ kind_number kind) × (piece < 3)
IsOwn piece kind (Some address) = 3 ≤ piece

-- so many bytes have their place
abbrev pub Holds : SegKind → ℕ → Option ℕ → Type 0
Holds kind count None = count ≤ 65535
Holds kind count (Some address) = in_region kind address count ≡ true

abbrev pub IsWell : Section → Type 0
IsWell t = Holds t.kind t.length t.at

in_memory : (kind : SegKind) (address count : ℕ) → in_region kind address count ≡ true → address + count ≤ 65536
in_memory Reg address count h = grind (arith, nat_tests)
in_memory Code address count h = grind (arith, nat_tests)
in_memory Ram address count h = grind (arith, nat_tests)
in_memory Stack address count h = absurd (cc h)

held : (kind : SegKind) (count : ℕ) (at : Option ℕ) → Holds kind count at → start_of at + count ≤ 65536
held kind count None h = omega (arith, h)
held kind count (Some address) h = in_memory kind address count h

-- ---- a statement

abbrev pub passed_by : ℕ → Extent → ℕ
passed_by place (extent.Bytes n) = place + n
passed_by place (extent.Upto to) = to
passed_by place extent.Even = place + place % 2

-- it stands behind this piece
pub record StandsAt (look : Look) (regions : Regions) (l : Located) (s : Location) (t : Section) : Type 0 where
  pub kind : t.kind ≡ l.segment.kind
  pub begins : end_of_section t ≡ s.before
  pub place : s.place ≡ s.before + gap s.before (alignment l.segment.kind l.action)
  pub after : s.after ≡ passed_by s.place (counted (extent_of (content look s.form l.here l.action)))
  pub address : s.address ≡ t.at
  pub region : unwrap_or (slice_get regions l.segment.piece) None ≡ t.at
  pub own : IsOwn l.segment.piece t.kind t.at
  pub well : IsWell t

-- what it puts there has room
pub record Fits (c : Content) (s : Location) (t : Section) : Type 0 where
  pub forward : s.before ≤ s.place
  pub gap : t.length + (s.place - s.before) ≤ 65536
  pub room : HasRoom (t.length + (s.place - s.before)) c s.place
  pub ends : start_of t.at + ((t.length + (s.place - s.before)) + size_at s.place c) ≡ s.after
  pub well : Holds t.kind ((t.length + (s.place - s.before)) + size_at s.place c) t.at

no_gap : (place : ℕ) → gap place 1 ≡ 0
no_gap place = omega arith

pub record HasPlace (c : Content) (start count before place after : ℕ) : Type 0 where
  pub gap : count + (place - before) ≤ 65536
  pub room : HasRoom (count + (place - before)) c place
  pub ends : start + ((count + (place - before)) + size_at place c) ≡ after

has_place : (c : Content) (start count before place after : ℕ) → start + count ≡ before → before ≤ place → after ≡ passed_by place (counted (extent_of c)) → after ≤ 65536
    → ((to : ℕ) → c ≡ Upto to → place ≤ to) → HasPlace c start count before place after
has_place Nothing start count before place after begins ahead is most upto = record { gap = omega arith; room = tt; ends = omega arith }
has_place (RelocatableBytes os) start count before place after begins ahead is most upto = record { gap = omega arith; room = omega arith; ends = omega arith }
has_place (Reserved n) start count before place after begins ahead is most upto = record { gap = omega arith; room = omega arith; ends = omega arith }
has_place (Upto to) start count before place after begins ahead is most upto =
    let low : place ≤ to = upto to refl in
    record { gap = omega arith; room = (low, omega arith); ends = omega arith }
has_place Even start count before place after begins ahead is most upto = record { gap = omega arith; room = omega arith; ends = omega arith }

pub not_false : (b : Bool) → not b ≡ false → b ≡ true
not_false true e = refl
not_false false e = absurd (cc e)

-- a piece holds more where the statement leaves no region
holds_more : (kind : SegKind) (g : Segment) (at region : Option ℕ) (count more before after : ℕ) → start_of at + count ≡ before → start_of at + more ≡ after → count ≤ more
    → Holds kind count at → IsOwn g.piece kind at → region ≡ at → kind ≡ g.kind → after ≤ most_of g → (before < after → leaves g.kind region after ≡ false) → Holds kind more at
holds_more kind g None region count more before after begins ends longer held own r k most stays = by (is_absolute g) refl most
  where
    by : (b : Bool) → is_absolute g ≡ b → after ≤ cond b 65536 65535 → more ≤ 65535
    by true e h = let q : leb 3 g.piece ≡ true = e in let o : g.piece < 3 = own.1 in absurd (let z : ⊥ = grind (arith, nat_tests) in z)
    by false e h = omega (arith, h, ends)
holds_more kind g (Some address) region count more before after begins ends longer held own r k most stays = by (ltb before after) refl
  where
    by : (b : Bool) → ltb before after ≡ b → in_region kind address more ≡ true
    by true e =
        let h : before < after = grind (arith, nat_tests, e) in
        let s : after - address ≡ more = omega (arith, ends) in
        let free : not (in_region g.kind address (after - address)) ≡ false = sym (ap (λ (o : Option ℕ). leaves g.kind o after) r) ∙ stays h in
        ap (λ (x : SegKind). in_region x address more) k ∙ ap (in_region g.kind address) (sym s) ∙ not_false _ free
    by false e =
        let h : after ≤ before = grind (arith, nat_tests, e) in
        let s : more ≡ count = omega (arith, ends, begins, longer, h) in
        ap (in_region kind address) s ∙ held

module _ (look : Look) (last : List ℕ → Answer) (regions : Regions) (sum : ℕ) (l : Located) (s : Location) (t : Section) (w : StandsAt look regions l s t) (f : IsFaultless look last regions sum l s) where
  abbrev own_content : Content
  own_content = content look s.form l.here l.action

  -- behind the gap and the content
  abbrev pub long : ℕ
  long = (t.length + (s.place - s.before)) + size_at s.place own_content

  ahead : s.before ≤ s.place
  ahead = omega (arith, w.place)

  upto_ahead : (to : ℕ) → own_content ≡ Upto to → s.place ≤ to
  upto_ahead to e =
      let g = forward look s.form l.here l.segment.kind l.action s.before to e f.back in
      let here : s.place ≡ s.before + gap s.before 1 = w.place ∙ ap (λ (n : ℕ). s.before + gap s.before n) g.anywhere in
      omega (arith, here, no_gap s.before, g.forward)

  fits_by : (after : s.after ≤ 65536) → Holds t.kind long t.at → Fits own_content s t
  fits_by most well =
      let p = has_place own_content (start_of t.at) t.length s.before s.place s.after w.begins ahead w.after most upto_ahead in
      record { forward = ahead; gap = p.gap; room = p.room; ends = p.ends; well = well }

  -- of what puts nothing
  quiet_fits : IsQuiet look s.form l.here l.segment.kind l.action → Fits own_content s t
  quiet_fits q =
      let here : s.place ≡ s.before + gap s.before 1 = w.place ∙ ap (λ (n : ℕ). s.before + gap s.before n) q.anywhere in
      let there : s.after ≡ s.place + min 0 16777215 = w.after ∙ ap (λ (c : Content). passed_by s.place (counted (extent_of c))) q.nothing in
      let none : size_at s.place own_content ≡ 0 = ap (size_at s.place) q.nothing in
      let same : t.length ≡ long = omega (arith, here, no_gap s.before, none) in
      let bound : start_of t.at + t.length ≤ 65536 = held t.kind t.length t.at w.well in
      fits_by (omega (arith, here, there, no_gap s.before, w.begins, bound)) (subst (λ (n : ℕ). Holds t.kind n t.at) same w.well)

  moving_fits : EndsWell regions l.segment s → Fits own_content s t
  moving_fits e =
      let bound : s.after ≤ 65536 = most_bound (is_absolute l.segment) e.most in
      let p = has_place own_content (start_of t.at) t.length s.before s.place s.after w.begins ahead w.after bound upto_ahead in
      let longer : t.length ≤ long = omega arith in
      fits_by bound (holds_more t.kind l.segment t.at (unwrap_or (slice_get regions l.segment.piece) None) t.length long s.before s.after w.begins p.ends longer w.well w.own w.region w.kind e.most e.stays)
    where
      most_bound : (b : Bool) → s.after ≤ cond b 65536 65535 → s.after ≤ 65536
      most_bound true h = h
      most_bound false h = omega (arith, h)

  pub fits : Fits own_content s t
  fits = by (goes_on l.action) refl f.ends
    where
      by : (b : Bool) → goes_on l.action ≡ b → cond b (end_faults regions l.segment s) [] ≡ [] → Fits own_content s t
      by true e h = moving_fits (ends_well regions l.segment s h)
      by false e h = quiet_fits (quiet look s.form l.here l.segment.kind l.action e)
