use Rattle.std.proofs.Common.{◌≡◌, ℕ, suc, ◌+◌, ◌≤◌, Bool, true, false, cond, ◌&&◌, List, [], ◌∷◌, drop, Option, sym, ap, subst, ◌∙◌, arith}
use Rattle.std.specs.Prelude.{nat_le}
use Rattle.std.proofs.Math.Seq.{drop-cons}
use Rattle.std.proofs.Math.ListN.{drop_of_length-le}
use Rattle.kc_source.specs.declared.uses.Use.{Use}
use Rattle.kc_source.specs.Faults.{Fault, lesser, at_line}
use Rattle.kc_source.specs.Known.{known_at, brings, known_code}
use Rattle.kc_source.proofs.TableLemmas.{Checked, starts, checks, all_checked}
use Rattle.kc_source.proofs.names.name_fault.Goals as goal

pub loop-one-init : goal.loop-one-init
loop-one-init c = record { few = omega arith; checked = starts c.args.uses.now c.new-earlier.result.map.entries c.new-earlier.ensures }

at_most_one : (n : ℕ) (b : Bool) → n + cond b 1 0 ≤ n + 1
at_most_one n true = omega arith
at_most_one n false = omega arith

pub loop-one-preserved : goal.loop-one-preserved
loop-one-preserved c =
    let uses = c.args.uses.now in
    let i = c.loop-one.one-index in
    let u = c.one-item.result in
    let es = c.loop-one.earlier.map.entries in
    let fs = c.note.new.self.map.entries in
    let everywhere = c.in_ok-all.all.map.entries in
    let next : suc i ≡ i + 1 = omega arith in
    let prefix : drop i uses ≡ u ∷ drop (i + 1) uses = drop-cons uses i u c.loop-one-test.true ∙ (λ j. sym c.one-item.is j ∷ drop (next j) uses) in
    let so_far : Checked uses es c.loop-one.count c.loop-one.found (u ∷ drop (i + 1) uses) = subst (λ (us : List Use). Checked uses es c.loop-one.count c.loop-one.found us) prefix c.loop-one.invariant.checked in
    let here = rw c.as_slice-name.ensures at c.in_ok-note.ensures.here in
    let others = rw c.as_slice-name.ensures at c.in_ok-note.ensures.others in
    let checked = checks uses (drop (i + 1) uses) u es fs everywhere c.loop-one.count c.loop-one.found so_far c.in_ok-all.ensures here others in
    let before : c.known-before.result ≡ known_at es u.name = c.known-before.ensures ∙ ap (known_at es) c.as_slice-name.ensures in
    let all : c.known.result ≡ known_at everywhere u.name = c.known.ensures ∙ ap (known_at everywhere) c.as_slice-name.ensures in
    let new : c.brings-new.result ≡ brings u.kind (known_at es u.name) = c.brings-new.ensures ∙ ap (brings u.kind) before in
    let crowded : c.is_crowded.result ≡ (brings u.kind (known_at es u.name) && nat_le 16384 c.loop-one.count) = c.is_crowded.ensures ∙ ap (λ (b : Bool). b && nat_le 16384 c.loop-one.count) new in
    let code : c.code-code.result ≡ known_code u.kind (known_at es u.name) (known_at everywhere u.name) (brings u.kind (known_at es u.name) && nat_le 16384 c.loop-one.count) = c.code-code.ensures ∙ (λ j. known_code u.kind (before j) (all j) (crowded j)) in
    let found : c.lesser-found.result ≡ lesser c.loop-one.found (at_line u.line (known_code u.kind (known_at es u.name) (known_at everywhere u.name) (brings u.kind (known_at es u.name) && nat_le 16384 c.loop-one.count))) = c.lesser-found.ensures ∙ ap (lesser c.loop-one.found) (c.at_line.ensures ∙ ap (at_line u.line) code) in
    let count : c.counted-count.result ≡ c.loop-one.count + cond (brings u.kind (known_at es u.name)) 1 0 = c.counted-count.ensures ∙ ap (λ (b : Bool). c.loop-one.count + cond b 1 0) new in
    record {
      few = omega (arith, c.counted-count.ensures, at_most_one c.loop-one.count c.brings-new.result, c.loop-one.invariant.few);
      checked = subst (λ (n : ℕ). Checked uses fs n c.lesser-found.result (drop (i + 1) uses)) (sym count)
          (subst (λ (f : Option Fault). Checked uses fs (c.loop-one.count + cond (brings u.kind (known_at es u.name)) 1 0) f (drop (i + 1) uses)) (sym found) checked);
    }

pub returns : goal.returns
returns c =
    let none : drop c.loop-one.one-index c.args.uses.now ≡ [] = drop_of_length-le c.args.uses.now c.loop-one-test.false in
    all_checked c.args.uses.now c.loop-one.earlier.map.entries c.loop-one.count c.loop-one.found
    (subst (λ (us : List Use). Checked c.args.uses.now c.loop-one.earlier.map.entries c.loop-one.count c.loop-one.found us) none c.loop-one.invariant.checked)
