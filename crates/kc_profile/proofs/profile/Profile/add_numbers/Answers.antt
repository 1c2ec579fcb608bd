use Rattle.std.proofs.Common.{◌≡◌, ℕ, ◌+◌, ◌<◌, ◌^◌, List, length, rules, sym, ap, subst, ◌∙◌, arith}
use Rattle.std.specs.Vec.{with_items}
use Rattle.std.proofs.lemmas.List.{with_items_is}
use Rattle.kc_profile.specs.Tally.{Tally, IsWhole, both, sums, total}
use Rattle.kc_profile.proofs.Added.{sums-long}
use Rattle.kc_profile.proofs.Together.{both_total, both_whole}
use Rattle.kc_profile.proofs.profile.Profile.add_numbers.Goals as goal

pub invariant_of-self : goal.invariant_of-self
invariant_of-self c =
    let t : Tally = record { at = c.self.inside.at.items; entries = c.self.inside.entries; server = c.self.inside.server; idle = c.self.inside.idle } in
    let u : Tally = record { at = c.other.inside.at.items; entries = c.other.inside.entries; server = c.other.inside.server; idle = c.other.inside.idle } in
    let t-whole : IsWhole t = c.self.invariant.0 in
    let u-whole : IsWhole u = c.other.invariant.0 in
    let set : c.raise_all.new.numbers ≡ sums t.at u.at = c.raise_all.ensures ∙ ap (λ (ys : List ℕ). sums ys c.deref.result.now) c.deref_mut.ensures.value ∙ ap (λ (ys : List ℕ). sums t.at ys) c.deref.ensures.value in
    let len : length t.at ≡ c.self.inside.at.len = search rules in
    let long : length c.raise_all.new.numbers ≡ c.self.inside.at.len = ap length set ∙ sums-long t.at u.at (t-whole.at ∙ sym u-whole.at) ∙ len in
    let kept = with_items_is c.self.inside.at c.raise_all.new.numbers long in
    let sum = both_total t u t-whole u-whole in
    let old : total c.args.self.now ≡ total t = ap total (sym c.self.view_is) in
    let other : total c.args.other.now ≡ total u = ap total (sym c.other.view_is) in
    let fits : total (both t u) < 2 ^ 64 = omega (arith, sum, old, other, c.requires) in
    subst (λ (x : Tally). IsWhole x × (total x < 2 ^ 64)) (sym (λ j. record { at = (kept ∙ set) j; entries = c.raise_all-2.ensures j; server = c.raise_all-3.ensures j; idle = t.idle + u.idle })) (both_whole t u t-whole u-whole, fits)

pub returns-clause-total : goal.returns-clause-total
returns-clause-total c =
    let t : Tally = record { at = c.self.inside.at.items; entries = c.self.inside.entries; server = c.self.inside.server; idle = c.self.inside.idle } in
    let u : Tally = record { at = c.other.inside.at.items; entries = c.other.inside.entries; server = c.other.inside.server; idle = c.other.inside.idle } in
    let t-whole : IsWhole t = c.self.invariant.0 in
    let u-whole : IsWhole u = c.other.invariant.0 in
    let set : c.raise_all.new.numbers ≡ sums t.at u.at = c.raise_all.ensures ∙ ap (λ (ys : List ℕ). sums ys c.deref.result.now) c.deref_mut.ensures.value ∙ ap (λ (ys : List ℕ). sums t.at ys) c.deref.ensures.value in
    let len : length t.at ≡ c.self.inside.at.len = search rules in
    let long : length c.raise_all.new.numbers ≡ c.self.inside.at.len = ap length set ∙ sums-long t.at u.at (t-whole.at ∙ sym u-whole.at) ∙ len in
    let v : Tally = record { at = (with_items c.self.inside.at c.raise_all.new.numbers).items; entries = c.raise_all-2.new.numbers; server = c.raise_all-3.new.numbers; idle = t.idle + u.idle } in
    let kept = with_items_is c.self.inside.at c.raise_all.new.numbers long in
    let same : v ≡ both t u = λ j. record { at = (kept ∙ set) j; entries = c.raise_all-2.ensures j; server = c.raise_all-3.ensures j; idle = t.idle + u.idle } in
    ap total same
    ∙ both_total t u t-whole u-whole
    ∙ ap (λ (n : ℕ). n + total u) (ap total c.self.view_is)
    ∙ ap (λ (n : ℕ). total c.args.self.now + n) (ap total c.other.view_is)
