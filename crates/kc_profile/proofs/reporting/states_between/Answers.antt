use Rattle.std.proofs.Common.{ℕ, ◌-◌, ◌≤◌, List, take, drop, arith}
use Rattle.std.specs.Prelude.{sum}
use Rattle.std.proofs.lemmas.List.Sums.{sum_by-take-le, sum_by-take-drop}
use Rattle.kc_profile.proofs.reporting.states_between.Goals as goal

-- a part is no more than the whole
part : (xs : List ℕ) (from n : ℕ) → sum (take n (drop from xs)) ≤ sum xs
part xs from n =
    let few = sum_by-take-le (λ (x : ℕ). x) (drop from xs) n in
    let rest = sum_by-take-drop (λ (x : ℕ). x) xs from in
    omega (arith, few, rest)

pub sum_of-requires : goal.sum_of-requires
sum_of-requires c = let few = part c.args.at.now c.args.from (c.args.to - c.args.from) in omega (arith, few, c.requires.fits)
