use Rattle.std.proofs.Common.{ap, refl}
use Rattle.std.specs.Prelude.{replicate}
use Rattle.kc_profile.proofs.Empty.{empty_statistics, empty_few}
use Rattle.kc_profile.proofs.statistics.Statistics.new.Goals as goal

pub returns-clause-statistics : goal.returns-clause-statistics
returns-clause-statistics c = empty_statistics c.args.life _ refl (ap (λ w. replicate 16 w) c.none.ensures) refl (c.in_ok-vec.ensures.items_if_clones_equal (λ y e. e)) (c.in_ok-vec-2.ensures.items_if_clones_equal (λ y e. e)) (c.in_ok-vec-3.ensures.items_if_clones_equal (λ y e. e))

pub returns-clause-few : goal.returns-clause-few
returns-clause-few c = empty_few c.args.life _ refl (ap (λ w. replicate 16 w) c.none.ensures) refl (c.in_ok-vec.ensures.items_if_clones_equal (λ y e. e)) (c.in_ok-vec-2.ensures.items_if_clones_equal (λ y e. e)) (c.in_ok-vec-3.ensures.items_if_clones_equal (λ y e. e))
