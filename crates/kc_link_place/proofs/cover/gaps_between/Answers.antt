use Rattle.std.proofs.Common.{ap, ◌∙◌}
use Rattle.kc_link_place.proofs.Covers.{push_step, stay_step, free_step, last_step, all_step}
use Rattle.kc_link_place.proofs.cover.gaps_between.Goals as goal
use Rattle.kc_link_place.proofs.cover.gaps_between.Goals.{then-cover-address-gt0, then-start-address+in_ok-push, else-start-address, else-cover-address-gt0, then-start-lt65536+in_ok-push-2, else-start-lt65536}

pub loop-address-preserved : goal.loop-address-preserved
loop-address-preserved c =
    elim c.if-cover-address-gt0.branch [
      | then-cover-address-gt0 w ↦
          elim w.if-start-address.branch [
            | then-start-address+in_ok-push v ↦
                push_step c.args.cover.now c.loop-address.gaps.items c.if-cover-address-gt0.gaps.items c.loop-address.start c.if-cover-address-gt0.start c.loop-address.address c.loop-address.invariant w.if-cover-address-gt0.true
                (ap (λ g. g.items) w.gaps-is ∙ (ap (λ g. g.items) v.gaps-is ∙ v.in_ok-push.ensures.items)) w.start-is
            | else-start-address v ↦
                stay_step c.args.cover.now c.loop-address.gaps.items c.if-cover-address-gt0.gaps.items c.loop-address.start c.if-cover-address-gt0.start c.loop-address.address c.loop-address.invariant w.if-cover-address-gt0.true v.if-start-address.false
                (ap (λ g. g.items) w.gaps-is ∙ ap (λ g. g.items) v.gaps-is) w.start-is
          ]
      | else-cover-address-gt0 w ↦
          free_step c.args.cover.now c.loop-address.gaps.items c.if-cover-address-gt0.gaps.items c.loop-address.start c.if-cover-address-gt0.start c.loop-address.address c.loop-address.invariant w.if-cover-address-gt0.false
          (ap (λ g. g.items) w.gaps-is) w.start-is
    ]

pub returns : goal.returns
returns c =
    elim c.if-start-lt65536.branch [
      | then-start-lt65536+in_ok-push-2 w ↦
          last_step c.args.cover.now c.loop-address.gaps.items c.if-start-lt65536.gaps.items c.loop-address.start c.loop-address.address c.loop-address.invariant c.loop-address-test.false c.loop-address.auto.address-end
          (ap (λ g. g.items) w.gaps-is ∙ w.in_ok-push-2.ensures.items)
      | else-start-lt65536 w ↦
          all_step c.args.cover.now c.loop-address.gaps.items c.if-start-lt65536.gaps.items c.loop-address.start c.loop-address.address c.loop-address.invariant c.loop-address-test.false c.loop-address.auto.address-end w.if-start-lt65536.false
          (ap (λ g. g.items) w.gaps-is)
    ]
