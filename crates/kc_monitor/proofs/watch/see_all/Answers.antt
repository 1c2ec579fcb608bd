use Rattle.std.proofs.Common.{◌≡◌, ◌∷◌, ◌++◌, ◌+◌, [], get_or, take, sym, ap, subst, ◌∙◌, arith}
use Rattle.std.proofs.lemmas.List.{take_more}
use Rattle.kc_trace.specs.Tables.{level_in}
use Rattle.kc_base.specs.declared.types.Level.TheVariants.{Low}
use Rattle.kc_trace.specs.declared.life.Signal.TheVariants.{Output}
use Rattle.kc_trace.specs.declared.life.What.{What}
use Rattle.kc_trace.specs.declared.life.What.TheVariants.{Edge}
use Rattle.kc_monitor.specs.Rows.{row, hists_after, seens_in, hists_over, seen_now, IsTrack}
use Rattle.kc_monitor.specs.Watching.{AllThree}
use Rattle.kc_monitor.proofs.RowLemmas.{seens_push, hists_push, seens_none, hists_none}
use Rattle.kc_monitor.proofs.watch.see_all.Goals as goal

pub loop-what-init : goal.loop-what-init
loop-what-init c = record {
  reported = λ hists all. c.new-seens.ensures.items ∙ sym (seens_none (level_in c.args.levels.now) c.args.at c.args.marks.now hists);
  kept = λ hists all. subst (λ hs. AllThree IsTrack c.args.marks.now hs c.args.markings.now) (sym (hists_none (level_in c.args.levels.now) c.args.at c.args.marks.now hists)) all;
}

pub loop-what-preserved : goal.loop-what-preserved
loop-what-preserved c =
    let before = c.loop-what.invariant in
    let levels = level_in c.args.levels.now in
    let at = c.args.at in
    let marks = c.args.marks.now in
    let whats = c.args.whats.now in
    let k = c.loop-what.what-index in
    let w : What = get_or whats k (Edge (Output (record { 0 = 0 })) Low) in
    let more : take (k + 1) whats ≡ take k whats ++ w ∷ [] = take_more whats k (Edge (Output (record { 0 = 0 })) Low) (omega arith) in
    let none = c.new-has.ensures.items in
    record {
      reported = λ hists all.
          let so_far = hists_over levels at marks hists (take k whats) in
          let step = c.in_ok-mark_all.ensures so_far (before.kept hists all) in
          let seen : c.new.result ≡ seen_now levels at marks so_far w =
          c.new.ensures ∙ ap (λ bs. record { at = at; what = w; marks = bs }) (step.0 ∙ ap (λ has. row levels at w marks so_far has) none) in
          c.in_ok-push.ensures.items ∙ (λ i. before.reported hists all i ++ seen i ∷ []) ∙ sym (seens_push levels at marks hists (take k whats) w)
          ∙ ap (λ ws. seens_in levels at marks hists ws) (sym more);
      kept = λ hists all.
          let so_far = hists_over levels at marks hists (take k whats) in
          let step = c.in_ok-mark_all.ensures so_far (before.kept hists all) in
          subst (λ hs. AllThree IsTrack marks hs c.mark_all.new.markings)
          (ap (λ has. hists_after levels at w marks so_far has) none ∙ sym (hists_push levels at marks hists (take k whats) w)
          ∙ ap (λ ws. hists_over levels at marks hists ws) (sym more))
          step.1;
    }
