use Rattle.std.proofs.Common.{◌≡◌, ◌∷◌, ◌++◌, ◌+◌, ◌<◌, ◌≤◌, [], List, length, get_or, take, drop, refl, sym, ap, subst, ◌∙◌, arith}
use Rattle.std.proofs.lemmas.List.{drop_all, take_all}
use Rattle.kc_trace.specs.Tables.{level_in}
use Rattle.kc_rules.specs.declared.mark.Mark.{Mark}
use Rattle.kc_monitor.specs.Marked.{Hit}
use Rattle.kc_monitor.specs.Seens.{hit_at, is_marked}
use Rattle.kc_monitor.specs.Marking.{fresh, IsKept}
use Rattle.kc_monitor.specs.Rows.{row, hists_after, IsTrack}
use Rattle.kc_monitor.specs.Watching.{AllThree}
use Rattle.kc_monitor.proofs.StepLemmas.{three_none, three_rest, drop_next, head_same}
use Rattle.kc_monitor.proofs.RowLemmas.{three_at, three_second, three_third, three_set, row_next, row_none, hists_next, hists_length}
use Rattle.kc_monitor.proofs.watch.mark_all.Goals as goal
use Rattle.kc_monitor.proofs.watch.mark_all.Goals.{then-i-marks+in_ok-push, else-i-marks}

pub loop-i-init : goal.loop-i-init
loop-i-init c = record {
  many = refl;
  rest = refl;
  reported = λ hists all. refl;
  later = λ hists all. refl;
  past = λ hists all. three_none IsTrack;
}

pub loop-i-preserved : goal.loop-i-preserved
loop-i-preserved c =
    let before = c.loop-i.invariant in
    let i = c.loop-i.i in
    let marks = c.args.marks.now in
    let old = c.args.markings.now in
    let now = c.loop-i.markings in
    let levels = level_in c.args.levels.now in
    let at = c.args.at in
    let what = c.args.what in
    let has = c.loop-i.has.items in
    elim c.if-i-marks.branch [
      | then-i-marks+in_ok-push w ↦
          let m : Mark = get_or marks i w.index-marks-i.result in
          let is_m : m ≡ get_or marks i m = ap (λ x. get_or marks i x) w.index-marks-i.is in
          let v = w.take-there.new.self in
          let seen = w.as_slice.ensures.value in
          let in_marks : i < length marks = w.if-i-marks.true in
          let there_is = λ (hists : List (List Hit)) (all : AllThree IsTrack marks hists old).
          let in_old : i < length old = omega (arith, three_third IsTrack marks hists old all) in
          let in_now : i < length now = omega (arith, before.many) in
          let kept : IsKept m.form (get_or hists i []) (get_or now i fresh) =
          subst (λ k. IsKept m.form (get_or hists i []) k) (sym (head_same now old i fresh in_now in_old before.rest))
          (three_at IsTrack marks hists old i w.index-marks-i.result [] fresh all in_marks) in
          w.take-there.ensures.reported (get_or hists i []) kept ∙ ap (λ s. is_marked m.form (hit_at levels m.form at what s) (get_or hists i [])) seen in
          let kept_is = λ (hists : List (List Hit)) (all : AllThree IsTrack marks hists old).
          let in_old : i < length old = omega (arith, three_third IsTrack marks hists old all) in
          let in_now : i < length now = omega (arith, before.many) in
          let kept : IsKept m.form (get_or hists i []) (get_or now i fresh) =
          subst (λ k. IsKept m.form (get_or hists i []) k) (sym (head_same now old i fresh in_now in_old before.rest))
          (three_at IsTrack marks hists old i w.index-marks-i.result [] fresh all in_marks) in
          subst (λ s. IsKept m.form (hit_at levels m.form at what s ∷ get_or hists i []) v) seen (w.take-there.ensures.kept (get_or hists i []) kept) in
          let has_new = λ (hists : List (List Hit)) (all : AllThree IsTrack marks hists old).
          ap (λ v. v.items) w.has-is ∙ w.in_ok-push.ensures.items ∙ ap (λ b. has ++ b ∷ []) (there_is hists all) in
          record {
            many = c.if-i-marks.auto.markings ∙ before.many;
            rest = rw w.markings-is (three_rest old now i v before.rest);
            reported = λ hists all.
                let in_hists : i < length hists = omega (arith, three_second IsTrack marks hists old all) in
                before.reported hists all ∙ row_next levels at what marks hists has i m [] in_marks in_hists is_m
                ∙ ap (λ hs. row levels at what (drop (i + 1) marks) (drop (i + 1) hists) hs) (sym (has_new hists all));
            later = λ hists all.
                let all_hists = hists_after levels at what marks hists c.args.has.now.items in
                let same : length hists ≡ length marks = three_second IsTrack marks hists old all in
                let in_hists : i < length hists = omega arith in
                let in_all : i < length all_hists = omega (arith, hists_length levels at what marks hists c.args.has.now.items same) in
                (hists_next levels at what marks hists all_hists has i m [] [] in_marks in_hists in_all is_m (before.later hists all)).1
                ∙ ap (λ hs. hists_after levels at what (drop (i + 1) marks) (drop (i + 1) hists) hs) (sym (has_new hists all));
            past = λ hists all.
                let all_hists = hists_after levels at what marks hists c.args.has.now.items in
                let same : length hists ≡ length marks = three_second IsTrack marks hists old all in
                let in_hists : i < length hists = omega arith in
                let in_all : i < length all_hists = omega (arith, hists_length levels at what marks hists c.args.has.now.items same) in
                let in_now : i < length now = omega (arith, before.many, three_third IsTrack marks hists old all) in
                let y : List Hit = hit_at levels m.form at what has ∷ get_or hists i [] in
                let is_y : y ≡ get_or all_hists i y =
                sym (hists_next levels at what marks hists all_hists has i m [] y in_marks in_hists in_all is_m (before.later hists all)).0 in
                subst (λ ks. AllThree IsTrack (take (i + 1) marks) (take (i + 1) all_hists) (take (i + 1) ks)) (sym w.markings-is)
                (three_set IsTrack marks all_hists now i m y v in_marks in_all in_now is_m is_y (kept_is hists all) (before.past hists all));
          }
      | else-i-marks w ↦ record {
        many = ap length w.markings-is ∙ before.many;
        rest = rw w.markings-is (drop_next now old i before.rest);
        reported = λ hists all. absurd (omega (arith, w.if-i-marks.false, before.many, three_third IsTrack marks hists old all));
        later = λ hists all. absurd (omega (arith, w.if-i-marks.false, before.many, three_third IsTrack marks hists old all));
        past = λ hists all. absurd (omega (arith, w.if-i-marks.false, before.many, three_third IsTrack marks hists old all));
      }
    ]

pub returns : goal.returns
returns c = λ hists all.
    let before = c.loop-i.invariant in
    let i = c.loop-i.i in
    let marks = c.args.marks.now in
    let old = c.args.markings.now in
    let levels = level_in c.args.levels.now in
    let at = c.args.at in
    let what = c.args.what in
    let all_hists = hists_after levels at what marks hists c.args.has.now.items in
    let same : length hists ≡ length marks = three_second IsTrack marks hists old all in
    let many : length marks ≤ i = omega (arith, before.many, three_third IsTrack marks hists old all) in
    let few : length all_hists ≤ i = omega (arith, hists_length levels at what marks hists c.args.has.now.items same) in
    let none : drop i marks ≡ [] = drop_all i marks many in (
      sym (before.reported hists all ∙ ap (λ ms. row levels at what ms (drop i hists) c.loop-i.has.items) none ∙ row_none levels at what (drop i hists) c.loop-i.has.items),
      subst (λ ks. AllThree IsTrack marks all_hists ks) (take_all i c.loop-i.markings (omega arith))
          (subst (λ hs. AllThree IsTrack marks hs (take i c.loop-i.markings)) (take_all i all_hists few)
          (subst (λ ms. AllThree IsTrack ms (take i all_hists) (take i c.loop-i.markings)) (take_all i marks many) (before.past hists all))),
    )
