use Rattle.std.proofs.Common.{◌≡◌, ◌&&◌, ap, ◌∙◌}
use Rattle.std.specs.Prelude.{◌==◌, if◌then◌else◌}
use Rattle.kc_trace.specs.Tables.{level_in}
use Rattle.kc_rules.specs.declared.mark.MarkForm.TheVariants as forms
use Rattle.kc_monitor_forms.specs.Tallies.{one_more}
use Rattle.kc_monitor.specs.Matching.{is_one}
use Rattle.kc_monitor.specs.Marked.{Hit, is_number}
use Rattle.kc_monitor.specs.Seens.{hit_at}
use Rattle.kc_monitor.specs.Marking.{or_zero, with_count, counted_by, begun_by}
use Rattle.kc_monitor.proofs.MarkLemmas.{every_reported, every_kept, from_reported, from_kept}
use Rattle.kc_monitor.proofs.marks.Marking.take.Goals as goal

pub returns-in-Every-clause-reported : goal.returns-in-Every-clause-reported
returns-in-Every-clause-reported c = λ earlier kept.
    let m = c.args.self.now in
    let levels = level_in c.args.levels.now in
    let k = c.in-Every.k in
    let h : Hit = hit_at levels (forms.Every k c.in-Every.events) c.args.at c.args.what c.args.marks.now in
    let event : c.is_one-event-in-Every.result ≡ h.event =
    c.is_one-event-in-Every.ensures ∙ ap (λ es. is_one es c.args.what c.args.marks.now levels) c.atoms-in-Every.ensures in
    let here = rw c.in-Every.is at kept in
    rw c.in-Every.is (c.is_last_of.ensures.reported ∙ ap (λ e. e && (one_more (or_zero m.count) == k)) event
    ∙ every_reported k h earlier m c.is_last_of.ensures.small here)

pub returns-in-Every-clause-kept : goal.returns-in-Every-clause-kept
returns-in-Every-clause-kept c = λ earlier kept.
    let m = c.args.self.now in
    let levels = level_in c.args.levels.now in
    let k = c.in-Every.k in
    let h : Hit = hit_at levels (forms.Every k c.in-Every.events) c.args.at c.args.what c.args.marks.now in
    let event : c.is_one-event-in-Every.result ≡ h.event =
    c.is_one-event-in-Every.ensures ∙ ap (λ es. is_one es c.args.what c.args.marks.now levels) c.atoms-in-Every.ensures in
    let here = rw c.in-Every.is at kept in
    rw c.in-Every.is (λ some. every_kept k h earlier m c.is_last_of.new.self c.is_last_of.ensures.small here
    (c.is_last_of.ensures.kept ∙ ap (λ e. if e then with_count k m else m) event) some)

pub returns-in-From-clause-reported : goal.returns-in-From-clause-reported
returns-in-From-clause-reported c = λ earlier kept.
    let m = c.args.self.now in
    let levels = level_in c.args.levels.now in
    let k = c.in-From.k in
    let h : Hit = hit_at levels (forms.From k c.in-From.events c.in-From.first) c.args.at c.args.what c.args.marks.now in
    let event : c.is_one-event-in-From.result ≡ h.event =
    c.is_one-event-in-From.ensures ∙ ap (λ es. is_one es c.args.what c.args.marks.now levels) c.atoms-in-From-2.ensures in
    let from : c.is_one-from.result ≡ h.from =
    c.is_one-from.ensures ∙ ap (λ es. is_one es c.args.what c.args.marks.now levels) c.atoms-in-From.ensures in
    let here = rw c.in-From.is at kept in
    rw c.in-From.is (c.is_of_number.ensures.reported
    ∙ ap (λ e. e && is_number k (counted_by e (begun_by c.is_one-from.result m.count))) event
    ∙ ap (λ f. h.event && is_number k (counted_by h.event (begun_by f m.count))) from
    ∙ from_reported k h earlier m.count c.is_of_number.ensures.small here)

pub returns-in-From-clause-kept : goal.returns-in-From-clause-kept
returns-in-From-clause-kept c = λ earlier kept.
    let m = c.args.self.now in
    let levels = level_in c.args.levels.now in
    let k = c.in-From.k in
    let h : Hit = hit_at levels (forms.From k c.in-From.events c.in-From.first) c.args.at c.args.what c.args.marks.now in
    let event : c.is_one-event-in-From.result ≡ h.event =
    c.is_one-event-in-From.ensures ∙ ap (λ es. is_one es c.args.what c.args.marks.now levels) c.atoms-in-From-2.ensures in
    let from : c.is_one-from.result ≡ h.from =
    c.is_one-from.ensures ∙ ap (λ es. is_one es c.args.what c.args.marks.now levels) c.atoms-in-From.ensures in
    let here = rw c.in-From.is at kept in
    rw c.in-From.is (ap (λ a. a.count) c.is_of_number.ensures.kept
    ∙ ap (λ e. counted_by e (begun_by c.is_one-from.result m.count)) event
    ∙ ap (λ f. counted_by h.event (begun_by f m.count)) from
    ∙ from_kept h earlier m.count here)
