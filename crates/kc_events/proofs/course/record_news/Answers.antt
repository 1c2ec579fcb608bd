use Rattle.std.proofs.Common.{false, refl, sym, subst}
use Rattle.kc_trace.specs.declared.record.Record.TheVariants.{Stopped}
use Rattle.kc_events.specs.declared.line.Line.TheVariants.{Printed}
use Rattle.kc_events.specs.declared.course.Known.TheVariants.{Ending}
use Rattle.kc_events.specs.Coming.{IsFed}
use Rattle.kc_events.proofs.FedLemmas.{fed_end, fed_record, no_end}
use Rattle.kc_events.proofs.course.record_news.Goals as goal

pub returns-in-Stopped-clause-fed : goal.returns-in-Stopped-clause-fed
returns-in-Stopped-clause-fed c =
    let ahead = c.end_event.result in
    let stopped = fed_end c.in-Stopped.at c.in-Stopped.how ahead c.end_event.ensures.reported in
    subst (λ item. IsFed (Printed item) ahead (Ending c.count_of.result false)) (sym c.in-Stopped.is)
    (subst (λ n. IsFed (Printed (Stopped c.in-Stopped.at c.in-Stopped.how)) ahead (Ending n false)) (sym c.count_of.ensures) stopped)

pub returns-in_default : goal.returns-in_default
returns-in_default c = record {
  fed = fed_record c.args.item.now c.event_of.result (no_end c.args.item.now (λ at how e. c.in_default.not-Stopped at how e)) c.event_of.ensures.reported;
  early = c.event_of.ensures.early c.requires;
  end = λ base. tt;
  goes = tt;
  base = λ base is. refl;
}
