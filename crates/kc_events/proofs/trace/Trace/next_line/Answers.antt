use Rattle.std.proofs.Common.{◌≡◌, Ok, Err, false, rules, refl, sym, subst, ◌∙◌}
use Rattle.kc_byte_source.specs.declared.lines.LineFault.TheVariants as line_fault
use Rattle.kc_byte_source.specs.Feed.{IsLongLine}
use Rattle.kc_events.specs.declared.trace.TraceFault.TheVariants.{BadTrace}
use Rattle.kc_events.specs.Printed.{place_in}
use Rattle.kc_events.specs.Reading.{Reading, IsRefused, one_more}
use Rattle.kc_events.proofs.TraceLemmas.{end_is_wrong, long_is_wrong}
use Rattle.kc_events.proofs.trace.Trace.next_line.Goals as goal

pub returns-else-is_over-clause-refused : goal.returns-else-is_over-clause-refused
returns-else-is_over-clause-refused g c =
    let old = c.self.inside in
    let count = c.saturating_add-count.result in
    let new : Reading = record { reader = old.reader; left = c.advance.new.self.left; count = count; faults = c.advance.new.self.faults } in
    let is : c.advance.result ≡ Ok false = search rules in
    let counted : count ≡ one_more old.count = search rules in
    let wrong = end_is_wrong (place_in old.reader) old.lines.left (sym c.is_over.ensures ∙ c.if-is_over.false) (c.advance.ensures.over is).0 in
    subst (λ (r : Reading). IsRefused r new (BadTrace count)) c.self.view_is (counted, wrong, refl)

pub returns-in-Err-TooLong-clause-refused : goal.returns-in-Err-TooLong-clause-refused
returns-in-Err-TooLong-clause-refused g c =
    let old = c.self.inside in
    let count = c.saturating_add-count.result in
    let new : Reading = record { reader = old.reader; left = c.advance.new.self.left; count = count; faults = c.advance.new.self.faults } in
    let is : c.advance.result ≡ Err line_fault.TooLong = search rules in
    let counted : count ≡ one_more old.count = search rules in
    let long = subst (λ most. IsLongLine most old.lines.left) c.self.invariant (c.advance.ensures.too_long is) in
    subst (λ (r : Reading). IsRefused r new (BadTrace count)) c.self.view_is (counted, long_is_wrong (place_in old.reader) old.lines.left long, refl)
