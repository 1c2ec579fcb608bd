use Rattle.std.proofs.Common.{◌≡◌, ◌+◌, true, subst, sym, ◌∙◌}
use Rattle.kc_events.specs.Grammar.{Place, may_print, after_record}
use Rattle.kc_events.specs.Printed.{place_in}
use Rattle.kc_events.proofs.PlaceLemmas.{pin_prints, printed_moved}
use Rattle.kc_events.proofs.reader.Reader.go_record.Goals as goal

pub returns-in-Pin : goal.returns-in-Pin
returns-in-Pin c =
    let old = c.args.self.now in
    let pin = c.in-Pin.edge.pin.0 in
    let fits = subst (λ item. may_print (place_in old) old.stage item ≡ true) c.in-Pin.is c.requires.fits in
    let known = pin_prints (place_in old) old.stage c.in-Pin.at c.in-Pin.edge fits in
    let moved = printed_moved c.self.inside.levels c.set.new.self pin c.in-Pin.edge.level known c.set.ensures in
    let now : Place = place_in (record { base = c.self.inside.base; past = c.in-Pin.at + 1; levels = c.set.new.self; stage = c.self.inside.stage }) in
    (λ i. record now { levels = moved i }) ∙ (λ i. after_record (place_in (c.self.view_is i)) (sym c.in-Pin.is i))
