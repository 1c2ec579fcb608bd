use Rattle.std.proofs.Common.{◌≡◌, ◌<◌, ◌≤◌, ◌+◌, ◌-◌, Err, length, take, drop, rules, subst, arith}
use Rattle.kc_byte_source.specs.declared.lines.LineFault.TheVariants as fault
use Rattle.kc_byte_source.specs.Feed.{Feed, GaveLine, IsLongLine}
use Rattle.kc_byte_source.specs.Window.{unread, left, IsLongFirst}
use Rattle.kc_byte_source.proofs.WindowLemmas.{first_within, long_text, long_line, is_line, part_len, first_of_part, behind, gave}
use Rattle.kc_byte_source.proofs.lines.Lines.advance.Goals as goal

pub returns-in_err-n-clause-too_long : goal.returns-in_err-n-clause-too_long
returns-in_err-n-clause-too_long g c = λ h.
    let w = c.fill.new.self in
    let is : c.fill.result ≡ Err fault.TooLong = search rules in
    let long : IsLongFirst c.self.inside.most (unread w) = c.fill.ensures.too_long is in
    subst (λ (f : Feed). IsLongLine f.most f.left) c.self.view_is
    (long_text (unread w) c.self.inside.most (left g.S.Source.to_come c.self.inside.window) (g.S.Source.to_come w.source) long c.fill.ensures.left)

pub returns-then-len-self-clause-too_long : goal.returns-then-len-self-clause-too_long
returns-then-len-self-clause-too_long g c = λ h.
    let w = c.fill.new.self in
    let u = unread w in
    let n = c.in_ok-n.n in
    let len = c.line_in-len.result.0 in
    let used = c.line_in-len.result.1 in
    let reported = g.S.Source.to_come w.source in
    let text : c.unread.result.now ≡ u = c.unread.ensures in
    let within : used ≤ length u = rw text at c.line_in-len.ensures.within in
    let some : 0 < length u = omega arith in
    let short : n ≤ length u = first_within u n c.in_ok-n.ensures.len in
    let is = is_line u n len used w.is_over reported (rw text at c.line_in-len.ensures.ended) ((rw text at c.line_in-len.ensures.last) some) short c.in_ok-n.ensures.ended c.fill.ensures.whole.over in
    let line : len ≤ length u = omega (arith, c.line_in-len.ensures.line, short) in
    let long : c.self.inside.most < len = omega arith in
    subst (λ (f : Feed). IsLongLine f.most f.left) c.self.view_is
    (long_line u c.self.inside.most len used (left g.S.Source.to_come c.self.inside.window) reported is line long c.fill.ensures.left)

pub returns-clause-line : goal.returns-clause-line
returns-clause-line g c = λ h.
    let w = c.fill.new.self in
    let u = unread w in
    let n = c.in_ok-n.n in
    let len = c.line_in-len.result.0 in
    let used = c.line_in-len.result.1 in
    let reported = g.S.Source.to_come w.source in
    let text : c.unread.result.now ≡ u = c.unread.ensures in
    let within : used ≤ length u = rw text at c.line_in-len.ensures.within in
    let some : 0 < length u = omega arith in
    let short : n ≤ length u = first_within u n c.in_ok-n.ensures.len in
    let is = is_line u n len used w.is_over reported (rw text at c.line_in-len.ensures.ended) ((rw text at c.line_in-len.ensures.last) some) short c.in_ok-n.ensures.ended c.fill.ensures.whole.over in
    let part : length u ≡ w.to - w.from = part_len w.room.items w.from w.to w.room.len w.room.ok.0 c.fill.ensures.whole.order c.fill.ensures.whole.within in
    let order = c.fill.ensures.whole.order in
    let line = first_of_part w.room.items w.from w.to len (omega (arith, c.line_in-len.ensures.line, short, part)) in
    let rest = behind w.room.items w.from w.to used (omega (arith, within, part, order)) in
    subst (λ (f : Feed). GaveLine f.left (take len (drop w.from w.room.items)) (left g.S.Source.to_come (record w { from = w.from + used }))) c.self.view_is
    (gave u (take len (drop w.from w.room.items)) (unread (record w { from = w.from + used })) len used (left g.S.Source.to_come c.self.inside.window) reported is line rest c.fill.ensures.left)
