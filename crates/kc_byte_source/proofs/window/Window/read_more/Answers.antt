use Rattle.std.proofs.Common.{◌≡◌, ◌+◌, ◌-◌, take, drop, length, rules, subst, sym, ap, ◌∙◌}
use Rattle.std.proofs.lemmas.List.{with_items_is}
use Rattle.std.specs.Io.KnownBytes.{prepend_known, Keeps}
use Rattle.kc_byte_source.specs.Window.{left}
use Rattle.kc_byte_source.proofs.WindowLemmas.{grown, more_unread}
use Rattle.kc_byte_source.proofs.window.Window.read_more.Goals as goal

pub returns-in-Ok-clause-left : goal.returns-in-Ok-clause-left
returns-in-Ok-clause-left g c =
    let s = c.args.self.now in
    let room = c.read_behind.new.room in
    let count = c.in-Ok.count in
    let long : length room ≡ s.room.len = search rules in
    let kept = with_items_is s.room room long in
    let more = more_unread s.room.items room s.from s.to count c.requires.first (c.in-Ok.ensures.prefix ∙ ap (take s.to) c.as_mut_slice.ensures.value) in
    let reported = g.S.Source.to_come c.read_behind.new.source in
    subst (λ items. Keeps (left g.S.Source.to_come s) (prepend_known (take (s.to + count - s.from) (drop s.from items)) reported)) (sym kept)
    (grown (take (s.to - s.from) (drop s.from s.room.items)) (take (s.to + count - s.from) (drop s.from room)) (take count (drop s.to room))
    (g.S.Source.to_come s.source) reported more c.in-Ok.ensures.given)
