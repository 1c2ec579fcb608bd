use Rattle.std.proofs.Common.{◌+◌, ◌*◌, ◌<◌, ◌≤◌}
use Rattle.kc_due.specs.Links.{IsIn, place}
use Rattle.kc_due.proofs.Orders.{next_in, no_time, is_left, passed, nearer}
use Rattle.kc_due.proofs.links.Links.before.Goals as goal

pub bounds-self-k : goal.bounds-self-k
bounds-self-k c = (next_in c.args.self.now c.loop-later.earlier _ c.in-Some.k c.loop-later.later c.requires.linked c.loop-later.invariant.before c.loop-later.invariant.next c.in-Some.is).0

pub loop-later-smaller : goal.loop-later-smaller
loop-later-smaller c =
    let has : IsIn c.args.self.now c.in-Some.k = next_in c.args.self.now c.loop-later.earlier _ c.in-Some.k c.loop-later.later c.requires.linked c.loop-later.invariant.before c.loop-later.invariant.next c.in-Some.is in
    let le : c.in-Some-at.time * 16 + c.in-Some.k ≤ c.args.at * 16 + c.args.slot = is_left c.is_sooner.result _ _ c.is_sooner.ensures.1 c.if-is_sooner.false in
    let lt : place c.args.self.now c.in-Some.k < c.args.at * 16 + c.args.slot = passed c.args.self.now c.args.slot c.args.at c.in-Some.k c.in-Some-at.time c.requires.slot c.requires.blank has c.in-Some-at.is le in
    nearer c.args.self.now (c.args.at * 16 + c.args.slot) c.in-Some.k c.loop-later.later c.requires.linked has lt c.in-Some.is

pub returns-in_default-at : goal.returns-in_default-at
returns-in_default-at c =
    let has : IsIn c.args.self.now c.in-Some.k = next_in c.args.self.now c.loop-later.earlier _ c.in-Some.k c.loop-later.later c.requires.linked c.loop-later.invariant.before c.loop-later.invariant.next c.in-Some.is in
    absurd (no_time c.args.self.now c.in-Some.k c.in_default-at.is has.1)
