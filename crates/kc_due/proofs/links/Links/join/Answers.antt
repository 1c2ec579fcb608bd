use Rattle.std.proofs.Common.{◌≡◌}
use Rattle.kc_due.proofs.Writes.{IsLedBack, led_to, led_nowhere, joined_from, joined_from_head}
use Rattle.kc_due.proofs.links.Links.join.Goals as goal
use Rattle.kc_due.proofs.links.Links.join.Goals.{in-Some, in_default}

pub returns-in-Some-earlier : goal.returns-in-Some-earlier
returns-in-Some-earlier c =
    let led : IsLedBack c.args.self.now c.args.earlier c.args.later c.match-later.self × (c.match-later.later ≡ c.args.later) = elim c.match-later.branch [
      | in-Some w ↦ led_to c.args.self.now c.match-later.self c.args.earlier c.args.later c.match-later.later w.in-Some.k c.requires.sixteen c.requires.later w.in-Some.is w.later-is w.self-is
      | in_default w ↦ led_nowhere c.args.self.now c.match-later.self c.args.earlier c.args.later c.match-later.later w.in_default.is w.later-is w.self-is
    ] in
    joined_from c.args.self.now c.match-later.self c.args.earlier c.args.later c.match-later.later c.in-Some-earlier.k c.requires.sixteen c.requires.earlier c.in-Some-earlier.is led

pub returns-in-None : goal.returns-in-None
returns-in-None c =
    let led : IsLedBack c.args.self.now c.args.earlier c.args.later c.match-later.self × (c.match-later.later ≡ c.args.later) = elim c.match-later.branch [
      | in-Some w ↦ led_to c.args.self.now c.match-later.self c.args.earlier c.args.later c.match-later.later w.in-Some.k c.requires.sixteen c.requires.later w.in-Some.is w.later-is w.self-is
      | in_default w ↦ led_nowhere c.args.self.now c.match-later.self c.args.earlier c.args.later c.match-later.later w.in_default.is w.later-is w.self-is
    ] in
    joined_from_head c.args.self.now c.match-later.self c.args.earlier c.args.later c.match-later.later c.in-None.is led
