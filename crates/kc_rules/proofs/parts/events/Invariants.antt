use Rattle.std.proofs.Common.{◌≡◌, ◌-◌, ◌++◌}
use Rattle.std.specs.Option.{option_map}
use Rattle.kc_rules.specs.Events.{events_up_to}
use Rattle.kc_rules.specs.Lines.{names_of}
use Rattle.kc_rules.proofs.parts.events.Given as goal

abbrev pub invariant-loop-done : goal.invariant-loop-done
invariant-loop-done l =
    events_up_to l.most (names_of l.marks) l.initial.words ≡ option_map (λ p. (l.events ++ p.0, p.1)) (events_up_to (l.most - l._done) (names_of l.marks) l.words)
