use Rattle.std.proofs.Common.{◌≡◌, ◌+◌, ◌-◌, cond, length, vec_len}
use Rattle.std.specs.Io.KnownBytes.{Keeps}
use Rattle.kc_byte_source.specs.Window.{unread, left, IsWhole, first_len}
use Rattle.kc_byte_source.proofs.window.Window.fill.Given as goal

abbrev pub invariant-loop-self : goal.invariant-loop-self
invariant-loop-self g l =
    IsWhole g.S.Source.to_come l.self
    × Keeps (left g.S.Source.to_come l.initial.self) (left g.S.Source.to_come l.self)
    × (vec_len l.self.room ≡ vec_len l.initial.self.room)
    × (l.len ≡ first_len (unread l.self))
    × (g.S.Source.faults l.self.source ≡ g.S.Source.faults l.initial.self.source)

abbrev pub decreases-loop-self : goal.decreases-loop-self
decreases-loop-self g l = cond l.self.is_over 0 (1 + (vec_len l.self.room - length (unread l.self)))
