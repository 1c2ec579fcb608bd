use Rattle.std.proofs.Common.{◌≡◌, ◌-◌, length}
use Rattle.std.specs.Fn.{iterate}
use Rattle.kc_branch.specs.Forms as spec
use Rattle.kc_branch.specs.Layouts as layouts
use Rattle.kc_branch.proofs.relaxation.sizes.Given as goal

abbrev pub invariant-loop-pass : goal.invariant-loop-pass
invariant-loop-pass l = record {
  listed : layouts.pieces_of (layouts.items l.layout) ≡ l.pieces;
  count : length (layouts.items l.layout) ≡ length l.pieces;
  laid : layouts.IsLaid l.layout;
  spanned : layouts.IsSpanned (length l.pieces) l.layout 0;
  rests : layouts.AreAtRest (length l.pieces) (layouts.changed l.layout) (layouts.stands (layouts.items l.layout) 0) l.layout 0;
  left : iterate (spec.pass l.pieces) (l._pass-end - l._pass) (layouts.forms_of (layouts.items l.layout)) ≡ spec.forms l.pieces;
}
