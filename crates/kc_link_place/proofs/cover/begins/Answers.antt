use Rattle.std.proofs.Common.{◌≡◌, ◌+◌, length, get_or, take, arith, ap, ◌∙◌}
use Rattle.std.proofs.lemmas.List.{length-set, length-take-le, take_all}
use Rattle.kc_obj_module.specs.declared.parts.SegKind.TheVariants.{Reg}
use Rattle.kc_link_place.specs.declared.pieces.Stand.{Stand}
use Rattle.kc_link_place.specs.Gaps.{begins_at}
use Rattle.kc_link_place.proofs.Covers.{begins_le, begins_more, marked, mark_fits}
use Rattle.kc_link_place.proofs.cover.begins.Goals as goal

abbrev nowhere : Stand
nowhere = record { piece = record { index = 0; number = 0; kind = Reg; size = 0 }; at = 0 }

pub raise-requires : goal.raise-requires
raise-requires c =
    let seen = take c.loop-stand.stand-index c.args.stands.now in
    let n : length (take c.loop-stand.stand-index c.args.stands.now) ≡ c.loop-stand.stand-index = length-take-le c.loop-stand.stand-index c.args.stands.now (omega arith) in
    let b = mark_fits c.loop-stand.table.items (get_or c.args.stands.now c.loop-stand.stand-index nowhere).at (length (take c.loop-stand.stand-index c.args.stands.now)) (begins_at (take c.loop-stand.stand-index c.args.stands.now)) c.loop-stand.invariant.size c.loop-stand.invariant.counts (begins_le (take c.loop-stand.stand-index c.args.stands.now)) in
    omega (arith, b, n)

pub loop-stand-preserved : goal.loop-stand-preserved
loop-stand-preserved c = rw c.raise.ensures record {
  size = length-set c.loop-stand.table.items (get_or c.args.stands.now c.loop-stand.stand-index nowhere).at _ ∙ c.loop-stand.invariant.size;
  counts = marked c.loop-stand.table.items (get_or c.args.stands.now c.loop-stand.stand-index nowhere).at (begins_at (take c.loop-stand.stand-index c.args.stands.now)) (begins_at (take (c.loop-stand.stand-index + 1) c.args.stands.now))
      c.loop-stand.invariant.size c.loop-stand.invariant.counts (λ a. begins_more c.args.stands.now c.loop-stand.stand-index nowhere a c.loop-stand-test.true);
}

pub returns-clause-counts : goal.returns-clause-counts
returns-clause-counts c =
    let all : take c.loop-stand.stand-index c.args.stands.now ≡ c.args.stands.now = take_all c.loop-stand.stand-index c.args.stands.now (omega arith) in
    (c.loop-stand.invariant.size, λ a l. c.loop-stand.invariant.counts a l ∙ ap (λ ss. begins_at ss a) all)
