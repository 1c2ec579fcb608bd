use Rattle.std.proofs.Common.{◌≡◌, ◌∙◌, ap, ◌++◌, true, not, arith}
use Rattle.std.specs.Result.{is_ok}
use Rattle.kc_obj_module.specs.declared.parts.SegKind.TheVariants.{Reg}
use Rattle.kc_link_place.specs.declared.pieces.Piece.{Piece}
use Rattle.kc_link_place.proofs.StepLemmas.{put_step, put_stop, put_end}
use Rattle.kc_link_place.proofs.putting.put_all.Goals as goal

abbrev nothing : Piece
nothing = record { index = 0; number = 0; kind = Reg; size = 0 }

pub loop-left-preserved : goal.loop-left-preserved
loop-left-preserved c = λ fixed r.
    let inv = c.loop-left.invariant fixed r in
    let ok : is_ok c.push.result ≡ true = c.is_err.ensures.negation ∙ ap not c.if-is_err.false in
    let s = put_step c.args.ranges.now fixed c.loop-left.puts.items c.put.new.gaps.items c.loop-left.left.now nothing c.in-Ok.stand c.push.new.self.items c.in-len1-up.len_at_least (rw ok at c.push.ensures.items)
    (c.in-Ok.ensures (fixed ++ c.loop-left.puts.items) inv.1) in
    (s.0 ∙ inv.0, s.1)

pub returns : goal.returns
returns c = λ fixed r.
    let inv = c.loop-left.invariant fixed r in
    (put_end c.args.ranges.now fixed c.loop-left.puts.items c.loop-left.gaps.items c.loop-left.left.now c.args.pieces.now (omega arith) inv.0, inv.1)

pub returns-in-Err : goal.returns-in-Err
returns-in-Err c = λ fixed r.
    let inv = c.loop-left.invariant fixed r in
    put_stop c.args.ranges.now fixed c.loop-left.puts.items c.put.new.gaps.items c.loop-left.left.now nothing c.in-Err.cause c.args.pieces.now c.in-len1-up.len_at_least
    (c.in-Err.ensures (fixed ++ c.loop-left.puts.items) inv.1) inv.0
