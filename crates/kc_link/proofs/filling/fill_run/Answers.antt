use Rattle.std.proofs.Common.{◌+◌, ◌-◌, length, ap, ◌∙◌, sym, arith}
use Rattle.kc_link_place.specs.BaseLists.{bases_in}
use Rattle.kc_link.proofs.WriteLemmas.{bytes_step, bytes_end}
use Rattle.kc_link.proofs.filling.fill_run.Goals as goal

pub loop-k-preserved : goal.loop-k-preserved
loop-k-preserved c =
    let s = bytes_step c.loop-k.image (bases_in c.args.bases.now) c.args.object.now c.args.run.now.piece c.args.run.now.offset c.loop-k.k (length c.args.run.now.bytes)
    (((c.piece.result + c.args.run.now.offset) + c.loop-k.k) - 8192) c.filled_byte-value.result (omega (arith, ap length c.as_slice-bytes.ensures)) c.filled_byte-value.ensures (omega (arith, c.piece.ensures)) in
    rw c.set.ensures (sym s ∙ c.loop-k.invariant)

pub returns : goal.returns
returns c =
    sym (bytes_end c.loop-k.image (bases_in c.args.bases.now) c.args.object.now c.args.run.now.piece (c.args.run.now.offset + c.loop-k.k) (length c.args.run.now.bytes - c.loop-k.k) (omega (arith, ap length c.as_slice-bytes.ensures)))
    ∙ c.loop-k.invariant
