use Rattle.std.proofs.Common.{◌+◌, drop, sym, arith, drop_of_length-le}
use Rattle.kc_macro_body.proofs.ArgumentLemmas.{prefix_of}
use Rattle.kc_macro_body.proofs.BodyLemmas.{plain_passes, plain_keeps, plain_end}
use Rattle.kc_macro_body.proofs.bodies.plain_lines.Goals as goal

pub loop-line-preserved-then-declares : goal.loop-line-preserved-then-declares
loop-line-preserved-then-declares c =
    let lines = c.args.lines.now in
    record {
      shallow = omega (arith, c.loop-line.invariant.shallow);
      kept = plain_passes c.loop-line.depth c.line-item.result (drop (c.loop-line.line-index + 1) lines) (drop c.loop-line.line-index lines) c.loop-line.plain _
          (prefix_of lines c.loop-line.line-index c.line-item.result (omega arith) c.line-item.is) (sym c.if-declares.ensures) c.loop-line.invariant.kept;
    }

pub loop-line-preserved : goal.loop-line-preserved
loop-line-preserved c =
    let lines = c.args.lines.now in
    record {
      shallow = omega (arith, c.loop-line.invariant.shallow, c.depth_after-depth.ensures.small);
      kept = rw (c.in_ok-push.ensures, c.in_ok-copy_tokens.ensures, c.as_slice.ensures, c.depth_after-depth.ensures.value) (plain_keeps c.loop-line.depth c.line-item.result (drop (c.loop-line.line-index + 1) lines) (drop c.loop-line.line-index lines) c.loop-line.plain _
          (prefix_of lines c.loop-line.line-index c.line-item.result (omega arith) c.line-item.is) (sym c.if-declares.ensures) c.loop-line.invariant.kept);
    }

pub returns : goal.returns
returns c = plain_end c.loop-line.depth (drop c.loop-line.line-index c.args.lines.now) c.loop-line.plain _ (drop_of_length-le c.args.lines.now {i = c.loop-line.line-index} (omega arith)) c.loop-line.invariant.kept
