use Rattle.std.proofs.Common.{◌≡◌, ◌+◌, Some, None, drop, ap, sym, ◌∙◌, arith, drop_of_length-le}
use Rattle.kc_macro_body.specs.Arguments.{names_at}
use Rattle.kc_macro_body.proofs.ArgumentLemmas.{prefix_of}
use Rattle.kc_macro_body.proofs.BodyLemmas.{names_wrong, names_declared, names_pass, names_last}
use Rattle.kc_macro_body.proofs.bodies.local_names.Goals.{then-declares+in_ok-names+in-Some+in_ok-append-in-Some, else-declares}
use Rattle.kc_macro_body.proofs.bodies.local_names.Goals as goal

pub returns-in-None : goal.returns-in-None
returns-in-None c =
    let lines = c.args.lines.now in
    let none : None ≡ names_at (drop 1 c.line-item.result) = sym c.in-None.is ∙ c.in_ok-names.ensures ∙ ap names_at (c.behind_first.ensures ∙ ap (drop 1) c.as_slice.ensures) in
    names_wrong c.loop-line.depth c.line-item.result (drop (c.loop-line.line-index + 1) lines) (drop c.loop-line.line-index lines) c.loop-line.found _
    (prefix_of lines c.loop-line.line-index c.line-item.result (omega arith) c.line-item.is) (sym c.if-declares.ensures) none c.loop-line.invariant.kept

pub loop-line-preserved : goal.loop-line-preserved
loop-line-preserved c =
    let lines = c.args.lines.now in
    let rest = prefix_of lines c.loop-line.line-index c.line-item.result (omega arith) c.line-item.is in
    let later = drop (c.loop-line.line-index + 1) lines in
    elim c.if-declares.branch [
      | then-declares+in_ok-names+in-Some+in_ok-append-in-Some w ↦
          let some : Some w.in-Some.more ≡ names_at (drop 1 c.line-item.result) = sym w.in-Some.is ∙ w.in_ok-names.ensures ∙ ap names_at (w.behind_first.ensures ∙ ap (drop 1) w.as_slice.ensures) in
          record {
            shallow = omega (arith, w.depth-is, c.loop-line.invariant.shallow);
            kept = rw (w.found-is, w.depth-is, w.in_ok-append-in-Some.ensures, w.as_slice-in-Some.ensures) (names_declared c.loop-line.depth c.line-item.result later _ c.loop-line.found w.in-Some.more _ rest (sym w.if-declares.ensures) some c.loop-line.invariant.kept);
          }
      | else-declares w ↦ record {
        shallow = omega (arith, w.depth-is, w.depth_after-depth.ensures.small, c.loop-line.invariant.shallow);
        kept = rw (w.found-is, w.depth-is, w.depth_after-depth.ensures.value) (names_pass c.loop-line.depth c.line-item.result later _ c.loop-line.found _ rest (sym w.if-declares.ensures) c.loop-line.invariant.kept);
      }
    ]

pub returns : goal.returns
returns c = names_last c.loop-line.depth (drop c.loop-line.line-index c.args.lines.now) c.loop-line.found _ (drop_of_length-le c.args.lines.now {i = c.loop-line.line-index} (omega arith)) c.loop-line.invariant.kept
