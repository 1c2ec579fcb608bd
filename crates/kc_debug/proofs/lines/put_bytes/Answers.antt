use Rattle.std.proofs.Common.{◌≡◌, ◌+◌, ◌%◌, ◌^◌, ◌++◌, append-nil, append_assoc, sym, ap, refl, ◌∙◌, arith}
use Rattle.kc_trace.specs.Text.{hex}
use Rattle.kc_machine_spec.specs.Peeking.{peeked}
use Rattle.kc_debug.specs.Lines.{shown_bytes}
use Rattle.kc_debug.proofs.Shown.{bytes-none, bytes-more}
use Rattle.kc_debug.proofs.lines.put_bytes.Goals as goal

pub loop-byte-init : goal.loop-byte-init
loop-byte-init g c = record {
  items = sym (ap (λ xs. c.args.line.now.items ++ xs) (bytes-none g.X.Extra.further c.args.machine.now.machine c.args.from) ∙ append-nil c.args.line.now.items);
  len = omega arith;
  same = refl;
  moves = omega arith;
}

pub loop-byte-preserved : goal.loop-byte-preserved
loop-byte-preserved g c =
    let m = c.args.machine.now.machine in
    let n = c.loop-byte.byte in
    let addr = (c.args.from + n) % 2 ^ 16 in
    let value : c.from.result ≡ peeked g.X.Extra.further m addr = c.from.ensures ∙ c.peek-value.ensures.value ∙ ap (λ x. peeked g.X.Extra.further x addr) c.loop-byte.invariant.same in
    record {
      items = c.put_hex.ensures.items ∙ (λ i. c.loop-byte.invariant.items i ++ hex 2 (value i))
          ∙ append_assoc c.args.line.now.items (shown_bytes g.X.Extra.further m c.args.from n) (hex 2 (peeked g.X.Extra.further m addr))
          ∙ ap (λ xs. c.args.line.now.items ++ xs) (sym (bytes-more g.X.Extra.further m c.args.from n));
      len = omega (arith, c.put_hex.ensures.len, c.loop-byte.invariant.len);
      same = c.peek-value.ensures.same ∙ c.loop-byte.invariant.same;
      moves = omega (arith, c.peek-value.ensures.moves, c.loop-byte.invariant.moves);
    }
