use Rattle.std.proofs.Common.{◌≡◌, ◌++◌, ◌-◌, ◌≤◌, sym, ap, ◌∙◌, arith}
use Rattle.std.specs.Prelude.{max}
use Rattle.circular_buffer.specs.Buffer.{buffer, keep_last}
use Rattle.kc_debug.proofs.Idling.{idle_states, first-noted, idle-first, idle-noted, idles-noted}
use Rattle.kc_debug.proofs.activities.note_idle.Goals as goal

pub loop-at-init : goal.loop-at-init
loop-at-init g c =
    let none : c.max-first.result - c.max-first.result ≡ 0 = omega arith in
    idle-first c.args.begun.now c.max-first.result c.pc-pc.result c.requires.kept
    ∙ ap (λ n. buffer (keep_last c.args.begun.now.capacity (c.args.begun.now.items ++ idle_states c.max-first.result c.pc-pc.result n)) c.args.begun.now.capacity) (sym none)

pub loop-at-preserved : goal.loop-at-preserved
loop-at-preserved g c = idle-noted c.args.begun.now.capacity c.args.begun.now.items c.loop-at.begun c.push_back.new.self c.max-first.result c.pc-pc.result c.loop-at.at (omega arith) c.loop-at.invariant c.push_back.ensures.items

pub returns : goal.returns
returns g c =
    let m = c.args.machine.now.machine in
    let r = c.args.begun.now in
    let first = c.max-first.result in
    let is : first ≡ max m.time (c.args.end - r.capacity) = omega (arith, c.max-first.ensures, c.saturating_sub.ensures, c.now.ensures) in
    let low : m.time ≤ first = omega (arith, is) in
    let high : first ≤ c.args.end = omega (arith, is, c.requires.ahead) in
    let there : c.loop-at.at ≡ c.args.end = omega (arith, high, c.loop-at-test.false, c.loop-at.auto.at, c.loop-at.auto.at-end) in
    idles-noted g.X.Extra.further r c.loop-at.begun c.args.end first m c.requires.ahead c.requires.idles low high (first-noted r.capacity m.time c.args.end first is)
    (c.loop-at.invariant
    ∙ ap (λ pc. buffer (keep_last r.capacity (r.items ++ idle_states first pc (c.loop-at.at - first))) r.capacity) c.pc-pc.ensures
    ∙ ap (λ at. buffer (keep_last r.capacity (r.items ++ idle_states first m.cpu.pc (at - first))) r.capacity) there)
