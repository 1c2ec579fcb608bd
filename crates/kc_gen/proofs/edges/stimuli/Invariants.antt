use Rattle.std.proofs.Common.{◌≡◌, ◌+◌, ◌*◌, ◌≤◌, length}
use Rattle.kc_gen.specs.Randoms.{random}
use Rattle.kc_gen.specs.Stimuli.{time, edge_lines}
use Rattle.kc_gen.proofs.edges.stimuli.Given as goal

abbrev pub invariant-loop-count : goal.invariant-loop-count
invariant-loop-count l =
    (l.value ≡ random l.number l.count) × (l.at ≡ time l.number l.count) × (l.at ≤ 100 + 263 * l.count)
    × (l.text.items ≡ edge_lines l.number l.count) × (length l.text.items ≤ 15 * l.count)
