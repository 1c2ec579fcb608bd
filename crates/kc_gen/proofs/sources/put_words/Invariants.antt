use Rattle.std.proofs.Common.{◌≡◌, ◌+◌, ◌*◌, ◌≤◌, ◌++◌, length}
use Rattle.kc_gen.specs.Randoms.{random}
use Rattle.kc_gen.specs.Sources.{word_lines}
use Rattle.kc_gen.proofs.sources.put_words.Given as goal

abbrev pub invariant-loop-count : goal.invariant-loop-count
invariant-loop-count l =
    (l.value ≡ random l.number l.count) × (l.text.items ≡ l.initial.text.items ++ word_lines l.number l.count) × (length l.text.items ≤ length l.initial.text.items + 11 * l.count)
