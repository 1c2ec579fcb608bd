use Rattle.std.proofs.Common.{◌≡◌, ◌<◌, ◌++◌, false, length, get_or}
use Rattle.kc_rules.specs.Words.{is_blank, words_in}
use Rattle.kc_rules.proofs.words.split.Given as goal

abbrev pub invariant-loop-rest : goal.invariant-loop-rest
invariant-loop-rest l =
    (words_in l.fn.text ≡ l.words.items ++ words_in l.rest) × (0 < length l.rest → is_blank (get_or l.rest 0 0) ≡ false)

abbrev pub decreases-loop-rest : goal.decreases-loop-rest
decreases-loop-rest l = length l.rest
