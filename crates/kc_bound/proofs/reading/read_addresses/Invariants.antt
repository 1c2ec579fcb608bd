use Rattle.std.proofs.Common.{◌≡◌, length}
use Rattle.kc_addresses.specs.Words.{words_in}
use Rattle.kc_bound.specs.Reading.{address_of, addresses_of}
use Rattle.kc_bound.proofs.ReadingLemmas.{behind}
use Rattle.kc_bound.proofs.reading.read_addresses.Given as goal

abbrev pub invariant-loop-word : goal.invariant-loop-word
invariant-loop-word l =
    behind l.addresses.items (addresses_of (address_of l.names l.lines) (words_in l.rest)) ≡ addresses_of (address_of l.names l.lines) (words_in l.text)

abbrev pub decreases-loop-word : goal.decreases-loop-word
decreases-loop-word l = length l.rest
