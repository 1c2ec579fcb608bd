use Rattle.kc_events.specs.Grammar.{start_place}
use Rattle.kc_events.proofs.PlaceLemmas.{printed_start}
use Rattle.kc_events.proofs.reader.Reader.new.Goals as goal

pub returns : goal.returns
returns c = λ i. record (start_place 0) { levels = printed_start c.start.result c.start.ensures i }
