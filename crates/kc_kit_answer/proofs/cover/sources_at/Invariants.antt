use Rattle.std.proofs.Common.{drop}
use Rattle.kc_kit_messages.proofs.Words.{names_in, texts_in}
use Rattle.kc_kit_answer.proofs.CoverSources.{Ahead}
use Rattle.kc_kit_answer.proofs.cover.sources_at.Given as goal

abbrev pub invariant-loop-i : goal.invariant-loop-i
invariant-loop-i l =
    Ahead (names_in l.names) (texts_in l.texts) l.image l.modules l.placement.bases.items l.sources.items (drop l.i (names_in l.names)) (drop l.i (texts_in l.texts)) (drop l.i l.modules) (drop l.i l.placement.bases.items)
