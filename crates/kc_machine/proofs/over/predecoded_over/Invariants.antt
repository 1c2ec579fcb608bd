use Rattle.kc_machine.proofs.over.predecoded_over.Given as goal

abbrev pub ghosts-predecoded_from : goal.ghosts-predecoded_from
ghosts-predecoded_from g a = record { steps = a.steps.now; moves = a.common.now.block.moves }
