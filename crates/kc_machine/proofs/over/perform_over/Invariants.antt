use Rattle.kc_machine.proofs.over.perform_over.Given as goal

abbrev pub ghosts-perform_from : goal.ghosts-perform_from
ghosts-perform_from g a = record { steps = a.steps.now; moves = a.common.now.block.moves }
