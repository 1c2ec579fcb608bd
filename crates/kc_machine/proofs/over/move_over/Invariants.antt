use Rattle.kc_machine.proofs.over.move_over.Given as goal

abbrev pub ghosts-move_from : goal.ghosts-move_from
ghosts-move_from g a = record { steps = a.steps.now; moves = a.common.now.block.moves }
