use Rattle.kc_machine.proofs.over.enter_over.Given as goal

abbrev pub ghosts-enter_from : goal.ghosts-enter_from
ghosts-enter_from g a = record { steps = a.steps.now; moves = a.common.now.block.moves }
