use Rattle.kc_machine.proofs.over.setup_over.Given as goal

abbrev pub ghosts-setup_from : goal.ghosts-setup_from
ghosts-setup_from g a = record { steps = a.steps.now; moves = a.common.now.block.moves }
