use Rattle.kc_machine.proofs.over.trap_over.Given as goal

abbrev pub ghosts-trap_from : goal.ghosts-trap_from
ghosts-trap_from g a = record { steps = a.steps.now; moves = a.common.now.block.moves }
