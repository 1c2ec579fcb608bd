use Rattle.kc_machine.proofs.over.serve_over.Given as goal

abbrev pub ghosts-serve_from : goal.ghosts-serve_from
ghosts-serve_from g a = record { steps = a.steps.now; moves = a.common.now.block.moves }
