use Rattle.kc_kit_answer.proofs.job.run_of_board.Given as goal

abbrev pub ghosts-run_board : goal.ghosts-run_board
ghosts-run_board g a = record { name = a.blank.name; parts = a.blank.parts }
