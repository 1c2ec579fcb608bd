use Rattle.kc_kit_answer.proofs.job.perform.Given as goal

abbrev pub ghosts-count_board : goal.ghosts-count_board
ghosts-count_board g a = record { name = a.blank.name; parts = a.blank.parts }
