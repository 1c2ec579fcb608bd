use Rattle.kc_kit_answer.proofs.job.profile_of_board.Given as goal

abbrev pub ghosts-profile_board : goal.ghosts-profile_board
ghosts-profile_board g a = record { name = a.blank.name; parts = a.blank.parts }
