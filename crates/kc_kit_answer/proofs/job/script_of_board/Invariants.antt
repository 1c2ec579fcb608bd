use Rattle.kc_kit_answer.proofs.job.script_of_board.Given as goal

abbrev pub ghosts-debug_board : goal.ghosts-debug_board
ghosts-debug_board g a = record { name = a.blank.name; parts = a.blank.parts }
