use Rattle.kc_machine_tests.proofs.lives.memory_is_wanting_between_two_lives.Given as goal

abbrev pub ghosts-run : goal.ghosts-run
ghosts-run g a = record { name = a.blank.name; parts = a.blank.parts }
