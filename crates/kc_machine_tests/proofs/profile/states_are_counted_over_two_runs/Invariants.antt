use Rattle.kc_machine_tests.proofs.profile.states_are_counted_over_two_runs.Given as goal

abbrev pub ghosts-counted : goal.ghosts-counted
ghosts-counted g a = record { name = a.blank.name; parts = a.blank.parts }
