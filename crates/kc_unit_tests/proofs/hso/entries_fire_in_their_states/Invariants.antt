use Rattle.kc_unit_tests.proofs.hso.entries_fire_in_their_states.Given as goal

abbrev pub ghosts-all : goal.ghosts-all
ghosts-all g a = record { name = a.blank.name; parts = a.blank.parts }
