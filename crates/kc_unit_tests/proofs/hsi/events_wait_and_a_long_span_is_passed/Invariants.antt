use Rattle.kc_unit_tests.proofs.hsi.events_wait_and_a_long_span_is_passed.Given as goal

abbrev pub ghosts-all : goal.ghosts-all
ghosts-all g a = record { name = a.blank.name; parts = a.blank.parts }
