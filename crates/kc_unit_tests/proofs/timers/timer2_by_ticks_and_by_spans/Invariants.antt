use Rattle.kc_unit_tests.proofs.timers.timer2_by_ticks_and_by_spans.Given as goal

abbrev pub ghosts-all : goal.ghosts-all
ghosts-all g a = record { name = a.blank.name; parts = a.blank.parts }
