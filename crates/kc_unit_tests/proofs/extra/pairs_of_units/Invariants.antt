use Rattle.kc_unit_tests.proofs.extra.pairs_of_units.Given as goal

abbrev pub ghosts-all : goal.ghosts-all
ghosts-all g a = record { name = a.blank.name; parts = a.blank.parts }
