use Rattle.kc_unit_tests.proofs.blocks.a_block_lends_its_beacon.Given as goal

abbrev pub ghosts-lends : goal.ghosts-lends
ghosts-lends g a = record { name = a.blank.name; parts = a.blank.parts }
