use Rattle.kc_unit_tests.proofs.serial.bytes_are_sent_and_received.Given as goal

abbrev pub ghosts-all : goal.ghosts-all
ghosts-all g a = record { name = a.blank.name; parts = a.blank.parts }
