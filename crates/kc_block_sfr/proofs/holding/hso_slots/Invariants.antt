use Rattle.kc_block_sfr.proofs.holding.hso_slots.Given as goal

abbrev pub ghosts-catch_up_hso : goal.ghosts-catch_up_hso
ghosts-catch_up_hso g a = record { name = a.blank.name; parts = a.blank.parts }
