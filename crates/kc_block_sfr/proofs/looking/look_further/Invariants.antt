use Rattle.kc_block_sfr.proofs.looking.look_further.Given as goal

abbrev pub ghosts-catch_up_further : goal.ghosts-catch_up_further
ghosts-catch_up_further g a = record { name = a.blank.name; parts = a.blank.parts }
