use Rattle.kc_bench.proofs.loops.run.Given as goal

abbrev pub ghosts-run_loop : goal.ghosts-run_loop
ghosts-run_loop a = record { name = a.blank.name; parts = a.blank.parts }
