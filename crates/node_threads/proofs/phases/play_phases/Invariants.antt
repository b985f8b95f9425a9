use Rattle.node_threads.proofs.phases.play_phases.Given as goal

abbrev pub ghosts-play_in : goal.ghosts-play_in
ghosts-play_in g a = record { lock = a.lock.now }
