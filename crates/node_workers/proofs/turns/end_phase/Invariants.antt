use Rattle.node_lines.specs.Workers.{sent_by}
use Rattle.node_workers.proofs.turns.end_phase.Given as goal

abbrev pub ghosts-in_turn : goal.ghosts-in_turn
ghosts-in_turn g a = record { counts = sent_by a.on.now.items }
