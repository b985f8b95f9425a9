use Rattle.node_lines.specs.Workers.{sent_by}
use Rattle.node_workers.proofs.turns.look_line.Given as goal

abbrev pub ghosts-look_by : goal.ghosts-look_by
ghosts-look_by g a = record { counts = sent_by a.worker.desks.items }
