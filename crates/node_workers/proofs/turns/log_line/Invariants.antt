use Rattle.node_lines.specs.Workers.{sent_by}
use Rattle.node_workers.proofs.turns.log_line.Given as goal

abbrev pub ghosts-log_by : goal.ghosts-log_by
ghosts-log_by g a = record { counts = sent_by a.worker.desks.items }
