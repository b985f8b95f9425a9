use Rattle.node_lines.specs.Workers.{sent_by}
use Rattle.node_workers.proofs.line.own_line.Given as goal

abbrev pub ghosts-line_by : goal.ghosts-line_by
ghosts-line_by g a = record { counts = sent_by a.worker.desks.items }
