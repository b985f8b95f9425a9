use Rattle.node_lines.specs.Workers.{sent_by}
use Rattle.node_workers.proofs.leaving.leave_line.Given as goal

abbrev pub ghosts-leave_at : goal.ghosts-leave_at
ghosts-leave_at g a = record { counts = sent_by a.desks.now.items }
