use Rattle.std.specs.Prelude.{◌+◌, slice_set}
use Rattle.node_workers.proofs.turns.log_at.Given as goal

abbrev pub ghosts-in_turn : goal.ghosts-in_turn
ghosts-in_turn g a = record { counts = slice_set g.E.Sent.counts a.on.now.session (a.on.now.sent + 1) }
