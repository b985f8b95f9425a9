use Rattle.std.proofs.Common.{◌≡◌, map}
use Rattle.std.specs.FinMap as finmap
use Rattle.run_totals.specs.Replay.{table_by}
use Rattle.run_totals.proofs.counting.table_by.Given as goal

abbrev pub invariant-loop-command : goal.invariant-loop-command
invariant-loop-command l = table_by l.table l.command-iterator ≡ table_by finmap.empty (map (λ e. e.1) l.fn.turns.entries)
