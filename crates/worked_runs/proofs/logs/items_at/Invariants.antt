use Rattle.std.specs.Prelude.{All}
use Rattle.engine_api.specs.Packing.{IsProposable}
use Rattle.worked_runs.proofs.logs.items_at.Given as goal

abbrev pub invariant-loop-item : goal.invariant-loop-item
invariant-loop-item l = All IsProposable l.here.items
