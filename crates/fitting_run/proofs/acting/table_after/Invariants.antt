use Rattle.std.proofs.Common.{◌≡◌, drop}
use Rattle.std.specs.FinMap as finmap
use Rattle.engine_api.specs.Acted.{table_after}
use Rattle.fitting_run.proofs.acting.table_after.Given as goal

abbrev pub invariant-loop-act : goal.invariant-loop-act
invariant-loop-act l = table_after l.table (drop l.act-index l.acts) ≡ table_after finmap.empty l.acts
