use Rattle.std.proofs.Common.{◌≡◌, length, map}
use Rattle.script_runner.specs.Fresh.{AreFresh}
use Rattle.shelf_loglets.specs.Shelf.{view_of}
use Rattle.worked_runs.proofs.own.counted_shelf.Given as goal

abbrev pub invariant-kind : goal.invariant-kind
invariant-kind l = record {
  fresh : AreFresh (map (λ c. view_of c.inner) l.shelf.items);
  count : length l.shelf.items ≡ l.kind-index;
}
