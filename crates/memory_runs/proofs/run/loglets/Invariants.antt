use Rattle.std.proofs.Common.{◌≡◌, length, map, take}
use Rattle.script_runner.specs.Fresh.{AreFresh}
use Rattle.shelf_loglets.specs.Shelf.{kind_for, servers_for, serving_in, view_of}
use Rattle.shelf_loglets.specs.Stripes.{new_servers}
use Rattle.memory_runs.proofs.run.loglets.Given as goal

abbrev pub invariant-kind : goal.invariant-kind
invariant-kind l = record {
  fresh : AreFresh (map view_of l.shelf.items);
  servers : map serving_in l.shelf.items ≡ map (λ k. new_servers (servers_for k)) (take l.kind-index l.kinds);
  count : length l.shelf.items ≡ l.kind-index;
  kinds : map (λ v. v.kind) (map view_of l.shelf.items) ≡ map kind_for (take l.kind-index l.kinds);
}
