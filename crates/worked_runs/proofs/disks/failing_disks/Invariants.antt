use Rattle.std.proofs.Common.{◌≡◌, length}
use Rattle.std.specs.List.{AllByRecursion}
use Rattle.disk_model.specs.Failing.{shown}
use Rattle.memory_runs.specs.Disks.{IsFreshDisk}
use Rattle.worked_runs.proofs.disks.failing_disks.Given as goal

abbrev pub invariant-disk : goal.invariant-disk
invariant-disk l = record {
  count : length l.disks.items ≡ l.at;
  fresh : AllByRecursion (λ d. IsFreshDisk (shown d)) l.disks.items;
}
