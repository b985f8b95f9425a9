use Rattle.std.proofs.Common.{◌≡◌, length}
use Rattle.std.specs.List.{AllByRecursion}
use Rattle.memory_runs.specs.Disks.{IsFreshDisk, IsUntouched}
use Rattle.memory_runs.proofs.run.empty_disks.Given as goal

abbrev pub invariant-disk : goal.invariant-disk
invariant-disk l = record {
  count : length l.disks.items ≡ l.counter;
  fresh : AllByRecursion (λ d. IsFreshDisk d) l.disks.items;
  untouched : AllByRecursion (λ d. IsUntouched d) l.disks.items;
}
