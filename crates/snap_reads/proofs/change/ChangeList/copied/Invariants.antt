use Rattle.std.proofs.Common.{◌≡◌, take}
use Rattle.snap_reads.proofs.change.ChangeList.copied.Given as goal

abbrev pub invariant-loop-change : goal.invariant-loop-change
invariant-loop-change l = l.items.items ≡ take l.change-index l.change-items
