use Rattle.std.proofs.Common.{◌≡◌, ◌≤◌, take}
use Rattle.fitting_run.specs.Replacements.{versions_at}
use Rattle.fitting_run.proofs.replacing.versions_at.Given as goal

abbrev pub invariant-loop-a : goal.invariant-loop-a
invariant-loop-a l = (l.count ≡ versions_at l.node (take l.a-index l.told)) × (l.count ≤ l.a-index)
