use Rattle.std.proofs.Common.{◌≡◌, [], take, drop}
use Rattle.fitting_run.specs.Tests.{each_amid}
use Rattle.fitting_run.specs.Trims.{is_as_allowed}
use Rattle.fitting_run.proofs.trimming.trims_are_as_allowed.Given as goal

abbrev pub invariant-loop-i : goal.invariant-loop-i
invariant-loop-i l = each_amid (is_as_allowed l.nodes) (take l.i l.told) (drop l.i l.told) ≡ each_amid (is_as_allowed l.nodes) [] l.told
