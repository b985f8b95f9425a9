use Rattle.std.proofs.Common.{◌≡◌, ◌++◌, drop}
use Rattle.engine_api.specs.Acted.{appearances}
use Rattle.engine_api.proofs.acted.appearances.Given as goal

abbrev pub invariant-loop-p : goal.invariant-loop-p
invariant-loop-p l = l.out.items ++ appearances (drop l.p-index l.placed) ≡ appearances l.placed
