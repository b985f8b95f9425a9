use Rattle.std.proofs.Common.{◌≡◌, ◌++◌, drop}
use Rattle.base_engine.specs.Settling.{sessions_among}
use Rattle.base_engine.proofs.sessions.sessions_of.Given as goal

abbrev pub invariant-loop-item : goal.invariant-loop-item
invariant-loop-item l = l.sessions ++ sessions_among (drop l.item-index l.list) ≡ sessions_among l.list
