use Rattle.std.proofs.Common.{◌≡◌, ◌+◌, ◌++◌, drop}
use Rattle.engine_api.specs.Acted.{unpack_all}
use Rattle.engine_api.proofs.acted.unpack_all.Given as goal

abbrev pub invariant-loop-i : goal.invariant-loop-i
invariant-loop-i l = l.placed.items ++ unpack_all (l.pos + l.i) (drop l.i l.entries) ≡ unpack_all l.pos l.entries
