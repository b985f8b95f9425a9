use Rattle.std.proofs.Common.{◌≡◌, ◌++◌, map}
use Rattle.log_laws.specs.Rises.{at_place}
use Rattle.engine_stack.proofs.level.pass_on.Given as goal

-- what went out is what was taken
abbrev pub invariant-loop-item : goal.invariant-loop-item
invariant-loop-item l = l.outs.items ≡ l.fn.outs.items ++ map (at_place l.place) l.yielded
