use Rattle.std.proofs.Common.{◌≡◌}
use Rattle.log_laws.specs.Rises.{acted_in}
use Rattle.engine_stack.proofs.stack.acted.Given as goal

abbrev pub invariant-loop-t : goal.invariant-loop-t
invariant-loop-t l = l.acted.items ≡ acted_in l.yielded
