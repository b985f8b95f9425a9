use Rattle.std.proofs.Common.{◌≡◌, drop}
use Rattle.log_server.proofs.held.drop_front.Given as goal

abbrev pub invariant-loop-taken : goal.invariant-loop-taken
invariant-loop-taken l = l.entries.items ≡ drop l._taken l.initial.entries.items
