use Rattle.std.proofs.Common.{◌≡◌, drop}
use Rattle.native_loglet.proofs.opening.let_go.Given as goal

abbrev pub invariant-loop-index : goal.invariant-loop-index
invariant-loop-index l = l.entries.items ≡ drop l._index l.initial.entries.items
