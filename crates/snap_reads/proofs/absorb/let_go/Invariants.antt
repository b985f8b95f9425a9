use Rattle.std.proofs.Common.{◌≡◌, drop}
use Rattle.snap_reads.proofs.absorb.let_go.Given as goal

abbrev pub invariant-loop-gone : goal.invariant-loop-gone
invariant-loop-gone l = l.carried.items ≡ drop l._gone l.initial.carried.items
