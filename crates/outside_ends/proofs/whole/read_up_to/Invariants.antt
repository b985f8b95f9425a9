use Rattle.std.proofs.Common.{◌≤◌, ◌-◌, vec_len}
use Rattle.outside_ends.specs.Sources.{Leaves}
use Rattle.outside_ends.proofs.whole.read_up_to.Given as goal

abbrev pub invariant-loop-buf : goal.invariant-loop-buf
invariant-loop-buf g l = record {
  within : vec_len l.bytes ≤ l.limit;
  came : Leaves (g.S.Source.left l.fn.source) (g.S.Source.left l.source) l.bytes.items;
  later : g.S.Source.counted l.fn.source ≤ g.S.Source.counted l.source;
}

abbrev pub decreases-loop-buf : goal.decreases-loop-buf
decreases-loop-buf g l = l.limit - vec_len l.bytes
