use Rattle.std.proofs.Common.{◌≤◌, ◌-◌, length, take}
use Rattle.outside_ends.specs.Sinks.{Gains}
use Rattle.outside_ends.proofs.whole.put_whole.Given as goal

abbrev pub invariant-loop-at : goal.invariant-loop-at
invariant-loop-at g l = record {
  within : l.at ≤ length l.text;
  put : Gains (g.K.Sink.held l.fn.sink) (g.K.Sink.held l.sink) (take l.at l.text);
  later : g.K.Sink.counted l.fn.sink ≤ g.K.Sink.counted l.sink;
}

abbrev pub decreases-loop-at : goal.decreases-loop-at
decreases-loop-at g l = length l.text - l.at
