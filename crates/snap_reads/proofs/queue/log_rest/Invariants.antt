use Rattle.std.proofs.Common.{◌≡◌, ◌+◌, ◌-◌, ◌++◌, length, map, drop}
use Rattle.std.specs.Arc.{arc_value}
use Rattle.snap_reads.specs.Steps.{meant}
use Rattle.snap_reads.specs.Queue.{steps_left}
use Rattle.snap_reads.proofs.queue.log_rest.Given as goal

abbrev pub invariant-loop-rest : goal.invariant-loop-rest
invariant-loop-rest l = record {
  desk : l.writer.desk ≡ l.fn.writer.desk;
  steps : l.steps ≡ length (arc_value l.rest.of).changes.list + 2;
  queue : map meant (drop l.writer.behind l.writer.log.items) ++ steps_left l.rest ≡ map meant (drop l.fn.writer.behind l.fn.writer.log.items) ++ steps_left l.fn.rest;
}

abbrev pub decreases-loop-rest : goal.decreases-loop-rest
decreases-loop-rest l = l.steps - l.rest.next
