use Rattle.std.proofs.Common.{◌≡◌, ◌+◌, ◌≤◌, ◌++◌, List, length, map, drop, ap, subst, ◌∙◌, arith}
use Rattle.snap_reads.specs.Steps.{Step, meant}
use Rattle.snap_reads.specs.Queue.{entry_of, steps_left}
use Rattle.snap_reads.proofs.Steps.{one_logged, all_logged}
use Rattle.snap_reads.proofs.queue.log_rest.Goals as goal

pub loop-rest-preserved : goal.loop-rest-preserved
loop-rest-preserved c = record {
  desk = c.in-Ok-append.ensures.desk ∙ c.loop-rest.invariant.desk;
  steps = c.loop-rest.invariant.steps;
  queue = one_logged (entry_of c.loop-rest.rest) c.loop-rest.rest.next (drop c.loop-rest.writer.behind c.loop-rest.writer.log.items) (drop c.append.new.self.behind c.append.new.self.log.items) c.in-Ok.op
      (map meant (drop c.args.writer.now.behind c.args.writer.now.log.items) ++ steps_left c.args.rest) c.in-Ok-append.ensures.pending c.in-Ok.ensures c.loop-rest.invariant.queue;
}

pub returns-clause-queue : goal.returns-clause-queue
returns-clause-queue c =
    let steps = c.loop-rest.invariant.steps in
    let past : length c.loop-rest.rest.of.value.changes.list + 2 ≤ c.loop-rest.rest.next = omega (arith, steps) in
    all_logged (entry_of c.loop-rest.rest) c.loop-rest.rest.next (drop c.loop-rest.writer.behind c.loop-rest.writer.log.items)
    (map meant (drop c.args.writer.now.behind c.args.writer.now.log.items) ++ steps_left c.args.rest) past c.loop-rest.invariant.queue
