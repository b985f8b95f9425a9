use Rattle.std.proofs.Common.{◌≡◌, ◌≤◌, ◌-◌, length}
use Rattle.node_lines.specs.Answered.{AreAnswers, InFront}
use Rattle.node_lines.proofs.desk.collect.Given as goal

abbrev pub invariant-rank : goal.invariant-rank
invariant-rank g l =
    record {
      rest : l.desk ≡ record l.fn.desk { answers = l.desk.answers };
      more : length l.fn.desk.answers.items ≤ length l.desk.answers.items;
      acted : InFront l.fn.node.seen l.fn.node.replica.cursor (λ log. AreAnswers log l.fn.desk.session l.desk.answers.items);
    }

abbrev pub decreases-rank : goal.decreases-rank
decreases-rank g l = l.fn.desk.sent - length l.desk.answers.items
