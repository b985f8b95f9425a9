use Rattle.std.proofs.Common.{◌≡◌, ◌-◌}
use Rattle.node_course.specs.FaultLines.{strays_from}
use Rattle.node_threads.proofs.Stirring.{Stirring}
use Rattle.node_threads.proofs.stirrer.stir.Given as goal

abbrev pub invariant-loop-i : goal.invariant-loop-i
invariant-loop-i g l = record {
  who : g.A.Access.who l.access ≡ 0;
  stirring : Stirring (strays_from l.cells 0 l.turns) (strays_from l.cells l.i (l.turns - l.i)) (g.A.Access.seen l.initial.access) (g.A.Access.seen l.access);
}
