use Rattle.std.proofs.Common.{◌≤◌, ◌<◌, ◌+◌, ◌^◌}
use Rattle.made_script.proofs.Steps.{IsBelow}
use Rattle.made_script.proofs.make.make_script.Given as goal

abbrev pub invariant-loop-i : goal.invariant-loop-i
invariant-loop-i l = record {
  first : 1 ≤ l.i;
  last : l.i ≤ l.count + 1;
  small : l.number < 2 ^ 31;
  below : IsBelow l.seed l.nodes l.i l.number l.out.items;
}
