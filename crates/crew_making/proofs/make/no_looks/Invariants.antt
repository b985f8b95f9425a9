use Rattle.std.proofs.Common.{◌≡◌, length, None}
use Rattle.std.specs.List.{AllByRecursion}
use Rattle.std.specs.Vec.{vec_capacity}
use Rattle.crew_making.proofs.make.no_looks.Given as goal

abbrev pub invariant-line : goal.invariant-line
invariant-line l = record {
  size : length l.looks.items ≡ l.counter;
  room : vec_capacity l.looks ≡ l.lines;
  none : AllByRecursion (λ look. look ≡ None) l.looks.items;
}
