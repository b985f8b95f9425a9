use Rattle.std.proofs.Common.{◌≡◌, [], length, All}
use Rattle.fabric_core.proofs.fabric.no_marks.Given as goal

abbrev pub invariant-cell : goal.invariant-cell
invariant-cell l = record { count : length l.marks.items ≡ l.counter; none : All (λ marks. marks.items ≡ []) l.marks.items }
