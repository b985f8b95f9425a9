use Rattle.std.proofs.Common.{◌≡◌, ◌++◌}
use Rattle.table_core.specs.Find.{pairs_of}
use Rattle.table_core.proofs.table.copies.Given as goal

abbrev pub invariant-loop-key : goal.invariant-loop-key
invariant-loop-key l = l.pairs.items ++ pairs_of l.key-iterator ≡ pairs_of l.fn.entries
