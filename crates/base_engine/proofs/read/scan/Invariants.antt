use Rattle.std.proofs.Common.{◌≡◌, ◌++◌, length}
use Rattle.table_core.specs.Find.{pairs_between}
use Rattle.base_engine.specs.Querying.{table_in}
use Rattle.base_engine.proofs.read.scan.Given as goal

abbrev pub invariant-pair : goal.invariant-pair
invariant-pair g l =
    let t = table_in (g.R.Replica.shows l.fn.replica).contents in
    l.pairs.items ++ pairs_between t l.from l.fn.high ≡ pairs_between t l.fn.low l.fn.high

abbrev pub decreases-pair : goal.decreases-pair
decreases-pair g l = length (pairs_between (table_in (g.R.Replica.shows l.fn.replica).contents) l.from l.fn.high)
