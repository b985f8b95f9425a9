-- What a virtual log tells a node.
use Rattle.std.specs.Prelude.{◌++◌}
use Rattle.legal_journal.specs.Law.{Law}
use Rattle.legal_journal.proofs.Legal.{legal_front, goes_on}
use Rattle.virtual_log.specs.Holding.{Holds, Stays}
use Rattle.virtual_log.proofs.Holding.{holds_later}

-- what it holds it holds for good
pub held_stays : (law : Law) → Stays law Holds
held_stays law = λ early more pos e legal h.
    holds_later law early (early ++ more) pos e (legal_front law early more legal) (goes_on law early more legal) h
