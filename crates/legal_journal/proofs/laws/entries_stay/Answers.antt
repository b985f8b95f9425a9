use Rattle.std.proofs.Common.{◌++◌}
use Rattle.legal_journal.specs.Journal.{state_of}
use Rattle.legal_journal.proofs.Legal.{goes_on, stands_on}
use Rattle.legal_journal.proofs.laws.entries_stay.Goals as goal

pub returns : goal.returns
returns g c = λ early late pos e h s.
    stands_on (state_of early) (state_of (early ++ late)) pos e (goes_on g.P.Rules.law early late h) s
