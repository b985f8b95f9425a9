use Rattle.std.proofs.Common.{◌++◌}
use Rattle.legal_journal.specs.Journal.{state_of}
use Rattle.legal_journal.proofs.Legal.{goes_on, agrees}
use Rattle.legal_journal.proofs.laws.logs_agree.Goals as goal

pub returns : goal.returns
returns g c = λ early late pos e f h a b.
    agrees (state_of early) (state_of (early ++ late)) pos e f (goes_on g.P.Rules.law early late h) a b
