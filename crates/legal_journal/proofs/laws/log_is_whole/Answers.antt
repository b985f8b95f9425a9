use Rattle.std.proofs.Common.{length}
use Rattle.legal_journal.specs.Journal.{state_of}
use Rattle.legal_journal.proofs.Legal.{sound, whole}
use Rattle.legal_journal.proofs.laws.log_is_whole.Goals as goal

pub returns : goal.returns
returns g c = λ events pos h up low.
    whole (length g.P.Rules.law.shelf) (state_of events) pos (sound g.P.Rules.law events h) up low
