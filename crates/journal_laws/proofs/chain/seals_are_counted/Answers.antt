use Rattle.std.proofs.Common.{arith}
use Rattle.legal_journal.specs.Journal.{start}
use Rattle.journal_laws.proofs.Sealed.{seals_after}
use Rattle.journal_laws.proofs.chain.seals_are_counted.Goals as goal

pub returns : goal.returns
returns c = λ events i. omega (arith, seals_after start i events)
