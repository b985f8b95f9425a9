use Rattle.entry_codec.proofs.HeaderLaws.{length-entry_bytes}
use Rattle.entry_codec.proofs.Spellings.{entry_takes, entry_again, entry_alike}
use Rattle.entry_codec.proofs.laws.one_entry_spelling.Goals as goal

pub returns-clause-reads : goal.returns-clause-reads
returns-clause-reads c = λ bytes e fits. (entry_takes bytes e fits, entry_again bytes e)

pub returns-clause-alike : goal.returns-clause-alike
returns-clause-alike c = entry_alike

pub returns-clause-length : goal.returns-clause-length
returns-clause-length c = length-entry_bytes
