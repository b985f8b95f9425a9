use Rattle.entry_codec.proofs.HeaderLaws.{length-item_bytes}
use Rattle.entry_codec.proofs.Spellings.{item_takes, item_again, item_alike}
use Rattle.entry_codec.proofs.laws.one_item_spelling.Goals as goal

pub returns-clause-reads : goal.returns-clause-reads
returns-clause-reads c = λ bytes i fits. (item_takes bytes i fits, item_again bytes i)

pub returns-clause-alike : goal.returns-clause-alike
returns-clause-alike c = item_alike

pub returns-clause-length : goal.returns-clause-length
returns-clause-length c = length-item_bytes
