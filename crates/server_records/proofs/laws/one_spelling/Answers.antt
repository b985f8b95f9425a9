use Rattle.server_records.proofs.Spellings.{record_takes, record_again}
use Rattle.server_records.proofs.laws.one_spelling.Goals as goal

pub returns : goal.returns
returns c = λ bytes r fits. (record_takes bytes r fits, record_again bytes r)
