use Rattle.store_records.proofs.Spellings.{commit_takes, commit_again}
use Rattle.store_records.proofs.laws.one_spelling.Goals as goal

pub returns : goal.returns
returns c = λ bytes x fits. (commit_takes bytes x fits, commit_again bytes x)
