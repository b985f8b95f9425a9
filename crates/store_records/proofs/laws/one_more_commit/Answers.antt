use Rattle.store_records.proofs.Following.{record_follows_all}
use Rattle.store_records.proofs.laws.one_more_commit.Goals as goal

pub returns : goal.returns
returns c = λ records s x bytes. record_follows_all records s x bytes
