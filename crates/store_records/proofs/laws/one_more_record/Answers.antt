use Rattle.store_records.proofs.Following.{saved_of-more}
use Rattle.store_records.proofs.laws.one_more_record.Goals as goal

pub returns : goal.returns
returns c = saved_of-more
