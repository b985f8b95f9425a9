use Rattle.server_records.proofs.Following.{server_of-more}
use Rattle.server_records.proofs.laws.one_more_record.Goals as goal

pub returns : goal.returns
returns c = λ records s bytes. server_of-more records s bytes
