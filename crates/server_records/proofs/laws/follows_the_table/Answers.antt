use Rattle.server_records.proofs.Following.{follows_more}
use Rattle.server_records.proofs.laws.follows_the_table.Goals as goal

pub returns : goal.returns
returns c = λ records s a r bytes. follows_more records s a r bytes
