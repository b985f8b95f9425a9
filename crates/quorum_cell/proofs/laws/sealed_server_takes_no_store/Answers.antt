use Rattle.quorum_cell.proofs.Seals.{sealed_takes_none}
use Rattle.quorum_cell.proofs.laws.sealed_server_takes_no_store.Goals as goal

pub returns : goal.returns
returns c = sealed_takes_none
