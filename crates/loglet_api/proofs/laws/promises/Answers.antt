use Rattle.loglet_api.proofs.Promises as promised
use Rattle.loglet_api.proofs.laws.promises.Goals as goal

pub returns : goal.returns
returns c = record { stays = promised.stays; is_read = promised.is_read; open_tail = promised.open_tail; sealed_tail = promised.sealed_tail; sealed_for_good = promised.sealed_for_good }
