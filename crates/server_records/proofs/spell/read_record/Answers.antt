use Rattle.std.proofs.Common.{arith}
use Rattle.server_records.proofs.Spellings.{found_by, only_by}
use Rattle.server_records.proofs.spell.read_record.Goals as goal

pub returns-clause-found : goal.returns-clause-found
returns-clause-found c = found_by c.args.bytes.now c.read.result (λ i. omega (arith, c.type_inv.bytes i)) c.read.ensures

pub returns-clause-only : goal.returns-clause-only
returns-clause-only c = λ r spelled. only_by c.args.bytes.now r c.read.result spelled c.read.ensures
