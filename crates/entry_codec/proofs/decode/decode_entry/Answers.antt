use Rattle.std.proofs.Common.{subst, arith}
use Rattle.entry_codec.specs.Reading.{Gives}
use Rattle.entry_codec.proofs.Spellings.{entry_found, entry_again}
use Rattle.entry_codec.proofs.decode.decode_entry.Goals as goal

pub returns-clause-found : goal.returns-clause-found
returns-clause-found c = entry_found c.args.bytes.now c.read_entry.result (λ i. omega (arith, c.type_inv.bytes i)) c.read_entry.ensures

pub returns-clause-only : goal.returns-clause-only
returns-clause-only c = λ x spelled. subst (λ read. Gives c.read_entry.result read) (entry_again c.args.bytes.now x spelled) c.read_entry.ensures
