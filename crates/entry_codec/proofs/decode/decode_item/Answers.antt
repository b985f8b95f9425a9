use Rattle.std.proofs.Common.{subst, arith}
use Rattle.entry_codec.specs.Reading.{Gives}
use Rattle.entry_codec.proofs.Spellings.{item_found, item_again}
use Rattle.entry_codec.proofs.decode.decode_item.Goals as goal

pub returns-clause-found : goal.returns-clause-found
returns-clause-found c = item_found c.args.bytes.now c.read_item.result (λ i. omega (arith, c.type_inv.bytes i)) c.read_item.ensures

pub returns-clause-only : goal.returns-clause-only
returns-clause-only c = λ x spelled. subst (λ read. Gives c.read_item.result read) (item_again c.args.bytes.now x spelled) c.read_item.ensures
