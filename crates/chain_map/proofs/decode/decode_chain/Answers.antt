use Rattle.std.proofs.Common.{subst, arith}
use Rattle.chain_map.specs.Reading.{Gives}
use Rattle.chain_map.proofs.Spellings.{chain_found, chain_again}
use Rattle.chain_map.proofs.decode.decode_chain.Goals as goal

pub returns-clause-found : goal.returns-clause-found
returns-clause-found c = chain_found c.args.bytes.now c.read_chain.result (λ i. omega (arith, c.type_inv.bytes i)) c.read_chain.ensures

pub returns-clause-only : goal.returns-clause-only
returns-clause-only c = λ x spelled. subst (λ read. Gives c.read_chain.result read) (chain_again c.args.bytes.now x spelled) c.read_chain.ensures
